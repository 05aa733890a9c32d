-- Wish 3's traps: instructions of which one set is not what another leads one to expect. Assumes nothing.
use Rattle.std.specs.Prelude.{◌≡◌, List, [], ◌∷◌, ℕ}
use Rattle.ops.specs.Op.{StoreTopR, UnpackR, WithEnter, WithExit, ForIterR}
use Rattle.code.specs.declared.Ins.{Ins}
use Rattle.roles.specs.Sets.{used_by, given_by}
use Rattle.touch.specs.Touch.{written_by}

-- an opcode with this x, over registers 10, 20 and 30
abbrev pub over_three : ℕ → ℕ → Ins
over_three o x = record { op = o; marks = 0; a = 10; b = 20; c = 30; x = x }

-- it uses, gives up and writes these registers
abbrev pub Touching : Ins → List ℕ → List ℕ → List ℕ → Type 0
Touching i used given written = (used_by i ≡ used) × (given_by i ≡ given) × (written_by i ≡ written)

-- the three sets of five opcodes with which one can go wrong, computed
pub record Traps : Type 0 where
  -- ForIterR with x = 0 uses b, gives up nothing, and writes b; with another x it touches nothing
  pub for_first : Touching (over_three ForIterR 0) (20 ∷ []) [] (20 ∷ [])
  pub for_other : Touching (over_three ForIterR 1) [] [] []
  -- StoreTopR gives up a, and writes it only with x = 0
  pub store_first : Touching (over_three StoreTopR 0) [] (10 ∷ []) (10 ∷ [])
  pub store_other : Touching (over_three StoreTopR 1) [] (10 ∷ []) []
  -- UnpackR gives up and writes the first x of a, b, c, no more than three
  pub unpack_two : Touching (over_three UnpackR 2) [] (10 ∷ 20 ∷ []) (10 ∷ 20 ∷ [])
  pub unpack_many : Touching (over_three UnpackR 9) [] (10 ∷ 20 ∷ 30 ∷ []) (10 ∷ 20 ∷ 30 ∷ [])
  -- WithEnter with x not 0 gives up and writes two registers from b on, and with x = 2 uses c
  pub enter_one : Touching (over_three WithEnter 1) [] (20 ∷ 21 ∷ []) (20 ∷ 21 ∷ [])
  pub enter_two : Touching (over_three WithEnter 2) (30 ∷ []) (20 ∷ 21 ∷ []) (20 ∷ 21 ∷ [])
  -- WithExit with x not 0 gives up and writes five from b on
  pub exit_five : Touching (over_three WithExit 1) [] (20 ∷ 21 ∷ 22 ∷ 23 ∷ 24 ∷ []) (20 ∷ 21 ∷ 22 ∷ 23 ∷ 24 ∷ [])
