-- `gen_pure` of block.rs: whether a generator's body may be laid as the section that a `for` steps. Assumes nothing.
use Rattle.std.specs.Prelude.{ℕ, ◌<◌, ◌≡◌, true, false, List}
use Rattle.ops.specs.Op.{Phi}
use Rattle.code.specs.Ins.{ins_at, count}
use Rattle.laid.specs.Section.{laid}
use Rattle.unread.specs.Phi.{Dead}
use Rattle.outside.specs.Outside.{made, returns_outside}

-- every Phi before m is dead
pub record PhisDead (w : List ℕ) (m : ℕ) : Type 0 where
  pub dead : (k : ℕ) → k < m → (ins_at w k).op ≡ Phi → Dead w k (ins_at w k).a

-- `gen_pure`
pub record GenPure (w : List ℕ) : Type 0 where
  pub laid : laid w true ≡ true
  pub dead : PhisDead w (count w)
  pub unmade : made w ≡ false
  pub outside : returns_outside w ≡ true
