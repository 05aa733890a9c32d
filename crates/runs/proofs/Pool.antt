-- Where a result goes, and that a load of it gives it back. Assumes nothing.
use Prim.Native.Nat.{ℕ, ◌+◌, ◌^◌, ◌≤◌, ◌<◌}
use native.Mathlib.Omega.{arith}
use native.Mathlib.Nat.{le_refl}
use mathlib.Core.Path.{◌≡◌, refl, ap}
use mathlib.Core.Bool.{Bool, true, false, cond, ◌||◌}
use mathlib.Core.List.{List}
use lib.Dec.{ltb, eqb}
use lib.ListN.{length, get_or, set, length-set}
use lib.Seq.{get_or-set_same, get_or-set_other}
use lib.Signed.{mag}
use lib.Ieee.{binary64, to_bits}
use lib.Ieee.Bits.{of_bits-to_bits}
use borrow.Author.Tests.{ltb-true, lt-ltb, eqb-true}
use mir.Syntax.{w64}
use mir.Val.{of_z}
use Rattle.laws.proofs.Walk.{first_passes}
use Rattle.laws.proofs.Branch.{and-true}
use Rattle.ops.specs.Op.{Jump, JumpIfFalse, LoadConst, LoadTrue, LoadFalse}
use Rattle.values.proofs.Word.{back_ok}
use Rattle.values.specs.Folds.{in_range}
use Rattle.values.specs.declared.Val.{Val}
use Rattle.values.specs.declared.Val.TheVariants.{Int, Float as Real, Bool as Truth}
use Rattle.std.specs.declared.option.Option.TheVariants.{Some, None}
use Rattle.pool.specs.Pool.{to_val, equals, position, Stored, stored, find_or_push, find_or_push_const}
use Rattle.pool.specs.Inner.{PushRoom}
use Rattle.fold.specs.Plan.{operator_page, kind_of}
use Rattle.fold.specs.Pass.{load_of, const_load}
use Rattle.chunk.specs.Chunk.{folds}
use Rattle.runs.specs.Machine.{Known, Push, push_of, plain, read}
use Rattle.runs.specs.Rule.{known}
use Rattle.runs.proofs.Good.{Good}
use Rattle.std.specs.declared.option.Option.{Option}
use Rattle.fold.specs.Pass.{to_load}
use Rattle.fold.specs.declared.Load.{Load}

-- what a pool that kept (k, w) has
pub record Placed (k w count : ℕ) (kinds words : List ℕ) (s : Stored) (i m : ℕ) : Type 0 where
  pub kind : get_or s.kinds i 0 ≡ k
  pub word : get_or s.words i 0 ≡ w
  pub below : i < m
  pub least : count ≤ m

-- and whatever happens to it
pub record Grows (count : ℕ) (kinds words kinds' words' : List ℕ) : Type 0 where
  pub kinds_old : (y : ℕ) → y < count → get_or kinds' y 0 ≡ get_or kinds y 0
  pub words_old : (y : ℕ) → y < count → get_or words' y 0 ≡ get_or words y 0
  pub kinds_long : length kinds' ≡ length kinds
  pub words_long : length words' ≡ length words

grows_same : (count : ℕ) (kinds words : List ℕ) → Grows count kinds words kinds words
grows_same count kinds words = record { kinds_old = λ y h. refl; words_old = λ y h. refl; kinds_long = refl; words_long = refl }

-- where a constant is kept, and how many there are then
abbrev index_of : Option (ℕ × ℕ) → ℕ
index_of (Some k) = k.0
index_of None = 0

abbrev more_of : Option (ℕ × ℕ) → ℕ
more_of (Some k) = k.1
more_of None = 0

-- a load's parts
abbrev opcode_of : Option Load → ℕ
opcode_of (Some l) = l.opcode
opcode_of None = 0

abbrev operand_of : Option Load → ℕ
operand_of (Some l) = l.operand
operand_of None = 0

abbrev constants_of : Option Load → ℕ
constants_of (Some l) = l.constants
constants_of None = 0

module _ (k w count : ℕ) (kinds words : List ℕ) where
  push_grows : Grows count kinds words (find_or_push kinds words count k w).kinds (find_or_push kinds words count k w).words
  unfolding find_or_push
  push_grows = go (ltb (position kinds words count k w) count) (ltb count 65535)
    where
      at : (a b : Bool) → Stored
      at a b =
          cond a (stored (Some (position kinds words count k w, count)) kinds words)
          (cond b (stored (Some (count, count + 1)) (set kinds count k) (set words count w)) (stored None kinds words))

      go : (a b : Bool) → Grows count kinds words (at a b).kinds (at a b).words
      go true b = grows_same count kinds words
      go false true =
          record {
            kinds_old = λ y h. get_or-set_other kinds count y k 0 (λ e. omega arith);
            words_old = λ y h. get_or-set_other words count y w 0 (λ e. omega arith);
            kinds_long = length-set kinds count k;
            words_long = length-set words count w;
          }
      go false false = grows_same count kinds words

  placed : PushRoom kinds words count → (i m : ℕ) → (find_or_push kinds words count k w).kept ≡ Some (i, m)
      → Placed k w count kinds words (find_or_push kinds words count k w) i m
  unfolding find_or_push
  placed r i m e = go (ltb (position kinds words count k w) count) (ltb count 65535) refl refl e
    where
      at : (a b : Bool) → Stored
      at a b =
          cond a (stored (Some (position kinds words count k w, count)) kinds words)
          (cond b (stored (Some (count, count + 1)) (set kinds count k) (set words count w)) (stored None kinds words))

      go : (a b : Bool) → ltb (position kinds words count k w) count ≡ a → ltb count 65535 ≡ b → (at a b).kept ≡ Some (i, m)
          → Placed k w count kinds words (at a b) i m
      go true b p q e =
          let l = ltb-true (position kinds words count k w) count p in
          let h = and-true (eqb (get_or kinds (position kinds words count k w) 0) k) (eqb (get_or words (position kinds words count k w) 0) w)
          (first_passes (equals kinds words k w) count 0 (omega arith)) in
          let ei : position kinds words count k w ≡ i = ap index_of e in
          let em : count ≡ m = ap more_of e in
          rw (← ei, ← em)
          (record { kind = eqb-true _ _ h.0; word = eqb-true _ _ h.1; below = l; least = le_refl _ })
      go false true p q e =
          let l = ltb-true count 65535 q in
          let ei : count ≡ i = ap index_of e in
          let em : count + 1 ≡ m = ap more_of e in
          rw (← ei, ← em)
          (record {
            kind = get_or-set_same kinds count k 0 (r.kinds_more l);
            word = get_or-set_same words count w 0
                (r.words_more l);
            below = omega arith;
            least = omega arith;
          })
      go false false p q e = absurd (let z : ◌≡◌ {A = ℕ} 0 1 = cc in omega arith)

-- ---- a result

pub load_grows : (v : Val) (kinds words : List ℕ) (count : ℕ)
    → Grows count kinds words (const_load v kinds words count).kinds (const_load v kinds words count).words
unfolding const_load find_or_push_const
load_grows (Int z) kinds words count = push_grows 1 (of_z w64 z) count kinds words
load_grows (Real x) kinds words count = push_grows 2 (to_bits binary64 x) count kinds words
load_grows (Truth b) kinds words count = grows_same count kinds words

-- a load that pushes v
pub record Loads (v : Val) (count : ℕ) (kinds words : List ℕ) (o x m : ℕ) : Type 0 where
  pub reads : read (kind_of o) o x kinds words ≡ Push (Known v)
  pub there : o ≡ LoadConst → x < m
  pub calm : eqb o Jump || eqb o JumpIfFalse ≡ false
  pub listed : known o ≡ true
  pub least : count ≤ m

kept_loads : (s : Stored) (k w count : ℕ) (kinds words : List ℕ) (v : Val) → to_val k w ≡ Some v → ((i m : ℕ) → s.kept ≡ Some (i, m)
    → Placed k w count kinds words s i m)
    → (o x m : ℕ) → load_of s.kept ≡ to_load o x m → Loads v count s.kinds s.words o x m
unfolding read plain push_of kind_of operator_page known folds
kept_loads s k w count kinds words v e h o x m q = go s.kept refl q
  where
    go : (y : Option (ℕ × ℕ)) → s.kept ≡ y → load_of y ≡ to_load o x m → Loads v count s.kinds s.words o x m
    go (Some y) g q =
        let p = h y.0 y.1 g in
        let eo : LoadConst ≡ o = ap opcode_of q in
        let ex : y.0 ≡ x = ap operand_of q in
        let em : y.1 ≡ m = ap constants_of q in
        rw (← eo, ← ex, ← em)
        (record { reads = rw (p.kind, p.word, e) refl; there = λ _. p.below; calm = refl; listed = refl; least = p.least })
    go None g q = absurd (let z : ◌≡◌ {A = ℕ} 0 1 = cc in omega arith)

pub load_back : (v : Val) → Good v → (count : ℕ) (kinds words : List ℕ) → PushRoom kinds words count → (o x m : ℕ) → (const_load v kinds words count).load ≡ to_load o
    x m
    → Loads v count (const_load v kinds words count).kinds (const_load v kinds words count).words o x m
unfolding const_load find_or_push_const to_val in_range read plain kind_of operator_page known folds
load_back (Int z) g count kinds words r o x m e =
    kept_loads (find_or_push kinds words count 1 (of_z w64 z)) 1 (of_z w64 z) count kinds words (Int z) (rw (
      back_ok z (omega arith),
      lt-ltb (mag z)
          (2 ^ 47) g,
    ) refl)
    (placed 1 (of_z w64 z) count kinds words r) o x m e
load_back (Real y) g count kinds words r o x m e =
    kept_loads (find_or_push kinds words count 2 (to_bits binary64 y)) 2 (to_bits binary64 y) count kinds words (Real y) (rw (of_bits-to_bits binary64 y g) refl)
    (placed 2 (to_bits binary64 y) count kinds words r) o x m e
load_back (Truth true) g count kinds words r o x m e =
    let eo : LoadTrue ≡ o = ap opcode_of e in
    let em : count ≡ m = ap constants_of e in
    rw (← eo, ← em) (record { reads = refl; there = λ q. absurd (omega arith); calm = refl; listed = refl; least = le_refl _ })
load_back (Truth false) g count kinds words r o x m e =
    let eo : LoadFalse ≡ o = ap opcode_of e in
    let em : count ≡ m = ap constants_of e in
    rw (← eo, ← em) (record { reads = refl; there = λ q. absurd (omega arith); calm = refl; listed = refl; least = le_refl _ })
