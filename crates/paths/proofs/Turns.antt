-- How many turns a search makes: each way out of a position is followed once at most. Assumes nothing.
use mathlib.Core.Path.{◌≡◌, refl}
use mathlib.Core.Bool.{Bool, true, false, cond}
use mathlib.Core.List.{List}
use Prim.Native.Nat.{ℕ, zero, suc, ◌+◌, ◌<◌, ◌≤◌}
use native.Mathlib.Omega.{arith}
use borrow.Author.Tests.{eqb-true, eqb-false}
use mir.Val.{bool_byte}
use lib.Dec.{eqb}
use lib.ListN.{length, get_or, set}
use lib.Seq.{get_or-set_same, get_or-set_other}
use Rattle.laws.specs.All.{many}
use Rattle.paths.specs.Search.{Turn, left, taken, Turns, none, more}
use Rattle.paths.specs.Inner.{owed}
use Rattle.paths.proofs.Marks.{stored_at}

-- a mark more: the ways out of j are owed no longer
module _ (leads : ℕ → List ℕ) (seen : List ℕ) (j : ℕ) (l : j < length seen) (fresh : get_or seen j 0 ≡ 0) where
  past : (n : ℕ) → n ≤ j → owed leads (set seen j 1) n ≡ owed leads seen n
  unfolding owed
  past zero h = refl
  past (suc n) h = rw (past n (omega arith), get_or-set_other seen j n 1 0 (omega arith))

  marks_one : (n : ℕ) (b : Bool) → eqb n j ≡ b → j < suc n → (j < n → owed leads (set seen j 1) n + length (leads j) ≡ owed leads seen n)
      → owed leads (set seen j 1) (suc n) + length (leads j) ≡ owed leads seen (suc n)
  unfolding owed
  marks_one n true e h ih = let q = eqb-true n j e in rw (q, past j (omega arith), get_or-set_same seen j 1 0 l, fresh) (omega arith)
  marks_one n false e h ih = let q = eqb-false n j e in rw (get_or-set_other seen j n 1 0 q) (omega (arith, ih (omega arith)))

  pub owed_less : (n : ℕ) → j < n → owed leads (set seen j 1) n + length (leads j) ≡ owed leads seen n
  owed_less zero h = absurd (omega arith)
  owed_less (suc n) h = marks_one n (eqb n j) refl h (owed_less n)

-- A turn lessens what is owed and what waits, together: the measure of both searches' loops.
pub falls : (n : ℕ) (leads : ℕ → List ℕ) (seen seen' : List ℕ) (top top' : ℕ) → Turn n leads seen top seen' top'
    → owed leads seen' n + top' < owed leads seen n + top
falls n leads seen seen' top top' (left h) = omega arith
falls n leads seen seen' top top' (taken {j = j} some h l e f) = omega (arith, owed_less leads seen j l e n h)

-- So k turns take k of it.
pub few_turns : {n : ℕ} {leads : ℕ → List ℕ} {seen₀ : List ℕ} {top₀ k : ℕ} {seen : List ℕ} {top : ℕ} → Turns n leads seen₀ top₀ k seen top
    → k + (owed leads seen n + top) ≤ owed leads seen₀ n + top₀
few_turns none = omega arith
few_turns {n} {leads} (more {top = t} {top' = t'} {seen = s} {seen' = s'} ts x) = omega (arith, few_turns ts, falls n leads s s' t t' x)

-- a position has one way out, a jump two at most
module _ (leads : ℕ → List ℕ) (jumps : ℕ → Bool) (two : (j : ℕ) → length (leads j) ≤ 1 + bool_byte (jumps j)) (seen : List ℕ) where
  one_way : (m : ℕ) (b : Bool) → cond b (length (leads m)) 0 ≤ 1 + bool_byte (jumps m)
  one_way m true = two m
  one_way m false = omega arith

  pub owed_most : (n : ℕ) → owed leads seen n ≤ n + many jumps n
  unfolding owed many
  owed_most zero = omega arith
  owed_most (suc n) = omega (arith, owed_most n, one_way n (eqb (get_or seen n 0) 0))

  -- Where the last position leads on by a jump alone, one waiting position more is no more than positions and jumps.
  pub owed_first : (n : ℕ) → 0 < n → ((j : ℕ) → suc j ≡ n → length (leads j) ≤ bool_byte (jumps j)) → owed leads seen n + 1 ≤ n + many jumps n
  unfolding owed many
  owed_first zero h last = absurd (omega arith)
  owed_first (suc n) h last = omega (arith, owed_most n, go (eqb (get_or seen n 0) 0))
    where
      go : (b : Bool) → cond b (length (leads n)) 0 ≤ bool_byte (jumps n)
      go true = last n refl
      go false = omega arith

-- A position that was looked at bears a mark, whatever turns follow: no turn looks at it again.
pub once : {n : ℕ} {leads : ℕ → List ℕ} {seen₀ : List ℕ} {top₀ k : ℕ} {seen : List ℕ} {top : ℕ} → Turns n leads seen₀ top₀ k seen top
    → (j : ℕ) → get_or seen₀ j 0 ≡ 1 → get_or seen j 0 ≡ 1
once none j e = e
once (more ts (left h)) j e = once ts j e
once (more {seen = s} ts (taken {j = i} some h l f g)) j e = stored_at s i 1 l j (λ v. v ≡ 1) (λ q. refl) (λ q. once ts j e)
