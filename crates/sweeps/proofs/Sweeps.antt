-- Sweeps that join handlers, step by step, whatever a row is found by. Assumes nothing.
use mathlib.Core.Path.{◌≡◌, refl, sym, ap, ◌∙◌}
use mathlib.Core.Bool.{Bool, true, false, cond, ◌&&◌, ◌||◌}
use mathlib.Core.List.Memᴰ
use mathlib.Core.List.{List, [], ◌∷◌, ◌++◌}
use Prim.Native.Nat.{ℕ, suc, ◌+◌, ◌-◌, ◌/◌, ◌%◌, ◌^◌, ◌≤◌, ◌<◌}
use native.Mathlib.Omega.{arith}
use borrow.Author.Tests.{le-ltb, ne_eqb}
use lib.Bits.{bit_or}
use lib.Dec.{eqb}
use lib.ListN.{length}
use Rattle.ops.specs.Op.{ReturnR, Jump, UnpackR, WithEnter, WithExit}
use Rattle.code.specs.Ins.{ins_at, count}
use Rattle.code.specs.declared.Ins.{Ins}
use Rattle.roles.specs.Sets.{only}
use Rattle.flow.specs.Flow.{joined, onto}
use Rattle.flow.specs.Sweep.{below, Found}
use Rattle.flow.specs.Inner.{Put}
use Rattle.flow.specs.Kept.{handlers_of}
use Rattle.flow.proofs.Bits.{bit_ext, or_bit}
use Rattle.flow.proofs.Rows.{In, onto_bit}
use Rattle.flow.proofs.Tries.{handlers_past}
use Rattle.flow.proofs.Loop.{Part, part_start, part_step, Going, togo, full_few, full_found, full_again, full_less}
use Rattle.steps.specs.Code.{after_at}
use Rattle.nested.specs.Raising.{stranded, raises_at, raising, mays}

-- joined one by one is joined together
pub onto_is : (R : ℕ → ℕ) (hs : List ℕ) (x : ℕ) → onto R x hs ≡ bit_or x (joined R hs)
onto_is R hs x = bit_ext (onto R x hs) (bit_or x (joined R hs)) (λ r. onto_bit R r hs x ∙ sym (or_bit x (joined R hs) r))

-- without the dunder mark nothing is stranded
pub unmarked : (i : Ins) → (i.marks / 2 % 2 ≡ 1 → ⊥) → stranded i ≡ false
unmarked i n = ap (λ (t : Bool). t && rest) (ne_eqb (i.marks / 2 % 2) 1 n)
  where
    rest : Bool
    rest = let o = i.op in eqb o ReturnR || eqb o Jump || eqb o UnpackR || eqb o WithEnter || eqb o WithExit

-- ---- handlers lie ahead, so no jump back is added

below_past : (b : ℕ) (l m : List ℕ) → ((s : ℕ) → In s l → b ≤ s) → below b (l ++ m) ≡ below b m
unfolding below
below_past b [] m h = refl
below_past b (x ∷ l) m h = ap (λ (t : Bool). t || below b (l ++ m)) (le-ltb x b (h x (Memᴰ.head refl))) ∙ below_past b l m (λ s i. h s (Memᴰ.tail i))

pub below_same : (all : Bool) (w tries : List ℕ) (k b : ℕ) → k < count w → b ≤ k + 1
    → below b (raises_at (mays all w) w tries k ++ after_at w k) ≡ below b (after_at w k)
unfolding raises_at below
below_same all w tries k b hi l = go (stranded (ins_at w k)) (mays all w k)
  where
    rest : (t : Bool) → below b (cond t (handlers_of (count w) k tries) [] ++ after_at w k) ≡ below b (after_at w k)
    rest true = below_past b (handlers_of (count w) k tries) (after_at w k) (λ s m. omega (arith, (handlers_past (count w) k hi tries s m).0))
    rest false = refl

    go : (p t : Bool) → below b ((only p (k + 1) ++ cond t (handlers_of (count w) k tries) []) ++ after_at w k) ≡ below b (after_at w k)
    go true t = ap (λ (x : Bool). x || below b (cond t (handlers_of (count w) k tries) [] ++ after_at w k)) (le-ltb (k + 1) b l) ∙ rest t
    go false t = rest t

-- ---- what a route knows between two sweeps, and in one that has come down to k

pub record Between (all : Bool) (w : List ℕ) (regs : ℕ) (tries : List ℕ) (from start full lost : ℕ) (rows : List ℕ) : Type 0 where
  pub few : count w ≤ 65535
  pub going : Going (raising (mays all w) regs w tries) from start full lost rows

pub record Turn (all : Bool) (w : List ℕ) (regs : ℕ) (tries : List ℕ) (from start full lost lost₀ : ℕ) (rows₀ rows : List ℕ) (changed back : Bool)
    (k : ℕ) : Type 0 where
  pub few : count w ≤ 65535
  pub going : Going (raising (mays all w) regs w tries) from start full lost rows₀
  pub part : Part (raising (mays all w) regs w tries) start rows₀ rows changed back k
  pub same : lost ≡ lost₀

-- what falls from sweep to sweep
unfoldable pub to_go : Bool → List ℕ → ℕ → List ℕ → ℕ → ℕ → ℕ → ℕ
to_go all w regs tries from full lost = togo (raising (mays all w) regs w tries) from full lost

pub sweep_starts : (all : Bool) (w : List ℕ) (regs : ℕ) (tries : List ℕ) (from start full lost : ℕ) (rows : List ℕ)
    → Between all w regs tries from start full lost rows → Turn all w regs tries from start full lost lost rows rows false false (count w)
sweep_starts all w regs tries from start full lost rows b = record {
  few = b.few;
  going = b.going;
  part =
      part_start (raising (mays all w) regs w tries) from start full lost rows b.going;
  same = refl;
}

module _ {all : Bool} {w : List ℕ} {regs : ℕ} {tries : List ℕ} {from start full lost lost₀ : ℕ} {rows₀ rows : List ℕ} {changed back : Bool} {k : ℕ}
    (p : Turn all w regs tries from start full lost lost₀ rows₀ rows changed back k) where
  g : Going (raising (mays all w) regs w tries) from start full lost rows₀
  g = p.going

  q : Part (raising (mays all w) regs w tries) start rows₀ rows changed back k
  q = p.part

  pub hi : k ≤ count w
  hi = q.hi

  pub near_long : length rows ≡ suc (count w)
  near_long = q.long

  pub go_on : {out : List ℕ} {changed' back' : Bool} → start < k → below start (raises_at (mays all w) w tries (k - 1) ++ after_at w (k - 1)) ≡ false
      → Put (raising (mays all w) regs w tries) rows (k - 1) out changed' → back' ≡ below k (after_at w (k - 1))
      → Turn all w regs tries from start full lost lost₀ rows₀ out (changed' || changed) (back' || back) (k - 1)
  go_on {out} {changed'} {back'} l inside put b = record {
    few = p.few;
    going = g;
    part = part_step (raising (mays all w) regs w tries) start rows₀ rows changed back k q out changed' back' l inside put
        (b ∙ sym (below_same all w tries (k - 1) k (omega (arith, hi)) (omega arith)));
    same = p.same;
  }

  -- whole
  module _ (l : k ≤ start) where
    pub whole_few : full + 1 < 2 ^ 32
    whole_few = omega (arith, full_few (raising (mays all w) regs w tries) from start full lost rows₀ g rows changed back k q l, p.few)

    pub whole_found : changed && back ≡ false → Found (raising (mays all w) regs w tries) from rows (full + 1) lost
    whole_found e = full_found (raising (mays all w) regs w tries) from start full lost rows₀ g rows changed back k q l e

    module _ (e : changed && back ≡ true) where
      pub whole_again : Between all w regs tries from start (full + 1) lost rows
      whole_again = record {
        few = p.few;
        going = full_again (raising (mays all w) regs w tries) from start full lost rows₀ g rows changed back k q l
            e;
      }

      pub whole_less : to_go all w regs tries from (full + 1) lost < to_go all w regs tries from full lost₀
      unfolding to_go
      whole_less = rw (← p.same) (full_less (raising (mays all w) regs w tries) from start full lost rows₀ g rows changed back k q l
          e)
