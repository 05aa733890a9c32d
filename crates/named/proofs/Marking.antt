-- Laws of `NamedMarks`, for the loop that marks what each instruction names. Assumes nothing.
use Prim.Native.Nat.{ℕ, ◌+◌, ◌≤◌, ◌<◌}
use native.Mathlib.Omega.{arith}
use mathlib.Core.Path.{◌≡◌, refl, sym, ap, ◌∙◌}
use mathlib.Core.Bool.{Bool, true, false, ◌||◌, and-false}
use mathlib.Core.List.{List, ◌++◌}
use lib.Dec.{eqb, ltb}
use lib.ListN.{length, get_or, set, take, drop, replicate, length-set}
use lib.Seq.{length-take-le, get_or-set_same, get_or-set_other, drop-set-lt}
use borrow.Author.Tests.{eqb-true, eqb-false, eq-eqb, ne_eqb, ltb-true, ltb-false}
use mir.Val.{bool_byte}
use Rattle.laws.specs.Some.{some}
use Rattle.laws.specs.Table.{Held, cleared_to}
use Rattle.laws.proofs.Some.{nowhere_yet, some_more}
use Rattle.laws.proofs.Table.{cleared_tail, cleared_length, cleared_at}
use Rattle.chunk.specs.Chunk.{chunk_count, operand_at, names}
use Rattle.named.specs.Unused.{names_it, constant_named}
use Rattle.named.specs.Inner.{noted, NamedMarks}

module _ (w : List ℕ) (m k : ℕ) (s : List ℕ) where
  noted_on : names w k ≡ true → ltb (operand_at w k) m ≡ true → noted w m k s ≡ set s (operand_at w k) 1
  unfolding noted
  noted_on n h = rw (n, h)

  noted_far : ltb (operand_at w k) m ≡ false → noted w m k s ≡ s
  unfolding noted
  noted_far h = rw (h, and-false (names w k))

  noted_off : names w k ≡ false → noted w m k s ≡ s
  unfolding noted
  noted_off n = rw n

-- where the marking stands after k instructions
pub record Marking (w : List ℕ) (m : ℕ) (old s : List ℕ) (k : ℕ) : Type 0 where
  pub held : Held m old s
  pub at : (i : ℕ) → i < m → get_or s i 0 ≡ bool_byte (some (names_it w i) k)

-- its first m words filled with 0
pub cleared : (m : ℕ) (l z : List ℕ) → m ≤ length l → z ≡ replicate (length (take m l)) 0 → z ++ drop m l ≡ cleared_to m l
cleared m l z h e = rw (e, length-take-le m l h) refl

pub marking_none : (w : List ℕ) (m : ℕ) (old s : List ℕ) → s ≡ cleared_to m old → Marking w m s s 0
marking_none w m old s e = record { held = record { same = refl; tail = refl }; at = λ i l. rw (e, nowhere_yet (names_it w i)) (cleared_at m old i l) }

or_no : (b : Bool) → b || false ≡ b
or_no true = refl
or_no false = refl

or_yes : (b : Bool) → b || true ≡ true
or_yes true = refl
or_yes false = refl

-- the mark of constant i after instruction k
module _ (w : List ℕ) (m k i : ℕ) (s : List ℕ) (x : Bool) (h : i < m) (l : m ≤ length s) (e : get_or s i 0 ≡ bool_byte x) where
  it_is : names w k ≡ true → operand_at w k ≡ i → get_or (set s (operand_at w k) 1) i 0 ≡ bool_byte (x || names_it w i k)
  it_is n q = rw (n, eq-eqb (operand_at w k) i q, or_yes x, q) (get_or-set_same s i 1 0 (omega arith))

  another : names w k ≡ true → (operand_at w k ≡ i → ⊥) → get_or (set s (operand_at w k) 1) i 0 ≡ bool_byte (x || names_it w i k)
  another n q = rw (n, ne_eqb (operand_at w k) i q, or_no x) (get_or-set_other s (operand_at w k) i 1 0 (λ z. q (sym z)) ∙ e)

  no_mark : names w k ≡ false → get_or s i 0 ≡ bool_byte (x || names_it w i k)
  no_mark n = rw (n, or_no x) e

  too_far : names w k ≡ true → ltb (operand_at w k) m ≡ false → get_or s i 0 ≡ bool_byte (x || names_it w i k)
  too_far n f = rw (n, ne_eqb (operand_at w k) i (λ z. absurd (omega (arith, ltb-false (operand_at w k) m f))), or_no x) e

  mark_more : get_or (noted w m k s) i 0 ≡ bool_byte (x || names_it w i k)
  mark_more = go (names w k) refl (ltb (operand_at w k) m) refl (eqb (operand_at w k) i) refl
    where
      at : (l : List ℕ) → noted w m k s ≡ l → get_or (noted w m k s) i 0 ≡ get_or l i 0
      at l q = ap (λ (y : List ℕ). get_or y i 0) q

      go : (a : Bool) → names w k ≡ a → (b : Bool) → ltb (operand_at w k) m ≡ b → (d : Bool) → eqb (operand_at w k) i ≡ d
          → get_or (noted w m k s) i 0 ≡ bool_byte (x || names_it w i k)
      go false n b f d g = at s (noted_off w m k s n) ∙ no_mark n
      go true n false f d g = at s (noted_far w m k s f) ∙ too_far n f
      go true n true f true g = at (set s (operand_at w k) 1) (noted_on w m k s n f) ∙ it_is n (eqb-true (operand_at w k) i g)
      go true n true f false g = at (set s (operand_at w k) 1) (noted_on w m k s n f) ∙ another n (eqb-false (operand_at w k) i g)

noted_held : (w : List ℕ) (m k : ℕ) (old s : List ℕ) → Held m old s → Held m old (noted w m k s)
noted_held w m k old s h = go (names w k) refl (ltb (operand_at w k) m) refl
  where
    go : (a : Bool) → names w k ≡ a → (b : Bool) → ltb (operand_at w k) m ≡ b → Held m old (noted w m k s)
    go false n b f = rw (noted_off w m k s n) h
    go true n false f = rw (noted_far w m k s f) h
    go true n true f =
        rw (noted_on w m k s n f)
        (record {
          same = length-set s (operand_at w k) 1 ∙ h.same;
          tail = drop-set-lt m s (operand_at w k) 1 (ltb-true (operand_at w k) m f) ∙ h.tail;
        })

module _ {w : List ℕ} {m : ℕ} {old s : List ℕ} {k : ℕ} (x : Marking w m old s k) where
  pub marking_more : (s' : List ℕ) → m ≤ length old → s' ≡ noted w m k s → Marking w m old s' (k + 1)
  marking_more s' h e =
      record {
        held = rw e (noted_held w m k old s x.held);
        at = λ i l. rw (e, some_more (names_it w i) k) (mark_more w m k i s (some (names_it w i) k) l (omega (arith, x.held.same)) (x.at i l));
      }

  -- from what was there before it was cleared
  pub marking_done : (lent : List ℕ) → old ≡ cleared_to m lent → m ≤ length lent → chunk_count w ≤ k → k ≤ chunk_count w → NamedMarks w m lent s
  unfolding constant_named
  marking_done lent z b h l =
      let e : k ≡ chunk_count w = omega arith in
      record {
        held = record { same = x.held.same ∙ ap length z ∙ cleared_length m lent b; tail = x.held.tail ∙ ap (drop m) z ∙ cleared_tail m lent };
        at = λ i q. rw e at (x.at i q);
      }
