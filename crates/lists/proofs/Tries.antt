-- One try: its handler's row joined to a set, and what it adds listed. Assumes nothing.
use mathlib.Core.Path.{◌≡◌, refl, sym, ap, ◌∙◌, subst}
use mathlib.Core.Bool.{Bool, true, false, cond, ◌&&◌}
use mathlib.Core.List.{List, [], ◌∷◌, ◌++◌, append-nil}
use Prim.Native.Nat.{ℕ, suc, ◌+◌, ◌*◌, ◌≤◌, min}
use native.Mathlib.Omega.{arith}
use mir.Syntax.{w64}
use mir.Val.{Fits}
use lib.Bits.{bit_or, or_zero_r}
use lib.Dec.{ltb}
use lib.ListN.{length, take, drop}
use Rattle.flow.specs.Set.{minus}
use Rattle.flow.specs.Flow.{joined}
use Rattle.flow.specs.Sweep.{row}
use Rattle.flow.specs.Listed.{listed}
use Rattle.flow.specs.Inner.{Listing, Holds}
use Rattle.flow.specs.Words.{value, rows_of, Small}
use Rattle.flow.specs.Kept.{handlers_of, added}
use Rattle.flow.proofs.Words.{as_set}
use Rattle.flow.proofs.Buffer.{row_inside, rows_at}
use Rattle.flow.proofs.Tries.{added_none, added_next}
use Rattle.flow.proofs.Written.{written_start, written_end}
use Rattle.sets.proofs.Words.{held}
use Rattle.lists.proofs.Less.{scaled}

-- a handler's row lies in the buffer
module _ (n h t words : ℕ) (e : t ≡ min h n) where
  pub try_fits : (len : ℕ) → suc n * words ≤ len → t * words + words ≤ len
  try_fits len l = omega (arith, row_inside words (suc n) t (omega arith))

  pub try_small : (hand : ℕ) → n ≤ 65535 → words ≤ hand → hand ≤ 1024 → Fits w64 (t * words)
  try_small hand a b few = scaled t words (omega arith) (omega arith)

-- the test of a try, b, told
module _ (n k s h : ℕ) (b : Bool) (t : b ≡ ltb s k && ltb k h) where
  one : (c : Bool) → b ≡ c → handlers_of n k (s ∷ h ∷ []) ≡ cond c (min h n ∷ []) []
  unfolding handlers_of
  one c e = ap (λ (x : Bool). cond x (min h n ∷ []) []) (sym t ∙ e)

  module _ (yes : b ≡ true) (bits words : ℕ) (rows : List ℕ) (at : ℕ) (e : at ≡ min h n) where
    row_of : value bits (take words (drop (at * words) rows)) ≡ row (rows_of bits words (suc n) rows) (min h n)
    row_of = sym (rows_at bits words (suc n) rows at (omega arith)) ∙ ap (row (rows_of bits words (suc n) rows)) e

    module _ (seen : List ℕ) where
      pub join_in : (out : List ℕ) → Holds bits out (bit_or (value bits seen) (value bits (take words (drop (at * words) rows))))
          → Holds bits out (bit_or (value bits seen) (joined (row (rows_of bits words (suc n) rows)) (handlers_of n k (s ∷ h ∷ []))))
      unfolding joined
      join_in out p = as_set p (ap (bit_or (value bits seen))
          (row_of ∙ sym (or_zero_r (row (rows_of bits words (suc n) rows) (min h n))) ∙ ap (joined (row (rows_of bits words (suc n) rows))) (sym (one true yes))))

      module _ (more : List ℕ) (p : Holds bits more (minus (value bits (take words (drop (at * words) rows))) (value bits seen))) where
        all : listed (words * bits) 0 (value bits more) ≡ added (words * bits) (row (rows_of bits words (suc n) rows)) (value bits seen)
            (handlers_of n k (s ∷ h ∷ []))
        all =
            ap (listed (words * bits) 0) (p.is ∙ ap (λ (x : ℕ). minus x (value bits seen)) row_of)
            ∙ sym (append-nil (listed (words * bits) 0 (minus (R (min h n)) (value bits seen))))
            ∙ ap (λ (l : List ℕ). listed (words * bits) 0 (minus (R (min h n)) (value bits seen)) ++ l)
            (sym (added_none (words * bits) R (bit_or (value bits seen) (R (min h n)))))
            ∙ sym (added_next (words * bits) R (value bits seen) (min h n) [])
            ∙ ap (added (words * bits) R (value bits seen)) (sym (one true yes))
          where
            R : ℕ → ℕ
            R = row (rows_of bits words (suc n) rows)

        pub list_room : (m len : ℕ) → m + length (added (words * bits) (row (rows_of bits words (suc n) rows)) (value bits seen) (handlers_of n k (s ∷ h ∷ []))) ≤
            len
            → m + length (listed (words * bits) 0 (value bits more)) ≤ len
        list_room m len l = rw all l

        pub list_in : (old : List ℕ) (m : ℕ) (out : List ℕ) (r : ℕ) → Listing (listed (words * bits) 0 (value bits more)) old m out r
            → Listing (added (words * bits) (row (rows_of bits words (suc n) rows)) (value bits seen) (handlers_of n k (s ∷ h ∷ []))) old m out r
        list_in old m out r l = rw all at l

  -- no handler
  module _ (no : b ≡ false) (R : ℕ → ℕ) where
    pub join_out : (bits : ℕ) (seen : List ℕ) → Small bits seen → Holds bits seen (bit_or (value bits seen) (joined R (handlers_of n k (s ∷ h ∷ []))))
    unfolding joined
    join_out bits seen sm = as_set (held bits seen sm) (sym (ap (λ (l : List ℕ). bit_or (value bits seen) (joined R l)) (one false no)
        ∙ or_zero_r (value bits seen)))

    pub list_out : (d x : ℕ) (old : List ℕ) (m : ℕ) → m + length (added d R x (handlers_of n k (s ∷ h ∷ []))) ≤ length old
        → Listing (added d R x (handlers_of n k (s ∷ h ∷ []))) old m old m
    list_out d x old m l = subst (λ (L : List ℕ). Listing L old m old m) (sym (ap (added d R x) (one false no) ∙ added_none d R x))
        (written_end [] old m old m [] (written_start [] old m [] refl) (omega arith) refl)

pub ruleset joinings = (try_fits, try_small, join_in, join_out)

pub ruleset tryings = (try_fits, try_small, list_room, list_in, list_out)
