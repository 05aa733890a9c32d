-- The tries around a level, pair by pair, and what their handlers add. Assumes nothing.
use mathlib.Core.Path.{◌≡◌, refl, ap, ap₂, subst}
use mathlib.Core.Logic.{⊎_elim}
use mathlib.Core.List.Memᴰ
use mathlib.Core.List.{List, [], ◌∷◌, ◌++◌}
use mathlib.Core.Bool.{Bool, false, cond, ◌&&◌}
use Prim.Native.Nat.{ℕ, ◌≤◌, ◌<◌, min}
use native.Mathlib.Decide.{dec_lt}
use native.Mathlib.Omega.{arith}
use borrow.Author.Tests.{lt-ltb, le-ltb}
use lib.Bits.{bit_or}
use lib.Dec.{ltb}
use lib.ListN.{length}
use Rattle.flow.specs.Set.{minus}
use Rattle.flow.specs.Listed.{listed}
use Rattle.flow.specs.Kept.{handlers_of, added}
use Rattle.flow.proofs.Rows.{In}

module _ (n k : ℕ) where
  -- the handler of a try around k lies past k, and at n at most
  pub handlers_past : k < n → (tries : List ℕ) (h : ℕ) → In h (handlers_of n k tries) → (k < h) × (h ≤ n)
  unfolding handlers_of
  handlers_past l [] h m = absurd (Memᴰ.not-nil m)
  handlers_past l (s ∷ []) h m = absurd (Memᴰ.not-nil m)
  handlers_past l (s ∷ (t ∷ tries)) h m = go (dec_lt s k) (dec_lt k t) (λ m'. handlers_past l tries h m')
    where
      all : List ℕ
      all = handlers_of n k tries

      out : (ltb s k && ltb k t) ≡ false → In h all
      out e = subst (λ (b : Bool). In h (cond b (min t n ∷ all) all)) e m

      go : Dec (s < k) → Dec (k < t) → (In h all → (k < h) × (h ≤ n)) → (k < h) × (h ≤ n)
      go (yes a) (yes b) rec = ⊎_elim (λ e. (omega arith, omega arith)) rec
          (Memᴰ.cases_cons (subst (λ (c : Bool). In h (cond c (min t n ∷ all) all)) (ap₂ ◌&&◌ (lt-ltb s k a) (lt-ltb k t b)) m))
      go (no a) q rec = rec (out (ap (λ (c : Bool). c && ltb k t) (le-ltb s k (omega arith))))
      go (yes a) (no b) rec = rec (out (ap₂ ◌&&◌ (lt-ltb s k a) (le-ltb k t (omega arith))))

  pub handlers_none : (l : List ℕ) → length l ≤ 1 → handlers_of n k l ≡ []
  unfolding handlers_of
  handlers_none [] h = refl
  handlers_none (x ∷ []) h = refl
  handlers_none (x ∷ (y ∷ l)) h = absurd (omega arith)

module _ (regs : ℕ) (R : ℕ → ℕ) (seen : ℕ) where
  pub added_none : added regs R seen [] ≡ []
  unfolding added
  added_none = refl

  pub added_next : (h : ℕ) (hs : List ℕ) → added regs R seen (h ∷ hs) ≡ listed regs 0 (minus (R h) seen) ++ added regs R (bit_or seen (R h)) hs
  unfolding added
  added_next h hs = refl
