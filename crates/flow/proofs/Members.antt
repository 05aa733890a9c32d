-- The registers listed are those of the set, each once. Assumes nothing.
use mathlib.Core.Path.{◌≡◌, refl, sym, subst}
use mathlib.Core.Logic.{⊎_elim}
use mathlib.Core.List.Memᴰ
use mathlib.Core.List.{List, [], ◌∷◌, ◌++◌, Memᴰ}
use Prim.Native.Nat.{ℕ, zero, suc, ◌+◌, ◌/◌, ◌%◌, ◌<◌}
use native.Mathlib.Nat.{add-zero, add-suc, suc-add, zero-add}
use native.Mathlib.Omega.{arith}
use Rattle.flow.specs.Set.{bit}
use Rattle.flow.specs.Listed.{listed, keep}
use Rattle.flow.specs.Demand.{Once}
use Rattle.flow.proofs.Bits.{half_bit, low_bit}

-- member i of the d registers counted from p
abbrev Member : ℕ → ℕ → ℕ → ℕ → Type 0
Member d p x r = (i : ℕ) × (r ≡ p + i) × (i < d) × (0 < bit x i)

members : (d p x r : ℕ) → Memᴰ r (listed d p x) → Member d p x r
unfolding listed
members zero p x r m = absurd (Memᴰ.not-nil m)
members (suc d) p x r m = go (x % 2) refl m (λ m'. later (members d (suc p) (x / 2) r m'))
  where
    later : Member d (suc p) (x / 2) r → Member (suc d) p x r
    later (i, e, l, b) = (suc i, omega arith, omega arith, omega (arith, half_bit x i))

    go : (b : ℕ) → x % 2 ≡ b → Memᴰ r (keep b p (listed d (suc p) (x / 2))) → (Memᴰ r (listed d (suc p) (x / 2)) → Member (suc d) p x r)
        → Member (suc d) p x r
    go zero e m' up = up m'
    go (suc b) e m' up = ⊎_elim (λ q. (0, omega arith, omega arith, omega (arith, low_bit x))) up (Memᴰ.cases_cons m')

member_in : (d p x i : ℕ) → i < d → 0 < bit x i → Memᴰ (p + i) (listed d p x)
unfolding listed
member_in zero p x i l b = absurd (omega arith)
member_in (suc d) p x zero l b = go (x % 2) (omega (arith, low_bit x))
  where
    go : (t : ℕ) → 0 < t → Memᴰ (p + 0) (keep t p (listed d (suc p) (x / 2)))
    go zero h = absurd (omega arith)
    go (suc t) h = Memᴰ.head (add-zero p)
member_in (suc d) p x (suc i) l b = go (x % 2) (rw (add-suc, ← suc-add) (member_in d (suc p) (x / 2) i (omega arith) (omega (arith, half_bit x i))))
  where
    go : (t : ℕ) → Memᴰ (p + suc i) (listed d (suc p) (x / 2)) → Memᴰ (p + suc i) (keep t p (listed d (suc p) (x / 2)))
    go zero m = m
    go (suc t) m = Memᴰ.tail m

pub listed_in : (d x r : ℕ) → r < d → 0 < bit x r → Memᴰ r (listed d 0 x)
listed_in d x r l b = rw zero-add at (member_in d 0 x r l b)

pub listed_only : (d x r : ℕ) → Memᴰ r (listed d 0 x) → (r < d) × (0 < bit x r)
listed_only d x r m =
    let (i, e, l, b) = members d 0 x r m in
    let q : r ≡ i = omega arith in
    (omega arith, subst (λ (j : ℕ). 0 < bit x j) (sym q) b)

listed_once_from : (d p x : ℕ) → Once (listed d p x)
unfolding listed
listed_once_from zero p x = tt
listed_once_from (suc d) p x = go (x % 2) (listed_once_from d (suc p) (x / 2))
  where
    go : (b : ℕ) → Once (listed d (suc p) (x / 2)) → Once (keep b p (listed d (suc p) (x / 2)))
    go zero o = o
    go (suc b) o = (λ m. omega (arith, (members d (suc p) (x / 2) p m).1), o)

pub listed_once : (d x : ℕ) → Once (listed d 0 x)
listed_once d x = listed_once_from d 0 x

pub once_append : (l l' : List ℕ) → Once l → Once l' → ((r : ℕ) → Memᴰ r l → Memᴰ r l' → ⊥) → Once (l ++ l')
once_append [] l' o o' d = o'
once_append (x ∷ l) l' o o' d = (
  λ m. ⊎_elim (λ a. o.0 a) (λ a. d x (Memᴰ.head refl) a) (Memᴰ.append_cases l m),
  once_append l l' o.1 o' (λ r m. d r (Memᴰ.tail m)),
)
