-- The table of roles is the rule, at every entry by one test that antt computes, and so at every opcode, x and a. Assumes nothing.
use mathlib.Core.Path.{◌≡◌, refl, subst, sym, ap, ◌∙◌}
use mathlib.Core.Bool.{Bool, true, false, not, cond, ◌&&◌}
use mathlib.Core.List.{List, [], ◌∷◌}
use Prim.Native.Nat.{ℕ, zero, suc, ◌+◌, ◌*◌, ◌/◌, ◌%◌, ◌≤◌, ◌<◌, min}
use native.Mathlib.Nat.{add-zero, zero-add, add-suc, suc-add, le_of_suc-le-suc, not-suc-le-zero}
use native.Mathlib.Omega.{arith}
use lib.Dec.{T, eqb, ltb, eqb→eq, eqb-suc-zero}
use lib.ListN.{length, get_or}
use lib.Seq.{take_all}
use borrow.Author.Tests.{ne_eqb, ltb-true, ltb-false}
use Rattle.laws.specs.Page.{Row, among, look}
use Rattle.laws.proofs.Branch.{and-true}
use Rattle.ops.specs.Op.{Raise}
use Rattle.code.specs.declared.Ins.{Ins}
use Rattle.roles.specs.Kinds.{Rule, Bits, ByX, FirstAbc, FirstBc, Bare, says, page, rule_of, kinds_of, abc, bc, none}
use Rattle.roles.specs.Roles.{role_table}
use Rattle.roles.specs.Inner.{EntrySays}

-- ---- one test at every entry

abbrev both : Bool → Bool → Bool
both true b = b
both false b = false

both_left : (a b : Bool) → T (both a b) → T a
both_left true b t = tt
both_left false b t = t

both_right : (a b : Bool) → T (both a b) → T b
both_right true b t = t
both_right false b t = absurd t

-- the test f passes at each entry of a list and its place, counted from i
abbrev every : (ℕ → ℕ → Bool) → ℕ → List ℕ → Bool
every f i [] = true
every f i (x ∷ xs) = both (f i x) (every f (suc i) xs)

from : (f : ℕ → ℕ → Bool) (xs : List ℕ) (i : ℕ) → T (every f i xs) → (k : ℕ) → k < length xs → T (f (i + k) (get_or xs k 0))
from f [] i t k h = absurd (not-suc-le-zero h)
from f (x ∷ xs) i t zero h = subst (λ (m : ℕ). T (f m x)) (sym (add-zero i)) (both_left (f i x) (every f (suc i) xs) t)
from f (x ∷ xs) i t (suc k) h =
    subst (λ (m : ℕ). T (f m (get_or xs k 0))) (suc-add i k ∙ sym (add-suc i k))
    (from f xs (suc i) (both_right (f i x) (every f (suc i) xs) t) k (le_of_suc-le-suc h))

at : (f : ℕ → ℕ → Bool) (xs : List ℕ) → T (every f 0 xs) → (k : ℕ) → k < length xs → T (f k (get_or xs k 0))
at f xs t k h = subst (λ (m : ℕ). T (f m (get_or xs k 0))) (zero-add k) (from f xs 0 t k h)

zero_ok : ℕ → ℕ → ℕ → Bool
zero_ok o x k = eqb k (says (rule_of o) x 0)

one_ok : ℕ → ℕ → ℕ → Bool
one_ok o x k = eqb (cond (eqb o Raise) none k) (says (rule_of o) x 1)

right : ℕ → ℕ → Bool
right i k = both (zero_ok (i / 5) (i % 5) k) (one_ok (i / 5) (i % 5) k)

entries : (xs : List ℕ) → T (every right 0 xs) → length xs ≡ 1280 → (o x : ℕ) → o < 256 → x < 5 → EntrySays o x (get_or xs (o * 5 + x) 0)
unfolding right zero_ok one_ok
entries xs t l o x h j =
    let k = get_or xs (o * 5 + x) 0 in
    let q : (o * 5 + x) / 5 ≡ o = omega arith in
    let r : (o * 5 + x) % 5 ≡ x = omega arith in
    let p : T (both (zero_ok o x k) (one_ok o x k)) = rw (q, r) at (at right xs t (o * 5 + x) (omega arith)) in
    record {
      zero = eqb→eq _ _ (both_left (zero_ok o x k) (one_ok o x k) p);
      one = eqb→eq _ _ (both_right (zero_ok o x k) (one_ok o x k) p);
    }

-- the test, computed at each of the 1,280 entries
all : T (every right 0 role_table)
unfolding right zero_ok one_ok rule_of page role_table
all = tt

long : length role_table ≡ 1280
unfolding role_table
long = refl

pub read : (l : List ℕ) → l ≡ role_table → (o x : ℕ) → o < 256 → x < 5 → EntrySays o x (get_or l (o * 5 + x) 0)
read l e o x h j = rw e (entries role_table all long o x h j)

-- ---- every other opcode, x and a

-- every key of the page is below 256, so no other opcode is named
below : ℕ → List ℕ → Bool
below n [] = true
below n (k ∷ ks) = ltb k n && below n ks

page_below : ℕ → List (Row Rule) → Bool
page_below n [] = true
page_below n (r ∷ rs) = below n r.ops && page_below n rs

not_among : (n o : ℕ) (ks : List ℕ) → below n ks ≡ true → n ≤ o → among o ks ≡ false
unfolding below
not_among n o [] t l = refl
not_among n o (k ∷ ks) t l =
    let p = and-true (ltb k n) (below n ks) t in
    let h : k < n = ltb-true k n p.0 in
    rw (ne_eqb o k (omega arith), not_among n o ks p.1 l)

not_named : (d : Rule) (n o : ℕ) (rs : List (Row Rule)) → page_below n rs ≡ true → n ≤ o → look d o rs ≡ d
unfolding page_below
not_named d n o [] t l = refl
not_named d n o (r ∷ rs) t l =
    let p = and-true (below n r.ops) (page_below n rs) t in
    rw (not_among n o r.ops p.0 l, not_named d n o rs p.1 l)

pub past : (i : Ins) → 256 ≤ i.op → none ≡ kinds_of i
unfolding kinds_of rule_of page page_below below
past i l = sym (ap (λ (r : Rule). says r i.x i.a) (not_named (Bits none) 256 i.op page refl l))

-- four and more say the same
many : (r : Rule) (x f : ℕ) → 4 ≤ x → says r x f ≡ says r 4 f
many (Bits k) x f h = refl
many (ByX k l) x f h = rw (ne_eqb x 0 (omega arith))
many (FirstAbc k) x f h = rw (take_all (x + k) abc (omega arith), take_all (4 + k) abc (omega arith))
many (FirstBc k) x f h = rw (take_all (x + k) bc (omega arith), take_all (4 + k) bc (omega arith))
many Bare x f h = rw (ne_eqb x 0 (omega arith))

-- so do all a but 0
any : (r : Rule) (x f : ℕ) → says r x (suc f) ≡ says r x 1
any (Bits k) x f = refl
any (ByX k l) x f = refl
any (FirstAbc k) x f = refl
any (FirstBc k) x f = refl
any Bare x f = rw (eqb-suc-zero f)

-- what an entry says of an instruction
module _ (i : Ins) (m k : ℕ) (clips : m ≡ min i.x 4) (e : EntrySays i.op m k) where
  by_x : (f : ℕ) (b : Bool) → ltb i.x 4 ≡ b → says (rule_of i.op) m f ≡ says (rule_of i.op) i.x f
  by_x f true t =
      let h : i.x < 4 = ltb-true _ _ t in
      let q : m ≡ i.x = omega arith in
      rw q
  by_x f false t =
      let h : 4 ≤ i.x = ltb-false _ _ t in
      let q : m ≡ 4 = omega arith in
      rw q (sym (many (rule_of i.op) i.x f h))

  by_a : (f : ℕ) (b : Bool) → eqb i.op Raise ≡ b → cond (b && not (eqb f 0)) none k ≡ says (rule_of i.op) m f
  by_a zero true q = e.zero
  by_a zero false q = e.zero
  by_a (suc f) true q = rw (eqb-suc-zero f, any (rule_of i.op) m f) (rw q at e.one)
  by_a (suc f) false q = rw (any (rule_of i.op) m f) (rw q at e.one)

  pub role_is : cond (eqb i.op Raise && not (eqb i.a 0)) none k ≡ kinds_of i
  unfolding kinds_of
  role_is = by_a i.a (eqb i.op Raise) refl ∙ by_x i.a (ltb i.x 4) refl

  pub raised : eqb i.op Raise && not (eqb i.a 0) ≡ true → none ≡ kinds_of i
  raised t = rw t at role_is

  pub other : eqb i.op Raise && not (eqb i.a 0) ≡ false → k ≡ kinds_of i
  other t = rw t at role_is

-- the table equals the rule on every opcode, x and a
pub table_is : (i : Ins) → i.op < 256 → cond (eqb i.op Raise && not (eqb i.a 0)) none (get_or role_table (i.op * 5 + min i.x 4) 0) ≡ kinds_of i
table_is i h = role_is i (min i.x 4) (get_or role_table (i.op * 5 + min i.x 4) 0) refl (read role_table refl i.op (min i.x 4) h (omega arith))
