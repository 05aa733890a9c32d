-- Which route is taken, and that both leave what `Rows` says. Assumes nothing.
use mathlib.Core.Path.{◌≡◌, refl, sym, ap, ◌∙◌, subst, subst⁻¹}
use mathlib.Core.Bool.{Bool, true, false, cond, ◌||◌}
use mathlib.Core.List.{List}
use Prim.Native.Nat.{ℕ, suc, ◌+◌, ◌-◌, ◌*◌, ◌/◌, ◌%◌, ◌≤◌, ◌<◌, min, max}
use native.Mathlib.Nat.{mul-one, mod-lt, div-add-mod', div-lt_iff_lt-mul, mul-le-mul_right, suc-mul}
use native.Mathlib.Decide.{ℕ_discrete}
use native.Mathlib.Omega.{arith}
use borrow.Author.Tests.{ltb-false}
use lib.Dec.{ltb}
use lib.ListN.{length}
use lib.Seq.{take_all}
use Rattle.laws.proofs.Branch.{or_false}
use Rattle.code.specs.Ins.{count}
use Rattle.flow.specs.Sweep.{Found}
use Rattle.flow.specs.Words.{rows_of}
use Rattle.flow.proofs.Buffer.{rows_one}
use Rattle.steps.specs.Level.{first_level}
use Rattle.steps.specs.Code.{flow}
use Rattle.rows.specs.Route.{words_for, route_start}
use Rattle.rows.specs.Inner.{Rows}

-- a quotient rounded up
ceil : (x y : ℕ) → 0 < y → x / y + min 1 (x % y) ≡ (x + (y - 1)) / y
ceil x y some = go (ℕ_discrete (x % y) 0)
  where
    up : (c : ℕ) → x + (y - 1) < suc c * y → ¬ (x + (y - 1) < c * y) → c ≡ (x + (y - 1)) / y
    up c a b =
        let not_less : ¬ ((x + (y - 1)) / y < c) = λ h. b ((div-lt_iff_lt-mul {k = y} {x = x + (y - 1)} {y = c} some).0 h) in
        omega (arith, (div-lt_iff_lt-mul {k = y} {x = x + (y - 1)} {y = suc c} some).1 a, not_less)

    go : Dec (x % y ≡ 0) → x / y + min 1 (x % y) ≡ (x + (y - 1)) / y
    go (yes e) = sum e ∙ up (x / y) (omega (arith, suc-mul (x / y) y, div-add-mod' x y)) (λ h. omega (arith, h, div-add-mod' x y))
      where
        sum : x % y ≡ 0 → x / y + min 1 (x % y) ≡ x / y
        sum h = omega arith
    go (no z) = sum z ∙ up (suc (x / y)) (omega (arith, suc-mul (suc (x / y)) y, suc-mul (x / y) y, div-add-mod' x y, mod-lt x some))
        (λ h. omega (arith, h, suc-mul (x / y) y, div-add-mod' x y, z))
      where
        sum : (x % y ≡ 0 → ⊥) → x / y + min 1 (x % y) ≡ suc (x / y)
        sum h = omega arith

pub words_are : (bits regs d w m : ℕ) → 0 < bits → w ≡ bits → d ≡ regs / w + min 1 (regs % w) → m ≡ max d 1 → m ≡ words_for bits regs
words_are bits regs d w m some ew ed em = omega (arith, ed ∙ ap (λ (y : ℕ). regs / y + min 1 (regs % y)) ew ∙ ceil regs bits some, em)

-- as many words as hold the registers
fill : (bits x y : ℕ) → 0 < bits → y ≡ (x + (bits - 1)) / bits → x ≤ y * bits
fill bits x y wide e = subst⁻¹ (λ (z : ℕ). x ≤ z * bits) e (omega (arith, div-add-mod' (x + (bits - 1)) bits, mod-lt (x + (bits - 1)) wide))

module _ (bits regs m : ℕ) (e : m ≡ words_for bits regs) where
  pub words_enough : 0 < bits → regs ≤ m * bits
  words_enough wide = omega (arith, fill bits regs ((regs + (bits - 1)) / bits) wide refl, mul-le-mul_right bits (more e))
    where
      more : m ≡ words_for bits regs → (regs + (bits - 1)) / bits ≤ m
      more h = omega arith

  pub words_few : (hand : ℕ) → 0 < bits → 0 < hand → regs ≤ hand * bits → m ≤ hand
  words_few hand wide some h = omega (arith, below)
    where
      below : (regs + (bits - 1)) / bits < suc hand
      below = (div-lt_iff_lt-mul {k = bits} {x = regs + (bits - 1)} {y = suc hand} wide).1 (omega (arith, suc-mul hand bits))

  pub words_long : (k len : ℕ) → len ≡ k * words_for bits regs → len ≡ k * m
  words_long k len h = rw e h

module _ (bits : ℕ) (wide : Bool) (regs : ℕ) (z : wide || ltb bits regs ≡ false) where
  pub word_few : regs ≤ bits
  word_few = ltb-false bits regs (or_false wide (ltb bits regs) z).1

  module _ (some : 0 < bits) where
    word_one : words_for bits regs ≡ 1
    word_one = one (word_few)
      where
        less : regs ≤ bits → (regs + (bits - 1)) / bits < 2
        less h = (div-lt_iff_lt-mul {k = bits} {x = regs + (bits - 1)} {y = 2} some).1 (omega arith)

        one : regs ≤ bits → words_for bits regs ≡ 1
        one h = omega (arith, less h)

    pub word_long : (k len : ℕ) → len ≡ k * words_for bits regs → len ≡ k
    word_long k len h = h ∙ ap (λ (x : ℕ). k * x) word_one ∙ mul-one k

    pub by_word : (w rows rows₀ : List ℕ) (full lost : ℕ) → length rows ≡ length rows₀ → length rows₀ ≡ suc (count w) * words_for bits regs → Found (flow regs w)
        (first_level w) rows full lost → Rows bits wide regs w rows full lost
    unfolding route_start
    by_word w rows rows₀ full lost h h₀ f =
        subst (λ (l : List ℕ). Found (flow regs w) (cond (wide || ltb bits regs) 0 (first_level w)) l full lost) same
        (subst (λ (x : ℕ). Found (flow regs w) x rows full lost) (sym (ap (λ (t : Bool). cond t 0 (first_level w)) z)) f)
      where
        long : length rows ≡ suc (count w)
        long = word_long (suc (count w)) (length rows) (h ∙ h₀)

        same : rows ≡ rows_of bits (words_for bits regs) (suc (count w)) rows
        same = sym (ap (λ (x : ℕ). rows_of bits x (suc (count w)) rows) word_one ∙ rows_one bits (suc (count w)) rows (omega (arith, long))
            ∙ take_all (suc (count w)) rows (omega (arith, long)))

pub by_wide : (bits : ℕ) (wide : Bool) (regs m : ℕ) (w rows : List ℕ) (full lost : ℕ) → wide || ltb bits regs ≡ true → m ≡ words_for bits regs
    → Found (flow regs w) 0 (rows_of bits m (suc (count w)) rows) full lost → Rows bits wide regs w rows full lost
unfolding route_start
by_wide bits wide regs m w rows full lost z e f =
    subst (λ (x : ℕ). Found (flow regs w) x (rows_of bits (words_for bits regs) (suc (count w)) rows) full lost)
    (sym (ap (λ (t : Bool). cond t 0 (first_level w)) z))
    (subst (λ (x : ℕ). Found (flow regs w) 0 (rows_of bits x (suc (count w)) rows) full lost) e f)
