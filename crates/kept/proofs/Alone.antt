-- The call's statement settles its answer and every lent word: any two outcomes are the same. Assumes nothing.
use mathlib.Core.Path.{◌≡◌, refl, sym, ap, ap₂, ◌∙◌}
use mathlib.Core.List.{List, ◌++◌, head-eq_of_cons-eq, tail-eq_of_cons-eq}
use Prim.Native.Nat.{ℕ, zero, suc, ◌+◌, ◌*◌, ◌≤◌, ◌<◌}
use native.Mathlib.Nat.{suc-mul}
use native.Mathlib.Omega.{arith}
use lib.ListN.{length, take, drop, length-drop, take-append-drop}
use lib.Seq.{ext_get_or, drop-drop, get_or-drop, length-take-le}
use Rattle.code.specs.Ins.{count}
use Rattle.refusals.specs.declared.Refusal.{Refusal}
use Rattle.refusals.specs.Stages.{Checked}
use Rattle.std.specs.declared.result.Result.TheVariants.{Ok, Err}
use Rattle.refusals.specs.declared.Refusal.TheVariants.{Short}
use Rattle.flow.specs.Flow.{Flow}
use Rattle.flow.specs.Words.{value, rows_of, Small}
use Rattle.flow.proofs.Words.{holds_one}
use Rattle.flow.proofs.Buffer.{small_window}
use Rattle.flow.proofs.Answer.{found_one}
use Rattle.rows.specs.Route.{words_for, rows_in}
use Rattle.kept.specs.Lists.{lists_to, offsets_to, over}
use Rattle.kept.specs.Answers.{scratch_for, stages_of, RowsLeft, ListsLeft, refused, short, told}
use Rattle.kept.specs.declared.KeptAnswer.{KeptAnswer}
use Rattle.kept.specs.declared.KeptAnswer.TheVariants.{Is, No}
use Rattle.sets.proofs.Words.{held}
use Rattle.kept.proofs.Tests.{accepted_scratch}

-- words are settled by the set that they hold
value_one : (bits : ℕ) → 0 < bits → (a b : List ℕ) → length a ≡ length b → Small bits a → Small bits b → value bits a ≡ value bits b → a ≡ b
value_one bits some a b e sa sb q = ext_get_or 0 a b e (λ i l. holds_one bits some a b (value bits b) (record { small = sa; is = q }) (held bits b sb) i)

small_drop : (bits n : ℕ) (l : List ℕ) → Small bits l → Small bits (drop n l)
small_drop bits n l s j = rw (get_or-drop n l j 0) (s (n + j))

-- and a buffer by its rows and the words past them
buffer_one : (bits : ℕ) → 0 < bits → (words m : ℕ) (a b : List ℕ) → length a ≡ length b → Small bits a → Small bits b → m * words ≤ length a
    → rows_of bits words m a ≡ rows_of bits words m b
    → drop (m * words) a ≡ drop (m * words) b → a ≡ b
unfolding rows_of
buffer_one bits some words zero a b e sa sb l q d = ap (λ (x : ℕ). drop x a) (none words) ∙ d ∙ sym (ap (λ (x : ℕ). drop x b) (none words))
  where
    none : (x : ℕ) → 0 ≡ 0 * x
    none x = omega arith
buffer_one bits some words (suc m) a b e sa sb l q d =
    sym (take-append-drop words a)
    ∙ ap₂ ◌++◌ heads (buffer_one bits some words m (drop words a) (drop words b) (omega (arith, length-drop words a, length-drop words b))
    (small_drop bits words a sa) (small_drop bits words b sb)
    (omega (arith, suc-mul m words, length-drop words a)) (tail-eq_of_cons-eq q) (later a ∙ d ∙ sym (later b)))
    ∙ take-append-drop words b
  where
    fits : words ≤ length a
    fits = omega (arith, suc-mul m words)

    heads : take words a ≡ take words b
    heads = value_one bits some (take words a) (take words b) (length-take-le words a fits ∙ sym (length-take-le words b (omega (arith, fits))))
        (small_window bits words 0 a sa) (small_window bits words 0 b sb) (head-eq_of_cons-eq q)

    later : (x : List ℕ) → drop (m * words) (drop words x) ≡ drop (suc m * words) x
    later x = drop-drop (m * words) words x ∙ ap (λ (y : ℕ). drop y x) (sum (suc-mul m words))
      where
        sum : suc m * words ≡ m * words + words → words + m * words ≡ suc m * words
        sum g = omega arith

never : {A : Type 0} (v : Checked) (n : ℕ) (r : Refusal) → v ≡ Ok n → v ≡ Err r → A
never v n r p q = let z : ◌≡◌ {A = ℕ} 0 1 = cc in absurd (omega arith)

module _ (f : Flow) (start bits : ℕ) (some : 0 < bits) (w : List ℕ) (regs : ℕ) (tries rows offsets list : List ℕ) where
  -- the same scratch and the same counts
  scratch_one : {a b : List ℕ} {full full' lost lost' : ℕ} → scratch_for bits regs w ≤ length rows → Small bits a → Small bits b
      → RowsLeft f start bits regs w rows a full lost → RowsLeft f start bits regs w rows b full' lost' → (a ≡ b) × (full ≡ full') × (lost ≡ lost')
  scratch_one {a} {b} {full} {full'} {lost} {lost'} le sa sb p q =
      let (r, x, y) = found_one f start p.found q.found in
      (buffer_one bits some (words_for bits regs) (suc (count w)) a b (p.long ∙ sym q.long) sa sb (omega (arith, p.long)) r (p.past ∙ sym q.past), x, y)

  refusal_one : (v : Checked) (r s : Refusal) → v ≡ Err r → v ≡ Err s → No r ≡ No s
  refusal_one v r s p q = cc

  -- the scratch being words of so many bits, any two outcomes by the same equations are the same
  pub outcome_one : {a b c a' b' c' : List ℕ} {r r' : KeptAnswer} → Small bits a → Small bits a'
      → ListsLeft f start bits w regs tries rows offsets list a b c r → ListsLeft f start bits w regs tries rows offsets list a' b' c' r' → (a ≡ a') × (b ≡ b')
      × (c ≡ c') × (r ≡ r')
  outcome_one sa sb (refused p) (refused q) = (refl, refl, refl, refusal_one (stages_of bits w regs tries (length rows) (length offsets)) _ _ p q)
  outcome_one sa sb (refused p) (short q s g) = never (stages_of bits w regs tries (length rows) (length offsets)) _ _ q p
  outcome_one sa sb (refused p) (told q s g) = never (stages_of bits w regs tries (length rows) (length offsets)) _ _ q p
  outcome_one sa sb (short p s g) (refused q) = never (stages_of bits w regs tries (length rows) (length offsets)) _ _ p q
  outcome_one sa sb (told p s g) (refused q) = never (stages_of bits w regs tries (length rows) (length offsets)) _ _ p q
  outcome_one sa sb (short p s g) (short q s' g') =
      let (e, x, y) = scratch_one (accepted_scratch bits w regs tries (length rows) (length offsets) (count w) p) sa sb s s' in
      (e, refl, refl, ap (λ (z : List ℕ). No (Short 3 (length (lists_to regs w tries (rows_in bits regs w z) (count w))))) e)
  outcome_one sa sb (short p s g) (told q s' g') =
      let (e, x, y) = scratch_one (accepted_scratch bits w regs tries (length rows) (length offsets) (count w) p) sa sb s s' in
      absurd (omega (arith, g, g', ap (λ (z : List ℕ). length (lists_to regs w tries (rows_in bits regs w z) (count w))) e))
  outcome_one sa sb (told p s g) (short q s' g') =
      let (e, x, y) = scratch_one (accepted_scratch bits w regs tries (length rows) (length offsets) (count w) p) sa sb s s' in
      absurd (omega (arith, g, g', ap (λ (z : List ℕ). length (lists_to regs w tries (rows_in bits regs w z) (count w))) e))
  outcome_one sa sb (told p s g) (told q s' g') =
      let (e, x, y) = scratch_one (accepted_scratch bits w regs tries (length rows) (length offsets) (count w) p) sa sb s s' in (
        e,
        ap (λ (z : List ℕ). over (offsets_to regs w tries (rows_in bits regs w z) (suc (count w))) offsets) e,
        ap (λ (z : List ℕ). over (lists_to regs w tries (rows_in bits regs w z) (count w)) list) e,
        ap₂ (λ (z : List ℕ) (t : ℕ × ℕ). Is (length (lists_to regs w tries (rows_in bits regs w z) (count w))) t.0 t.1) e (both x y),
      )
    where
      both : {m m' n n' : ℕ} → m ≡ m' → n ≡ n' → ◌≡◌ {A = ℕ × ℕ} (m, n) (m', n')
      both x y = ap₂ (λ (m n : ℕ). (m, n)) x y
