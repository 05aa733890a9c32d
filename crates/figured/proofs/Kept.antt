-- A body with its answer from the kept-register call is never refused with 15. Assumes nothing.
use mathlib.Core.Path.{◌≡◌, refl, sym, ap, ◌∙◌, subst}
use mathlib.Core.Logic.{◌⊎◌, inl, inr}
use mathlib.Core.Bool.{Bool, true, false, cond}
use mathlib.Core.List.{List, []}
use Prim.Native.Nat.{ℕ, suc, ◌+◌, ◌-◌, ◌≤◌, zero-le}
use native.Mathlib.Numerals.{add-one}
use native.Mathlib.Omega.{arith}
use borrow.Author.Tests.{le-ltb}
use lib.Dec.{ltb}
use lib.ListN.{length, get_or, drop, get_or-append, length-append}
use Rattle.code.specs.Ins.{ins_at, count}
use Rattle.code.specs.Check.{check_of}
use Rattle.refusals.specs.Stages.{registers_of, tried_of, room_of}
use Rattle.code.specs.Inner.{Valid}
use Rattle.refusals.specs.declared.Answer.{Answer}
use Rattle.code.proofs.Checks.{checked}
use Rattle.refusals.proofs.Stages.{regs_before, tries_before, room_before}
use Rattle.flow.specs.Sweep.{row}
use Rattle.flow.specs.Kept.{kept}
use Rattle.steps.specs.Level.{is_level}
use Rattle.rows.specs.Route.{rows_in}
use Rattle.kept.specs.Level.{level_of, kept_at}
use Rattle.kept.specs.Lists.{lists_to, offsets_to, over}
use Rattle.kept.specs.Answers.{scratch_for, stages_of, Outcome, refused, short, told}
use Rattle.kept.specs.declared.KeptAnswer.{KeptAnswer}
use Rattle.kept.proofs.Parts.{offset_at}
use Rattle.kept.proofs.Passes.{offsets_long}
use Rattle.groups.specs.Groups.{most, join_of, sums_of}
use Rattle.offsets.specs.Inner.{Right}
use Rattle.offsets.proofs.Offsets.{right_fine}
use Rattle.figures.specs.Figures.{body_figures, body_of, placed_of}
use Rattle.figures.specs.Answers.{figures_in, Reports, reports, reported_of, added_of, add_call}
use Rattle.groups.specs.declared.Figures.{Figures}
use Rattle.std.specs.declared.result.Result.TheVariants.{Ok, Err}
use Rattle.groups.specs.Groups.{FiguresAnswer}
use Rattle.groups.specs.declared.FiguresRefusal.TheVariants.{Call, Offsets, Over}
use Rattle.groups.specs.declared.Total.TheVariants.{Bodies, Levels, Kept, Body as BodyNumber}
use Rattle.figures.proofs.Month.{totals}
use Rattle.answers.specs.Answers.{kept_told, KeptTold}
use Rattle.answers.proofs.Answered.{never_0}

-- what an answered call leaves, as the figures read it
record Lists (bits : ℕ) (w : List ℕ) (regs : ℕ) (tries offsets a b : List ℕ) (total : ℕ) : Type 0 where
  check : check_of w ≡ Ok (count w)
  begins : b ≡ over (offsets_to regs w tries (rows_in bits regs w a) (suc (count w))) offsets
  sum : total ≡ length (lists_to regs w tries (rows_in bits regs w a) (count w))

past : (bits : ℕ) (w : List ℕ) (regs : ℕ) (tries : List ℕ) (a b n : ℕ) → stages_of bits w regs tries a b ≡ Ok n → check_of w ≡ Ok n
unfolding stages_of
past bits w regs tries a b n h =
    let one = room_before n (room_of (tried_of (registers_of (check_of w) regs) tries) 1 a (scratch_for bits regs w)) 2 b (suc (count w)) (sym h) in
    let two = room_before n (tried_of (registers_of (check_of w) regs) tries) 1 a (scratch_for bits regs w) (sym one) in
    let three = tries_before n (registers_of (check_of w) regs) tries (sym two) in
    regs_before n (check_of w) regs (sym three)

module _ (bits : ℕ) (w : List ℕ) (regs : ℕ) (tries : List ℕ) (wide : Bool) (rows offsets list : List ℕ) where
  lists : {a b c : List ℕ} {v : KeptAnswer} → Outcome bits w regs tries wide rows offsets list a b c v → (kept_told v).refusal ≡ 0
      → Lists bits w regs tries offsets a b (kept_told v).first
  lists (refused {r = q} p) h = absurd (never_0 q h)
  lists (short p q l) h = absurd (omega arith)
  lists (told p q l) h = record { check = past bits w regs tries (length rows) (length offsets) (count w) p; begins = refl; sum = refl }

module _ (bits : ℕ) (w : List ℕ) (regs : ℕ) (tries offsets a b : List ℕ) (total : ℕ) (x : Lists bits w regs tries offsets a b total) where
  abbrev L : ℕ → List ℕ
  L = lists_to regs w tries (rows_in bits regs w a)

  abbrev O : List ℕ
  O = offsets_to regs w tries (rows_in bits regs w a) (suc (count w))

  valid : Valid w
  valid = checked w (count w) (sym x.check)

  at : (j : ℕ) → j ≤ count w → get_or b j 0 ≡ length (L j)
  at j h = ap (λ (y : List ℕ). get_or y j 0) x.begins
      ∙ get_or-append O (drop (length O) offsets) 0 j (omega (arith, offsets_long regs w tries (rows_in bits regs w a) (suc (count w))))
      ∙ offset_at regs w tries (rows_in bits regs w a) (suc (count w)) j (omega arith)

  -- the list of one place more
  next : (k : ℕ) → length (L (k + 1)) ≡ length (L k) + length (kept_at regs w tries (rows_in bits regs w a) k)
  unfolding lists_to
  next k = ap (λ (n : ℕ). length (L n)) (add-one k) ∙ length-append (L k) (kept_at regs w tries (rows_in bits regs w a) k)

  none : (k : ℕ) → is_level (ins_at w k) ≡ false → length (kept_at regs w tries (rows_in bits regs w a) k) ≡ 0
  unfolding kept_at
  none k e = ap (λ (t : Bool). length (cond t (kept regs (row (rows_in bits regs w a)) (level_of regs w tries k)) [])) e

  right : Right w b
  unfolding lists_to
  right = record {
    valid = valid;
    long = omega (arith, ap length x.begins, length-append O (drop (length O) offsets), offsets_long regs w tries (rows_in bits regs w a) (suc (count w)));
    start = at 0 zero-le;
    rise = λ k h. omega (arith, at k (omega arith), at (k + 1) (omega arith), next k);
    idle = λ k h e. omega (arith, at k (omega arith), at (k + 1) (omega arith), next k, none k e);
  }

  ends : get_or b (count w) 0 ≡ total
  ends = at (count w) (omega arith) ∙ sym x.sum

  body_fine : body_of w b total ≡ Ok (body_figures w b)
  unfolding body_of placed_of
  body_fine = rw (
    x.check,
    le-ltb (length b) (count w + 1) (omega (arith, right.long)),
    right_fine w b total right ends,
    le-ltb (count w + 1) (count w + 1)
        (omega arith),
  )

-- a sum is told, or it would pass 64 bits
abbrev Sum : FiguresAnswer → Type 0
Sum (Ok f) = Unit {0}
Sum (Err (Over n)) = Unit {0}
Sum (Err (Call q)) = ⊥
Sum (Err (Offsets k)) = ⊥

sums_only : (f g : Figures) → Sum (sums_of f g)
unfolding sums_of
sums_only f g = go (ltb (most - f.bodies) g.bodies) (ltb (most - f.levels) g.levels) (ltb (most - f.kept) g.kept) (ltb (most - f.bodies) g.body)
  where
    go : (a b c d : Bool) → Sum (cond a (Err (Over Bodies)) (cond b (Err (Over Levels)) (cond c (Err (Over Kept)) (cond d (Err (Over BodyNumber)) (Ok (join_of f g))))))
    go true b c d = tt
    go false true c d = tt
    go false false true d = tt
    go false false false true = tt
    go false false false false = tt

-- The kept call was answered: with its offsets and so much of its list as it told,
module _ (bits : ℕ) (w : List ℕ) (regs : ℕ) (tries : List ℕ) (wide : Bool) (rows offsets list new o l : List ℕ) (r : Answer)
    (answer : KeptTold bits w regs tries wide rows offsets list new o l r) (answered : r.refusal ≡ 0) where
  found : Lists bits w regs tries offsets new o r.first
  found = subst (λ (y : Answer). Lists bits w regs tries offsets new o y.first) (sym answer.is)
      (lists bits w regs tries wide rows offsets list answer.allowed (ap (λ (y : Answer). y.refusal) (sym answer.is) ∙ answered))

  -- a body is added, or refused with 13: never with 15, nor with 1, 2 or 5.
  pub kept_added : (old new' : List ℕ) (a : Answer) → add_call w o r.first old ≡ reports new' a → (a.refusal ≡ 0) ⊎ (a.refusal ≡ 13)
  unfolding add_call added_of reported_of
  kept_added old new' a e = go (sums_of (figures_in old) (body_figures w o)) (sums_only (figures_in old) (body_figures w o))
      (ap (added_of old) (sym (body_fine bits w regs tries offsets new o r.first found)) ∙ e)
    where
      go : (v : FiguresAnswer) → Sum v → reported_of (body_figures w o).levels (body_figures w o).kept old v ≡ reports new' a → (a.refusal ≡ 0) ⊎
          (a.refusal ≡ 13)
      go (Ok f) s u = inl (ap (λ (y : Reports). y.answer.refusal) (sym u))
      go (Err (Over n)) s u = inr (ap (λ (y : Reports). y.answer.refusal) (sym u))
      go (Err (Call q)) s u = absurd s
      go (Err (Offsets k)) s u = absurd s

  -- Its kept registers are as many as the kept call told.
  pub kept_total : (body_figures w o).kept ≡ r.first
  kept_total = totals w o r.first (right bits w regs tries offsets new o r.first found) (ends bits w regs tries offsets new o r.first found)
