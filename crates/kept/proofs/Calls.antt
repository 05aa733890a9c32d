-- The call's parts put together: the rows in the scratch, then the lists, or the refusal. Assumes nothing.
use mathlib.Core.Path.{◌≡◌, refl, sym, ap, ap₂, ◌∙◌, subst}
use mathlib.Core.Bool.{Bool}
use mathlib.Core.List.{List, ◌∷◌, ◌++◌}
use Prim.Native.Nat.{ℕ, zero, suc, ◌+◌, ◌*◌, ◌^◌, ◌≤◌, ◌<◌}
use native.Mathlib.Nat.{suc-mul}
use native.Mathlib.Numerals.{add-one}
use native.Mathlib.Omega.{arith}
use mir.Syntax.{w64}
use mir.Val.{Fits}
use lib.ListN.{length, take, drop, length-append, length-drop}
use lib.Seq.{take-append-le, drop-append-le, length-take-le, drop_at}
use Rattle.code.specs.Ins.{count}
use Rattle.refusals.specs.Stages.{Checked}
use Rattle.std.specs.declared.result.Result.TheVariants.{Ok, Err}
use Rattle.refusals.specs.declared.Refusal.{Refusal}
use Rattle.refusals.specs.declared.Refusal.TheVariants.{Short}
use Rattle.sets.specs.Word.{Numbered}
use Rattle.flow.specs.Flow.{Flow}
use Rattle.flow.specs.Sweep.{row, Found}
use Rattle.flow.specs.Words.{value, rows_of, Small}
use Rattle.steps.specs.Code.{flow}
use Rattle.rows.specs.Route.{words_for, route_start, rows_in}
use Rattle.rows.specs.Inner.{Rows}
use Rattle.rows.proofs.Routes.{words_few, words_enough}
use Rattle.rows.proofs.Least.{rows_regs}
use Rattle.kept.specs.Lists.{lists_to, offsets_to, over}
use Rattle.kept.specs.Inner.{Width, LevelsRoom, Filled}
use Rattle.kept.specs.Answers.{scratch_for, stages_of, RowsLeft, ListsLeft, Outcome, refused, short, told}
use Rattle.kept.specs.declared.KeptAnswer.TheVariants.{Is, No}
use Rattle.lists.proofs.Less.{scaled}
use Rattle.kept.proofs.Tests.{accepted_scratch, accepted_few, accepted_valid, accepted_count}

-- the numbers of a buffer whose first words are others
module _ {W : Type 0} {num : W → ℕ} {nums : List W → List ℕ} (n : Numbered num nums) (k : ℕ) (rows : List W) where
  pub take_nums : length (take k rows) ≡ length (take k (nums rows))
  take_nums = sym (n.long (take k rows)) ∙ ap length (n.first k rows)

  module _ (part : List W) where
    pub part_nums : length part ≡ length (take k rows) → length (nums part) ≡ length (take k (nums rows))
    part_nums e = n.long part ∙ e ∙ take_nums

    pub whole_nums : nums (part ++ drop k rows) ≡ nums part ++ drop k (nums rows)
    whole_nums = n.both part (drop k rows) ∙ ap (λ (l : List ℕ). nums part ++ l) (n.later k rows)

    pub new_nums : length (nums part ++ drop k (nums rows)) ≡ length (nums rows) → length (part ++ drop k rows) ≡ length rows
    new_nums e = sym (n.long (part ++ drop k rows)) ∙ ap length whole_nums ∙ e ∙ n.long rows

-- rows lie in the first words of a buffer
rows_front : (bits words m : ℕ) (part rest : List ℕ) → m * words ≤ length part → rows_of bits words m (part ++ rest) ≡ rows_of bits words m part
unfolding rows_of
rows_front bits words zero part rest l = refl
rows_front bits words (suc m) part rest l =
    let fits : words ≤ length part = omega (arith, suc-mul m words) in
    ap₂ (λ (v t : List ℕ). value bits v ∷ t) (take-append-le words part rest fits)
    (ap (rows_of bits words m) (drop-append-le words part rest fits) ∙ rows_front bits words m (drop words part) rest
    (omega (arith, suc-mul m words, length-drop words part)))

module _ (bits hand : ℕ) (width : Width bits hand) (regs : ℕ) (w tries rows offsets : List ℕ) (n : ℕ) (h : stages_of bits w regs tries (length rows)
    (length offsets) ≡ Ok n) (m : ℕ) (e : m ≡ words_for bits regs) where
  narrow : m ≤ hand
  narrow = words_few bits regs m e hand width.some width.more (omega (
    arith,
    width.span,
    accepted_few bits w regs tries (length rows) (length offsets) n
        h,
  ))

  pub part_mul : Fits w64 ((count w + 1) * m)
  part_mul = scaled (count w + 1) m (omega (arith, (accepted_valid bits w regs tries (length rows) (length offsets) n h).few))
      (omega (arith, narrow, width.few))

  need_is : (count w + 1) * m ≡ scratch_for bits regs w
  need_is = ap₂ ◌*◌ (add-one (count w)) e

  pub part_fits : (count w + 1) * m ≤ length rows
  part_fits = subst (λ (x : ℕ). x ≤ length rows) (sym need_is) (accepted_scratch bits w regs tries (length rows) (length offsets) n h)

  pub part_long : length (take ((count w + 1) * m) rows) ≡ (count w + 1) * m
  part_long = length-take-le ((count w + 1) * m) rows part_fits

  pub part_whole : length (take ((count w + 1) * m) rows) ≡ suc (count w) * words_for bits regs
  part_whole = part_long ∙ need_is

  -- by any equations whose rows have no register at or above the count
  module _ (f : Flow) (start : ℕ) (bound : (buf : List ℕ) (full lost : ℕ) → Found f start (rows_in bits regs w buf) full lost → (k : ℕ)
      → row (rows_in bits regs w buf) k < 2 ^ regs)
      (part : List ℕ) (full lost : ℕ) (found : Found f start (rows_in bits regs w part) full lost) (l : length part ≡ length (take ((count w + 1) * m) rows))
    where
      abbrev new : List ℕ
      new = part ++ drop ((count w + 1) * m) rows

      long : length part ≡ scratch_for bits regs w
      long = l ∙ part_whole

      same : rows_in bits regs w new ≡ rows_in bits regs w part
      same = rows_front bits (words_for bits regs) (suc (count w)) part (drop ((count w + 1) * m) rows) (omega (arith, long))

      scratch : RowsLeft f start bits regs w rows new full lost
      scratch = record {
        found = subst (λ (x : List ℕ). Found f start x full lost) (sym same) found;
        long = omega (arith, l, part_long, part_fits, length-append part (drop ((count w + 1) * m) rows), length-drop ((count w + 1) * m) rows);
        past = drop_at part (drop ((count w + 1) * m) rows) (scratch_for bits regs w) long ∙ ap (λ (x : ℕ). drop x rows) need_is;
      }

      pub ready_by : Small bits (part ++ drop ((count w + 1) * m) rows) → LevelsRoom bits hand regs w m (part ++ drop ((count w + 1) * m) rows)
      ready_by small = record {
        width = width;
        valid = accepted_valid bits w regs tries (length rows) (length offsets) n h;
        few = accepted_few bits w regs tries (length rows) (length offsets) n h;
        narrow = narrow;
        enough = words_enough bits regs m e width.some;
        room = subst (λ (x : ℕ). x ≤ length new) (sym (ap (λ (x : ℕ). suc (count w) * x) e))
            (omega (arith, long, length-append part (drop ((count w + 1) * m) rows)));
        small = small;
        bound = λ k. subst (λ (x : ℕ). row (rows_of bits x (suc (count w)) new) k < 2 ^ regs) (sym e) (bound new full lost scratch.found k);
      }

      pub long_by : length (part ++ drop ((count w + 1) * m) rows) ≡ length rows
      long_by = scratch.long

      module _ (list : List ℕ) (total : ℕ) (q : total ≡ length (lists_to regs w tries (rows_of bits m (suc (count w)) (part ++ drop ((count w + 1) * m) rows))
          (count w))) where
        total_is : total ≡ length (lists_to regs w tries (rows_in bits regs w new) (count w))
        total_is = q ∙ ap (λ (x : ℕ). length (lists_to regs w tries (rows_of bits x (suc (count w)) new) (count w))) e

        pub short_by : length list < total → ListsLeft f start bits w regs tries rows offsets list (part ++ drop ((count w + 1) * m) rows) offsets list
            (No (Short 3 total))
        short_by g = subst (λ (x : ℕ). ListsLeft f start bits w regs tries rows offsets list new offsets list (No (Short 3 x))) (sym total_is)
            (short (accepted_count bits w regs tries (length rows) (length offsets) n h) scratch (subst (λ (x : ℕ). length list < x) total_is g))

        pub told_by : total ≤ length list → (o l' : List ℕ) → Filled regs w tries (rows_of bits m (suc (count w)) (part ++ drop ((count w + 1) * m) rows))
            offsets
            list o l'
            → ListsLeft f start bits w regs tries rows offsets list (part ++ drop ((count w + 1) * m) rows) o l' (Is total full lost)
        told_by g o l' z =
            subst (λ (x : ℕ). ListsLeft f start bits w regs tries rows offsets list new o l' (Is x full lost)) (sym total_is)
            (subst (λ (x : List ℕ). ListsLeft f start bits w regs tries rows offsets list new o x
            (Is (length (lists_to regs w tries (rows_in bits regs w new) (count w))) full lost)) (sym lists)
            (subst (λ (x : List ℕ). ListsLeft f start bits w regs tries rows offsets list new x (over (lists_to regs w tries (rows_in bits regs w new) (count w))
            list) (Is (length (lists_to regs w tries (rows_in bits regs w new) (count w))) full lost)) (sym begins)
            (told (accepted_count bits w regs tries (length rows) (length offsets) n h) scratch (subst (λ (x : ℕ). x ≤ length list) total_is g))))
          where
            begins : o ≡ over (offsets_to regs w tries (rows_in bits regs w new) (suc (count w))) offsets
            begins = z.begins ∙ ap (λ (x : ℕ). over (offsets_to regs w tries (rows_of bits x (suc (count w)) new) (suc (count w))) offsets) e

            lists : l' ≡ over (lists_to regs w tries (rows_in bits regs w new) (count w)) list
            lists = z.lists ∙ ap (λ (x : ℕ). over (lists_to regs w tries (rows_of bits x (suc (count w)) new) (count w)) list) e

  -- by document 01's
  module _ (wide : Bool) (part : List ℕ) (full lost : ℕ) (f : Rows bits wide regs w part full lost)
      (l : length part ≡ length (take ((count w + 1) * m) rows)) where
    pub ready : Small bits (part ++ drop ((count w + 1) * m) rows) → LevelsRoom bits hand regs w m (part ++ drop ((count w + 1) * m) rows)
    ready = ready_by (flow regs w) (route_start bits wide regs w) (rows_regs bits wide regs w) part full lost f l

    pub new_long : length (part ++ drop ((count w + 1) * m) rows) ≡ length rows
    new_long = long_by (flow regs w) (route_start bits wide regs w) (rows_regs bits wide regs w) part full lost f l

    module _ (list : List ℕ) (total : ℕ) (q : total ≡ length (lists_to regs w tries (rows_of bits m (suc (count w)) (part ++ drop ((count w + 1) * m) rows))
        (count w))) where
      pub out_short : length list < total → Outcome bits w regs tries wide rows offsets list (part ++ drop ((count w + 1) * m) rows) offsets list
          (No (Short 3 total))
      out_short = short_by (flow regs w) (route_start bits wide regs w) (rows_regs bits wide regs w) part full lost f l list total q

      pub out_told : total ≤ length list → (o l' : List ℕ) → Filled regs w tries (rows_of bits m (suc (count w)) (part ++ drop ((count w + 1) * m) rows))
          offsets
          list o l'
          → Outcome bits w regs tries wide rows offsets list (part ++ drop ((count w + 1) * m) rows) o l' (Is total full lost)
      out_told = told_by (flow regs w) (route_start bits wide regs w) (rows_regs bits wide regs w) part full lost f l list total q

-- the tests decide
module _ (bits : ℕ) (w : List ℕ) (regs : ℕ) (tries rows offsets : List ℕ) (v : Checked)
    (e : v ≡ stages_of bits w regs tries (length rows) (length offsets)) where
  pub go_on : (n : ℕ) → v ≡ Ok n → stages_of bits w regs tries (length rows) (length offsets) ≡ Ok (count w)
  go_on n h = accepted_count bits w regs tries (length rows) (length offsets) n (sym e ∙ h)

  pub no_by : (r : Refusal) → v ≡ Err r → (f : Flow) (start : ℕ) (list : List ℕ) → ListsLeft f start bits w regs tries rows offsets list rows offsets
      list
      (No r)
  no_by r h f start list = refused (sym e ∙ h)

  pub go_no : (r : Refusal) → v ≡ Err r → (wide : Bool) (list : List ℕ) → Outcome bits w regs tries wide rows offsets list rows offsets list (No r)
  go_no r h wide list = no_by r h (flow regs w) (route_start bits wide regs w) list
