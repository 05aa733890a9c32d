-- The finding's bodies at the exported calls. Assumes nothing.
use mathlib.Core.Path.{◌≡◌, refl, ap, ◌∙◌, subst}
use mathlib.Core.Bool.{Bool, true, false}
use mathlib.Core.List.{List, [], ◌∷◌}
use Prim.Native.Nat.{ℕ, ◌<◌}
use native.Mathlib.Omega.{arith}
use Rattle.laws.specs.Walk.{first}
use Rattle.code.specs.Ins.{ins_at, count}
use Rattle.refusals.specs.declared.Answer.{Answer}
use Rattle.flow.specs.Set.{minus}
use Rattle.flow.specs.Sweep.{row, Found}
use Rattle.flow.specs.Listed.{listed}
use Rattle.flow.specs.Kept.{handlers_of, added, kept}
use Rattle.flow.proofs.Answer.{found_one}
use Rattle.flow.proofs.Rows.{In}
use Rattle.steps.specs.Level.{is_level, first_level}
use Rattle.steps.specs.Code.{store_of, flow}
use Rattle.rows.specs.Route.{route_start, rows_in}
use Rattle.kept.specs.Level.{resume_of, result_at, level_of}
use Rattle.kept.proofs.Demand.{left, level_list, list_by}
use Rattle.exported.specs.Calls.{Lists, KeptCall}
use Rattle.exported.specs.Told.{list_left}
use Rattle.nested.specs.Raising.{raising, mays, begins_at}
use Rattle.nested.specs.Bodies.{body, tries, raised}
use Rattle.nested.proofs.Examples.{rows, plain_at, plain_found, plain_not_enough, raise_all_found}
use Rattle.raises.proofs.Examples.{found_rows, called_found, raise_levels_found}
use Rattle.sheltered.specs.Calls.{RaisingCall, NotEnough, Enough, RaiseKept}
use Rattle.sheltered.proofs.Exported.{raising_out, raising_found, kept_out}

-- ---- kept

module _ (b : Lists) (r : Answer) (a : Lists) (x : KeptCall 64 body 6 tries false b r a) (z : r.refusal ≡ 0) where
  begins : route_start 64 false 6 body ≡ 2
  unfolding route_start first_level first is_level
  begins = refl

  rows_are : rows_in 64 6 body a.rows ≡ rows
  rows_are = (found_one (flow 6 body) 2
      (subst (λ (s : ℕ). Found (flow 6 body) s (rows_in 64 6 body a.rows) r.second r.third) begins
      (left 64 body 6 tries false b.rows b.offsets b.list (kept_out 64 body 6 tries false b r a x z) r.first r.second
      r.third refl).scratch.found) plain_found).0

  lists_are : (k : ℕ) → k < count body → is_level (ins_at body k) ≡ true → list_left a k ≡ plain_at k
  lists_are k h e =
      level_list 64 body 6 tries false b.rows b.offsets b.list a.rows a.offsets a.list r.first r.second r.third
      (kept_out 64 body 6 tries false b r a x z) k h e
      ∙ ap (λ (l : List ℕ). kept 6 (row l) (level_of 6 body tries k)) rows_are

pub not_enough : NotEnough
not_enough b r a x z s =
    plain_not_enough (λ lost sp events k file. s lost (λ j q l e m. sp j q l e (subst (λ (y : List ℕ). In q y) (lists_are b r a x z j l e) m)) events k file)

-- ---- kept_raising

module _ (all : Bool) (w : List ℕ) (regs : ℕ) (t old : List ℕ) (full : ℕ) (found : Found (raising (mays all w) regs w t) (begins_at regs w) old full 0)
    (b : Lists) (r : Answer) (a : Lists) (x : RaisingCall w regs t all b r a) (z : r.refusal ≡ 0) where
  list_is : (k : ℕ) → k < count w → is_level (ins_at w k) ≡ true → list_left a k ≡ kept regs (row old) (level_of regs w t k)
  list_is k h e =
      list_by (raising (mays all w) regs w t) (begins_at regs w) 64 w regs t b.rows b.offsets b.list a.rows a.offsets a.list r.first
      r.second r.third
      (raising_out w regs t all b r a x z) k h e
      ∙ ap (λ (l : List ℕ). kept regs (row l) (level_of regs w t k)) (found_one (raising (mays all w) regs w t) (begins_at regs w)
      (raising_found w regs t all b r a x z) found).0

pub enough : Enough
unfolding minus listed handlers_of added resume_of result_at store_of is_level
enough b r a x z = (
  list_is false body 6 tries found_rows 1 called_found b r a x z 2 (omega arith) refl,
  list_is false body 6 tries found_rows 1 called_found b r a x z 6 (omega arith) refl,
)

pub raise_kept : RaiseKept
unfolding minus listed handlers_of added resume_of result_at store_of is_level
raise_kept b r a = (
  λ x z. list_is false raised 6 (3 ∷ 6 ∷ []) (0 ∷ 0 ∷ 0 ∷ 2 ∷ 2 ∷ 2 ∷ 32 ∷ 0 ∷ []) 1 raise_levels_found b r a x z 1 (omega arith) refl,
  λ x z. list_is true raised 6 (3 ∷ 6 ∷ []) (0 ∷ 32 ∷ 32 ∷ 34 ∷ 34 ∷ 34 ∷ 32 ∷ 0 ∷ []) 1 raise_all_found b r a x z 1 (omega arith) refl,
)
