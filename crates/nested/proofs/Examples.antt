-- A body whose plain lists are not enough: the call at 2 overwrites r5, the call at 6 raises, and the handler at 9 reads r5. Assumes nothing.
use mathlib.Core.Path.{◌≡◌, refl, sym, ap, ◌∙◌, subst}
use mathlib.Core.Bool.{Bool, true, false, cond}
use mathlib.Core.List.Memᴰ
use mathlib.Core.List.{List, [], ◌∷◌, map, Memᴰ}
use Prim.Native.Nat.{ℕ}
use native.Mathlib.Omega.{arith}
use borrow.Author.Tests.{eqb-true}
use lib.Dec.{eqb}
use lib.ListN.{get_or, replicate}
use Rattle.laws.specs.Walk.{first}
use Rattle.roles.specs.Kinds.{page, rule_of, kinds_of, has_role, is_jump}
use Rattle.roles.specs.Sets.{cases, case_of, used_by, given_by}
use Rattle.flow.specs.Set.{bit, minus}
use Rattle.flow.specs.Flow.{joined, row_at}
use Rattle.flow.specs.Sweep.{row, sweep, below, tally, done, Found}
use Rattle.flow.specs.Listed.{listed}
use Rattle.flow.specs.Kept.{handlers_of, added, kept}
use Rattle.flow.proofs.Answer.{last_straight}
use Rattle.flow.proofs.Bits.{bit_zero}
use Rattle.steps.specs.Level.{is_level, first_level}
use Rattle.steps.specs.Code.{store_of, over_pending, past_store, restores, idle, used_at, given_at, after_at, flow}
use Rattle.rows.specs.Route.{route_start}
use Rattle.kept.specs.Level.{resume_of, result_at, level_of}
use Rattle.nested.specs.Machine.{Event, step, back, thrown, nested, undisturbed, Spares, Sheltered}
use Rattle.nested.specs.Raising.{raises_at, raising, levels, mays, begins_at, args_at, frame}
use Rattle.nested.specs.Exposed.{exposed}
use Rattle.nested.specs.Bodies.{body, tries, raised}
use Rattle.nested.specs.Inner.{untidy, wanted}

abbrev pub rows : List ℕ
rows = 0 ∷ 0 ∷ 17 ∷ 0 ∷ 2 ∷ 18 ∷ 18 ∷ 0 ∷ 4 ∷ 32 ∷ 0 ∷ []

abbrev pub rows' : List ℕ
rows' = 0 ∷ 0 ∷ 49 ∷ 32 ∷ 34 ∷ 50 ∷ 50 ∷ 0 ∷ 4 ∷ 32 ∷ 0 ∷ []

-- document 01's rows, and the rows with handlers; each from the first level, in one sweep
pub plain_found : Found (flow 6 body) 2 rows 1 0
unfolding minus joined row_at sweep below tally page rule_of kinds_of has_role is_jump cases case_of used_by given_by store_of over_pending past_store restores idle used_at
    given_at after_at
plain_found = record { sweeps = done (last_straight (flow 6 body) 2 (replicate 11 0) refl); left = refl }

pub raising_found : Found (raising (levels body) 6 body tries) 2 rows' 1 0
unfolding minus joined row_at sweep below tally page rule_of kinds_of has_role is_jump cases case_of used_by given_by store_of over_pending past_store restores idle used_at
    given_at after_at is_level handlers_of raises_at
raising_found = record { sweeps = done (last_straight (raising (levels body) 6 body tries) 2 (replicate 11 0) refl); left = refl }

abbrev pub plain_at : ℕ → List ℕ
plain_at k = kept 6 (row rows) (level_of 6 body tries k)

abbrev pub raising_at : ℕ → List ℕ
raising_at k = kept 6 (row rows') (level_of 6 body tries k)

-- level 2 keeps nothing, and r5 with handlers; level 6 keeps r5 by both
pub lists : (plain_at 2 ≡ []) × (plain_at 6 ≡ 5 ∷ []) × (raising_at 2 ≡ 5 ∷ []) × (raising_at 6 ≡ 5 ∷ [])
unfolding minus listed handlers_of added resume_of result_at store_of
lists = (refl, refl, refl, refl)

pub shown : (exposed (plain_at 2) (raising_at 2) ≡ 5 ∷ []) × (exposed (plain_at 6) (raising_at 6) ≡ [])
unfolding minus listed handlers_of added resume_of result_at store_of exposed
shown = (refl, refl)

-- level 2 keeps r5 with handlers, so no callee there overwrites it
kept_spared : (lost : ℕ → ℕ) → Spares (frame (levels body) 6 body tries) raising_at lost → bit (lost 2) 5 ≡ 0
unfolding is_level
kept_spared lost s = s 2 5 (omega arith) refl (subst (λ (l : List ℕ). Memᴰ 5 l) (sym lists.2) (Memᴰ.head refl))

-- the call at 2 overwrites r5 and no other register
lost : ℕ → ℕ
lost k = cond (eqb k 2) 32 0

spares : Spares (frame (levels body) 6 body tries) plain_at lost
unfolding lost
spares k r l e m = go (eqb k 2) refl
  where
    go : (t : Bool) → eqb k 2 ≡ t → bit (cond t 32 0) r ≡ 0
    go true q = absurd (Memᴰ.not-nil (subst (λ (l : List ℕ). Memᴰ r l) (ap plain_at (eqb-true k 2 q) ∙ lists.0) m))
    go false q = bit_zero r

-- the call at 2 returns; its result is stored; a callee is loaded; the try is entered; the call at 6 raises; the handler returns r5
abbrev events : List Event
events = back (0 ∷ 0 ∷ 0 ∷ 0 ∷ 0 ∷ 77 ∷ []) (0 ∷ 21 ∷ []) ∷ step 0 (0 ∷ 22 ∷ []) ∷ step 0 (0 ∷ 0 ∷ 0 ∷ 0 ∷ 24 ∷ []) ∷ step 0 [] ∷ thrown [] 0 ∷ step 0 [] ∷ []

abbrev file : List ℕ
file = 10 ∷ 11 ∷ 12 ∷ 13 ∷ 14 ∷ 55 ∷ []

abbrev told : ℕ → List (ℕ × List ℕ)
told x = (2, 10 ∷ 14 ∷ []) ∷ (3, []) ∷ (4, []) ∷ (5, []) ∷ (6, 22 ∷ 24 ∷ []) ∷ (9, x ∷ []) ∷ []

runs : (nested (frame (levels body) 6 body tries) lost events 2 file ≡ told 77)
    × (nested (frame (levels body) 6 body tries) undisturbed events 2 file ≡ told 55)
unfolding nested lost bit listed page rule_of kinds_of has_role is_jump cases case_of used_by given_by store_of over_pending past_store restores idle used_at given_at
    after_at is_level handlers_of raises_at args_at resume_of result_at joined
runs = (refl, refl)

-- so document 01's lists do not shelter nested frames
pub plain_not_enough : Sheltered (frame (levels body) 6 body tries) plain_at → ⊥
plain_not_enough s =
    let e : told 77 ≡ told 55 = sym runs.0 ∙ s lost spares events 2 file ∙ runs.1 in
    let z : ◌≡◌ {A = ℕ} 77 55 = ap (λ (l : List (ℕ × List ℕ)). get_or (get_or (map (λ (s : ℕ × List ℕ). s.1) l) 5 []) 0 0) e in
    omega arith

-- ---- a mark that is not tidy: 0 CallGlobalR; 1 StoreTopR a0; 2 ReturnR b0 with the dunder mark, a level that resumes at 3; 3 ReturnR b2

abbrev untidy_rows : List ℕ
untidy_rows = 0 ∷ 0 ∷ 1 ∷ 4 ∷ 0 ∷ []

abbrev untidy_rows' : List ℕ
untidy_rows' = 4 ∷ 4 ∷ 5 ∷ 4 ∷ 0 ∷ []

untidy_found : Found (raising (mays true untidy) 3 untidy []) 0 untidy_rows' 1 0
unfolding minus joined row_at sweep below tally page rule_of kinds_of has_role is_jump cases case_of used_by given_by store_of over_pending past_store restores idle used_at
    given_at after_at is_level handlers_of raises_at
untidy_found = record { sweeps = done (last_straight (raising (mays true untidy) 3 untidy []) 0 (replicate 5 0) refl); left = refl }

abbrev untidy_at : ℕ → List ℕ
untidy_at k = kept 3 (row untidy_rows) (level_of 3 untidy [] k)

pub untidy_lists : (untidy_at 0 ≡ []) × (untidy_at 2 ≡ 2 ∷ []) × (kept 3 (row untidy_rows') (level_of 3 untidy [] 0) ≡ 2 ∷ [])
unfolding minus listed handlers_of added resume_of result_at store_of
untidy_lists = (refl, refl, refl)

untidy_lost : ℕ → ℕ
untidy_lost k = cond (eqb k 0) 4 0

untidy_spares : Spares (frame (mays true untidy) 3 untidy []) untidy_at untidy_lost
unfolding untidy_lost
untidy_spares k r l e m = go (eqb k 0) refl
  where
    go : (t : Bool) → eqb k 0 ≡ t → bit (cond t 4 0) r ≡ 0
    go true q = absurd (Memᴰ.not-nil (subst (λ (l : List ℕ). Memᴰ r l) (ap untidy_at (eqb-true k 0 q) ∙ untidy_lists.0) m))
    go false q = bit_zero r

abbrev untidy_events : List Event
untidy_events = back (0 ∷ 0 ∷ 77 ∷ []) [] ∷ step 0 [] ∷ back [] [] ∷ step 0 [] ∷ []

abbrev untidy_told : ℕ → List (ℕ × List ℕ)
untidy_told x = (0, []) ∷ (1, []) ∷ (2, 0 ∷ []) ∷ (3, x ∷ []) ∷ []

untidy_runs : (nested (frame (mays true untidy) 3 untidy []) untidy_lost untidy_events 0 (10 ∷ 11 ∷ 55 ∷ []) ≡ untidy_told 77)
    × (nested (frame (mays true untidy) 3 untidy []) undisturbed untidy_events 0 (10 ∷ 11 ∷ 55 ∷ []) ≡ untidy_told 55)
unfolding nested untidy_lost bit listed page rule_of kinds_of has_role is_jump cases case_of used_by given_by store_of over_pending past_store restores idle used_at
    given_at after_at is_level handlers_of raises_at args_at resume_of result_at joined
untidy_runs = (refl, refl)

-- So where the mark stands on a ReturnR document 01's lists do not shelter nested frames, though no try is lent: the call goes on where the rows
-- do not lead. The rows with handlers do, and the call at 0 keeps r2.
pub untidy_not_enough : Sheltered (frame (mays true untidy) 3 untidy []) untidy_at → ⊥
untidy_not_enough s =
    let e : untidy_told 77 ≡ untidy_told 55 = sym untidy_runs.0 ∙ s untidy_lost untidy_spares untidy_events 0 (10 ∷ 11 ∷ 55 ∷ []) ∙ untidy_runs.1 in
    let z : ◌≡◌ {A = ℕ} 77 55 = ap (λ (l : List (ℕ × List ℕ)). get_or (get_or (map (λ (s : ℕ × List ℕ). s.1) l) 3 []) 0 0) e in
    omega arith

-- ---- Raise, which is no level: where anything may raise, the call at 1 keeps r5 for the handler at 6

pub raise_all_found : Found (raising (mays true raised) 6 raised (3 ∷ 6 ∷ [])) (begins_at 6 raised) (0 ∷ 32 ∷ 32 ∷ 34 ∷ 34 ∷ 34 ∷ 32 ∷ 0 ∷ []) 1 0
unfolding minus joined row_at sweep below tally page rule_of kinds_of has_role is_jump cases case_of used_by given_by store_of over_pending past_store restores idle used_at
    given_at after_at is_level handlers_of raises_at route_start first_level first
raise_all_found = record { sweeps = done (last_straight (raising (mays true raised) 6 raised (3 ∷ 6 ∷ [])) 1 (replicate 8 0) refl); left = refl }

-- ---- a handler wants what its level gives up

-- row 4 has r1, which 4 would write: an exception leaves before it is given up
pub wanted_found : Found (raising (mays false wanted) 3 wanted (3 ∷ 6 ∷ [])) (begins_at 3 wanted) (0 ∷ 2 ∷ 2 ∷ 6 ∷ 6 ∷ 2 ∷ 2 ∷ 0 ∷ []) 1 0
unfolding minus joined row_at sweep below tally page rule_of kinds_of has_role is_jump cases case_of used_by given_by store_of over_pending past_store restores idle used_at
    given_at after_at is_level handlers_of raises_at route_start first_level first
wanted_found = record { sweeps = done (last_straight (raising (mays false wanted) 3 wanted (3 ∷ 6 ∷ [])) 1 (replicate 8 0) refl); left = refl }

-- 4 raises: 99, which it would write to r1, is not written, and the handler at 6 reads the 11 of before
wanted_run : nested (frame (mays false wanted) 3 wanted (3 ∷ 6 ∷ [])) undisturbed (step 0 (0 ∷ 99 ∷ []) ∷ step 0 [] ∷ []) 4 (10 ∷ 11 ∷ 12 ∷ [])
    ≡ (4, 12 ∷ []) ∷ (6, 11 ∷ []) ∷ []
unfolding nested bit listed page rule_of kinds_of has_role is_jump cases case_of used_by given_by store_of over_pending past_store restores idle used_at given_at after_at
    is_level handlers_of raises_at args_at resume_of result_at joined
wanted_run = refl
