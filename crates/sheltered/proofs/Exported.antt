-- The promises for frames whose calls raise, at the exported calls. Assumes nothing.
use mathlib.Core.Path.{◌≡◌, refl, sym, ap, ◌∙◌, subst}
use mathlib.Core.Bool.{Bool, true, false, cond}
use mathlib.Core.List.{List, [], ◌∷◌, Memᴰ}
use Prim.Native.Nat.{ℕ, ◌<◌}
use native.Mathlib.Nat.{zero-lt-suc}
use native.Mathlib.Omega.{arith}
use lib.Dec.{ltb}
use lib.ListN.{length, take, drop}
use lib.Seq.{take-append_seam}
use Rattle.code.specs.Ins.{ins_at, count}
use Rattle.refusals.specs.declared.Answer.{Answer}
use Rattle.std.specs.declared.result.Result.TheVariants.{Ok, Err}
use Rattle.refusals.specs.declared.Refusal.TheVariants.{Short}
use Rattle.flow.specs.Sweep.{Found}
use Rattle.flow.proofs.Answer.{found_least}
use Rattle.flow.proofs.Rows.{In}
use Rattle.steps.specs.Code.{flow}
use Rattle.steps.specs.Level.{is_level}
use Rattle.rows.specs.Route.{route_start, rows_in}
use Rattle.kept.specs.Lists.{over}
use Rattle.kept.specs.Answers.{ListsLeft, Outcome}
use Rattle.kept.specs.declared.KeptAnswer.TheVariants.{Is}
use Rattle.kept.proofs.Demand.{inside, left_by, stands_by, empty_by}
use Rattle.answers.specs.Answers.{count_told, ExposedTold}
use Rattle.exported.specs.Calls.{Lists, KeptCall}
use Rattle.exported.specs.Told.{list_left}
use Rattle.exported.proofs.Kept.{lists_settle, told_of}
use Rattle.nested.specs.Machine.{Sheltered}
use Rattle.nested.specs.Raising.{raising, levels, mays, begins_at, frame, Tidy}
use Rattle.nested.specs.Exposed.{exposed, ToldApart}
use Rattle.nested.proofs.Exposed.{none_exposed}
use Rattle.nested.proofs.Lists.{call_shelters, call_keeps, call_spare, call_once, call_exposed, call_more, plain_shelters}
use Rattle.sheltered.specs.Calls.{RaisingCall, RaisingSettles, RaisingHolds, Both, NoneExposed}
use Rattle.sheltered.proofs.Ahead.{few_sweeps}

pub raising_settles : (w : List ℕ) (regs : ℕ) (tries : List ℕ) (all : Bool) → RaisingSettles w regs tries all
raising_settles w regs tries all = lists_settle (raising (mays all w) regs w tries) (begins_at regs w) 64 (zero-lt-suc 63) w regs tries

-- ---- from refusal 0

module _ (w : List ℕ) (regs : ℕ) (tries : List ℕ) (all : Bool) (b : Lists) (r : Answer) (a : Lists) (x : RaisingCall w regs tries all b r a) (z : r.refusal
    ≡ 0) where
  -- the case that it tells
  pub raising_out : ListsLeft (raising (mays all w) regs w tries) (begins_at regs w) 64 w regs tries b.rows b.offsets b.list a.rows a.offsets
      a.list
      (Is r.first r.second r.third)
  raising_out = (told_of (raising (mays all w) regs w tries) (begins_at regs w) 64 w regs tries b r a x z).out

  pub raising_found : Found (raising (mays all w) regs w tries) (begins_at regs w) (rows_in 64 regs w a.rows) r.second r.third
  raising_found =
      (left_by (raising (mays all w) regs w tries) (begins_at regs w) 64 w regs tries b.rows b.offsets b.list raising_out r.first r.second
      r.third refl).scratch.found

  pub raising_holds : RaisingHolds w regs tries all r a
  raising_holds =
      record {
        shelters = call_shelters 64 false w regs tries all b.rows b.offsets b.list a.rows a.offsets a.list r.first r.second
            r.third raising_out;
        least = found_least (raising (mays all w) regs w tries) (begins_at regs w) (inside 64 false regs w) (rows_in 64 regs w a.rows) r.second
            r.third raising_found;
        sweeps = few_sweeps all regs w tries (rows_in 64 regs w a.rows) r.second r.third raising_found;
        stands = λ k h. stands_by (raising (mays all w) regs w tries) (begins_at regs w) 64 w regs tries b.rows b.offsets b.list a.rows a.offsets
            a.list
            r.first r.second r.third raising_out k h;
        keeps = λ k h e.
            call_keeps 64 false w regs tries all b.rows b.offsets b.list a.rows a.offsets a.list r.first r.second
            r.third raising_out k h e;
        spare = λ k h e.
            call_spare 64 false w regs tries all b.rows b.offsets b.list a.rows a.offsets a.list r.first r.second
            r.third raising_out k h e;
        once = λ k h e.
            call_once 64 false w regs tries all b.rows b.offsets b.list a.rows a.offsets a.list r.first r.second
            r.third raising_out k h e;
        empty = λ k h e. empty_by (raising (mays all w) regs w tries) (begins_at regs w) 64 w regs tries b.rows b.offsets b.list a.rows a.offsets
            a.list
            r.first r.second r.third raising_out k h e;
      }

-- kept's own case
pub kept_out : (bits : ℕ) (w : List ℕ) (regs : ℕ) (tries : List ℕ) (wide : Bool) (b : Lists) (r : Answer) (a : Lists) → KeptCall bits w regs tries wide b r a
    → r.refusal ≡ 0
    → Outcome bits w regs tries wide b.rows b.offsets b.list a.rows a.offsets a.list (Is r.first r.second r.third)
kept_out bits w regs tries wide b r a x z = (told_of (flow regs w) (route_start bits wide regs w) bits w regs tries b r a x z).out

-- kept's lists are enough where no try is lent and no mark stands amiss
pub no_try_shelters : (bits : ℕ) (w : List ℕ) (regs : ℕ) (wide : Bool) (b : Lists) (r : Answer) (a : Lists) → KeptCall bits w regs [] wide b r a
    → r.refusal ≡ 0
    → Tidy w → Sheltered (frame (levels w) regs w []) (list_left a)
no_try_shelters bits w regs wide b r a x z tidy =
    plain_shelters bits wide w regs b.rows b.offsets b.list a.rows a.offsets a.list r.first r.second r.third
    (kept_out bits w regs [] wide b r a x z) tidy

-- ---- what exposed tells

none_long : (l : List ℕ) → length l ≡ 0 → l ≡ []
none_long [] e = refl
none_long (x ∷ l) e = absurd (omega arith)

-- an answer of exposed: the count, and what stands in the buffer
told_exposed : (plain list out out' : List ℕ) (s : Answer) → ExposedTold plain list out out' s → s.refusal ≡ 0
    → (s.first ≡ length (exposed plain list)) × (out' ≡ over (exposed plain list) out)
told_exposed plain list out out' s x z = go (ltb (length out) (length list)) (s_is x) x.allowed.left
  where
    s_is : ExposedTold plain list out out' s → s ≡ count_told (cond (ltb (length out) (length list)) (Err (Short 1 (length list)))
        (Ok (length (exposed plain list))))
    s_is y = y.is ∙ ap count_told y.allowed.answer

    go : (t : Bool) → s ≡ count_told (cond t (Err (Short 1 (length list))) (Ok (length (exposed plain list))))
        → out' ≡ cond t out (over (exposed plain list) out)
        → (s.first ≡ length (exposed plain list)) × (out' ≡ over (exposed plain list) out)
    go true e l = let q : s.refusal ≡ 5 = ap (λ (v : Answer). v.refusal) e in absurd (omega arith)
    go false e l = (ap (λ (v : Answer). v.first) e, l)

module _ (w : List ℕ) (regs : ℕ) (tries : List ℕ) (all : Bool) (plain list : Lists) (both : Both w regs tries all plain list) where
  out : ListsLeft (raising (mays all w) regs w tries) (begins_at regs w) 64 w regs tries both.lent'.rows both.lent'.offsets both.lent'.list
      list.rows list.offsets
      list.list (Is both.answer'.first both.answer'.second both.answer'.third)
  out = raising_out w regs tries all both.lent' both.answer' list both.raising_call both.raising_answered

  -- at each level the raising list holds the plain one
  pub raising_more : (k : ℕ) → k < count w → is_level (ins_at w k) ≡ true → (q : ℕ) → Memᴰ q (list_left plain k) → Memᴰ q (list_left list k)
  raising_more k h e q m =
      call_more 64 false w regs tries all both.lent'.rows both.lent'.offsets both.lent'.list list.rows list.offsets list.list
      both.answer'.first
      both.answer'.second both.answer'.third out k h e both.bits both.wide both.lent.rows both.lent.offsets both.lent.list
      plain.rows plain.offsets
      plain.list both.answer.first both.answer.second both.answer.third
      (kept_out both.bits w regs tries both.wide both.lent both.answer plain both.kept both.kept_answered) q m

  -- nothing exposed at any level: the plain lists are enough too
  pub plain_enough : ((k : ℕ) → k < count w → is_level (ins_at w k) ≡ true → NoneExposed (list_left plain k) (list_left list k))
      → Sheltered (frame (mays all w) regs w tries) (list_left plain)
  plain_enough none =
      none_exposed (frame (mays all w) regs w tries) (list_left plain) (list_left list)
      (raising_holds w regs tries all both.lent' both.answer' list both.raising_call both.raising_answered).shelters
      (λ k h e. nothing k (none k h e))
    where
      nothing : (k : ℕ) → NoneExposed (list_left plain k) (list_left list k) → exposed (list_left plain k) (list_left list k) ≡ []
      nothing k n =
          let (c, l) = told_exposed (list_left plain k) (list_left list k) n.out n.out' n.answer n.asked
          (ap (λ (v : Answer). v.refusal) n.none) in
          none_long (exposed (list_left plain k) (list_left list k)) (sym c ∙ ap (λ (v : Answer). v.first) n.none)

  -- each register that exposed tells of a level is exposed in truth
  pub exposed_truth : (k : ℕ) → k < count w → is_level (ins_at w k) ≡ true → (o o' : List ℕ) (s : Answer)
      → ExposedTold (list_left plain k) (list_left list k) o o' s
      → s.refusal ≡ 0 → (q : ℕ) → Memᴰ q (take s.first o') → ToldApart (frame (mays all w) regs w tries) (list_left plain) k q
  exposed_truth k h e o o' s x z q m =
      let (c, l) = told_exposed (list_left plain k) (list_left list k) o o' s x z in
      call_exposed 64 false w regs tries all both.lent'.rows both.lent'.offsets both.lent'.list list.rows list.offsets list.list
      both.answer'.first
      both.answer'.second both.answer'.third out k h e (list_left plain) q (subst (λ (y : List ℕ). In q y) (front c l) m)
    where
      front : s.first ≡ length (exposed (list_left plain k) (list_left list k)) → o' ≡ over (exposed (list_left plain k) (list_left list k)) o
          → take s.first o' ≡ exposed (list_left plain k) (list_left list k)
      front c l = rw (c, l) (take-append_seam (exposed (list_left plain k) (list_left list k)) (drop (length (exposed (list_left plain k) (list_left list k))) o))
