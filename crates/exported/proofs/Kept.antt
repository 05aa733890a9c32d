-- The kept-register call: one result, its refusals, what an answer says of the lists as they stand, and one list on every route. Assumes nothing.
use mathlib.Core.Path.{◌≡◌, refl, sym, ap, ◌∙◌, subst}
use mathlib.Core.Logic.{◌⊎◌, inl, inr}
use mathlib.Core.Bool.{Bool}
use mathlib.Core.List.{List}
use Prim.Native.Nat.{ℕ, suc, ◌≤◌, ◌<◌}
use native.Mathlib.Omega.{arith}
use lib.ListN.{length, drop}
use Rattle.laws.specs.Table.{Held}
use Rattle.code.specs.Ins.{count}
use Rattle.refusals.specs.declared.Answer.{Answer}
use Rattle.flow.specs.Flow.{Flow}
use Rattle.flow.proofs.Answer.{start_closed}
use Rattle.steps.specs.Code.{flow}
use Rattle.rows.specs.Route.{route_start, rows_in}
use Rattle.rows.specs.Inner.{Rows}
use Rattle.rows.proofs.Least.{rows_least, rows_below, row_last, rows_regs, rows_few}
use Rattle.kept.specs.Lists.{lists_to, offsets_to, over}
use Rattle.kept.specs.Answers.{scratch_for, ListsLeft, Outcome, refused, short, told}
use Rattle.kept.specs.declared.KeptAnswer.{KeptAnswer}
use Rattle.kept.specs.declared.KeptAnswer.TheVariants.{Is, No}
use Rattle.kept.proofs.Tests.{accepted_offsets}
use Rattle.kept.proofs.Passes.{offsets_long}
use Rattle.kept.proofs.Demand.{left, stands, no_level, demand_3, none_to_spare, kept_each_once}
use Rattle.kept.proofs.Counts.{sweeps_few}
use Rattle.kept.proofs.Widths.{totals_one, lists_one, offsets_one}
use Rattle.answers.specs.Answers.{kept_told}
use Rattle.answers.proofs.Alone.{one_kept}
use Rattle.exported.specs.Settles as settles
use Rattle.exported.specs.Calls.{Lists, ListsCall, ListsSettles, KeptCall, KeptSettles}
use Rattle.exported.specs.Told.{KeptHolds, SameLists}
use Rattle.exported.proofs.Answered.{refused_not}
use Rattle.exported.proofs.Writing.{held_same, held_front}

-- ---- one result, and refusals

module _ (f : Flow) (start bits : ℕ) (w : List ℕ) (regs : ℕ) (tries rows offsets list : List ℕ) where
  out_refusal : {a b c : List ℕ} {v : KeptAnswer} → ListsLeft f start bits w regs tries rows offsets list a b c v → settles.Refusal (kept_told v)
      → (b ≡ offsets) × (c ≡ list) × ((a ≡ rows) ⊎ (((kept_told v).refusal ≡ 5) × ((kept_told v).first ≡ 3)))
  out_refusal (refused p) h = (refl, refl, inl refl)
  out_refusal (short p q l) h = (refl, refl, inr (refl, refl))
  out_refusal (told p q l) h = absurd (h refl)

  out_rows : {a b c : List ℕ} {v : KeptAnswer} → ListsLeft f start bits w regs tries rows offsets list a b c v → Held (scratch_for bits regs w) rows a
  out_rows (refused p) = held_same (scratch_for bits regs w) rows rows refl
  out_rows (short p q l) = record { same = q.long; tail = q.past }
  out_rows (told p q l) = record { same = q.long; tail = q.past }

  over_held : (m : ℕ) (l old : List ℕ) → length l ≡ m → m ≤ length old → Held m old (over l old)
  over_held m l old e h = let z : drop (length l) old ≡ drop m old = ap (λ (x : ℕ). drop x old) e in rw z (held_front m l old e h)

  out_offsets : {a b c : List ℕ} {v : KeptAnswer} → ListsLeft f start bits w regs tries rows offsets list a b c v → Held (suc (count w)) offsets b
  out_offsets (refused p) = held_same (suc (count w)) offsets offsets refl
  out_offsets (short p q l) = held_same (suc (count w)) offsets offsets refl
  out_offsets (told {new = new} p q l) =
      over_held (suc (count w)) (offsets_to regs w tries (rows_in bits regs w new) (suc (count w))) offsets
      (offsets_long regs w tries (rows_in bits regs w new) (suc (count w)))
      (accepted_offsets bits w regs tries (length rows) (length offsets) (count w) p)

  out_list : {a b c : List ℕ} {v : KeptAnswer} → ListsLeft f start bits w regs tries rows offsets list a b c v → (kept_told v).refusal ≡ 0
      → Held (kept_told v).first list c
  out_list (refused {r = r} p) e = absurd (refused_not r e)
  out_list (short p q l) e = absurd (omega arith)
  out_list (told {new = new} p q l) e =
      over_held (length (lists_to regs w tries (rows_in bits regs w new) (count w))) (lists_to regs w tries (rows_in bits regs w new) (count w)) list refl l

all_three : {a a' b b' c c' : List ℕ} → a ≡ a' → b ≡ b' → c ≡ c'
    → ◌≡◌ {A = Lists} (record { rows = a; offsets = b; list = c }) (record { rows = a'; offsets = b'; list = c' })
all_three e f g = rw (e, f, g)

pub lists_settle : (f : Flow) (start bits : ℕ) (some : 0 < bits) (w : List ℕ) (regs : ℕ) (tries : List ℕ) → ListsSettles f start bits w regs tries
lists_settle f start bits some w regs tries =
    record {
      one = λ b r r' a a' x y.
          let (e, p, q, t) = one_kept f start bits some w regs tries b.rows b.offsets b.list r r' a.rows a'.rows a.offsets a'.offsets
          a.list
          a'.list x.words y.words x.told y.told in
          (e, all_three p q t);
      refusal = λ b r a x h.
          subst (λ (v : Answer). settles.Refusal v → (a.offsets ≡ b.offsets) × (a.list ≡ b.list)
          × ((a.rows ≡ b.rows) ⊎ ((v.refusal ≡ 5) × (v.first ≡ 3))))
          (sym x.told.is) (out_refusal f start bits w regs tries b.rows b.offsets b.list x.told.allowed) h;
      rows_beyond = λ b r a x. out_rows f start bits w regs tries b.rows b.offsets b.list x.told.allowed;
      offsets_beyond = λ b r a x. out_offsets f start bits w regs tries b.rows b.offsets b.list x.told.allowed;
      list_beyond = λ b r a x e.
          subst (λ (v : Answer). v.refusal ≡ 0 → Held v.first b.list a.list) (sym x.told.is)
          (out_list f start bits w regs tries b.rows b.offsets b.list x.told.allowed) e;
    }

pub kept_settles : (bits : ℕ) (some : 0 < bits) (w : List ℕ) (regs : ℕ) (tries : List ℕ) (wide : Bool) → KeptSettles bits w regs tries wide
kept_settles bits some w regs tries wide = lists_settle (flow regs w) (route_start bits wide regs w) bits some w regs tries

-- ---- an answer

-- the case that it tells
pub record Told (f : Flow) (start bits : ℕ) (w : List ℕ) (regs : ℕ) (tries : List ℕ) (b : Lists) (r : Answer) (a : Lists) : Type 0 where
  pub out : ListsLeft f start bits w regs tries b.rows b.offsets b.list a.rows a.offsets a.list (Is r.first r.second r.third)

pub told_of : (f : Flow) (start bits : ℕ) (w : List ℕ) (regs : ℕ) (tries : List ℕ) (b : Lists) (r : Answer) (a : Lists) → ListsCall f start bits w regs tries b
    r a → r.refusal ≡ 0
    → Told f start bits w regs tries b r a
told_of f start bits w regs tries b r a x z = go x.told.told x.told.is x.told.allowed
  where
    go : (v : KeptAnswer) → r ≡ kept_told v → ListsLeft f start bits w regs tries b.rows b.offsets b.list a.rows a.offsets a.list v
        → Told f start bits w regs tries b r a
    go (Is n x y) e o = rw e (record { out = o })
    go (No q) e o = absurd (refused_not q (sym (ap (λ (s : Answer). s.refusal) e) ∙ z))

module _ (bits : ℕ) (w : List ℕ) (regs : ℕ) (tries : List ℕ) (wide : Bool) (b : Lists) (r : Answer) (a : Lists) (x : KeptCall bits w regs tries wide b r a)
    (z : r.refusal ≡ 0) where
  out : Outcome bits w regs tries wide b.rows b.offsets b.list a.rows a.offsets a.list (Is r.first r.second r.third)
  out = (told_of (flow regs w) (route_start bits wide regs w) bits w regs tries b r a x z).out

  found : Rows bits wide regs w a.rows r.second r.third
  found = (left bits w regs tries wide b.rows b.offsets b.list out r.first r.second r.third refl).scratch.found

  -- demand 3, least rows and none to spare, from refusal 0
  pub kept_holds : KeptHolds bits w regs tries wide r a
  kept_holds =
      record {
        least = rows_least bits wide regs w a.rows r.second r.third found;
        closed = start_closed (flow regs w) (route_start bits wide regs w);
        below = rows_below bits wide regs w a.rows r.second r.third found;
        last = row_last bits wide regs w a.rows r.second r.third found;
        within = rows_regs bits wide regs w a.rows r.second r.third found;
        sweeps = sweeps_few bits w regs tries wide b.rows b.offsets b.list a.rows a.offsets a.list r.first r.second r.third out;
        few = rows_few bits wide regs w a.rows r.second r.third found;
        stands = λ k h.
            stands bits w regs tries wide b.rows b.offsets b.list a.rows a.offsets a.list r.first r.second r.third out k h;
        keeps = λ k h e. demand_3 bits w regs tries wide b.rows b.offsets b.list a.rows a.offsets a.list r.first r.second r.third
            out k h e;
        spare = λ k h e. none_to_spare bits w regs tries wide b.rows b.offsets b.list a.rows a.offsets a.list r.first r.second
            r.third
            out k h e;
        once = λ k h e. kept_each_once bits w regs tries wide b.rows b.offsets b.list a.rows a.offsets a.list r.first r.second
            r.third
            out k h e;
        empty = λ k h e. no_level bits w regs tries wide b.rows b.offsets b.list a.rows a.offsets a.list r.first r.second r.third
            out k h e;
      }

-- ---- two routes, two widths

pub routes_same : (bits bits' : ℕ) (w : List ℕ) (regs : ℕ) (tries : List ℕ) (wide wide' : Bool) (b b' : Lists) (r r' : Answer) (a a' : Lists)
    → KeptCall bits w regs tries wide b r a → r.refusal ≡ 0 → KeptCall bits' w regs tries wide' b' r' a' → r'.refusal ≡ 0 → SameLists w r r' a a'
routes_same bits bits' w regs tries wide wide' b b' r r' a a' x z x' z' =
    let p = out bits w regs tries wide b r a x z in
    let q = out bits' w regs tries wide' b' r' a' x' z' in
    record {
      total =
          totals_one w regs tries bits bits' wide wide' b.rows b.offsets b.list b'.rows b'.offsets b'.list
          a.rows a.offsets a.list a'.rows a'.offsets a'.list
          r.first r.second r.third r'.first r'.second r'.third p q;
      list =
          lists_one w regs tries bits bits' wide wide' b.rows b.offsets b.list b'.rows b'.offsets b'.list
          a.rows a.offsets a.list a'.rows a'.offsets a'.list
          r.first r.second r.third r'.first r'.second r'.third p q;
      offsets =
          offsets_one w regs tries bits bits' wide wide' b.rows b.offsets b.list b'.rows b'.offsets b'.list
          a.rows a.offsets a.list a'.rows a'.offsets a'.list
          r.first r.second r.third r'.first r'.second r'.third p q;
    }
