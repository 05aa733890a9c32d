-- A chunk runs as it ran, folded, cleared and folded again, from the exported answers: document 02, wish 14. Assumes nothing.
use Prim.Native.Nat.{ℕ, ◌*◌}
use mathlib.Core.Path.{◌≡◌, ap, ◌∙◌, subst}
use mathlib.Core.Bool.{true}
use mathlib.Core.List.{List}
use lib.ListN.{take}
use Rattle.refusals.specs.declared.Answer.{Answer}
use Rattle.chunk.specs.Chunk.{stride, chunk_count}
use Rattle.chunk.specs.declared.Counts.{Counts}
use Rattle.optimizer.specs.Fold.{Called}
use Rattle.clear.specs.Clear as clearing
use Rattle.named.specs.Unused.{before}
use Rattle.clear.proofs.Answers.{answered}
use Rattle.clear.proofs.Loads.{recoded_count}
use Rattle.refold.specs.Lending.{Lending}
use Rattle.refold.specs.Lendable.{clearable, cleared_buffers, counts_cleared}
use Rattle.refold.proofs.Lends.{lends, check_count}
use Rattle.runs.specs.Rule.{WishRule}
use Rattle.runs.specs.Kept.{Same}
use Rattle.runs.proofs.Call.{keeps_runs, keeps_rule}
use Rattle.runs.proofs.Cut.{cut_same}
use Rattle.runs.proofs.Same.{same_on}
use Rattle.runs.proofs.Cleared.{clear_keeps, clear_rule}
use Rattle.exported.specs.Calls.{FoldCall, ClearCall}
use Rattle.exported.specs.Told.{folded_of, RunsKept, ClearsKept, RunsCleared}
use Rattle.exported.proofs.Folded.{answered_fold, answered_clear}

-- strict mode keeps the end of every run, both ways
pub runs_kept : (c : Counts) (b : Lending) (r : Answer) (a : Lending) → FoldCall true c b r a → r.refusal ≡ 0
    → WishRule b.buffers.code c.constants → RunsKept b r a
runs_kept c b r a x z rule =
    let e = answered_fold true c b r a x z in
    subst (λ (o : Called). RunsKept b r (record { buffers = o.result.after; tries = o.tries; landings = o.landings })) e
    (keeps_runs b.buffers b.tries b.landings c rule (folded_of r) (ap (λ (o : Called). o.result.answer) e))

-- and leaves such a chunk, where the code is cut at the answered count
pub rule_left : (c : Counts) (b : Lending) (r : Answer) (a : Lending) → FoldCall true c b r a → r.refusal ≡ 0
    → WishRule b.buffers.code c.constants → WishRule (take (stride * r.first) a.buffers.code) r.second
rule_left c b r a x z rule =
    let e = answered_fold true c b r a x z in
    subst (λ (o : Called). WishRule (take (stride * r.first) o.result.after.code) r.second) e
    (keeps_rule b.buffers b.tries b.landings c rule (folded_of r) (ap (λ (o : Called). o.result.answer) e))

-- clearing does both
pub clears_kept : (m : ℕ) (b : clearing.PoolBuffers) (r : Answer) (a : clearing.PoolBuffers) → ClearCall m b r a → r.refusal ≡ 0 → WishRule b.code m
    → ClearsKept b r a
clears_kept m b r a x z rule =
    let e = answered_clear m b r a x z in
    record { same = (clear_keeps b m r.first a e rule).same; rule = clear_rule b m r.first a e rule }

-- ---- fold, clear, fold

module _ (c : Counts) (b : Lending) (r : Answer) (a : Lending) (x : FoldCall true c b r a) (z : r.refusal ≡ 0)
    (rule : WishRule b.buffers.code c.constants) where
  abbrev front : List ℕ
  front = take (stride * r.first) a.buffers.code

  -- as many instructions as answered
  whole : chunk_count front ≡ r.first
  whole = check_count front r.first (lends true b c (folded_of r) a (answered_fold true c b r a x z)).code

  cut : Same b.buffers.code b.buffers.kinds b.buffers.words (chunk_count b.buffers.code) front a.buffers.kinds a.buffers.words r.first
  cut = same_on (runs_kept c b r a x z rule) (cut_same a.buffers.code r.first a.buffers.kinds a.buffers.words)

  module _ (scratch : List ℕ) (s : Answer) (y : clearing.PoolBuffers) (u : ClearCall r.second (clearable (folded_of r) a scratch) s y)
      (zs : s.refusal ≡ 0) where
    kept : ClearsKept (clearable (folded_of r) a scratch) s y
    kept = clears_kept r.second (clearable (folded_of r) a scratch) s y u zs (rule_left c b r a x z rule)

    cleared : Same b.buffers.code b.buffers.kinds b.buffers.words (chunk_count b.buffers.code) y.code y.kinds y.words r.first
    cleared = same_on cut (rw whole at kept.same)

    left : chunk_count y.code ≡ r.first
    left =
        let lent = clearable (folded_of r) a scratch in
        ap (λ (w : List ℕ). chunk_count w) (answered lent r.second s.first y (answered_clear r.second lent s y u zs)).code
        ∙ recoded_count (before front) r.second front
        ∙ whole

    again : (t : Answer) (v : Lending) → FoldCall true (counts_cleared (folded_of r) c s.first) (cleared_buffers a y) t v → t.refusal ≡ 0 → RunsKept b t v
    again t v w zt =
        same_on cleared (rw left at (runs_kept (counts_cleared (folded_of r) c s.first) (cleared_buffers a y) t v w zt kept.rule))

  pub runs_cleared : RunsCleared b c r a
  runs_cleared scratch s y u zs = (cleared scratch s y u zs, again scratch s y u zs)
