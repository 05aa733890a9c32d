-- Survivors keep their origins, in order, folded, cleared and folded again, from the exported answers: document 02, wish 8. Assumes nothing.
use Prim.Native.Nat.{ℕ, ◌*◌, ◌<◌}
use mathlib.Core.Path.{◌≡◌, ap, ◌∙◌}
use mathlib.Core.Bool.{Bool}
use mathlib.Core.List.{List}
use lib.ListN.{take}
use Rattle.refusals.specs.declared.Answer.{Answer}
use Rattle.chunk.specs.Chunk.{stride, chunk_count, origin_at}
use Rattle.chunk.specs.declared.Counts.{Counts}
use Rattle.clear.specs.Clear as clearing
use Rattle.named.specs.Unused.{before}
use Rattle.clear.proofs.Answers.{answered}
use Rattle.clear.proofs.Loads.{recoded_count, recoded_origin}
use Rattle.refold.specs.Lending.{Lending}
use Rattle.refold.specs.Lendable.{clearable, cleared_buffers, counts_cleared}
use Rattle.refold.specs.Origins.{OriginsLeft, Carried}
use Rattle.refold.proofs.Lends.{lends, check_count}
use Rattle.refold.proofs.Origins.{origins_after, carried_fold, carried_same, carried_cut, carried_on}
use Rattle.exported.specs.Calls.{FoldCall, ClearCall}
use Rattle.exported.specs.Told.{folded_of, OriginsKept}
use Rattle.exported.proofs.Folded.{answered_fold, answered_clear}

-- by the marks of death that the call leaves
pub origins_folded : (strict : Bool) (c : Counts) (b : Lending) (r : Answer) (a : Lending) → FoldCall strict c b r a → r.refusal ≡ 0
    → OriginsLeft b.buffers (folded_of r) a.buffers
origins_folded strict c b r a x z = origins_after strict b c (folded_of r) a (answered_fold strict c b r a x z)

-- clearing moves none
pub origins_cleared : (m : ℕ) (b : clearing.PoolBuffers) (r : Answer) (a : clearing.PoolBuffers) → ClearCall m b r a → r.refusal ≡ 0
    → (k : ℕ) → k < chunk_count b.code → origin_at a.code k ≡ origin_at b.code k
origins_cleared m b r a x z k h =
    ap (λ (w : List ℕ). origin_at w k) (answered b m r.first a (answered_clear m b r a x z)).code ∙ recoded_origin (before b.code) m b.code k h

-- a fold, as a step of several
folded : (strict : Bool) (c : Counts) (b : Lending) (r : Answer) (a : Lending) → FoldCall strict c b r a → r.refusal ≡ 0
    → Carried (chunk_count b.buffers.code) b.buffers.code r.first a.buffers.code
folded strict c b r a x z =
    carried_fold (take (chunk_count b.buffers.code) a.buffers.dead) b.buffers.code a.buffers.code r.first (origins_folded strict c b r a x z)

-- ---- fold, clear, fold

module _ (strict : Bool) (c : Counts) (b : Lending) (r : Answer) (a : Lending) (x : FoldCall strict c b r a) (z : r.refusal ≡ 0) where
  abbrev front : List ℕ
  front = take (stride * r.first) a.buffers.code

  -- as many instructions as answered
  whole : chunk_count front ≡ r.first
  whole = check_count front r.first (lends strict b c (folded_of r) a (answered_fold strict c b r a x z)).code

  module _ (scratch : List ℕ) (s : Answer) (y : clearing.PoolBuffers) (u : ClearCall r.second (clearable (folded_of r) a scratch) s y)
      (zs : s.refusal ≡ 0) where
    cleared : Carried (chunk_count b.buffers.code) b.buffers.code r.first y.code
    cleared =
        carried_on (folded strict c b r a x z)
        (carried_on (carried_cut a.buffers.code r.first)
        (carried_same r.first front y.code
        (λ k h. origins_cleared r.second (clearable (folded_of r) a scratch) s y u zs k (rw whole h))))

    left : chunk_count y.code ≡ r.first
    left =
        let lent = clearable (folded_of r) a scratch in
        ap (λ (w : List ℕ). chunk_count w) (answered lent r.second s.first y (answered_clear r.second lent s y u zs)).code
        ∙ recoded_count (before front) r.second front
        ∙ whole

    again : (strict' : Bool) (t : Answer) (v : Lending) → FoldCall strict' (counts_cleared (folded_of r) c s.first) (cleared_buffers a y) t v
        → t.refusal ≡ 0 → Carried (chunk_count b.buffers.code) b.buffers.code t.first v.buffers.code
    again strict' t v w zt =
        carried_on cleared (rw left at (folded strict' (counts_cleared (folded_of r) c s.first) (cleared_buffers a y) t v w zt))

  pub origins_kept : OriginsKept b c r a
  origins_kept scratch s y u zs = (cleared scratch s y u zs, again scratch s y u zs)
