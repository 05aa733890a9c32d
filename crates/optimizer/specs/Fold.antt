-- The folding call: what it answers, and what every lent buffer holds then. Assumes nothing.
use Rattle.std.specs.Prelude.{ℕ, ◌+◌, Bool, List, ◌++◌, length, take, drop, replicate}
use Rattle.std.specs.declared.result.Result.{Result}
use Rattle.std.specs.declared.result.Result.TheVariants.{Ok, Err}
use Rattle.refusals.specs.Answers.{asked}
use Rattle.refusals.specs.declared.Refusal.{Refusal}
use Rattle.chunk.specs.Chunk.{chunk_count}
use Rattle.chunk.specs.Check.{source_room, tally_of, ready_of}
use Rattle.chunk.specs.declared.Counts.{Counts}
use Rattle.chunk.specs.declared.Lens.{Lens}
use Rattle.fold.specs.Plan.{Chunk, chunk}
use Rattle.landings.specs.Landings.{landings_of}
use Rattle.fold.specs.Pass.{Bars, by_scan, fold_all}
use Rattle.positions.specs.Moved.{moved_all}
use Rattle.finish.specs.Finish.{tables, finished}
use Rattle.optimizer.specs.declared.Folded.{Folded}

-- what the call answers: the counts of what is left, or a refusal
abbrev pub FoldAnswer : Type 0
FoldAnswer = Result Folded Refusal

-- the lent buffers, in the order of the call
pub record Buffers : Type 0 where
  pub code : List ℕ
  pub kinds : List ℕ
  pub words : List ℕ
  pub map : List ℕ
  pub sources : List ℕ
  pub stmts : List ℕ
  pub calls : List ℕ
  pub dead : List ℕ
  pub remap : List ℕ

-- these nine buffers as one record
abbrev pub buffers : (code kinds words map sources stmts calls dead remap : List ℕ) → Buffers
buffers code kinds words map sources stmts calls dead remap =
    record { code = code; kinds = kinds; words = words; map = map; sources = sources; stmts = stmts; calls = calls; dead = dead; remap = remap }

-- how long each buffer is, all but the code
abbrev pub lens_of : Buffers → Lens
lens_of b =
    record {
      kinds = length b.kinds;
      words = length b.words;
      map = length b.map;
      sources = length b.sources;
      stmts = length b.stmts;
      calls = length b.calls;
      dead = length b.dead;
      remap = length b.remap;
    }

-- how far phi_sources is needed
abbrev pub sources_needed : Buffers → Counts → ℕ
sources_needed b c = source_room c.sources (tally_of b.code).phis

-- the buffers, each as far as it is needed; the constants are whole
abbrev pub needed : Buffers → Counts → Buffers
needed b c =
    buffers b.code b.kinds b.words (take (chunk_count b.code) b.map) (take (sources_needed b c) b.sources) (take c.stmts b.stmts)
    (take c.calls b.calls)
    (take (chunk_count b.code) b.dead) (take (chunk_count b.code + 1) b.remap)

-- an answer's counts with what the buffers hold
pub record FoldOutcome (A : Type 0) : Type 0 where
  pub answer : A
  pub after : Buffers

module _ {A : Type 0} where
  -- this answer, with what the buffers hold then
  abbrev pub fold_outcome : A → Buffers → FoldOutcome A
  fold_outcome a b = record { answer = a; after = b }

-- the pass over a chunk, from marks that are all 0
unfoldable pub fold_pass : Bars → Chunk → Chunk
fold_pass bars s = fold_all bars (chunk s.code (replicate (length s.dead) 0) s.kinds s.words s.constants)

-- folding, then the Phi pass and compaction, over buffers that are as long as needed
unfoldable pub constant_fold : Bars → Buffers → Counts → FoldOutcome Folded
constant_fold bars b c =
    let f = fold_pass bars (chunk b.code b.dead b.kinds b.words c.constants) in
    let t =
    finished
    (tables f.code b.map b.sources b.stmts b.calls f.dead b.remap
    (record { instructions = length b.dead; map = c.map; sources = c.sources }))
    in
    fold_outcome
    (record { instructions = t.left.instructions; constants = f.constants; map = t.left.map; sources = t.left.sources })
    (buffers t.code f.kinds f.words t.map t.sources t.stmts t.calls t.dead t.remap)

-- words past a needed length are never touched
unfoldable pub joined_buffers : Buffers → Counts → FoldOutcome Folded → FoldOutcome FoldAnswer
joined_buffers b c o =
    let a = o.after in
    fold_outcome (Ok o.answer)
    (buffers a.code a.kinds a.words (a.map ++ drop (chunk_count b.code) b.map) (a.sources ++ drop (sources_needed b c) b.sources)
    (a.stmts ++ drop c.stmts b.stmts) (a.calls ++ drop c.calls b.calls) (a.dead ++ drop (chunk_count b.code) b.dead)
    (a.remap ++ drop (chunk_count b.code + 1) b.remap))

-- a fold with the tries and the table of landings after it
pub record Settled : Type 0 where
  pub fold : FoldOutcome Folded
  pub tries : List ℕ
  pub landings : List ℕ

-- this fold, with these tries and this table of landings after it
abbrev pub settled : FoldOutcome Folded → List ℕ → List ℕ → Settled
settled o tries landings = record { fold = o; tries = tries; landings = landings }

-- no fold over a landing in strict mode; then the tries follow, and the table counts what lands in the chunk that is left
unfoldable pub fold_lent : Bool → List ℕ → Buffers → Counts → Settled
fold_lent strict tries b c =
    let o = constant_fold (by_scan strict tries) b c in
    let t = moved_all o.after.dead tries in
    settled o t (landings_of o.after.code t)

-- the call's answer, and what all that is lent holds then
pub record Called : Type 0 where
  pub result : FoldOutcome FoldAnswer
  pub tries : List ℕ
  pub landings : List ℕ

-- this result, with what the tries and the table of landings hold then
abbrev pub called : FoldOutcome FoldAnswer → List ℕ → List ℕ → Called
called o tries landings = record { result = o; tries = tries; landings = landings }

-- the call's answer after a fold of what is needed: the words past that are put back as they were lent
unfoldable pub rejoined : Buffers → List ℕ → Counts → Settled → Called
rejoined b landings c s = called (joined_buffers b c s.fold) s.tries (s.landings ++ drop (chunk_count b.code + 1) landings)

-- refusals 1, 2, 4, 7 and 5, which leave all that is lent untouched; else the fold
unfoldable pub fold_call : Bool → Buffers → List ℕ → List ℕ → Counts → Called
fold_call strict b tries landings c =
    asked (ready_of b.code tries b.kinds b.words c (lens_of b) (length landings)) (λ r. called (fold_outcome (Err r) b) tries landings)
    (rejoined b landings c (fold_lent strict tries (needed b c) c))
