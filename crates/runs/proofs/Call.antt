-- The folding call keeps what a rule computes, and leaves a rule: document 02, wish 14. Assumes nothing.
use Prim.Native.Nat.{ℕ, ◌*◌, ◌≤◌, ◌<◌}
use native.Mathlib.Omega.{arith}
use mathlib.Core.Path.{◌≡◌, refl, sym, ◌∙◌, subst}
use mathlib.Core.Bool.{Bool, true, false, cond}
use mathlib.Core.List.{List, [], ◌∷◌}
use lib.Dec.{eqb}
use lib.ListN.{length, get_or, take, replicate, length-replicate}
use lib.Seq.{length-take-le, ext_get_or}
use borrow.Author.Tests.{eqb-true}
use Rattle.laws.specs.All.{every}
use Rattle.laws.specs.Each.{each}
use Rattle.laws.proofs.Each.{each_word, each_at}
use Rattle.ops.specs.Op.{Phi}
use Rattle.chunk.specs.Chunk.{stride, chunk_count, op_at, is_phi, folds}
use Rattle.chunk.specs.declared.Counts.{Counts}
use Rattle.laws.proofs.Counting.{every_at, zeros_at}
use Rattle.fold.specs.Plan.{Chunk, chunk}
use Rattle.fold.specs.Pass.{Bars, by_scan, fold_all}
use Rattle.fold.specs.Inner.{PassRoom}
use Rattle.fold.proofs.Passed.{all_passed}
use Rattle.positions.specs.Remap.{alive, live}
use Rattle.compact.specs.Tables.{compacted}
use Rattle.phi_pass.specs.Phi.{paired, noop, phi_mark_at, marked}
use Rattle.finish.specs.Finish.{Tables, tables, map_of, sources_of, renewed, finished}
use Rattle.std.specs.declared.result.Result.TheVariants.{Ok}
use Rattle.optimizer.specs.Fold.{Buffers, needed, fold_pass, constant_fold, joined_buffers, fold_lent, rejoined, fold_call}
use Rattle.optimizer.specs.Inner.{Exact}
use Rattle.optimizer.specs.declared.Folded.{Folded}
use Rattle.optimizer.proofs.Answered.{answered}
use Rattle.runs.specs.Kept.{Same}
use Rattle.runs.specs.Inner.{RunsAs, Strict, Fresh}
use Rattle.runs.specs.Rule.{known, WishRule}
use Rattle.runs.proofs.Same.{scan_strict, folded_same, idle_same, folded_ruled, idle_ruled}
use Rattle.runs.proofs.Cut.{cut_rule}

-- a rule has no Phi
no_phi : (o : ℕ) → known o ≡ true → eqb o Phi ≡ false
unfolding known folds
no_phi o e = go (eqb o Phi) refl
  where
    go : (t : Bool) → eqb o Phi ≡ t → t ≡ false
    go true q = let z : known Phi ≡ true = rw (eqb-true o Phi q) at e in sym z
    go false q = refl

-- so none dies
none_marked : (w map sources dead : List ℕ) → ((k : ℕ) → k < length dead → is_phi w k ≡ false) → marked w map sources dead ≡ dead
unfolding marked phi_mark_at noop paired
none_marked w map sources dead h =
    sym
    (ext_get_or 0 dead (each (λ i. phi_mark_at w map sources dead i ∷ []) (length dead)) (sym (each_word (phi_mark_at w map sources dead) (length dead)))
    (λ k l. sym (each_at (phi_mark_at w map sources dead) (length dead) k l ∙ at k (h k l))))
  where
    at : (k : ℕ) → is_phi w k ≡ false → phi_mark_at w map sources dead k ≡ get_or dead k 0
    at k e = rw e (go (alive dead k) refl)
      where
        go : (t : Bool) → alive dead k ≡ t → cond t 0 (get_or dead k 0) ≡ get_or dead k 0
        go true q = sym (eqb-true (get_or dead k 0) 0 q)
        go false q = refl

module _ (bars : Bars) (strict : Strict bars) (code kinds words map sources stmts calls remap : List ℕ) (constants m p : ℕ) (n : ℕ)
    (whole : length code ≡ stride * n) (lent : PassRoom (chunk code (replicate n 0) kinds words constants)) (rule : WishRule code constants) where
  abbrev s : Chunk
  s = chunk code (replicate n 0) kinds words constants

  abbrev t : Chunk
  t = fold_all bars s

  long : length {A = ℕ} (replicate n 0) ≡ n
  long = length-replicate n 0

  fresh : Fresh s
  fresh =
      record {
        whole = rw long whole;
        blank = zeros_at n;
        lent = lent;
        each = λ k h. rule.plain k (omega (arith, long));
      }

  abbrev tabs : Tables
  tabs = tables t.code map sources stmts calls t.dead remap (record { instructions = n; map = m; sources = p })

  fits : chunk_count code ≤ length {A = ℕ} (replicate n 0)
  fits = omega (arith, long)

  philess : (k : ℕ) → k < length t.dead → is_phi t.code k ≡ false
  philess k h =
      let a = all_passed bars s fits in
      a.phis k ∙ no_phi (op_at code k) (rule.only k (omega (arith, a.dead_long, long)))

  only : (k : ℕ) → k < length s.dead → known (op_at code k) ≡ true
  only k h = rule.only k (omega (arith, long))

  ends_alike : RunsAs code kinds words n (finished tabs).code t.kinds t.words t.constants (finished tabs).left.instructions
  unfolding finished renewed
  ends_alike =
      rw (none_marked t.code (map_of tabs) (sources_of tabs) t.dead philess) (go (every (alive t.dead) (length t.dead)) refl)
    where
      go : (u : Bool) → every (alive t.dead) (length t.dead) ≡ u
          → RunsAs code kinds words n (cond u tabs (renewed tabs)).code t.kinds t.words t.constants (cond u tabs (renewed tabs)).left.instructions
      go true e =
          record {
            same =
                rw long at
                (idle_same bars strict s fresh (λ k h. eqb-true (get_or t.dead k 0) 0 (every_at (alive t.dead)
                (length t.dead) k e (omega (arith, (all_passed bars s fits).dead_long)))));
            rule = rw long at (idle_ruled bars strict s fresh only);
          }
      go false e =
          record {
            same = subst (λ (x : ℕ). Same code kinds words x (compacted t.dead t.code) t.kinds t.words (live t.dead
                (length t.dead))) long (folded_same bars strict s fresh);
            rule = folded_ruled bars strict s fresh only;
          }

-- ---- the call

module _ (b : Buffers) (c : Counts) (x : Exact b c) (rule : WishRule b.code c.constants) (bars : Bars) (strict : Strict bars) where
  fold_same : RunsAs b.code b.kinds b.words (length b.dead) (constant_fold bars b c).after.code (constant_fold bars b c).after.kinds
      (constant_fold bars b c).after.words (constant_fold bars b c).answer.constants (constant_fold bars b c).answer.instructions
  unfolding constant_fold fold_pass
  fold_same =
      ends_alike bars strict b.code b.kinds b.words b.map b.sources b.stmts b.calls b.remap c.constants c.map c.sources
      (length b.dead) x.whole
      (record {
        few = x.constants;
        marks = omega (arith, x.whole, length-replicate {A = ℕ} (length b.dead) 0);
        kinds_room = x.kinds;
        words_room = x.words;
      })
      rule

module _ (b : Buffers) (tries landings : List ℕ) (c : Counts) (rule : WishRule b.code c.constants) (f : Folded)
    (e : (fold_call true b tries landings c).result.answer ≡ Ok f) where
  keeps_all : RunsAs b.code b.kinds b.words (chunk_count b.code) (fold_call true b tries landings c).result.after.code
      (fold_call true b tries landings c).result.after.kinds (fold_call true b tries landings c).result.after.words f.constants f.instructions
  unfolding rejoined joined_buffers fold_lent
  keeps_all =
      let a = answered true b tries landings c f e in
      let o = constant_fold (by_scan true tries) (needed b c) c in
      let l : length (take (chunk_count b.code) b.dead) ≡ chunk_count b.code = length-take-le (chunk_count b.code) b.dead a.held.dead in
      let y = fold_same (needed b c) c a.exact rule (by_scan true tries) (scan_strict tries) in
      rw a.is
      (subst
      (λ (g : Folded).
      RunsAs b.code b.kinds b.words (chunk_count b.code) o.after.code o.after.kinds o.after.words g.constants g.instructions)
      a.counts
      (subst
      (λ (k : ℕ). RunsAs b.code b.kinds b.words k o.after.code o.after.kinds o.after.words o.answer.constants
      o.answer.instructions)
      l y))

  -- Every run from an empty stack that ends before folding ends after it with the same stack or the same stop, and back.
  pub keeps_runs : Same b.code b.kinds b.words (chunk_count b.code) (fold_call true b tries landings c).result.after.code
      (fold_call true b tries landings c).result.after.kinds (fold_call true b tries landings c).result.after.words f.instructions
  keeps_runs = keeps_all.same

  -- What is left, cut at the answered count, is such a chunk again.
  pub keeps_rule : WishRule (take (stride * f.instructions) (fold_call true b tries landings c).result.after.code) f.constants
  keeps_rule = cut_rule (fold_call true b tries landings c).result.after.code f.instructions f.constants keeps_all.rule
