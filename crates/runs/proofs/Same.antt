-- A run that ends before strict folding ends alike after it, and back: document 02, wish 14. Assumes nothing.
use Prim.Native.Nat.{ℕ, ◌<◌, zero-le}
use native.Mathlib.Omega.{arith}
use mathlib.Core.Path.{◌≡◌, sym, ap, subst}
use mathlib.Core.Logic.{◌↔◌}
use mathlib.Core.Bool.{true}
use mathlib.Core.List.{List, []}
use lib.ListN.{length, get_or}
use Rattle.laws.proofs.Branch.{or_false}
use Rattle.laws.specs.All.{many}
use Rattle.chunk.specs.Chunk.{chunk_count, op_at}
use Rattle.landings.specs.Landings.{lands_any, handles_any, barred}
use Rattle.fold.specs.Plan.{Chunk}
use Rattle.fold.specs.Pass.{Bars, by_scan, folded, fold_all}
use Rattle.positions.specs.Remap.{live, mapped}
use Rattle.compact.specs.Tables.{compacted}
use Rattle.runs.specs.Machine.{End, Run}
use Rattle.runs.specs.Rule.{known, Ruled}
use Rattle.runs.specs.Kept.{RunEnds, Same}
use Rattle.runs.specs.Inner.{Strict, Fresh}
use Rattle.runs.proofs.Step.{living, living_on, code_of, Fine}
use Rattle.runs.proofs.Pass.{alike, Passed, pass}
use Rattle.runs.proofs.Pack.{pack, unpack}
use Rattle.positions.proofs.Mapped.{map_in}
use Rattle.runs.proofs.Left.{packed, ruled_left}

-- alike, and alike again
module _ {code kinds words code' kinds' words' code'' kinds'' words'' : List ℕ} {n n' n'' : ℕ} where
  pub same_on : Same code kinds words n code' kinds' words' n' → Same code' kinds' words' n' code'' kinds'' words'' n''
      → Same code kinds words n code'' kinds'' words'' n''
  same_on x y = record { ends = λ e run. y.ends e (x.ends e run); back = λ e run. x.back e (y.back e run) }

-- strict mode is, whatever the tries
pub scan_strict : (tries : List ℕ) → Strict (by_scan true tries)
unfolding barred
scan_strict tries w i p e = (or_false (lands_any w p i) (handles_any tries p i) e).0

-- ---- nothing dead: the chunk itself

module _ (code dead kinds words : List ℕ) (n : ℕ) (b : (k : ℕ) → k < n → get_or dead k 0 ≡ 0) (e : End) where
  blank : RunEnds code kinds words n e ↔ Run (living code dead kinds words) n 0 [] e
  blank = (
    λ run. alike (λ k h. living_on code dead kinds words k (b k h)) run,
    λ run. alike (λ k h. sym (living_on code dead kinds words k (b k h))) run,
  )

-- ---- compaction

module _ (s : Chunk) (fine : Fine (length s.dead) s) (e : End) where
  packs : Run (code_of s) (length s.dead) 0 [] e ↔ RunEnds (compacted s.dead s.code) s.kinds s.words (live s.dead (length s.dead)) e
  unfolding many
  packs =
      let w = packed s.code s.dead s.kinds s.words s.constants fine.each in
      let z : mapped s.dead 0 ≡ 0 = map_in s.dead 0 zero-le in
      (λ run. rw z at (pack w run), λ run. unpack w run 0 z)

packs_of : (s : Chunk) (n : ℕ) → length s.dead ≡ n → Fine n s → (e : End)
    → Run (code_of s) n 0 [] e ↔ RunEnds (compacted s.dead s.code) s.kinds s.words (live s.dead (length s.dead)) e
packs_of s n l fine e = rw (← l) (packs s (subst (λ (m : ℕ). Fine m s) (sym l) fine) e)

-- ---- the theorem

module _ (bars : Bars) (strict : Strict bars) (s : Chunk) (fresh : Fresh s) where
  abbrev n : ℕ
  n = length s.dead

  fine : Fine n s
  fine = record { long = omega (arith, fresh.whole); marks = omega arith; each = fresh.each }

  whole : n ≡ chunk_count s.code
  whole = omega (arith, fresh.whole)

  all : Passed bars n s n
  all = pass bars strict n s fine whole fresh.lent n (omega arith)

  is_all : folded bars n s ≡ fold_all bars s
  unfolding fold_all
  is_all = ap (λ (k : ℕ). folded bars k s) whole

  abbrev t : Chunk
  t = folded bars n s

  long : length t.dead ≡ n
  long = all.kept.dead_long

  -- compacted
  runs : (e : End) → RunEnds s.code s.kinds s.words n e ↔ RunEnds (compacted t.dead t.code) t.kinds t.words
      (live t.dead (length t.dead)) e
  runs e =
      let b = blank s.code s.dead s.kinds s.words n (λ k h. fresh.blank k) e in
      let m = all.kept.runs e in
      let p = packs_of t n long all.kept.fine e in
      (λ run. p.0 (m.0 (b.0 run)), λ run. b.1 (m.1 (p.1 run)))

  pub folded_same : Same s.code s.kinds s.words (length s.dead) (compacted (fold_all bars s).dead (fold_all bars s).code)
      (fold_all bars s).kinds (fold_all bars s).words
      (live (fold_all bars s).dead (length (fold_all bars s).dead))
  folded_same = rw (← is_all) (record { ends = λ e run. (runs e).0 run; back = λ e run. (runs e).1 run })

  -- nothing died: the code stays as the pass left it
  pub idle_same : ((k : ℕ) → k < length s.dead → get_or (fold_all bars s).dead k 0 ≡ 0)
      → Same s.code s.kinds s.words (length s.dead) (fold_all bars s).code (fold_all bars s).kinds (fold_all bars s).words (length s.dead)
  idle_same = rw (← is_all) (λ d.
      record {
        ends = λ e run.
            (blank t.code t.dead t.kinds t.words n d e).1 ((all.kept.runs e).0 ((blank s.code s.dead s.kinds
            s.words n (λ k h. fresh.blank k) e).0 run));
        back = λ e run.
            (blank s.code s.dead s.kinds s.words n (λ k h. fresh.blank k) e).1 ((all.kept.runs e).1 ((blank t.code t.dead t.kinds
            t.words n d e).0 run));
      })

  -- ---- and what is left is of the wish's instructions

  module _ (only : (k : ℕ) → k < length s.dead → known (op_at s.code k) ≡ true) where
    still : Ruled t.code t.constants n
    still = record { only = λ k h. all.kept.listed k (only k h); plain = all.kept.fine.each }

    pub idle_ruled : Ruled (fold_all bars s).code (fold_all bars s).constants (length s.dead)
    idle_ruled = rw (← is_all) still

    pub folded_ruled : Ruled (compacted (fold_all bars s).dead (fold_all bars s).code) (fold_all bars s).constants
        (live (fold_all bars s).dead (length (fold_all bars s).dead))
    folded_ruled =
        rw (← is_all)
        (ruled_left t.code t.dead t.kinds t.words t.constants (λ k h. still.plain k (rw long at h)) (λ k h. still.only k (rw long at h)))
