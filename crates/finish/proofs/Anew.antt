-- Laws of `renewed` and `finished`, from what the parts ensure. Assumes nothing.
use Prim.Native.Nat.{ℕ, ◌-◌, ◌*◌, ◌≤◌}
use native.Mathlib.Omega.{arith}
use mathlib.Core.Path.{◌≡◌, sym, ap, ◌∙◌}
use mathlib.Core.Bool.{Bool, true, false}
use mathlib.Core.List.{List, ◌++◌}
use lib.ListN.{length, take, replicate}
use lib.Seq.{length-take-le}
use Rattle.laws.specs.All.{every, many}
use Rattle.chunk.specs.Chunk.{chunk_count, is_phi}
use Rattle.positions.specs.Remap.{alive}
use Rattle.compact.specs.Inner.{Compacted}
use Rattle.phi_pass.specs.Phi.{marked, pairs_left, indexed}
use Rattle.phi_pass.specs.Inner.{spread}
use Rattle.phi_pass.proofs.Pairs.{spread_length, marked_length}
use Rattle.finish.specs.Finish.{Tables, tables, sources_after, map_count, renewed, finished}
use Rattle.finish.specs.Inner.{TableRoom}
use Rattle.finish.specs.declared.Left.{Left}

pub took : (m : ℕ) (l : List ℕ) → m ≤ length l → m ≡ length (take m l)
took m l h = sym (length-take-le m l h)

-- the surviving pairs, out of the queue
module _ (w map sources dead queue : List ℕ) (m : ℕ) (e : spread (take m queue) ≡ pairs_left w map sources dead) (h : m ≤ length queue) where
  pub words_left : 2 * m ≡ length (pairs_left w map sources dead)
  words_left = omega (arith, ap length e, spread_length (take m queue), length-take-le m queue h)

  pub words_after : (old end : List ℕ) → end ≡ spread (take m queue) ++ replicate (length old - 2 * m) 0 → end ≡ sources_after w map sources dead (length old)
  unfolding sources_after
  words_after old end f = f ∙ rw (e, words_left)

module _ (w map sources stmts calls dead remap : List ℕ) (left : Left) where
  pub renews : (w' map' sources' stmts' calls' remap' : List ℕ) (n k m s : ℕ)
      → s ≡ length (pairs_left w (take left.map map) (take left.sources sources) dead)
      → sources' ≡ sources_after w (take left.map map) (take left.sources sources) dead (length sources)
      → Compacted dead w stmts calls n w' remap' stmts' calls'
      → k ≡ many (is_phi w') (chunk_count w')
      → map' ≡ indexed w'
      → m ≡ map_count k n
      → tables w' map' sources' stmts' calls' dead remap' (record { instructions = n; map = m; sources = s })
      ≡ renewed (tables w map sources stmts calls dead remap left)
  unfolding renewed
  renews w' map' sources' stmts' calls' remap' n k m s a b c p q r = rw (r, p, q, a, b, c.stmt, c.call, c.remap, c.code, c.count)

  module _ (d : List ℕ) (e : d ≡ marked w (take left.map map) (take left.sources sources) dead) where
    pub fit_marked : TableRoom (tables w map sources stmts calls dead remap left) → TableRoom (tables w map sources stmts calls d remap left)
    fit_marked f =
        let l : length d ≡ length dead = ap length e ∙ marked_length w (take left.map map) (take left.sources sources) dead in
        record {
          code = rw l f.code;
          few = rw l f.few;
          map = rw l f.map;
          entries = f.entries;
          words = f.words;
          pairs = rw l f.pairs;
          stmts = f.stmts;
          calls = f.calls;
          remap = rw l f.remap;
        }

    pub none_died : (t : Bool) → t ≡ every (alive d) (length d) → t ≡ true
        → tables w map sources stmts calls d remap left ≡ finished (tables w map sources stmts calls dead remap left)
    unfolding finished
    none_died t f g = rw (← e, ← f, g)

    pub some_died : (t : Bool) (after : Tables) → t ≡ every (alive d) (length d) → t ≡ false
        → after ≡ renewed (tables w map sources stmts calls d remap left) → after ≡ finished (tables w map sources stmts calls dead remap left)
    unfolding finished
    some_died t after f g h = rw (← e, ← f, g) h

pub ruleset finishing = (fit_marked, none_died, some_died)
