-- What only the inside of `lent` needs: contracts of inner functions and proofs cite it, no promise does. Assumes nothing.
use Rattle.std.specs.Prelude.{ℕ, ◌+◌, ◌/◌, Bool, false, cond, ◌&&◌, leb, ltb}
use Rattle.chunk.specs.declared.Counts.{Counts}
use Rattle.chunk.specs.declared.Lens.{Lens}

-- room for any chunk of n instructions
unfoldable pub ample : ℕ → Counts → Lens → Bool
ample n c l =
    cond (ltb 65536 c.constants) false
    (leb (c.constants + n) l.kinds && leb (c.constants + n) l.words && (leb n l.map && leb n (l.sources / 2) && leb c.sources l.sources)
    && leb n l.dead && ltb n l.remap)
