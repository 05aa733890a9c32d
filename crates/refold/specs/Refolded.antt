-- Folding a cleared chunk does what folding it uncleared does. Assumes nothing.
use Rattle.std.specs.Prelude.{◌≡◌, true, false, ℕ, ◌≤◌, length}
use Rattle.chunk.specs.Chunk.{op_at, mark_at, operand_at, names}
use Rattle.optimizer.specs.Fold.{Buffers}
use Rattle.optimizer.specs.declared.Folded.{Folded}
use Rattle.named.specs.Unused.{loaded}
use Rattle.refold.specs.Lending.{Lending}

-- two answered folds, f that leaves a and g that leaves y: the same but for where constants stand
pub record Refolded (f : Folded) (a : Buffers) (g : Folded) (y : Buffers) : Type 0 where
  -- the same counts, and no more constants
  pub instructions : g.instructions ≡ f.instructions
  pub entries : g.map ≡ f.map
  pub pairs : g.sources ≡ f.sources
  pub fewer : g.constants ≤ f.constants
  -- the same tables, dead marks and remap
  pub map : y.map ≡ a.map
  pub sources : y.sources ≡ a.sources
  pub stmts : y.stmts ≡ a.stmts
  pub calls : y.calls ≡ a.calls
  pub dead : y.dead ≡ a.dead
  pub remap : y.remap ≡ a.remap
  -- instruction by instruction the same opcode and marks, and the same operand without the mark 'names a constant'
  pub long : length y.code ≡ length a.code
  pub ops : (k : ℕ) → op_at y.code k ≡ op_at a.code k
  pub marks : (k : ℕ) → mark_at y.code k ≡ mark_at a.code k
  pub plain : (k : ℕ) → names a.code k ≡ false → operand_at y.code k ≡ operand_at a.code k
  -- with it, the same kind and word are loaded, or still none
  pub kind : (k : ℕ) → names a.code k ≡ true
      → loaded y.kinds g.constants (operand_at y.code k) ≡ loaded a.kinds f.constants (operand_at a.code k)
  pub word : (k : ℕ) → names a.code k ≡ true
      → loaded y.words g.constants (operand_at y.code k) ≡ loaded a.words f.constants (operand_at a.code k)

-- all that was lent: the same tries and the same table too
pub record RefoldedAll (f : Folded) (a : Lending) (g : Folded) (y : Lending) : Type 0 where
  pub buffers : Refolded f a.buffers g y.buffers
  pub tries : y.tries ≡ a.tries
  pub landings : y.landings ≡ a.landings
