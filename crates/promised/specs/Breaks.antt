-- Why strict mode is asked for: the plain mode does not keep the runs of P13's code. Assumes nothing.
use Rattle.std.specs.Prelude.{[], ◌∷◌, false}
use Rattle.optimizer.specs.Fold.{FoldOutcome, FoldAnswer}
use Rattle.runs.specs.Rule.{WishRule}
use Rattle.runs.specs.Kept.{Same}
use Rattle.marked.specs.Marked.{code13, folded_call}

-- what the plain mode leaves of it
abbrev pub plainly : FoldOutcome FoldAnswer
plainly = folded_call false code13 (1 ∷ 1 ∷ 9 ∷ []) (2 ∷ 3 ∷ 9 ∷ []) 2

-- plain mode breaks what wish 14 asks for: P13's code is such a chunk, and a run before the fold and one after it do not end alike
pub record Breaks : Type 0 where
  -- P13's code is a chunk as wish 14 has it
  pub rule : WishRule code13 2
  -- and not both of its runs end alike: before the fold it ends, after it never
  pub breaks : Same code13 (1 ∷ 1 ∷ 9 ∷ []) (2 ∷ 3 ∷ 9 ∷ []) 4 plainly.after.code plainly.after.kinds plainly.after.words 2 → ⊥
