-- The plain mode does not keep the runs of P13's code. Assumes nothing.
use Prim.Native.Nat.{ℕ, zero, suc, ◌<◌}
use native.Mathlib.Omega.{arith}
use mathlib.Core.Path.{◌≡◌, refl, subst}
use mathlib.Core.List.{[], ◌∷◌}
use mathlib.Core.Bool.{true}
use Rattle.chunk.specs.Chunk.{op_at, folds}
use Rattle.optimizer.specs.Fold.{FoldOutcome, FoldAnswer}
use Rattle.runs.specs.Machine.{Plain}
use Rattle.runs.specs.Rule.{known}
use Rattle.runs.specs.Kept.{Same}
use Rattle.runs.proofs.Examples as example
use Rattle.marked.specs.Marked.{code13}
use Rattle.promised.specs.Breaks.{Breaks}
use Rattle.marked.proofs.Marked.{marked}

only : (k : ℕ) → k < 4 → known (op_at code13 k) ≡ true
unfolding known folds
only zero h = refl
only (suc zero) h = refl
only (suc (suc zero)) h = refl
only (suc (suc (suc zero))) h = refl
only (suc (suc (suc (suc k)))) h = absurd (omega arith)

each : (k : ℕ) → k < 4 → Plain code13 2 k
each zero h = record { marks = refl; there = λ e. omega arith }
each (suc zero) h = record { marks = refl; there = λ e. omega arith }
each (suc (suc zero)) h = record { marks = refl; there = λ e. omega arith }
each (suc (suc (suc zero))) h = record { marks = refl; there = λ e. absurd (omega arith) }
each (suc (suc (suc (suc k)))) h = absurd (omega arith)

pub plain_breaks : Breaks
plain_breaks =
    record {
      rule = record { only = only; plain = each };
      breaks = λ same.
          example.plain_breaks
          (subst
          (λ (o : FoldOutcome FoldAnswer). Same code13 (1 ∷ 1 ∷ 9 ∷ []) (2 ∷ 3 ∷ 9 ∷ []) 4 o.after.code o.after.kinds o.after.words 2)
          marked.p13.0 same);
    }
