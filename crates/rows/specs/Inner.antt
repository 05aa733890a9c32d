-- What only the inside of `rows` needs: contracts of inner functions and proofs cite it, no promise does. Assumes nothing.
use Rattle.std.specs.Prelude.{ℕ, Bool, List}
use Rattle.flow.specs.Sweep.{Found}
use Rattle.steps.specs.Code.{flow}
use Rattle.rows.specs.Route.{route_start, rows_in}

-- what the words hold are the rows that the definition's sweeps find, and the counts are theirs
abbrev pub Rows : ℕ → Bool → ℕ → List ℕ → List ℕ → ℕ → ℕ → Type 0
Rows bits wide regs w buf full abandoned = Found (flow regs w) (route_start bits wide regs w) (rows_in bits regs w buf) full abandoned
