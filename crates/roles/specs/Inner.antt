-- What only the inside of `roles` needs: contracts of inner functions and proofs cite it, no promise does. Assumes nothing.
use Rattle.std.specs.Prelude.{◌≡◌, cond, ℕ, eqb}
use Rattle.ops.specs.Op.{Raise}
use Rattle.roles.specs.Kinds.{says, rule_of, none}

-- the byte k of an opcode and a column is what the rule says where a is 0, and but for Raise where it is 1
pub record EntrySays (o x k : ℕ) : Type 0 where
  pub zero : k ≡ says (rule_of o) x 0
  pub one : cond (eqb o Raise) none k ≡ says (rule_of o) x 1
