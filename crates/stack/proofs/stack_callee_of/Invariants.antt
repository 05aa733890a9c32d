-- `stack::stack_callee_of` meets its contract: what is left has the answer of the whole, and the depth fits. Assumes nothing.
use mathlib.Core.Path.{◌≡◌}
use Prim.Native.Nat.{◌+◌, ◌-◌, ◌*◌, ◌≤◌}
use Rattle.stack.specs.Stack.{pushed_at, stack_callee}
use Rattle.stack.proofs.stack_callee_of.Given as goal

abbrev pub invariant-loop-k : goal.invariant-loop-k
invariant-loop-k l = (l.need ≤ 65536 * (1 + (l.j - l.k))) × (pushed_at l.code l.k l.need ≡ stack_callee l.code l.j l.n)
