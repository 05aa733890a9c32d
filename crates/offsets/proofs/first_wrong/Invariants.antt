-- `offsets::first_wrong` meets its contract. Assumes nothing.
use mathlib.Core.Path.{◌≡◌}
use Prim.Native.Nat.{◌+◌, ◌-◌}
use Rattle.code.specs.Ins.{count}
use Rattle.laws.specs.Walk.{first}
use Rattle.offsets.specs.Offsets.{wrong, first_wrong}
use Rattle.offsets.proofs.first_wrong.Given as goal

abbrev pub invariant-loop-k : goal.invariant-loop-k
invariant-loop-k l = (l.m ≡ count l.code + 1) × (first (wrong l.code l.offsets l.len) l.k (l.m - l.k) ≡ first_wrong l.code l.offsets l.len)
