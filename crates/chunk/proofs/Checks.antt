-- Laws of `chunk_check_of`: which code it accepts. Assumes nothing.
use mathlib.Core.Path.{◌≡◌}
use mathlib.Core.List.{List}
use Prim.Native.Nat.{ℕ, ◌%◌, ◌≤◌}
use native.Mathlib.Omega.{arith}
use lib.ListN.{length}
use Rattle.std.proofs.lemmas.Bool.Decides.{nat_tests}
use Rattle.std.specs.declared.result.Result.TheVariants.{Ok}
use Rattle.chunk.specs.Chunk.{stride, chunk_count}
use Rattle.chunk.specs.Check.{first_bad_of, chunk_check_of}

pub accepted : (w : List ℕ) (n : ℕ) → length w % stride ≡ 0 → n ≡ chunk_count w → n ≤ 65535 → n ≤ first_bad_of w → chunk_check_of w ≡ Ok n
unfolding chunk_check_of
accepted w n even is few good = grind (arith, nat_tests)
