-- What filling the table of landings needs before the exact fold and after it. Assumes nothing.
use Prim.Native.Nat.{ℕ, ◌+◌, ◌*◌, ◌/◌, ◌≤◌}
use native.Mathlib.Omega.{arith}
use mathlib.Core.Path.{◌≡◌, ap, ◌∙◌}
use mathlib.Core.List.{List}
use lib.ListN.{length}
use Rattle.chunk.specs.Chunk.{stride, chunk_count}
use Rattle.landings.specs.Landings.{landings_of}
use Rattle.landings.proofs.Asked.{table_long}

table_is : (w tries l : List ℕ) → l ≡ landings_of w tries → length l ≡ chunk_count w + 1
table_is w tries l e = ap length e ∙ table_long w tries

pub table_fits : (w tries l : List ℕ) → l ≡ landings_of w tries → chunk_count w ≤ length l
table_fits w tries l e = omega (arith, table_is w tries l e)

-- the second time too: the code is as long as it was
pub fits_again : (w tries l : List ℕ) (n m m' : ℕ) → length w ≡ stride * n → n ≤ 65535 → m ≡ length w → m' ≡ m → l ≡ landings_of w tries
    → (m' / stride ≤ 65535) × (length l ≡ m' / stride + 1)
fits_again w tries l n m m' h few e f g =
    let z : m' / stride ≡ n = omega arith in
    (omega arith, omega (arith, table_is w tries l g))
