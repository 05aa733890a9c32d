-- What only the inside of `phi_pass` needs: contracts of inner functions and proofs cite it, no promise does. Assumes nothing.
use Rattle.std.specs.Prelude.{ℕ, ◌/◌, ◌%◌, List, [], ◌∷◌}

-- pairs out of words of 32 bits, the first of each pair above the second
unfoldable pub spread : List ℕ → List ℕ
spread [] = []
spread (q ∷ qs) = q / 65536 ∷ q % 65536 ∷ spread qs
