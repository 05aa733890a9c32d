-- Where a chunk's jumps and handlers land: document 02, wishes 2 and 10. Assumes nothing.
use Rattle.std.specs.Prelude.{ℕ, ◌+◌, ◌*◌, ◌/◌, ◌≡◌, Bool, false, ◌&&◌, ◌||◌, List, [], ◌∷◌, eqb, ltb, leb, length, get_or}
use Rattle.laws.specs.All.{many}
use Rattle.laws.specs.Some.{some}
use Rattle.laws.specs.Each.{each}
use Rattle.ops.specs.Op.{LoadConst}
use Rattle.chunk.specs.Chunk.{chunk_count, op_at, operand_at, marks_jump, lands}

-- the tries are pairs (s, h): the handler of try j
abbrev pub handler_at : List ℕ → ℕ → ℕ
handler_at tries j = get_or tries (2 * j + 1) 0

-- instruction k is a jump to t
abbrev pub jump_lands : List ℕ → ℕ → ℕ → Bool
jump_lands w t k = marks_jump w k && eqb (operand_at w k) t

-- the handler of try j stands at t
abbrev pub handler_lands : List ℕ → ℕ → ℕ → Bool
handler_lands tries t j = eqb (handler_at tries j) t

-- how many jumps and handlers land on t
unfoldable pub landings_at : List ℕ → List ℕ → ℕ → ℕ
landings_at w tries t = many (jump_lands w t) (chunk_count w) + many (handler_lands tries t) (length tries / 2)

-- for each position 0 to n
unfoldable pub landings_of : List ℕ → List ℕ → List ℕ
unfolding landings_at
landings_of w tries = each (λ t. landings_at w tries t ∷ []) (chunk_count w + 1)

-- any jump of the chunk lands there
unfoldable pub lands_any : List ℕ → ℕ → ℕ → Bool
unfolding lands
lands_any w p i = some (lands w p i) (chunk_count w)

-- a handler in (p, i]
unfoldable pub handles : List ℕ → ℕ → ℕ → ℕ → Bool
handles tries p i j = ltb p (handler_at tries j) && leb (handler_at tries j) i

-- wish 2: any handler of the chunk there
unfoldable pub handles_any : List ℕ → ℕ → ℕ → Bool
unfolding handles
handles_any tries p i = some (handles tries p i) (length tries / 2)

-- strict mode: no fold if a jump or a handler of the chunk lands there
unfoldable pub barred : Bool → List ℕ → List ℕ → ℕ → ℕ → Bool
unfolding lands_any handles_any
barred strict w tries p i = strict && (lands_any w p i || handles_any tries p i)

-- no LoadConst has the jump mark: a record rule
abbrev pub Unmarked : List ℕ → Type 0
Unmarked w = (k : ℕ) → op_at w k ≡ LoadConst → marks_jump w k ≡ false
