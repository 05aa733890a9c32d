-- A recorded trace as bytes (document 02, wish 9): its blocks, its slots, its checks and fillers. Assumes nothing.
use Rattle.std.specs.Prelude.{ℕ, zero, suc, ◌+◌, ◌-◌, ◌*◌, ◌/◌, ◌%◌, Bool, false, cond, not, ◌&&◌, ◌||◌, List, eqb, ltb, length, get_or}
use Rattle.laws.specs.Walk.{first}
use Rattle.laws.specs.Some.{some}

-- a u32, little-endian, at byte i
abbrev pub word_at : List ℕ → ℕ → ℕ
word_at t i = get_or t i 0 + 256 * get_or t (i + 1) 0 + 65536 * get_or t (i + 2) 0 + 16777216 * get_or t (i + 3) 0

-- blocks of 512 bytes, 127 slots each; slots are counted through all blocks
unfoldable pub slot_at : List ℕ → ℕ → ℕ
slot_at t s = word_at t (512 * (s / 127) + 4 * (s % 127))

-- slot s holds a filler, all its bits set, and no position
unfoldable pub filler_at : List ℕ → ℕ → Bool
filler_at t s = eqb (slot_at t s) 4294967295

-- the sum of each byte times its place from 1, of m bytes from `at` on
unfoldable pub weighed : List ℕ → ℕ → ℕ → ℕ
weighed t at zero = 0
weighed t at (suc m) = weighed t at m + get_or t (at + m) 0 * suc m

-- 10: a block cut short, or a bad check
unfoldable pub bad_check : List ℕ → ℕ → Bool
bad_check t b = ltb (length t - 512 * b) 512 || not (eqb (weighed t (512 * b) 508) (word_at t (512 * b + 508)))

-- 11: a filler before a position, in this block or at the end of the one before
unfoldable pub follows : List ℕ → ℕ → Bool
follows t s = cond (eqb s 0) false (filler_at t (s - 1) && not (filler_at t s))

-- 11: some slot of block b has a position right after a filler
unfoldable pub bad_fill : List ℕ → ℕ → Bool
bad_fill t b = some (λ j. follows t (127 * b + j)) 127

-- how many blocks, one cut short counted
abbrev pub blocks_of : List ℕ → ℕ
blocks_of t = (length t + 511) / 512

-- the steps of a trace of whole blocks: its slots before the first filler
unfoldable pub steps_of : List ℕ → ℕ
steps_of t = first (filler_at t) 0 (127 * (length t / 512))
