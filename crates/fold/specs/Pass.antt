-- What a fold does to a chunk, and the pass over it: document 01, 'Folding'.
use Rattle.std.specs.Prelude.{ℕ, zero, suc, ◌+◌, ◌*◌, Bool, cond, List, eqb, get_or, set}
use Rattle.ops.specs.Op.{LoadConst, LoadTrue, LoadFalse}
use Rattle.chunk.specs.Chunk.{stride, chunk_count}
use Rattle.values.specs.declared.Val.{Val}
use Rattle.values.specs.declared.Val.TheVariants.{Int, Float as Real, Bool as Truth}
use Rattle.pool.specs.Pool.{Stored, find_or_push_const}
use Rattle.landings.specs.Landings.{barred}
use Rattle.landings.specs.Latest.{latest, is_landing}
use Rattle.fold.specs.Plan.{Chunk, chunk, after, plan_at}
use Rattle.std.specs.declared.option.Option.{Option}
use Rattle.std.specs.declared.option.Option.TheVariants.{Some, None}
use Rattle.fold.specs.declared.Plan.{Plan}
use Rattle.fold.specs.declared.Load.{Load}

-- the load of o and x, where there are m constants then
abbrev pub to_load : ℕ → ℕ → ℕ → Option Load
to_load o x m = Some (record { opcode = o; operand = x; constants = m })

-- a result as a load, and the pool with it
pub record Loading : Type 0 where
  pub load : Option Load
  pub kinds : List ℕ
  pub words : List ℕ

-- this load, with the pool's kinds and words
abbrev pub loading : Option Load → List ℕ → List ℕ → Loading
loading l kinds words = record { load = l; kinds = kinds; words = words }

-- a LoadConst of where it is kept; no room, no fold
abbrev pub load_of : Option (ℕ × ℕ) → Option Load
load_of (Some k) = to_load LoadConst k.0 k.1
load_of None = None

-- a result that the pool keeps, as a load; none where the pool had no room for it
abbrev pub from_pool : Stored → Loading
from_pool s = loading (load_of s.kept) s.kinds s.words

-- a result bool becomes LoadTrue or LoadFalse with operand 0; an int or float is a LoadConst
unfoldable pub const_load : Val → List ℕ → List ℕ → ℕ → Loading
const_load (Int z) kinds words n = from_pool (find_or_push_const kinds words n (Int z))
const_load (Real x) kinds words n = from_pool (find_or_push_const kinds words n (Real x))
const_load (Truth b) kinds words n = loading (to_load (cond b LoadTrue LoadFalse) 0 n) kinds words

-- LoadConst has 'names a constant', bit 1; LoadTrue and LoadFalse drop it
unfoldable pub mark_of : ℕ → ℕ
mark_of o = cond (eqb o LoadConst) 2 0

-- a load with its mark, at p
unfoldable pub put : List ℕ → ℕ → ℕ → ℕ → List ℕ
unfolding mark_of
put w p o x = set (set (set w (stride * p) o) (stride * p + 1) (mark_of o)) (stride * p + 2) x

-- the result stands in the first operand's place; the operator and any second operand die
unfoldable pub landed : Option Load → List ℕ → List ℕ → ℕ → ℕ → ℕ → Chunk → Chunk
unfolding put
landed (Some l) kinds words p q i s = chunk (put s.code p l.opcode l.operand) (set (set s.dead q 1) i 1) kinds words l.constants
landed None kinds words p q i s = chunk s.code s.dead kinds words s.constants

-- the chunk once the plan for the operator at i is carried out; it is as it was where there is no fold or no room for the result
unfoldable pub applied : Option Plan → ℕ → Chunk → Chunk
unfolding landed const_load
applied None i s = s
applied (Some f) i s =
    let l = const_load f.value s.kinds s.words s.constants in
    landed l.load l.kinds l.words f.at f.dies i s

-- one attempt, of an operator that is not dead
unfoldable pub try_fold : (ℕ → Bool) → ℕ → Chunk → Chunk
unfolding applied plan_at
try_fold bars i s = cond (eqb (get_or s.dead i 0) 0) (applied (plan_at bars i s) i s) s

-- what bars a fold: in this code, of the operator at i, whose first operand is at p
abbrev pub Bars : Type 0
Bars = List ℕ → ℕ → ℕ → Bool

-- strict mode: any jump or handler of the chunk in (p, i]; plain mode bars nothing
abbrev pub by_scan : Bool → List ℕ → Bars
by_scan strict tries w i p = barred strict w tries p i

-- the same by a table of landings: the last one at or before i is past p
abbrev pub by_table : Bool → List ℕ → Bars
by_table strict l w i p = after (latest (is_landing strict l) (suc i)) p

-- operators are tried once each, first to last: the first k of them
unfoldable pub folded : Bars → ℕ → Chunk → Chunk
unfolding try_fold
folded bars zero s = s
folded bars (suc k) s = try_fold (bars (folded bars k s).code k) k (folded bars k s)

-- the whole pass: every instruction of the chunk is tried
unfoldable pub fold_all : Bars → Chunk → Chunk
unfolding folded
fold_all bars s = folded bars (chunk_count s.code) s
