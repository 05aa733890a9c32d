-- What a Phi writes, read on some path: the paths of `dead_phi` of block.rs. Assumes nothing.
use Rattle.std.specs.Prelude.{ℕ, ◌+◌, Bool, not, ◌&&◌, ◌||◌, List, eqb}
use Rattle.ops.specs.Op.{Jump, ForIterR, LoadName, StoreName, ReturnR, ReturnValue, Raise}
use Rattle.code.specs.Ins.{ins_at, count}
use Rattle.code.specs.declared.Ins.{Ins}
use Rattle.roles.specs.Kinds.{kinds_of, has, is_jump, dest, none}
use Rattle.roles.specs.Kinds as field
use Rattle.paths.specs.Search.{Reach, ways}

-- r stands in a field that `role` reads
abbrev pub in_fields : ℕ → Ins → ℕ → Bool
in_fields k i r = has field.a k && eqb i.a r || has field.b k && eqb i.b r || has field.c k && eqb i.c r

-- i reads r: by its role, but for a `for` step, which writes the b that its role names; with no role, a LoadName of r
unfoldable pub phi_reads : Ins → ℕ → Bool
phi_reads i r =
    not (has none (kinds_of i)) && not (eqb i.op ForIterR) && in_fields (kinds_of i) i r
    || has none (kinds_of i) && eqb i.op LoadName && eqb i.a r

-- i writes r: by its role, or as the item of a `for` step; with no role, a StoreName of r
unfoldable pub phi_writes : Ins → ℕ → Bool
phi_writes i r =
    not (has none (kinds_of i)) && (eqb i.op ForIterR && eqb i.b r || not (eqb i.op ForIterR) && has dest (kinds_of i) && eqb i.a r)
    || has none (kinds_of i) && eqb i.op StoreName && eqb i.a r

-- a path stops at i: r is written, or the code is left
unfoldable pub stops : Ins → ℕ → Bool
stops i r = phi_writes i r || eqb i.op ReturnR || eqb i.op ReturnValue || eqb i.op Raise

-- the same of the instruction at j
unfoldable pub reads_at : List ℕ → ℕ → ℕ → Bool
reads_at w r j = phi_reads (ins_at w j) r

-- a path in search of r stops at the instruction at j
unfoldable pub stops_at : List ℕ → ℕ → ℕ → Bool
stops_at w r j = stops (ins_at w j) r

-- control goes on from i to the next, but from a Jump
abbrev pub goes_on : Ins → Bool
goes_on i = not (eqb i.op Jump)

-- where control goes from j: to the next; to a, from a jump
unfoldable pub leads_at : List ℕ → ℕ → List ℕ
leads_at w j = ways (goes_on (ins_at w j)) (j + 1) (is_jump (ins_at w j)) (ins_at w j).a

-- some path from j, over instructions that do not stop it, comes to one that reads r
abbrev pub Read : List ℕ → ℕ → ℕ → Type 0
Read w r j = Reach (count w) (reads_at w r) (stops_at w r) (leads_at w) j
