-- The save area (document 02, wish 4): what an entry stores, the newest entry, registers put back. Assumes nothing.
use Rattle.std.specs.Prelude.{ℕ, zero, suc, ◌+◌, ◌-◌, ◌*◌, ◌/◌, cond, List, [], ◌∷◌, ◌++◌, ltb, length, get_or, set}
use Rattle.std.specs.declared.option.Option.{Option}
use Rattle.std.specs.declared.option.Option.TheVariants.{Some, None}
use Rattle.area.specs.declared.Entry.{Entry}

-- the area has 4,096 words
abbrev pub free_of : ℕ → ℕ
free_of used = 4096 - used

-- twice the list plus two
abbrev pub need_of : List ℕ → ℕ
need_of l = 2 * length l + 2

-- number and value of each listed register
unfoldable pub pairs_of : List ℕ → List ℕ → List ℕ
pairs_of file [] = []
pairs_of file (r ∷ l) = r ∷ get_or file r 0 ∷ pairs_of file l

-- what an entry stores: those, the list's length, and the result register's number
unfoldable pub entry_of : List ℕ → List ℕ → ℕ → List ℕ
entry_of file l q = pairs_of file l ++ (length l ∷ q ∷ [])

-- a register is written, if it is in the file
abbrev pub put_in : ℕ → ℕ → ℕ → List ℕ → List ℕ
put_in regs r v file = cond (ltb r regs) (set file r v) file

-- the numbers and values of m registers, from word p of the area on, put back one after the other
unfoldable pub put_back : ℕ → List ℕ → ℕ → ℕ → List ℕ → List ℕ
put_back regs area p zero file = file
put_back regs area p (suc m) file = put_back regs area (suc (suc p)) m (put_in regs (get_or area p 0) (get_or area (suc p) 0) file)

-- an entry by where it begins, its list's length and its result register
abbrev pub entry : ℕ → ℕ → ℕ → Entry
entry base len q = record { base = base; len = len; res = q }

-- The newest entry ends where the words in use end: its list's length, then its result register. None where there are too few words.
unfoldable pub top_of : ℕ → List ℕ → Option Entry
top_of used area =
    let end = used - 2 in
    let len = get_or area end 0 in
    cond (ltb used 2) None
    (cond (ltb 4096 used) None
    (cond (ltb (end / 2) len) None
    (Some (entry (end - 2 * len) len (get_or area (end + 1) 0)))))
