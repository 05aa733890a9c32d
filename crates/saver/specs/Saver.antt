-- The frame saver (document 02, wish 4): its words, and what making it and an entry answer and leave. Assumes nothing.
use Rattle.std.specs.Prelude.{ℕ, ◌+◌, ◌≡◌, cond, List, ltb, length, get_or, set}
use Rattle.std.proofs.lemmas.List.Edits.{sets}
use Rattle.taken.specs.Lists.{first_strange}
use Rattle.area.specs.Area.{free_of, need_of, entry_of}
use Rattle.std.specs.declared.result.Result.{Result}
use Rattle.std.specs.declared.result.Result.TheVariants.{Ok, Err}
use Rattle.saver.specs.declared.SaverRefusal.{SaverRefusal}
use Rattle.saver.specs.declared.SaverRefusal.TheVariants.{Registers, Listed, Full}

-- what a call answers: the words of the area in use after it, or why it is refused
abbrev pub SaverAnswer : Type 0
SaverAnswer = Result ℕ SaverRefusal

-- A saver's words: its head (the number of registers, the words of the area in use), the save area, and the register file.
pub record Saver : Type 0 where
  pub head : List ℕ
  pub area : List ℕ
  pub file : List ℕ

-- a saver with this head, this save area and this register file
abbrev pub saver : List ℕ → List ℕ → List ℕ → Saver
saver h a f = record { head = h; area = a; file = f }

-- the number of registers that its head has
abbrev pub regs_of : Saver → ℕ
regs_of s = get_or s.head 0 0

-- how many words of its area are in use
abbrev pub in_use : Saver → ℕ
in_use s = get_or s.head 1 0

-- what a call leaves, and what it answers
pub record Ends : Type 0 where
  pub left : Saver
  pub answer : SaverAnswer

-- this saver left, and this answer
abbrev pub ends : Saver → SaverAnswer → Ends
ends s a = record { left = s; answer = a }

-- made: refusal 3 for a file above 64; else its length is fixed and no word is in use
abbrev pub made_head : List ℕ → ℕ → List ℕ
made_head head regs = cond (ltb 64 regs) head (set (set head 0 regs) 1 0)

-- what making a saver for so many registers leaves in its head, and what it answers
pub record Made (regs : ℕ) (head new : List ℕ) (r : SaverAnswer) : Type 0 where
  pub words : new ≡ made_head head regs
  pub answer : r ≡ cond (ltb 64 regs) (Err (Registers regs)) (Ok 0)

-- the saver once the list is put aside
abbrev pub entered : Saver → List ℕ → ℕ → Saver
entered s l q = saver (set s.head 1 (in_use s + need_of l)) (sets s.area (in_use s) (entry_of s.file l q)) s.file

-- entered: 3, then 14 with the first such place, then 8 with the free words, which are fewer than twice the list plus two
unfoldable pub enter_of : Saver → List ℕ → ℕ → Ends
enter_of s l q =
    cond (ltb 64 (regs_of s)) (ends s (Err (Registers (regs_of s))))
    (cond (ltb (first_strange (regs_of s) l) (length l)) (ends s (Err (Listed (first_strange (regs_of s) l))))
    (cond (ltb (free_of (in_use s)) (need_of l)) (ends s (Err (Full (free_of (in_use s)))))
    (ends (entered s l q) (Ok (in_use s + need_of l)))))
