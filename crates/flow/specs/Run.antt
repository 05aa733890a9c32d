-- Demand 3's stepping machine. A register file is a list with the register count's entries; a higher number is neither read nor written.
-- Assumes nothing.
use Rattle.std.specs.Prelude.{List, [], ◌∷◌, map, cond, ℕ, zero, suc, ltb, length, get_or, drop}
use Rattle.flow.specs.Set.{bit}
use Rattle.flow.specs.Flow.{Flow, reach}
use Rattle.flow.specs.Listed.{listed}

-- the values of the registers of a set
abbrev pub values_of : Flow → ℕ → List ℕ → List ℕ
values_of f s file = map (λ r. get_or file r 0) (listed f.regs 0 s)

-- a file, m entries from register r on, with the registers of a set written: each takes its entry of a supplied list
abbrev pub wrote : ℕ → List ℕ → List ℕ → ℕ → ℕ → List ℕ
wrote s new file r zero = []
wrote s new file r (suc m) = cond (ltb 0 (bit s r)) (get_or new r 0) (get_or file r 0) ∷ wrote s new file (suc r) m

-- the file once the given-up registers of k are written
abbrev pub rewritten : Flow → ℕ → List ℕ → List ℕ → List ℕ
rewritten f k new file = wrote (f.given_up k) new file 0 f.regs

-- the first choices are the handlers that k may leave for, with the file as it is; the others have the given-up registers written
abbrev pub file_after : Flow → ℕ → ℕ → List ℕ → List ℕ → List ℕ
file_after f k choice new file = cond (ltb choice (length (f.raises k))) file (rewritten f k new file)

-- the position that a choice picks of those that may come next; n if there is none such, as after a return
abbrev pub chosen : Flow → ℕ → ℕ → ℕ
chosen f k choice = get_or (reach f k) choice f.size

-- A step at k records k and the values of used registers, writes the given-up ones from a supplied list, and moves to a position that
-- "after" names, by a supplied choice; or it raises, writes none, and moves to a handler. At n or beyond the run ends.
unfoldable pub run : Flow → List ℕ → List (List ℕ) → ℕ → List ℕ → List (ℕ × List ℕ)
run f [] news k file = []
run f (choice ∷ choices) news k file = cond (ltb k f.size) ((k, values_of f (f.used k) file) ∷ run f choices (drop 1 news) (chosen f k choice)
    (file_after f k choice (get_or news 0 []) file)) []

-- the values read, step by step, and nothing else
abbrev pub reads : Flow → List ℕ → List (List ℕ) → ℕ → List ℕ → List (List ℕ)
reads f choices news k file = map (λ s. s.1) (run f choices news k file)
