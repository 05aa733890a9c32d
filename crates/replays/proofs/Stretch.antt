-- A stretch of a trace whose moves are all named by "after" is a run of demand 3's machine. Assumes nothing.
use mathlib.Core.Path.{◌≡◌, refl, sym, ap, ◌∙◌, subst}
use mathlib.Core.Bool.{Bool, true, false, cond, ◌||◌, false≢true}
use mathlib.Core.List.{List, [], ◌∷◌, map}
use Prim.Native.Nat.{ℕ, zero, suc, ◌+◌, ◌≤◌, ◌<◌}
use native.Mathlib.Omega.{arith}
use borrow.Author.Tests.{lt-ltb, eqb-true}
use lib.Dec.{eqb}
use lib.ListN.{get_or, drop}
use Rattle.laws.specs.Page.{among}
use Rattle.code.specs.Ins.{count}
use Rattle.flow.specs.Run.{run, values_of, chosen, file_after}
use Rattle.steps.specs.Code.{after_at, flow}
use Rattle.blocks.specs.Blocks.{slot_at}
use Rattle.replays.specs.Positions.{slots_from, visited}

-- what is among a list stands at some place of it
place : (q d : ℕ) (l : List ℕ) → among q l ≡ true → (c : ℕ) × (get_or l c d ≡ q)
place q d [] e = absurd (false≢true e)
place q d (x ∷ l) e = go (eqb q x) refl e (λ h. place q d l h)
  where
    go : (b : Bool) → eqb q x ≡ b → b || among q l ≡ true → (among q l ≡ true → (c : ℕ) × (get_or l c d ≡ q)) → (c : ℕ) × (get_or (x ∷ l) c d ≡ q)
    go true h z rec = (0, sym (eqb-true q x h))
    go false h z rec = let (c, y) = rec z in (suc c, y)

module _ (w t : List ℕ) (regs : ℕ) where
  -- the run that these choices make from slot s visits m slots
  Runs : ℕ → ℕ → List ℕ → Type 0
  Runs s m choices = (news : List (List ℕ)) (file : List ℕ) → visited (flow regs w) choices news (slot_at t s) file ≡ slots_from t s m

  -- one step, then what the rest makes
  step : (s m c : ℕ) (choices : List ℕ) → slot_at t s < count w
      → ((news : List (List ℕ)) (file : List ℕ) → visited (flow regs w) choices news (get_or (after_at w (slot_at t s)) c (count w)) file ≡ slots_from t (suc s) m)
      → Runs s (suc m) (c ∷ choices)
  unfolding Runs run slots_from
  step s m c choices h rest news file =
      ap (λ (b : Bool). map (λ (x : ℕ × List ℕ). x.0)
      (cond b ((slot_at t s, values_of (flow regs w) ((flow regs w).used (slot_at t s)) file)
      ∷ run (flow regs w) choices (drop 1 news) (chosen (flow regs w) (slot_at t s) c) (file_after (flow regs w) (slot_at t s) c (get_or news 0 []) file)) []))
      (lt-ltb (slot_at t s) (count w) h)
      ∙ ap (λ (l : List ℕ). slot_at t s ∷ l) (rest (drop 1 news) (file_after (flow regs w) (slot_at t s) c (get_or news 0 []) file))

  -- m steps from slot s on, each move named by "after": there are choices by which the machine visits exactly these, whatever is written
  pub stretch : (m s : ℕ) → ((j : ℕ) → s ≤ j → j < s + m → slot_at t j < count w)
      → ((j : ℕ) → s ≤ j → suc j < s + m → among (slot_at t (suc j)) (after_at w (slot_at t j)) ≡ true)
      → (choices : List ℕ) × ((news : List (List ℕ)) (file : List ℕ) → visited (flow regs w) choices news (slot_at t s) file ≡ slots_from t s m)
  unfolding Runs run slots_from
  stretch zero s below moves = ([], λ news file. refl)
  stretch (suc zero) s below moves = (0 ∷ [], step s 0 0 [] (below s (omega arith) (omega arith)) (λ news file. refl))
  stretch (suc (suc m)) s below moves =
      let (c, e) = place (slot_at t (suc s)) (count w) (after_at w (slot_at t s)) (moves s (omega arith) (omega arith)) in
      let (choices, rest) = stretch (suc m) (suc s) (λ j a b. below j (omega arith) (omega arith)) (λ j a b. moves j (omega arith) (omega arith)) in (
        c ∷ choices,
        step s (suc m) c choices (below s (omega arith) (omega arith))
            (subst (λ (k : ℕ). (news : List (List ℕ)) (file : List ℕ) → visited (flow regs w) choices news k file ≡ slots_from t (suc s) (suc m)) (sym e) rest),
      )
