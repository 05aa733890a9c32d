-- Two files that agree on a solution's row run alike, however long the run. Assumes nothing.
use mathlib.Core.Path.{◌≡◌, refl, sym, ap, ap₂, ◌∙◌}
use mathlib.Core.Logic.{⊎_elim, ◌⊎◌}
use mathlib.Core.List.{List, [], ◌∷◌}
use Prim.Native.Nat.{ℕ, ◌≤◌, ◌<◌}
use native.Mathlib.Nat.{le_refl}
use native.Mathlib.Decide.{dec_lt}
use native.Mathlib.Omega.{arith}
use lib.ListN.{get_or, drop}
use Rattle.flow.specs.Set.{bit}
use Rattle.flow.specs.Flow.{Flow, row_at, reach, Solution, Closed}
use Rattle.flow.specs.Run.{run, rewritten, file_after, chosen}
use Rattle.flow.proofs.Bits.{bit_zero}
use Rattle.flow.proofs.Rows.{In, joined_in, row_at_bit}
use Rattle.flow.proofs.Members.{listed_only}
use Rattle.flow.proofs.Steps.{run_step, run_end, values_same, wrote_kept, wrote_new, picked, Goes, moves}

module _ (f : Flow) (start : ℕ) (closed : Closed f start) (R : ℕ → ℕ) (sol : Solution f start R) where
  -- two files agree on row k, as far as there are registers
  abbrev pub AgreeAt : ℕ → List ℕ → List ℕ → Type 0
  AgreeAt k a b = (r : ℕ) → r < f.regs → 0 < bit (R k) r → get_or a r 0 ≡ get_or b r 0

  row_bit : (k r : ℕ) → start ≤ k → k < f.size → bit (R k) r ≡ bit (row_at f R k) r
  row_bit k r lo hi = ap (λ (x : ℕ). bit x r) (sol.each k lo hi)

  empty_bit : (k r : ℕ) → f.size ≤ k → bit (R k) r ≡ 0
  empty_bit k r l = ap (λ (x : ℕ). bit x r) (sol.last k l) ∙ bit_zero r

  agree_next : (choice : ℕ) (choices : List ℕ) (news : List (List ℕ)) (k : ℕ) (a b : List ℕ) → start ≤ k → k < f.size → AgreeAt k a b
      → AgreeAt (chosen f k choice) (file_after f k choice (get_or news 0 []) a) (file_after f k choice (get_or news 0 []) b)
  agree_next choice choices news k a b lo hi e r lr h = ⊎_elim
      (λ m. ap (λ (x : List ℕ). get_or x r 0) (m.0 new a) ∙ e r lr (omega (arith, h, row_bit k r lo hi, row_at_bit f R k r, joined_in R r (f.raises k) s m.1))
      ∙ ap (λ (x : List ℕ). get_or x r 0) (sym (m.0 new b))) at (moves f k choice)
    where
      s : ℕ
      s = chosen f k choice

      new : List ℕ
      new = get_or news 0 []

      go : (s ≡ f.size) ⊎ In s (f.after k) → Dec (0 < bit (f.given_up k) r) → get_or (rewritten f k new a) r 0 ≡ get_or (rewritten f k new b) r 0
      go p (yes g) = wrote_new (f.given_up k) new a f.regs r lr g ∙ sym (wrote_new (f.given_up k) new b f.regs r lr g)
      go p (no n) = wrote_kept (f.given_up k) new a f.regs r lr (omega arith) ∙ e r lr had ∙ sym (wrote_kept (f.given_up k) new b f.regs r lr
          (omega arith))
        where
          had : 0 < bit (R k) r
          had = ⊎_elim
              (λ q. absurd (omega (arith, h, ap (λ (x : ℕ). bit (R x) r) q, empty_bit f.size r (le_refl f.size))))
              (λ m. omega (arith, h, row_bit k r lo hi, row_at_bit f R k r, joined_in R r (f.after k) s m)) p

      at : Goes f k choice → get_or (file_after f k choice new a) r 0 ≡ get_or (file_after f k choice new b) r 0
      at g = ap (λ (x : List ℕ). get_or x r 0) (g.0 new a) ∙ go g.1 (dec_lt 0 (bit (f.given_up k) r)) ∙ ap (λ (x : List ℕ). get_or x r 0) (sym (g.0 new b))

  -- equal choices and equal writes: the same positions and the same values, for any number of steps
  pub alike : (choices : List ℕ) (news : List (List ℕ)) (k : ℕ) (a b : List ℕ) → start ≤ k → AgreeAt k a b → run f choices news k a ≡ run f choices news k b
  unfolding run
  alike [] news k a b lo e = refl
  alike (choice ∷ choices) news k a b lo e = go (dec_lt k f.size) (λ hi l. alike choices (drop 1 news) (chosen f k choice)
      (file_after f k choice (get_or news 0 []) a) (file_after f k choice (get_or news 0 []) b) l (agree_next choice choices news k a b lo hi e))
    where
      s : ℕ
      s = chosen f k choice

      go : Dec (k < f.size) → (k < f.size → start ≤ s → run f choices (drop 1 news) s (file_after f k choice (get_or news 0 []) a) ≡ run f choices (drop 1 news)
          s (file_after f k choice (get_or news 0 []) b))
          → run f (choice ∷ choices) news k a ≡ run f (choice ∷ choices) news k b
      go (no n) rec = run_end f choice choices news k a (omega arith) ∙ sym (run_end f choice choices news k b (omega arith))
      go (yes hi) rec =
          run_step f choice choices news k a hi
          ∙ ap₂ (λ (v : List ℕ) (l : List (ℕ × List ℕ)). (k, v) ∷ l)
          (values_same f (f.used k) a b (λ r m. let w = listed_only f.regs (f.used k) r m in e r w.0
          (omega (arith, w.1, row_bit k r lo hi, row_at_bit f R k r))))
          (rec hi (⊎_elim (λ q. omega arith) (λ m. closed k lo hi s m) (picked (reach f k) choice f.size)))
          ∙ sym (run_step f choice choices news k b hi)
