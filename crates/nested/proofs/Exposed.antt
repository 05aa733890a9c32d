-- What is exposed is just what document 01's lists lack: nothing exposed, and they are enough; any register exposed, and a run tells. Assumes nothing.
use mathlib.Core.Path.{◌≡◌, refl, sym, ap, ◌∙◌, subst}
use mathlib.Core.Logic.{⊎_elim, ◌⊎◌, inl, inr, ◌≢◌}
use mathlib.Core.Bool.{Bool, true, false, cond, ◌||◌, false≢true}
use mathlib.Core.List.Memᴰ
use mathlib.Core.List.{List, [], ◌∷◌, map, tail-eq_of_cons-eq}
use Prim.Native.Nat.{ℕ, ◌^◌, ◌<◌}
use native.Mathlib.Decide.{ℕ_discrete}
use native.Mathlib.Omega.{arith}
use borrow.Author.Tests.{eqb-true, eq-eqb, lt-ltb}
use lib.Dec.{eqb, ltb}
use lib.ListN.{get_or, set, replicate, length-replicate, get_or-replicate}
use lib.Seq.{get_or-set_same}
use Rattle.laws.specs.Page.{among}
use Rattle.flow.specs.Set.{bit}
use Rattle.flow.specs.Run.{run, wrote, values_of, file_after, chosen}
use Rattle.flow.specs.Demand.{TellsApart, Entry}
use Rattle.flow.proofs.Bits.{bit_zero, pow_here, pow_other}
use Rattle.flow.proofs.Rows.{In}
use Rattle.flow.proofs.Steps.{wrote_kept, wrote_new, pick_of}
use Rattle.nested.specs.Machine.{Frame, Event, step, back, thrown, next_at, file_at, nested, undisturbed, Spares, Sheltered}
use Rattle.nested.specs.Exposed.{exposed, ToldApart}

among_in : (r : ℕ) (l : List ℕ) → among r l ≡ true → In r l
among_in r [] e = absurd (false≢true e)
among_in r (x ∷ l) e = go (eqb r x) refl (λ h. among_in r l h)
  where
    go : (t : Bool) → eqb r x ≡ t → (among r l ≡ true → In r l) → In r (x ∷ l)
    go true q rec = Memᴰ.head (eqb-true r x q)
    go false q rec = Memᴰ.tail (rec (sym (ap (λ (t : Bool). t || among r l) q) ∙ e))

in_among : (r : ℕ) (l : List ℕ) → In r l → among r l ≡ true
in_among r [] m = absurd (Memᴰ.not-nil m)
in_among r (x ∷ l) m = ⊎_elim (λ q. ap (λ (t : Bool). t || among r l) (eq-eqb r x q)) (λ m'. rest (eqb r x) (in_among r l m')) (Memᴰ.cases_cons m)
  where
    rest : (t : Bool) → among r l ≡ true → (t || among r l) ≡ true
    rest true h = refl
    rest false h = h

-- a register of the list is exposed or in the other
pub exposed_or : (plain l : List ℕ) (r : ℕ) → In r l → In r (exposed plain l) ⊎ In r plain
unfolding exposed
exposed_or plain [] r m = absurd (Memᴰ.not-nil m)
exposed_or plain (x ∷ l) r m = go (among x plain) refl (λ m'. exposed_or plain l r m')
  where
    go : (t : Bool) → among x plain ≡ t → (In r l → In r (exposed plain l) ⊎ In r plain) → In r (cond t (exposed plain l) (x ∷ exposed plain l)) ⊎ In r plain
    go true q rec = ⊎_elim (λ e. inr (among_in r plain (ap (λ (y : ℕ). among y plain) e ∙ q))) rec (Memᴰ.cases_cons m)
    go false q rec = ⊎_elim (λ e. inl (Memᴰ.head e)) (λ m'. ⊎_elim (λ a. inl (Memᴰ.tail a)) (λ b. inr b) (rec m')) (Memᴰ.cases_cons m)

-- an exposed register is of the list and not in the other
pub exposed_only : (plain l : List ℕ) (r : ℕ) → In r (exposed plain l) → In r l × (In r plain → ⊥)
unfolding exposed
exposed_only plain [] r m = absurd (Memᴰ.not-nil m)
exposed_only plain (x ∷ l) r m = go (among x plain) refl m (λ m'. let w = exposed_only plain l r m' in (Memᴰ.tail w.0, w.1))
  where
    go : (t : Bool) → among x plain ≡ t → In r (cond t (exposed plain l) (x ∷ exposed plain l)) → (In r (exposed plain l) → In r (x ∷ l) × (In r plain → ⊥))
        → In r (x ∷ l) × (In r plain → ⊥)
    go true q m' rec = rec m'
    go false q m' rec = ⊎_elim (λ e. (
      Memᴰ.head e,
      λ i. false≢true (sym q ∙ ap (λ (y : ℕ). among y plain) (sym e)
          ∙ in_among r plain i),
    )) rec (Memᴰ.cases_cons m')

module _ (c : Frame) (plain lists : ℕ → List ℕ) where
  -- nothing exposed at any level, and document 01's lists shelter too
  pub none_exposed : Sheltered c lists → ((k : ℕ) → k < c.flow.size → c.level k ≡ true → exposed (plain k) (lists k) ≡ []) → Sheltered c plain
  none_exposed sh none lost sp = sh lost (λ k r l e m. ⊎_elim (λ x. absurd (Memᴰ.not-nil (subst (λ (y : List ℕ). In r y) (none k l e) x)))
      (λ x. sp k r l e x) (exposed_or (plain k) (lists k) r m))

-- steps alone, nothing written
steps_of : List ℕ → List Event
steps_of [] = []
steps_of (x ∷ l) = step x [] ∷ steps_of l

module _ (c : Frame) (lost : ℕ → ℕ) where
  nested_run : (choices : List ℕ) (k : ℕ) (file : List ℕ) → nested c lost (steps_of choices) k file ≡ run c.flow choices [] k file
  unfolding nested run steps_of
  nested_run [] k file = refl
  nested_run (x ∷ l) k file = ap (λ (t : List (ℕ × List ℕ)). cond (ltb k c.flow.size) ((k, values_of c.flow (c.flow.used k) file) ∷ t) [])
      (nested_run l (chosen c.flow k x) (file_after c.flow k x [] file))

module _ (c : Frame) (plain : ℕ → List ℕ) (k r : ℕ) (hi : k < c.flow.size) (level : c.level k ≡ true) (lr : r < c.flow.regs) (lacks : In r (plain k)
    → ⊥) where
  one : ℕ → ℕ
  one j = cond (eqb j k) (2 ^ r) 0

  here : one k ≡ 2 ^ r
  unfolding one
  here = rw (eq-eqb k k refl)

  one_only : (j q : ℕ) → 0 < bit (one j) q → (j ≡ k) × (q ≡ r)
  unfolding one
  one_only j q h = go (eqb j k) refl h
    where
      at : Dec (r ≡ q) → 0 < bit (2 ^ r) q → q ≡ r
      at (yes e) l = sym e
      at (no n) l = absurd (omega (arith, pow_other r q n))

      go : (t : Bool) → eqb j k ≡ t → 0 < bit (cond t (2 ^ r) 0) q → (j ≡ k) × (q ≡ r)
      go true e l = (eqb-true j k e, at (ℕ_discrete r q) l)
      go false e l = absurd (omega (arith, bit_zero q))

  one_spares : Spares c plain one
  one_spares j q l e m = none (bit (one j) q) (λ h. let w = one_only j q h in lacks
      (subst (λ (x : ℕ). In x (plain k)) w.1 (subst (λ (x : ℕ). In q (plain x)) w.0 m)))
    where
      none : (x : ℕ) → (0 < x → ⊥) → x ≡ 0
      none x h = zero_or x h
        where
          zero_or : (x : ℕ) → (0 < x → ⊥) → x ≡ 0
          zero_or x h = by (ℕ_discrete x 0)
            where
              by : Dec (x ≡ 0) → x ≡ 0
              by (yes e) = e
              by (no n) = absurd (h (omega arith))

  zeros : List ℕ
  zeros = replicate c.flow.regs 0

  left : List ℕ
  left = set zeros r 1

  new_one : get_or (wrote (one k) left zeros 0 c.flow.regs) r 0 ≡ 1
  unfolding zeros left
  new_one = wrote_new (one k) left zeros c.flow.regs r lr (omega (arith, ap (λ (x : ℕ). bit x r) here, pow_here r))
      ∙ get_or-set_same zeros r 1 0 (omega (arith, length-replicate {A = ℕ} c.flow.regs 0))

  old_zero : get_or (wrote 0 left zeros 0 c.flow.regs) r 0 ≡ 0
  unfolding zeros left
  old_zero = wrote_kept 0 left zeros c.flow.regs r lr (bit_zero r) ∙ get_or-replicate {A = ℕ} c.flow.regs r 0 0 lr

  -- a run that goes on at s after the event, with files that differ at r
  telling : (e : Event) (s : ℕ) (choices : List ℕ) → next_at c one e k ≡ s → next_at c undisturbed e k ≡ s
      → get_or (file_at c one e k zeros) r 0 ≢ get_or (file_at c undisturbed e k zeros) r 0 → TellsApart c.flow r s choices
      → nested c one (e ∷ steps_of choices) k zeros ≢ nested c undisturbed (e ∷ steps_of choices) k zeros
  unfolding nested
  telling e s choices p p' ne tells same = tells [] (file_at c one e k zeros) (file_at c undisturbed e k zeros) ne (ap (map (λ (x : ℕ × List ℕ). x.1)) runs)
    where
      open_up : (l m : List (ℕ × List ℕ)) → cond (ltb k c.flow.size) l m ≡ l
      open_up l m = ap (λ (t : Bool). cond t l m) (lt-ltb k c.flow.size hi)

      tails : nested c one (steps_of choices) (next_at c one e k) (file_at c one e k zeros)
          ≡ nested c undisturbed (steps_of choices) (next_at c undisturbed e k) (file_at c undisturbed e k zeros)
      tails = tail-eq_of_cons-eq (sym (open_up _ []) ∙ same ∙ open_up _ [])

      runs : run c.flow choices [] s (file_at c one e k zeros) ≡ run c.flow choices [] s (file_at c undisturbed e k zeros)
      runs = sym (nested_run c one choices s (file_at c one e k zeros)) ∙ ap (λ (x : ℕ). nested c one (steps_of choices) x (file_at c one e k zeros)) (sym p)
          ∙ tails
          ∙ ap (λ (x : ℕ). nested c undisturbed (steps_of choices) x (file_at c undisturbed e k zeros)) p'
          ∙ nested_run c undisturbed choices s (file_at c undisturbed e k zeros)

  -- a register that some resume point or handler wants and the other list lacks is told
  pub told : (s : ℕ) (choices : List ℕ) → Entry (c.goes k) r s → TellsApart c.flow r s choices → ToldApart c plain k r
  told s choices entry tells = ⊎_elim
      (λ p. made (back left []) (telling (back left []) s choices (rw level (sym p.0)) (rw level (sym p.0)) (λ q. differ (sym (past (one k) p.1) ∙ q
      ∙ past 0 p.1)) tells))
      (λ m. let (i, q) = pick_of (c.goes k).handlers s c.flow.size m in made (thrown left i)
      (telling (thrown left i) s choices (rw level q) (rw level q) differ tells)) entry
    where
      made : (e : Event) → nested c one (e ∷ steps_of choices) k zeros ≢ nested c undisturbed (e ∷ steps_of choices) k zeros → ToldApart c plain k r
      made e ne = record { lost = one; only = one_only; spares = one_spares; events = e ∷ steps_of choices; file = zeros; apart = ne }

      differ : get_or (wrote (one k) left zeros 0 c.flow.regs) r 0 ≢ get_or (wrote 0 left zeros 0 c.flow.regs) r 0
      differ q = omega (arith, q, new_one, old_zero)

      past : (x : ℕ) → bit (c.goes k).result r ≡ 0
          → get_or (wrote (c.goes k).result [] (wrote x left zeros 0 c.flow.regs) 0 c.flow.regs) r 0 ≡ get_or (wrote x left zeros 0 c.flow.regs) r 0
      past x z = wrote_kept (c.goes k).result [] (wrote x left zeros 0 c.flow.regs) c.flow.regs r lr z
