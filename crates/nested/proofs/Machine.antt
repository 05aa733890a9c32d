-- Kept lists by rows that shelter are enough for nested frames, for ever. Assumes nothing.
use mathlib.Core.Path.{◌≡◌, refl, sym, ap, ap₂, ◌∙◌}
use mathlib.Core.Logic.{⊎_elim, ◌⊎◌}
use mathlib.Core.Bool.{Bool, true, false, cond}
use mathlib.Core.List.{List, [], ◌∷◌}
use Prim.Native.Nat.{ℕ, ◌≤◌, ◌<◌}
use native.Mathlib.Nat.{le_refl}
use native.Mathlib.Decide.{dec_lt}
use native.Mathlib.Omega.{arith}
use borrow.Author.Tests.{lt-ltb, le-ltb}
use lib.Dec.{ltb}
use lib.ListN.{get_or}
use Rattle.flow.specs.Set.{bit}
use Rattle.flow.specs.Flow.{reach, row_at}
use Rattle.flow.specs.Run.{values_of, wrote, rewritten, file_after, chosen}
use Rattle.flow.specs.Kept.{kept}
use Rattle.nested.specs.Machine.{Frame, Event, step, back, thrown, read_at, next_at, file_at, nested, undisturbed, Spares, Sheltered}
use Rattle.nested.specs.Inner.{Shelters}
use Rattle.flow.proofs.Bits.{bit_zero}
use Rattle.flow.proofs.Rows.{In, joined_in, row_at_bit}
use Rattle.flow.proofs.Members.{listed_only}
use Rattle.flow.proofs.Steps.{values_same, wrote_kept, wrote_new, picked, Moves, Goes, moves}
use Rattle.flow.proofs.Kept.{kept_resume, kept_handler}

module _ (c : Frame) (start : ℕ) (R : ℕ → ℕ) (sh : Shelters c start R) where
  -- the list of each level, by the rows
  abbrev lists : ℕ → List ℕ
  lists k = kept c.flow.regs R (c.goes k)

  abbrev AgreeAt : ℕ → List ℕ → List ℕ → Type 0
  AgreeAt k a b = (r : ℕ) → r < c.flow.regs → 0 < bit (R k) r → get_or a r 0 ≡ get_or b r 0

  -- at n and beyond there is nothing to agree on
  at_end : (a b : List ℕ) → AgreeAt c.flow.size a b
  at_end a b r l h = absurd (omega (arith, h, ap (λ (x : ℕ). bit x r) (sh.solves.last c.flow.size (le_refl c.flow.size)), bit_zero r))

  module _ (lost lost' : ℕ → ℕ) (spares : Spares c lists lost) (spares' : Spares c lists lost') (k : ℕ) (lo : start ≤ k) (hi : k < c.flow.size)
      (a b : List ℕ) (e : AgreeAt k a b) where
    abbrev Next : Event → Type 0
    Next v = (start ≤ next_at c lost v k) × AgreeAt (next_at c lost v k) (file_at c lost v k a) (file_at c lost' v k b)

    has_row : (r : ℕ) → bit (R k) r ≡ bit (row_at c.flow R k) r
    has_row r = ap (λ (x : ℕ). bit x r) (sh.solves.each k lo hi)

    reads_same : (s : ℕ) → ((r : ℕ) → bit s r ≤ bit (R k) r) → values_of c.flow s a ≡ values_of c.flow s b
    reads_same s h = values_same c.flow s a b (λ r m. let w = listed_only c.flow.regs s r m in e r w.0 (omega (arith, w.1, h r)))

    none_same : values_of c.flow 0 a ≡ values_of c.flow 0 b
    none_same = reads_same 0 (λ r. omega (arith, bit_zero r))

    called : (t : Bool) → c.level k ≡ t → values_of c.flow (cond t (c.args k) 0) a ≡ values_of c.flow (cond t (c.args k) 0) b
    called true q = reads_same (c.args k) (λ r. sh.calls k r lo hi q)
    called false q = none_same

    seen_same : (v : Event) → values_of c.flow (read_at c lost v k) a ≡ values_of c.flow (read_at c lost v k) b
    seen_same (step choice new) = reads_same (c.flow.used k) (λ r. omega (arith, has_row r, row_at_bit c.flow R k r))
    seen_same (back left new) = called (c.level k) refl
    seen_same (thrown left handler) = called (c.level k) refl

    -- a register that both keep
    module _ (left : List ℕ) (r : ℕ) (lr : r < c.flow.regs) (z : bit (lost k) r ≡ 0) (z' : bit (lost' k) r ≡ 0) (had : 0 < bit (R k) r) where
      stays : get_or (wrote (lost k) left a 0 c.flow.regs) r 0 ≡ get_or (wrote (lost' k) left b 0 c.flow.regs) r 0
      stays = wrote_kept (lost k) left a c.flow.regs r lr z ∙ e r lr had ∙ sym (wrote_kept (lost' k) left b c.flow.regs r lr z')

    stepped : (choice : ℕ) (new : List ℕ) → Next (step choice new)
    stepped choice new = (
      ⊎_elim (λ q. omega (arith, sh.inside)) (λ m. sh.closed k lo hi s m)
          (picked (reach c.flow k) choice c.flow.size),
      λ r lr h. ⊎_elim (raised r lr h) (gone r lr h) (moves c.flow k choice),
    )
      where
        s : ℕ
        s = chosen c.flow k choice

        raised : (r : ℕ) → r < c.flow.regs → 0 < bit (R s) r → Moves c.flow k choice
            → get_or (file_after c.flow k choice new a) r 0 ≡ get_or (file_after c.flow k choice new b) r 0
        raised r lr h m =
            ap (λ (x : List ℕ). get_or x r 0) (m.0 new a)
            ∙ e r lr (omega (arith, h, has_row r, row_at_bit c.flow R k r, joined_in R r (c.flow.raises k) s m.1))
            ∙ ap (λ (x : List ℕ). get_or x r 0) (sym (m.0 new b))

        gone : (r : ℕ) → r < c.flow.regs → 0 < bit (R s) r → Goes c.flow k choice
            → get_or (file_after c.flow k choice new a) r 0 ≡ get_or (file_after c.flow k choice new b) r 0
        gone r lr h g = ap (λ (x : List ℕ). get_or x r 0) (g.0 new a) ∙ go (dec_lt 0 (bit (c.flow.given_up k) r))
            ∙ ap (λ (x : List ℕ). get_or x r 0) (sym (g.0 new b))
          where
            go : Dec (0 < bit (c.flow.given_up k) r) → get_or (rewritten c.flow k new a) r 0 ≡ get_or (rewritten c.flow k new b) r 0
            go (yes w) = wrote_new (c.flow.given_up k) new a c.flow.regs r lr w ∙ sym (wrote_new (c.flow.given_up k) new b c.flow.regs r lr w)
            go (no n) =
                wrote_kept (c.flow.given_up k) new a c.flow.regs r lr (omega arith) ∙ e r lr (had g.1)
                ∙ sym (wrote_kept (c.flow.given_up k) new b c.flow.regs r lr (omega arith))
              where
                had : (s ≡ c.flow.size) ⊎ In s (c.flow.after k) → 0 < bit (R k) r
                had p = ⊎_elim
                    (λ q. absurd (omega (
                      arith,
                      h,
                      ap (λ (x : ℕ). bit (R x) r) q,
                      ap (λ (x : ℕ). bit x r)
                          (sh.solves.last c.flow.size (le_refl c.flow.size)),
                      bit_zero r,
                    )))
                    (λ m. omega (arith, h, n, has_row r, row_at_bit c.flow R k r, joined_in R r (c.flow.after k) s m)) p

    returned : (left new : List ℕ) (t : Bool) → c.level k ≡ t
        → (start ≤ cond t (c.goes k).resume c.flow.size) × AgreeAt (cond t (c.goes k).resume c.flow.size) (file_at c lost (back left new) k a)
        (file_at c lost' (back left new) k b)
    returned left new false q = (sh.inside, at_end (file_at c lost (back left new) k a) (file_at c lost' (back left new) k b))
    returned left new true q = ((sh.resumes k 0 lo hi q).0, λ r lr h. go r lr h (dec_lt 0 (bit (c.goes k).result r)))
      where
        go : (r : ℕ) → r < c.flow.regs → 0 < bit (R (c.goes k).resume) r → Dec (0 < bit (c.goes k).result r)
            → get_or (file_at c lost (back left new) k a) r 0 ≡ get_or (file_at c lost' (back left new) k b) r 0
        go r lr h (yes g) = wrote_new (c.goes k).result new (wrote (lost k) left a 0 c.flow.regs) c.flow.regs r lr g
            ∙ sym (wrote_new (c.goes k).result new (wrote (lost' k) left b 0 c.flow.regs) c.flow.regs r lr g)
        go r lr h (no n) =
            let m = kept_resume c.flow.regs R (c.goes k) r lr h (omega arith) in
            wrote_kept (c.goes k).result new (wrote (lost k) left a 0 c.flow.regs) c.flow.regs r lr (omega arith)
            ∙ stays left r lr (spares k r hi q m) (spares' k r hi q m) (omega (arith, h, n, (sh.resumes k r lo hi q).1))
            ∙ sym (wrote_kept (c.goes k).result new (wrote (lost' k) left b 0 c.flow.regs) c.flow.regs r lr (omega arith))

    caught : (left : List ℕ) (i : ℕ) (t : Bool) → c.level k ≡ t
        → (start ≤ cond t (get_or (c.goes k).handlers i c.flow.size) c.flow.size)
        × AgreeAt (cond t (get_or (c.goes k).handlers i c.flow.size) c.flow.size) (file_at c lost (thrown left i) k a)
        (file_at c lost' (thrown left i) k b)
    caught left i false q = (sh.inside, at_end (file_at c lost (thrown left i) k a) (file_at c lost' (thrown left i) k b))
    caught left i true q = ⊎_elim (λ p. (
      omega (arith, sh.inside),
      λ r lr h. absurd
          (omega (arith, h, ap (λ (x : ℕ). bit (R x) r) p, ap (λ (x : ℕ). bit x r) (sh.solves.last c.flow.size (le_refl c.flow.size)), bit_zero r)),
    ))
        (λ m. (
          (sh.catches k 0 _ lo hi q m).0,
          λ r lr h.
              let w = kept_handler c.flow.regs R (c.goes k) _ r m lr h in
              stays left r lr (spares k r hi q w) (spares' k r hi q w) (omega (arith, h, (sh.catches k r _ lo hi q m).1)),
        ))
        (picked (c.goes k).handlers i c.flow.size)

    next_same : (v : Event) → Next v
    next_same (step choice new) = stepped choice new
    next_same (back left new) = returned left new (c.level k) refl
    next_same (thrown left handler) = caught left handler (c.level k) refl

  -- two runs by one list of events, whatever each callee does in either
  pub nested_same : (lost lost' : ℕ → ℕ) → Spares c lists lost → Spares c lists lost' → (events : List Event) (k : ℕ) (a b : List ℕ) → start ≤ k → AgreeAt k a b
      → nested c lost events k a ≡ nested c lost' events k b
  unfolding nested
  nested_same lost lost' sp sp' [] k a b lo e = refl
  nested_same lost lost' sp sp' (v ∷ events) k a b lo e = go (dec_lt k c.flow.size)
      (λ l w. nested_same lost lost' sp sp' events (next_at c lost v k) (file_at c lost v k a) (file_at c lost' v k b) l w)
    where
      on : List (ℕ × List ℕ)
      on = (k, values_of c.flow (read_at c lost v k) a) ∷ nested c lost events (next_at c lost v k) (file_at c lost v k a)

      on' : List (ℕ × List ℕ)
      on' = (k, values_of c.flow (read_at c lost v k) b) ∷ nested c lost' events (next_at c lost v k) (file_at c lost' v k b)

      go : Dec (k < c.flow.size) → (start ≤ next_at c lost v k → AgreeAt (next_at c lost v k) (file_at c lost v k a) (file_at c lost' v k b)
          → nested c lost events (next_at c lost v k) (file_at c lost v k a) ≡ nested c lost' events (next_at c lost v k) (file_at c lost' v k b))
          → cond (ltb k c.flow.size) on [] ≡ cond (ltb k c.flow.size) on' []
      go (no n) rec = ap (λ (t : Bool). cond t on []) (le-ltb k c.flow.size (omega arith))
          ∙ sym (ap (λ (t : Bool). cond t on' []) (le-ltb k c.flow.size (omega arith)))
      go (yes hi) rec =
          let w = next_same lost lost' sp sp' k lo hi a b e v in
          ap (λ (t : Bool). cond t on []) (lt-ltb k c.flow.size hi)
          ∙ ap₂ (λ (x : List ℕ) (l : List (ℕ × List ℕ)). (k, x) ∷ l) (seen_same lost lost' sp sp' k lo hi a b e v) (rec w.0 w.1)
          ∙ sym (ap (λ (t : Bool). cond t on' []) (lt-ltb k c.flow.size hi))

  -- nested frames: the promise. Below the start nothing is called, so the files are the same there.
  pub sheltered : Sheltered c lists
  unfolding nested
  sheltered lost sp [] k file = refl
  sheltered lost sp (v ∷ events) k file = go (dec_lt k start) (λ file' k'. sheltered lost sp events k' file')
    where
      same : start ≤ k → nested c lost (v ∷ events) k file ≡ nested c undisturbed (v ∷ events) k file
      same lo = nested_same lost undisturbed sp (λ j r l q m. bit_zero r) (v ∷ events) k file file lo (λ r l h. refl)

      -- the run is over at n
      over : (a b : List ℕ) → nested c lost events c.flow.size a ≡ nested c undisturbed events c.flow.size b
      over a b = nested_same lost undisturbed sp (λ j r l q m. bit_zero r) events c.flow.size a b sh.inside (at_end a b)

      next : (e : Event) → k < start → ((file' : List ℕ) (k' : ℕ) → nested c lost events k' file' ≡ nested c undisturbed events k' file')
          → nested c lost events (next_at c lost e k) (file_at c lost e k file)
          ≡ nested c undisturbed events (next_at c undisturbed e k) (file_at c undisturbed e k file)
      next (step choice new) l rec = rec (file_after c.flow k choice new file) (chosen c.flow k choice)
      next (back left new) l rec = rw (sh.early k l) (over (file_at c lost (back left new) k file) (file_at c undisturbed (back left new) k file))
      next (thrown left handler) l rec = rw (sh.early k l) (over (file_at c lost (thrown left handler) k file)
          (file_at c undisturbed (thrown left handler) k file))

      seen : (e : Event) → read_at c lost e k ≡ read_at c undisturbed e k
      seen (step choice new) = refl
      seen (back left new) = refl
      seen (thrown left handler) = refl

      go : Dec (k < start) → ((file' : List ℕ) (k' : ℕ) → nested c lost events k' file' ≡ nested c undisturbed events k' file')
          → nested c lost (v ∷ events) k file ≡ nested c undisturbed (v ∷ events) k file
      go (no n) rec = same (omega arith)
      go (yes l) rec = ap₂ (λ (x : ℕ) (t : List (ℕ × List ℕ)). cond (ltb k c.flow.size) ((k, values_of c.flow x file) ∷ t) []) (seen v) (next v l rec)
