-- A depth-first search: what is marked leads only to what is past the end, marked or waiting, and what waits is on a path from the start. Assumes nothing.
use mathlib.Core.Path.{◌≡◌, refl, sym, ◌∙◌}
use mathlib.Core.Logic.{◌⊎◌, inl, inr, ⊎_elim}
use mathlib.Core.Bool.{Bool, true, false, true≢false, false≢true}
use mathlib.Core.List.{List, Memᴰ}
use Prim.Native.Nat.{ℕ, ◌+◌, ◌-◌, ◌<◌, ◌≤◌}
use native.Mathlib.Nat.{eq-or-lt_of_le}
use native.Mathlib.Omega.{arith}
use lib.ListN.{length, get_or, set, length-set}
use lib.Seq.{get_or-set_same, get_or-set_other}
use mir.Val.{bool_byte}
use Rattle.paths.specs.Search.{Reach, here, later}
use Rattle.paths.specs.Inner.{pushed}
use Rattle.paths.proofs.Marks.{marked, few_marked, stored_at, more_marked}

-- t stands in the waiting stack
abbrev pub Waits : List ℕ → ℕ → ℕ → Type 0
Waits todo top t = (i : ℕ) × (i < top) × (get_or todo i 0 ≡ t)

abbrev pub Known : ℕ → List ℕ → List ℕ → ℕ → ℕ → Type 0
Known n seen todo top t = (n ≤ t) ⊎ ((get_or seen t 0 ≡ 1) ⊎ Waits todo top t)

pub record State (n : ℕ) (reads stops : ℕ → Bool) (leads : ℕ → List ℕ) (start : ℕ) (seen todo : List ℕ) (top : ℕ) : Type 0 where
  pub begun : Known n seen todo top start
  pub unread : (j : ℕ) → j < n → get_or seen j 0 ≡ 1 → reads j ≡ false
  pub closed : (j t : ℕ) → j < n → get_or seen j 0 ≡ 1 → stops j ≡ false → Memᴰ t (leads j) → Known n seen todo top t
  pub sound : (t : ℕ) → Waits todo top t → Reach n reads stops leads t → Reach n reads stops leads start
  pub ones : (j : ℕ) → j < n → get_or seen j 0 ≤ 1
  pub room : top ≤ 1 + marked seen n

-- a push
pub pushed_long : (todo : List ℕ) (top t : ℕ) (y : Bool) → length (pushed todo top t y) ≡ length todo
unfolding pushed
pushed_long todo top t true = length-set todo top t
pushed_long todo top t false = refl

module _ (todo : List ℕ) (top t : ℕ) (l : top < length todo) where
  pub push_keeps : (y : Bool) (s : ℕ) → Waits todo top s → Waits (pushed todo top t y) (top + bool_byte y) s
  unfolding pushed
  push_keeps false s (i, h, e) = (i, omega arith, e)
  push_keeps true s (i, h, e) = (i, omega arith, get_or-set_other todo top i t 0 (omega arith) ∙ e)

  pub push_adds : (y : Bool) → y ≡ true → Waits (pushed todo top t y) (top + bool_byte y) t
  unfolding pushed
  push_adds false e = absurd (false≢true e)
  push_adds true e = (top, omega arith, get_or-set_same todo top t 0 l)

  pub push_only : (y : Bool) (s : ℕ) → Waits (pushed todo top t y) (top + bool_byte y) s → Waits todo top s ⊎ ((y ≡ true) × (s ≡ t))
  unfolding pushed
  push_only false s (i, h, e) = inl (i, omega arith, e)
  push_only true s (i, h, e) =
      ⊎_elim
      (λ q. inr (refl, sym e ∙ rw q (get_or-set_same todo top t 0 l)))
      (λ q. inl (i, q, sym (get_or-set_other todo top i t 0 (omega arith)) ∙ e))
      (eq-or-lt_of_le (le_of i h))
    where
      le_of : (i : ℕ) → i < top + 1 → i ≤ top
      le_of i h = omega arith

module _ (n : ℕ) (reads stops : ℕ → Bool) (leads : ℕ → List ℕ) (start : ℕ) where
  -- at the start, with no mark
  pub starts : (seen todo : List ℕ) → 0 < length todo → ((j : ℕ) → j < n → get_or seen j 0 ≡ 0) → State n reads stops leads start seen (set todo 0 start) 1
  starts seen todo l none =
      record {
        begun = inr (inr (0, omega arith, get_or-set_same todo 0 start 0 l));
        unread = λ j h e. absurd (omega (arith, none j h));
        closed = λ j t h e. absurd (omega (arith, none j h));
        sound = λ t q x. at_start t q x;
        ones = λ j h. omega (arith, none j h);
        room = omega arith;
      }
    where
      at_start : (t : ℕ) → Waits (set todo 0 start) 1 t → Reach n reads stops leads t → Reach n reads stops leads start
      at_start t (i, h, e) x =
          let z : i ≡ 0 = omega arith in
          let q : start ≡ t = rw (z, get_or-set_same todo 0 start 0 l) at e in
          rw q x

  module _ (seen todo : List ℕ) (top j : ℕ) (s : State n reads stops leads start seen todo top) (some : 0 < top) (popped : j ≡ get_or todo (top - 1) 0) where
    -- what is known before a pop, with what j is afterwards
    pub pop_known : (t : ℕ) (P : Type 0) → (n ≤ t → P) → (get_or seen t 0 ≡ 1 → P) → (Waits todo (top - 1) t → P) → (t ≡ j → P) → Known n seen todo top t → P
    pop_known t P out mark wait same (inl h) = out h
    pop_known t P out mark wait same (inr (inl h)) = mark h
    pop_known t P out mark wait same (inr (inr (i, h, e))) =
        ⊎_elim
        (λ q. same (sym e ∙ rw q (sym popped)))
        (λ q. wait (i, q, e))
        (eq-or-lt_of_le (le_of i h))
      where
        le_of : (i : ℕ) → i < top → i ≤ top - 1
        le_of i h = omega arith

    still : (t : ℕ) → Waits todo (top - 1) t → Waits todo top t
    still t (i, h, e) = (i, omega arith, e)

    pub top_waits : Waits todo top j
    top_waits = (top - 1, omega arith, sym popped)

    skip_known : (n ≤ j) ⊎ (get_or seen j 0 ≡ 1) → (t : ℕ) → Known n seen todo top t → Known n seen todo (top - 1) t
    skip_known (inl o) t = pop_known t (Known n seen todo (top - 1) t) (λ h. inl h) (λ h. inr (inl h)) (λ h. inr (inr h)) (λ q. inl (rw q o))
    skip_known (inr o) t = pop_known t (Known n seen todo (top - 1) t) (λ h. inl h) (λ h. inr (inl h)) (λ h. inr (inr h)) (λ q. inr (inl (rw q o)))

    -- a position past the end, or marked before, is left out
    pub skips : (n ≤ j) ⊎ (get_or seen j 0 ≡ 1) → State n reads stops leads start seen todo (top - 1)
    skips o =
        record {
          begun = skip_known o start s.begun;
          unread = s.unread;
          closed = λ i t h e z l. skip_known o t (s.closed i t h e z l);
          sound = λ t q. s.sound t (still t q);
          ones = s.ones;
          room = omega (arith, s.room);
        }

    -- a read is on a path from the start
    pub found : j < n → reads j ≡ true → Reach n reads stops leads start
    found h e = s.sound j top_waits (here h e)

    module _ (inside : j < n) (l : j < length seen) (fresh : get_or seen j 0 ≡ 0) where
      pub one_more : marked (set seen j 1) n ≡ marked seen n + 1
      one_more = omega (arith, more_marked seen j 1 l n inside)

      still_ones : (i : ℕ) → i < n → get_or (set seen j 1) i 0 ≤ 1
      still_ones i h = stored_at seen j 1 l i (λ v. v ≤ 1) (λ q. omega arith) (λ q. s.ones i h)

      pub below : marked seen n < n
      below = omega (arith, few_marked (set seen j 1) n still_ones, one_more)

      -- j is marked, and what it leads to waits
      module _ (todo' : List ℕ) (top' : ℕ)
          (quiet : reads j ≡ false)
          (keeps : (t : ℕ) → Waits todo (top - 1) t → Waits todo' top' t)
          (adds : (t : ℕ) → stops j ≡ false → Memᴰ t (leads j) → Waits todo' top' t)
          (only : (t : ℕ) → Waits todo' top' t → Waits todo (top - 1) t ⊎ ((stops j ≡ false) × Memᴰ t (leads j)))
          (fits : top' ≤ 1 + top) where
        known : (t : ℕ) → Known n seen todo top t → Known n (set seen j 1) todo' top' t
        known t =
            pop_known t (Known n (set seen j 1) todo' top' t)
            (λ h. inl h)
            (λ h. inr (inl (stored_at seen j 1 l t (λ v. v ≡ 1) (λ q. refl) (λ q. h))))
            (λ h. inr (inr (keeps t h)))
            (λ q. inr (inl (rw q (get_or-set_same seen j 1 0 l))))

        turn_sound : (t : ℕ) → Waits todo' top' t → Reach n reads stops leads t → Reach n reads stops leads start
        turn_sound t q x =
            ⊎_elim (λ p. s.sound t (still t p) x) (λ p. s.sound j top_waits (later inside p.0 p.1 x)) (only t q)

        pub turns : State n reads stops leads start (set seen j 1) todo' top'
        turns =
            record {
              begun = known start s.begun;
              unread = λ i h. stored_at seen j 1 l i (λ v. v ≡ 1 → reads i ≡ false) (λ q e. rw q quiet) (λ q e. s.unread i h e);
              closed = λ i t h.
                  stored_at seen j 1 l i (λ v. v ≡ 1 → stops i ≡ false → Memᴰ t (leads i) → Known n (set seen j 1) todo' top' t)
                  (λ q e z o. inr (inr (adds t (rw q at z) (rw q at o))))
                  (λ q e z o. known t (s.closed i t h e z o));
              sound = turn_sound;
              ones = still_ones;
              room = omega (arith, s.room, one_more);
            }

  -- with none waiting, what is known leads to no read
  module _ (seen todo : List ℕ) (s : State n reads stops leads start seen todo 0) where
    pub never : {t : ℕ} → Reach n reads stops leads t → Known n seen todo 0 t → ⊥
    never (here l e) (inl h) = omega arith
    never {t} (here l e) (inr (inl h)) = true≢false (sym e ∙ s.unread t l h)
    never (here l e) (inr (inr (i, h, q))) = omega arith
    never (later l z o x) (inl h) = omega arith
    never {t} (later {t = u} l z o x) (inr (inl h)) = never x (s.closed t u l h z o)
    never (later l z o x) (inr (inr (i, h, q))) = omega arith
