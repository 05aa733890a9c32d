-- The loop of a search: each turn, and its end. Assumes nothing.
use mathlib.Core.Path.{◌≡◌, refl, sym, ◌∙◌, ap, subst}
use mathlib.Core.Logic.{◌⊎◌, inl, inr, ⊎_elim}
use mathlib.Core.Bool.{Bool, true, false, cond, true≢false}
use mathlib.Core.List.{List, [], ◌∷◌, Memᴰ}
use Prim.Native.Nat.{ℕ, ◌+◌, ◌-◌, ◌<◌, ◌≤◌}
use native.Mathlib.Omega.{arith}
use lib.ListN.{length, get_or, set, length-set}
use lib.Seq.{drop-set-lt}
use mir.Val.{bool_byte}
use Rattle.laws.specs.Table.{Held}
use Rattle.laws.proofs.Byte.{byte_small}
use Rattle.paths.specs.Search.{Reach, ways, taken}
use Rattle.paths.specs.Inner.{pushed, SearchRoom, Searched, owed}
use Rattle.paths.proofs.Marks.{marked, few_marked}
use Rattle.paths.proofs.Depth.{State, Waits, starts, skips, found, below, turns, never, push_keeps, push_adds, push_only}
use Rattle.paths.proofs.Turns.{falls}

-- ---- words past the buffers' need

held : (m : ℕ) (l : List ℕ) → Held m l l
held m l = record { same = refl; tail = refl }

held_set : (m i v : ℕ) (l₀ l : List ℕ) → i < m → Held m l₀ l → Held m l₀ (set l i v)
held_set m i v l₀ l h e = record { same = length-set l i v ∙ e.same; tail = drop-set-lt m l i v h ∙ e.tail }

held_push : (m i v : ℕ) (y : Bool) (l₀ l : List ℕ) → i < m → Held m l₀ l → Held m l₀ (pushed l i v y)
unfolding pushed
held_push m i v false l₀ l h e = e
held_push m i v true l₀ l h e = held_set m i v l₀ l h e

held_from : (m i v : ℕ) (l₀ l : List ℕ) → i < m → Held m (set l₀ i v) l → Held m l₀ l
held_from m i v l₀ l h e = record { same = e.same ∙ length-set l₀ i v; tail = e.tail ∙ drop-set-lt m l₀ i v h }

-- ---- ways out

in_way : (y : Bool) (x t : ℕ) → Memᴰ t (cond y (x ∷ []) []) → (y ≡ true) × (t ≡ x)
in_way true x t m = ⊎_elim (λ e. (refl, e)) (λ z. absurd (mathlib.Core.List.Memᴰ.not-nil z)) (mathlib.Core.List.Memᴰ.cases_cons m)
in_way false x t m = absurd (mathlib.Core.List.Memᴰ.not-nil m)

way_in : (y : Bool) (x : ℕ) → y ≡ true → Memᴰ x (cond y (x ∷ []) [])
way_in true x e = mathlib.Core.List.Memᴰ.head refl
way_in false x e = absurd (true≢false (sym e))

ways_long : (on to : Bool) (s t : ℕ) → length (ways on s to t) ≡ bool_byte on + bool_byte to
ways_long true true s t = refl
ways_long true false s t = refl
ways_long false true s t = refl
ways_long false false s t = refl

-- ---- the loop

pub record Loop (n : ℕ) (reads stops : ℕ → Bool) (leads : ℕ → List ℕ) (start : ℕ) (seen₀ todo₀ seen todo : List ℕ) (top : ℕ) : Type 0 where
  pub state : State n reads stops leads start seen todo top
  pub marks : Held (n + 1) seen₀ seen
  pub waiting : Held (n + 1) todo₀ todo
  pub room : SearchRoom n seen₀ todo₀

module _ (n : ℕ) (reads stops : ℕ → Bool) (leads : ℕ → List ℕ) (start : ℕ) (seen₀ todo₀ : List ℕ) where
  pub enters : SearchRoom n seen₀ todo₀ → ((j : ℕ) → j < n → get_or seen₀ j 0 ≡ 0)
      → Loop n reads stops leads start seen₀ (set todo₀ 0 start) seen₀ (set todo₀ 0 start) 1
  enters m none = record {
    state = starts n reads stops leads start seen₀ todo₀ (omega (arith, m.waiting)) none;
    marks = held _ seen₀;
    waiting = held _ (set todo₀ 0 start);
    room = record { few = m.few; marks = m.marks; waiting = rw (length-set todo₀ 0 start) m.waiting };
  }

  -- none waits
  pub ends : (seen todo : List ℕ) (top : ℕ) → Loop n reads stops leads start seen₀ (set todo₀ 0 start) seen todo top → top ≤ 0
      → Searched (Reach n reads stops leads start) n seen₀ todo₀ false seen todo
  ends seen todo top l h =
      let z : top ≡ 0 = omega arith in
      let s : State n reads stops leads start seen todo 0 = rw z at l.state in
      record {
        answer = λ x. never n reads stops leads start seen todo s x s.begun;
        marks = l.marks;
        waiting = held_from _ 0 start todo₀ todo (omega arith) l.waiting;
      }

-- lengths stay
pub same_todo : (n : ℕ) (reads stops : ℕ → Bool) (leads : ℕ → List ℕ) (start v : ℕ) (seen₀ todo₀ seen todo : List ℕ) (top : ℕ)
    → Loop n reads stops leads start seen₀ (set todo₀ 0 v) seen todo top → length todo ≡ length todo₀
same_todo n reads stops leads start v seen₀ todo₀ seen todo top l = l.waiting.same ∙ length-set todo₀ 0 v

module _ (n : ℕ) (reads stops : ℕ → Bool) (leads : ℕ → List ℕ) (start : ℕ) (seen₀ todo₀ seen todo : List ℕ) (top : ℕ)
    (l : Loop n reads stops leads start seen₀ todo₀ seen todo top) (some : 0 < top) where
  pub few_wait : top ≤ 65536
  few_wait = omega (arith, l.state.room, few_marked seen n l.state.ones, l.room.few)

  pub top_in : top - 1 < length todo
  top_in = omega (arith, l.state.room, few_marked seen n l.state.ones, l.room.waiting, l.waiting.same)

  pub mark_in : (j : ℕ) → j < n → j < length seen
  mark_in j h = omega (arith, l.room.marks, l.marks.same)

  module _ (j : ℕ) (popped : j ≡ get_or todo (top - 1) 0) where
    left_out : (n ≤ j) ⊎ (get_or seen j 0 ≡ 1) → Loop n reads stops leads start seen₀ todo₀ seen todo (top - 1)
    left_out o = record {
      state = skips n reads stops leads start seen todo top j l.state some popped o;
      marks = l.marks;
      waiting = l.waiting;
      room = l.room;
    }

    pub skip_past : n ≤ j → Loop n reads stops leads start seen₀ todo₀ seen todo (top - 1)
    skip_past h = left_out (inl h)

    pub skip_seen : j < n → (get_or seen j 0 ≡ 0 → ⊥) → Loop n reads stops leads start seen₀ todo₀ seen todo (top - 1)
    skip_seen h e = left_out (inr (omega (arith, l.state.ones j h)))

    module _ (h : j < n) (fresh : get_or seen j 0 ≡ 0) where
      mark_held : Held (n + 1) seen₀ (set seen j 1)
      mark_held = held_set _ j 1 seen₀ seen (omega arith) l.marks

      free : marked seen n < n
      free = below n reads stops leads start seen todo top j l.state some popped h (mark_in j h) fresh

      pub falls_stop : owed leads (set seen j 1) n + (top - 1) < owed leads seen n + top
      falls_stop = falls n leads seen (set seen j 1) top (top - 1) (taken some h (mark_in j h) fresh (omega arith))

      -- two more can wait
      pub room_for_2 : (top - 1) + 1 < length todo
      room_for_2 = omega (arith, l.state.room, free, l.room.waiting, l.waiting.same)

      -- a read is found
      pub finds : reads j ≡ true → Reach n reads stops leads start
      finds e = found n reads stops leads start seen todo top j l.state some popped h e

      -- j stops the path
      module _ (quiet : reads j ≡ false) where
        pub stands : stops j ≡ true → Loop n reads stops leads start seen₀ todo₀ (set seen j 1) todo (top - 1)
        stands u = record {
          state = turns n reads stops leads start seen todo top j l.state some popped h (mark_in j h) fresh todo (top - 1) quiet
              (λ t q. q)
              (λ t z. absurd (true≢false (sym u ∙ z)))
              (λ t q. inl q)
              (omega arith);
          marks = mark_held;
          waiting = l.waiting;
          room = l.room;
        }

        -- or what it leads to waits
        module _ (u : stops j ≡ false) (on to : Bool) (s t : ℕ) (two : ways on s to t ≡ leads j) (top₂ : ℕ) (todo₂ : List ℕ)
            (q : top₂ ≡ (top - 1) + bool_byte on + bool_byte to)
            (q' : todo₂ ≡ pushed (pushed todo (top - 1) s on) ((top - 1) + bool_byte on) t to) where
          abbrev top₁ : ℕ
          top₁ = (top - 1) + bool_byte on

          abbrev todo₁ : List ℕ
          todo₁ = pushed todo (top - 1) s on

          held_first : Held (n + 1) todo₀ todo₁
          held_first = held_push _ (top - 1) s on todo₀ todo (omega (arith, l.state.room, free)) l.waiting

          in_2 : top₁ < length todo₁
          in_2 = omega (arith, l.state.room, free, l.room.waiting, held_first.same, byte_small on)

          pub falls_go : owed leads (set seen j 1) n + top₂ < owed leads seen n + top
          falls_go = falls n leads seen (set seen j 1) top top₂ (taken some h (mark_in j h) fresh (omega (arith, ap length two, ways_long on to s t)))

          keeps : (x : ℕ) → Waits todo (top - 1) x → Waits todo₂ top₂ x
          keeps x m = rw (q, q') (push_keeps todo₁ top₁ t in_2 to x (push_keeps todo (top - 1) s top_in on x m))

          adds : (x : ℕ) → stops j ≡ false → Memᴰ x (leads j) → Waits todo₂ top₂ x
          adds x z m = ⊎_elim
              (λ a. let (o, v) = in_way on s x a in
              rw (q, q', v) (push_keeps todo₁ top₁ t in_2 to s (push_adds todo (top - 1) s top_in on o)))
              (λ a. let (o, v) = in_way to t x a in rw (q, q', v) (push_adds todo₁ top₁ t in_2 to o))
              (mathlib.Core.List.Memᴰ.append_cases (cond on (s ∷ []) []) (subst (Memᴰ x) (sym two) m))

          only_first : (x : ℕ) → Waits todo₁ top₁ x → Waits todo (top - 1) x ⊎ ((stops j ≡ false) × Memᴰ x (leads j))
          only_first x m = ⊎_elim
              (λ v. inl v)
              (λ v. let i : Memᴰ x (cond on (s ∷ []) []) = rw v.1 (way_in on s v.0) in
              inr (u, subst (Memᴰ x) two (mathlib.Core.List.Memᴰ.append_left (cond to (t ∷ []) []) i)))
              (push_only todo (top - 1) s top_in on x m)

          all : (x : ℕ) → Waits todo₂ top₂ x → Waits todo (top - 1) x ⊎ ((stops j ≡ false) × Memᴰ x (leads j))
          all x m = ⊎_elim
              (λ v. only_first x v)
              (λ v. let i : Memᴰ x (cond to (t ∷ []) []) = rw v.1 (way_in to t v.0) in
              inr (u, subst (Memᴰ x) two (mathlib.Core.List.Memᴰ.append_right (cond on (s ∷ []) []) i)))
              (push_only todo₁ top₁ t in_2 to x (rw (q, q') at m))

          pub goes : Loop n reads stops leads start seen₀ todo₀ (set seen j 1) todo₂ top₂
          goes = record {
            state = turns n reads stops leads start seen todo top j l.state some popped h (mark_in j h) fresh todo₂ top₂ quiet keeps adds all
                (omega (arith, byte_small to, byte_small on));
            marks = mark_held;
            waiting = rw q' (held_push _ top₁ t to todo₀ todo₁ (omega (arith, l.state.room, free, byte_small on)) held_first);
            room = l.room;
          }

-- the search ends where a read is found
pub tells : (n : ℕ) (reads stops : ℕ → Bool) (leads : ℕ → List ℕ) (start : ℕ) (seen₀ todo₀ seen todo : List ℕ) (top : ℕ)
    → Loop n reads stops leads start seen₀ (set todo₀ 0 start) seen todo top → 0 < top
    → (j : ℕ) → j ≡ get_or todo (top - 1) 0 → j < n → get_or seen j 0 ≡ 0 → reads j ≡ true
    → Searched (Reach n reads stops leads start) n seen₀ todo₀ true (set seen j 1) todo
tells n reads stops leads start seen₀ todo₀ seen todo top l some j popped h fresh e = record {
  answer = finds n reads stops leads start seen₀ (set todo₀ 0 start) seen todo top l some j popped h fresh e;
  marks = held_set _ j 1 seen₀ seen (omega arith) l.marks;
  waiting = held_from _ 0 start todo₀ todo (omega arith) l.waiting;
}

-- the turns that are alike for every search
pub ruleset turning = (ends, same_todo, few_wait, top_in, mark_in, skip_past, skip_seen, falls_stop, room_for_2)
