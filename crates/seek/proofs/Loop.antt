-- The search's loop over steps: what its turns are in the laws of a search. Assumes nothing.
use mathlib.Core.Path.{◌≡◌, refl, sym, ◌∙◌, ap}
use mathlib.Core.Logic.{⊎_elim}
use mathlib.Core.Bool.{Bool, true, false, ◌&&◌, false≢true}
use mathlib.Core.List.{List}
use Prim.Native.Nat.{ℕ, ◌+◌, ◌-◌, ◌/◌, ◌<◌, ◌≤◌}
use native.Mathlib.Omega.{arith}
use borrow.Author.Tests.{ltb-true}
use lib.Dec.{ltb}
use lib.ListN.{length, get_or, set}
use lib.Seq.{get_or-set_same}
use mir.Val.{bool_byte}
use Rattle.laws.specs.Page.{among}
use Rattle.laws.proofs.Byte.{byte_small}
use Rattle.code.specs.Ins.{count}
use Rattle.steps.specs.Inner.{used_of, given_of, StepAt}
use Rattle.steps.specs.declared.Step.{Step}
use Rattle.paths.specs.Search.{here, later, ways}
use Rattle.paths.specs.Inner.{pushed, Searched, owed}
use Rattle.paths.proofs.Depth.{push_only, pushed_long}
use Rattle.paths.proofs.Loop as path
use Rattle.seek.specs.Asked.{seek_within, seek_next, jumps_in}
use Rattle.seek.specs.Inner.{uses_at, gives_at, on_to, over_to, Asked, AskedRoom}
use Rattle.seek.proofs.Within.{ways_within, owed_few}

-- the search so far: only instructions wait, and what is still to do is at most as much as instructions and jumps
pub record Loop (w : List ℕ) (r start : ℕ) (seen₀ todo₀ seen todo : List ℕ) (top : ℕ) : Type 0 where
  pub walk : path.Loop (count w) (uses_at w r) (gives_at w r) (seek_next w) start seen₀ todo₀ seen todo top
  pub inside : (i : ℕ) → i < top → get_or todo i 0 < length w / 6
  pub few : owed (seek_next w) seen (length w / 6) + top ≤ count w + jumps_in w

module _ (w : List ℕ) (r start : ℕ) (seen₀ todo₀ : List ℕ) where
  pub enters : AskedRoom w seen₀ todo₀ → ((j : ℕ) → j < length w / 6 → get_or seen₀ j 0 ≡ 0) → start < length w / 6
      → Loop w r start seen₀ (set todo₀ 0 start) seen₀ (set todo₀ 0 start) 1
  enters m none h =
      record {
        walk = path.enters (count w) (uses_at w r) (gives_at w r) (seek_next w) start seen₀ todo₀
            (record { few = m.valid.few; marks = m.marks; waiting = m.waiting }) none;
        inside = λ i l. first i (omega arith);
        few = owed_few w seen₀ (omega arith);
      }
    where
      first : (i : ℕ) → i ≡ 0 → get_or (set todo₀ 0 start) i 0 < length w / 6
      first i e = rw (e, get_or-set_same todo₀ 0 start 0 (omega (arith, m.waiting))) h

  -- n is no instruction, and leads nowhere
  pub past_end : length w / 6 ≤ start → Searched (Asked w r start) (length w / 6) seen₀ todo₀ false seen₀ todo₀
  past_end h = record {
    answer = λ x. nowhere x;
    marks = record { same = refl; tail = refl };
    waiting = record { same = refl; tail = refl };
  }
    where
      nowhere : Asked w r start → ⊥
      nowhere (here l e) = omega arith
      nowhere (later l z o x) = omega arith

  pub ends : (seen todo : List ℕ) (top : ℕ) → Loop w r start seen₀ (set todo₀ 0 start) seen todo top → top ≤ 0
      → Searched (Asked w r start) (length w / 6) seen₀ todo₀ false seen todo
  ends seen todo top l h = path.ends (count w) (uses_at w r) (gives_at w r) (seek_next w) start seen₀ todo₀ seen todo top l.walk h

-- a test of the step at j is one of j
module _ (w : List ℕ) (r j : ℕ) (s : Step) (at : StepAt w j s) where
  use_is : (b t : Bool) → b ≡ among r (used_of s) → b ≡ t → uses_at w r j ≡ t
  unfolding uses_at
  use_is b t e f = sym (ap (among r) at.used) ∙ sym e ∙ f

  give_is : (b t : Bool) → b ≡ among r (given_of s) → b ≡ t → gives_at w r j ≡ t
  unfolding gives_at
  give_is b t e f = sym (ap (among r) at.given) ∙ sym e ∙ f

  -- the two pushes are of what comes next
  next_is : ways (on_to s j (count w)) (j + 1) (over_to s (count w)) s.target ≡ seek_next w j
  unfolding seek_next
  next_is = ways_within (count w) s.on s.to (j + 1) s.target ∙ ap (seek_within (count w)) at.after

-- a push of an instruction, or of nothing
inside_push : (n : ℕ) (todo : List ℕ) (top t : ℕ) (b : Bool) → top < length todo → ((i : ℕ) → i < top → get_or todo i 0 < n)
    → (i : ℕ) → i < top + bool_byte (b && ltb t n) → get_or (pushed todo top t (b && ltb t n)) i 0 < n
inside_push n todo top t b l h i o = ⊎_elim
    (λ q. let (p, k, e) = q in rw (← e) (h p k))
    (λ q. rw q.1 (below b (ltb t n) refl q.0))
    (push_only todo top t l (b && ltb t n) (get_or (pushed todo top t (b && ltb t n)) i 0) (i, o, refl))
  where
    below : (b c : Bool) → ltb t n ≡ c → (b && c) ≡ true → t < n
    below true true e f = ltb-true t n e
    below true false e f = absurd (false≢true f)
    below false c e f = absurd (false≢true f)

module _ (w : List ℕ) (r start : ℕ) (seen₀ todo₀ seen todo : List ℕ) (top : ℕ) (l : Loop w r start seen₀ todo₀ seen todo top) (some : 0 < top) where
  pub few_wait : top ≤ 65536
  few_wait = path.few_wait (count w) (uses_at w r) (gives_at w r) (seek_next w) start seen₀ todo₀ seen todo top l.walk some

  pub top_in : top - 1 < length todo
  top_in = path.top_in (count w) (uses_at w r) (gives_at w r) (seek_next w) start seen₀ todo₀ seen todo top l.walk some

  module _ (j : ℕ) (popped : j ≡ get_or todo (top - 1) 0) where
    pub place : j < length w / 6
    place = omega (arith, popped, l.inside (top - 1) (omega arith))

    pub mark_in : j < length seen
    mark_in = path.mark_in (count w) (uses_at w r) (gives_at w r) (seek_next w) start seen₀ todo₀ seen todo top l.walk some j place

    pub skip_seen : (get_or seen j 0 ≡ 0 → ⊥) → Loop w r start seen₀ todo₀ seen todo (top - 1)
    skip_seen e = record {
      walk = path.skip_seen (count w) (uses_at w r) (gives_at w r) (seek_next w) start seen₀ todo₀ seen todo top l.walk some j popped place e;
      inside = λ i h. l.inside i (omega arith);
      few = omega (arith, l.few);
    }

    module _ (fresh : get_or seen j 0 ≡ 0) where
      pub falls_stop : owed (seek_next w) (set seen j 1) (length w / 6) + (top - 1) < owed (seek_next w) seen (length w / 6) + top
      falls_stop = path.falls_stop (count w) (uses_at w r) (gives_at w r) (seek_next w) start seen₀ todo₀ seen todo top l.walk some j popped place fresh

      pub room_for_2 : (top - 1) + 1 < length todo
      room_for_2 = path.room_for_2 (count w) (uses_at w r) (gives_at w r) (seek_next w) start seen₀ todo₀ seen todo top l.walk some j popped place fresh

      module _ (s : Step) (at : StepAt w j s) (b : Bool) (e : b ≡ among r (used_of s)) (t : b ≡ false) (d : Bool) (f : d ≡ among r (given_of s)) where
        pub stands : d ≡ true → Loop w r start seen₀ todo₀ (set seen j 1) todo (top - 1)
        stands u = record {
          walk = path.stands (count w) (uses_at w r) (gives_at w r) (seek_next w) start seen₀ todo₀ seen todo top l.walk some j popped place fresh
              (use_is w r j s at b false e t) (give_is w r j s at d true f u);
          inside = λ i h. l.inside i (omega arith);
          few = omega (arith, l.few, falls_stop);
        }

        module _ (u : d ≡ false) (top' : ℕ) (todo' : List ℕ)
            (q : top' ≡ (top - 1) + bool_byte (on_to s j (length w / 6)) + bool_byte (over_to s (length w / 6)))
            (q' : todo' ≡ pushed (pushed todo (top - 1) (j + 1) (on_to s j (length w / 6))) ((top - 1) + bool_byte (on_to s j (length w / 6)))
            s.target (over_to s (length w / 6))) where
          pub falls_go : owed (seek_next w) (set seen j 1) (length w / 6) + top' < owed (seek_next w) seen (length w / 6) + top
          falls_go =
              path.falls_go (count w) (uses_at w r) (gives_at w r) (seek_next w) start seen₀ todo₀ seen todo top l.walk some j popped place fresh
              (use_is w r j s at b false e t) (give_is w r j s at d false f u)
              (on_to s j (count w)) (over_to s (count w)) (j + 1) s.target (next_is w r j s at) top' todo' q q'

          inside_1 : (i : ℕ) → i < (top - 1) + bool_byte (on_to s j (count w)) → get_or (pushed todo (top - 1) (j + 1) (on_to s j (count w))) i 0 < count w
          inside_1 = inside_push (count w) todo (top - 1) (j + 1) s.on top_in (λ i h. l.inside i (omega arith))

          first_long : (top - 1) + bool_byte (on_to s j (count w)) < length (pushed todo (top - 1) (j + 1) (on_to s j (count w)))
          first_long = omega (arith, room_for_2, byte_small (on_to s j (count w)), pushed_long todo (top - 1) (j + 1) (on_to s j (count w)))

          inside_2 : (i : ℕ) → i < top' → get_or todo' i 0 < count w
          inside_2 = rw (q, q') (inside_push (count w) (pushed todo (top - 1) (j + 1) (on_to s j (count w))) ((top - 1) + bool_byte (on_to s j (count w)))
              s.target s.to first_long inside_1)

          pub goes : Loop w r start seen₀ todo₀ (set seen j 1) todo' top'
          goes = record {
            walk =
                path.goes (count w) (uses_at w r) (gives_at w r) (seek_next w) start seen₀ todo₀ seen todo top l.walk some j popped place fresh
                (use_is w r j s at b false e t) (give_is w r j s at d false f u)
                (on_to s j (count w)) (over_to s (count w)) (j + 1) s.target (next_is w r j s at) top' todo' q q';
            inside = inside_2;
            few = omega (arith, l.few, falls_go);
          }

pub same_todo : (w : List ℕ) (r start v : ℕ) (seen₀ todo₀ seen todo : List ℕ) (top : ℕ)
    → Loop w r start seen₀ (set todo₀ 0 v) seen todo top → length todo ≡ length todo₀
same_todo w r start v seen₀ todo₀ seen todo top l =
    path.same_todo (count w) (uses_at w r) (gives_at w r) (seek_next w) start v seen₀ todo₀ seen todo top l.walk

-- a use is found
pub tells : (w : List ℕ) (r start : ℕ) (seen₀ todo₀ seen todo : List ℕ) (top : ℕ) → Loop w r start seen₀ (set todo₀ 0 start) seen todo top → 0 < top
    → (j : ℕ) → j ≡ get_or todo (top - 1) 0 → get_or seen j 0 ≡ 0 → (s : Step) → StepAt w j s
    → (b : Bool) → b ≡ among r (used_of s) → b ≡ true
    → Searched (Asked w r start) (length w / 6) seen₀ todo₀ true (set seen j 1) todo
tells w r start seen₀ todo₀ seen todo top l some j popped fresh s at b e t =
    path.tells (count w) (uses_at w r) (gives_at w r) (seek_next w) start seen₀ todo₀ seen todo top l.walk some j popped
    (place w r start seen₀ (set todo₀ 0 start) seen todo top l some j popped) fresh (use_is w r j s at b true e t)

pub ruleset turning = (enters, past_end, ends, same_todo, few_wait, top_in, place, mark_in, skip_seen, falls_stop, room_for_2, stands, falls_go, goes, tells)
