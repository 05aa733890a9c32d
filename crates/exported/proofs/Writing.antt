-- The calls that fill a buffer, and those that search: one result, refusals that leave what is lent, words past n + 1 as they were. Assumes nothing.
use mathlib.Core.Path.{◌≡◌, refl, sym, ap, ◌∙◌}
use mathlib.Core.Logic.{inl, inr}
use mathlib.Core.Bool.{Bool, true, false}
use mathlib.Core.List.{List, ◌++◌}
use Prim.Native.Nat.{ℕ, ◌+◌, ◌≤◌}
use native.Mathlib.Omega.{arith}
use lib.ListN.{length, drop, length-append, length-drop}
use lib.Seq.{drop_at}
use mir.Val.{bool_byte}
use Rattle.laws.specs.Table.{table, filled_to, cleared_to, Held}
use Rattle.laws.proofs.Table.{table_length, cleared_tail, cleared_length}
use Rattle.code.specs.Ins.{count}
use Rattle.code.specs.Check.{check_of}
use Rattle.refusals.specs.Stages.{inside_of, tried_of, room_of}
use Rattle.refusals.specs.Answers.{asked, answer_of, refused_of}
use Rattle.refusals.specs.declared.Answer.{Answer}
use Rattle.refusals.specs.Stages.{Checked}
use Rattle.std.specs.declared.result.Result.TheVariants.{Ok, Err}
use Rattle.refusals.proofs.Stages.{room_before, room_there}
use Rattle.surveys.specs.Answers.{Fills, target_mark}
use Rattle.loops.specs.Loops.{depth}
use Rattle.paths.specs.Search as paths
use Rattle.unread.specs.Phi.{Dead}
use Rattle.generators.specs.Generator.{GenPure}
use Rattle.unread.specs.Answers.{Tells, room_both}
use Rattle.answers.proofs.Alone.{one_targets, one_loops, one_dead, one_gen}
use Rattle.exported.specs.Settles as settles
use Rattle.exported.specs.Settles.{Settles}
use Rattle.exported.specs.Calls.{TargetsCall, LoopsCall, EntriesBeyond, Marks, DeadCall, GenCall, MarksBeyond}
use Rattle.exported.specs.Told.{Truth}
use Rattle.exported.proofs.Answered.{refused_not}

-- nothing changed
pub held_same : (m : ℕ) (b a : List ℕ) → a ≡ b → Held m b a
held_same m b a e = record { same = ap length e; tail = ap (drop m) e }

-- a front of m words, and the rest as lent
pub held_front : (m : ℕ) (front b : List ℕ) → length front ≡ m → m ≤ length b → Held m b (front ++ drop m b)
held_front m front b e h = record { same = length-append front (drop m b) ∙ omega (arith, length-drop m b); tail = drop_at front (drop m b) m e }

-- ---- one buffer is filled

module _ (v : Checked) (m : ℕ) (f : ℕ → ℕ) (b : List ℕ) (room : (n : ℕ) → v ≡ Ok n → m ≤ length b) (r : Answer) (a : List ℕ)
    (x : Fills v m f b r a) where
  filled_refusal : settles.Refusal r → a ≡ b
  filled_refusal h = go v refl
    where
      go : (u : Checked) → v ≡ u → a ≡ b
      go (Err q) e = x.words ∙ ap (λ (s : Checked). asked s (λ _. b) (filled_to f m b)) e
      go (Ok n) e =
          absurd (h (ap (λ (s : Answer). s.refusal) (x.answer ∙ ap (λ (s : Checked). asked s refused_of (answer_of 0 0 0 0)) e)))

  filled_beyond : Held m b a
  filled_beyond = go v refl
    where
      go : (u : Checked) → v ≡ u → Held m b a
      go (Err q) e = held_same m b a (x.words ∙ ap (λ (s : Checked). asked s (λ _. b) (filled_to f m b)) e)
      go (Ok n) e =
          rw (x.words ∙ ap (λ (s : Checked). asked s (λ _. b) (filled_to f m b)) e) (held_front m (table f m) b (table_length f m) (room n e))

pub targets_settles : (w tries : List ℕ) → Settles (TargetsCall w tries) (EntriesBeyond w)
targets_settles w tries =
    record {
      one = λ b r r' a a' x y. one_targets w tries b r r' a a' x y;
      refusal = λ b r a x h. filled_refusal (room_of (tried_of (check_of w) tries) 1 (length b) (count w + 1)) (count w + 1) (target_mark w tries) b (room b) r a
          x h;
      beyond = λ b r a x. filled_beyond (room_of (tried_of (check_of w) tries) 1 (length b) (count w + 1)) (count w + 1) (target_mark w tries) b (room b) r a x;
    }
  where
    room : (b : List ℕ) (n : ℕ) → room_of (tried_of (check_of w) tries) 1 (length b) (count w + 1) ≡ Ok n → count w + 1 ≤ length b
    room b n e = room_there n (tried_of (check_of w) tries) 1 (length b) (count w + 1) (sym e)

pub loops_settles : (w : List ℕ) → Settles (LoopsCall w) (EntriesBeyond w)
loops_settles w =
    record {
      one = λ b r r' a a' x y. one_loops w b r r' a a' x y;
      refusal = λ b r a x h. filled_refusal (room_of (check_of w) 1 (length b) (count w + 1)) (count w + 1) (depth w) b (room b) r a x h;
      beyond = λ b r a x. filled_beyond (room_of (check_of w) 1 (length b) (count w + 1)) (count w + 1) (depth w) b (room b) r a x;
    }
  where
    room : (b : List ℕ) (n : ℕ) → room_of (check_of w) 1 (length b) (count w + 1) ≡ Ok n → count w + 1 ≤ length b
    room b n e = room_there n (check_of w) 1 (length b) (count w + 1) (sym e)

-- ---- two buffers serve a search, and are 0 after it

pub both : {a a' b b' : List ℕ} → a ≡ a' → b ≡ b' → ◌≡◌ {A = Marks} (record { seen = a; todo = b }) (record { seen = a'; todo = b' })
both e f = rw (e, f)

module _ (w : List ℕ) (v : Checked) (P : Type 0) (b : Marks) (r : Answer) (a : Marks)
    (x : Tells (room_both v w b.seen b.todo) P (count w + 1) b.seen b.todo r a.seen a.todo) where
  abbrev tests : Checked
  tests = room_both v w b.seen b.todo

  abbrev Says : Checked → Type 0
  Says u = Tells u P (count w + 1) b.seen b.todo r a.seen a.todo

  pub told_refusal : settles.Refusal r → a ≡ b
  told_refusal h = go tests refl x
    where
      go : (u : Checked) → tests ≡ u → Says u → a ≡ b
      go (Err q) e y = both y.1 y.2
      go (Ok n) e y = absurd (h (ap (λ (s : Answer). s.refusal) y.1))

  pub told_beyond : MarksBeyond w b a
  told_beyond = go tests refl x
    where
      m : ℕ
      m = count w + 1

      go : (u : Checked) → tests ≡ u → Says u → MarksBeyond w b a
      go (Err q) e y = record { seen = held_same m b.seen a.seen y.1; todo = held_same m b.todo a.todo y.2 }
      go (Ok n) e y =
          let p = room_before n (room_of v 1 (length b.seen) m) 2 (length b.todo) m (sym e) in
          record {
            seen = cleared b.seen a.seen (room_there n v 1 (length b.seen) m (sym p)) y.2.marks;
            todo = cleared b.todo a.todo (room_there n (room_of v 1 (length b.seen) m) 2 (length b.todo) m (sym e)) y.2.waiting;
          }
        where
          cleared : (l l' : List ℕ) → m ≤ length l → l' ≡ cleared_to m l → Held m l l'
          cleared l l' h e = record { same = ap length e ∙ cleared_length m l h; tail = ap (drop m) e ∙ cleared_tail m l }

  -- with refusal 0 it says whether P holds
  pub told_truth : r.refusal ≡ 0 → Truth P r
  told_truth z = go tests x
    where
      say : (c : Bool) → r ≡ answer_of (bool_byte c) 0 0 0 → paths.Says P c → Truth P r
      say true e p = inl (ap (λ (s : Answer). s.first) e, p)
      say false e p = inr (ap (λ (s : Answer). s.first) e, p)

      go : (u : Checked) → Says u → Truth P r
      go (Err q) y = absurd (refused_not q (sym (ap (λ (s : Answer). s.refusal) y.0) ∙ z))
      go (Ok n) y = say y.0 y.1 y.2.says

pub dead_truth : (w : List ℕ) (k q : ℕ) (b : Marks) (r : Answer) (a : Marks) → DeadCall w k q b r a → r.refusal ≡ 0 → Truth (Dead w k q) r
dead_truth w k q b r a x z = told_truth w (inside_of (check_of w) k) (Dead w k q) b r a x z

pub gen_truth : (w : List ℕ) (b : Marks) (r : Answer) (a : Marks) → GenCall w b r a → r.refusal ≡ 0 → Truth (GenPure w) r
gen_truth w b r a x z = told_truth w (check_of w) (GenPure w) b r a x z

pub dead_settles : (w : List ℕ) (k q : ℕ) → Settles (DeadCall w k q) (MarksBeyond w)
dead_settles w k q =
    record {
      one = λ b r r' a a' x y. let (e, f, g) = one_dead w k q b.seen b.todo r r' a.seen a'.seen a.todo a'.todo x y in (e, both f g);
      refusal = λ b r a x h. told_refusal w (inside_of (check_of w) k) (Dead w k q) b r a x h;
      beyond = λ b r a x. told_beyond w (inside_of (check_of w) k) (Dead w k q) b r a x;
    }

pub gen_settles : (w : List ℕ) → Settles (GenCall w) (MarksBeyond w)
gen_settles w =
    record {
      one = λ b r r' a a' x y. let (e, f, g) = one_gen w b.seen b.todo r r' a.seen a'.seen a.todo a'.todo x y in (e, both f g);
      refusal = λ b r a x h. told_refusal w (check_of w) (GenPure w) b r a x h;
      beyond = λ b r a x. told_beyond w (check_of w) (GenPure w) b r a x;
    }
