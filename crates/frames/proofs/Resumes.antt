-- A frame's end: every kept register holds what it held, save the result register after a return, and a run goes on as if nobody had touched
-- a register. Assumes nothing.
use mathlib.Core.Path.{◌≡◌, refl, sym, ap, ◌∙◌, subst}
use mathlib.Core.Logic.{◌≢◌}
use mathlib.Core.Bool.{Bool, true, false, cond}
use mathlib.Core.List.{List, Memᴰ}
use Prim.Native.Nat.{ℕ, ◌^◌, ◌≤◌, ◌<◌}
use native.Mathlib.Decide.{ℕ_discrete}
use native.Mathlib.Omega.{arith}
use borrow.Author.Tests.{ltb-true}
use lib.Dec.{ltb}
use lib.ListN.{length, get_or, take}
use lib.Seq.{get_or-take, length-take-le}
use Rattle.flow.specs.Set.{bit, alone}
use Rattle.flow.specs.Flow.{Flow}
use Rattle.flow.specs.Kept.{Level}
use Rattle.flow.specs.Demand.{Agree, AgreeOn, Alike, Keeps}
use Rattle.flow.proofs.Bits.{bit_zero, pow_other}
use Rattle.area.specs.Area.{free_of, put_in}
use Rattle.saver.specs.Saver.{Saver, Ends, regs_of, in_use, enter_of}
use Rattle.leaves.specs.Leaving.{Back, returned, thrown, result_written, leave_of}
use Rattle.frames.specs.Frames.{file_of, Sound, CallEvent, Matched}
use Rattle.frames.specs.Inner.{restored, Play, SameRoom}
use Rattle.std.specs.declared.result.Result.TheVariants.{Ok}
use Rattle.frames.proofs.Words.{in_same, in_other, back_length, back_kept}
use Rattle.frames.proofs.Frames.{Accepted, accepted, entered_sound, leaving, left_same, matched}
use Rattle.frames.proofs.Listed.{fine_in}

-- s is entered with the list l and the result register q; what happens then, nested entries and leavings and registers overwritten, is well
-- bracketed and ends in t
module _ (s : Saver) (ok : Sound s) (l : List ℕ) (q u : ℕ) (entry : (enter_of s l q).answer ≡ Ok u) (es : List CallEvent) (bracketed : Matched es) (t : Saver)
    (play : Play (enter_of s l q).left es t) where
  a : Accepted s l q
  a = accepted s l q u entry

  m : SameRoom (enter_of s l q).left t
  m = matched bracketed (entered_sound s ok l q a) play

  -- the leaving is not refused, whichever it is
  pub answers : (back : Back) → (leave_of t back).answer ≡ Ok (in_use s)
  answers back = ap (λ (e : Ends). e.answer) (leaving s ok l q a t m back)

  pub frame_same : (back : Back) → SameRoom s (leave_of t back).left
  frame_same back = left_same s ok l q a t m back

  -- freed room serves the next entry
  pub room_back : (back : Back) → free_of (in_use (leave_of t back).left) ≡ free_of (in_use s)
  room_back back = ap free_of (frame_same back).used

  file_is : (back : Back) → (leave_of t back).left.file ≡ result_written (regs_of s) q back (restored (regs_of s) s.file l t.file)
  file_is back = ap (λ (e : Ends). e.left.file) (leaving s ok l q a t m back)

  abbrev kept : List ℕ
  kept = restored (regs_of s) s.file l t.file

  kept_long : regs_of s ≤ length kept
  kept_long = omega (arith, back_length (regs_of s) s.file l t.file, m.sound.files, ok.few)

  -- a register of the file, as it then is
  now_at : (back : Back) (r : ℕ) → r < regs_of s → get_or (file_of (leave_of t back).left) r 0 ≡ get_or (result_written (regs_of s) q back kept) r 0
  now_at back r h =
      ap (λ (n : ℕ). get_or (take n (leave_of t back).left.file) r 0) (frame_same back).regs
      ∙ get_or-take (regs_of s) (leave_of t back).left.file r 0 h
      ∙ ap (λ (x : List ℕ). get_or x r 0) (file_is back)

  was_at : (r : ℕ) → r < regs_of s → get_or (file_of s) r 0 ≡ get_or s.file r 0
  was_at r h = get_or-take (regs_of s) s.file r 0 h

  below : (r : ℕ) → Memᴰ r l → r < regs_of s
  below = fine_in (regs_of s) l a.fine

  back_at : (r : ℕ) → Memᴰ r l → get_or kept r 0 ≡ get_or (file_of s) r 0
  back_at r i = back_kept (regs_of s) s.file l t.file r i (below r i) (omega (arith, m.sound.files, ok.few)) ∙ sym (was_at r (below r i))

  -- after a return every listed register holds what it held, save the result register
  pub held_return : (v r : ℕ) → Memᴰ r l → r ≢ q → get_or (file_of (leave_of t (returned v)).left) r 0 ≡ get_or (file_of s) r 0
  held_return v r i n = now_at (returned v) r (below r i) ∙ in_other (regs_of s) q v kept r n ∙ back_at r i

  -- which holds the result, if it is in the file
  pub held_result : (v : ℕ) → q < regs_of s → get_or (file_of (leave_of t (returned v)).left) q 0 ≡ v
  held_result v h = now_at (returned v) q h ∙ in_same (regs_of s) q v kept h kept_long

  -- after an exception every listed register holds what it held
  pub held_thrown : (r : ℕ) → Memᴰ r l → get_or (file_of (leave_of t thrown).left) r 0 ≡ get_or (file_of s) r 0
  held_thrown r i = now_at thrown r (below r i) ∙ back_at r i

  long : regs_of s ≤ length (file_of s)
  long = omega (arith, length-take-le (regs_of s) s.file (omega (arith, ok.few, ok.files)))

  -- the file after a return agrees on the list with the file at the entry with the result written ..
  pub agree_return : (v : ℕ) → Agree l (file_of (leave_of t (returned v)).left) (put_in (regs_of s) q v (file_of s))
  agree_return v r i = go (ℕ_discrete r q)
    where
      go : Dec (r ≡ q) → get_or (file_of (leave_of t (returned v)).left) r 0 ≡ get_or (put_in (regs_of s) q v (file_of s)) r 0
      go (yes e) = subst (λ (x : ℕ). get_or (file_of (leave_of t (returned v)).left) x 0 ≡ get_or (put_in (regs_of s) q v (file_of s)) x 0) (sym e)
          (held_result v (subst (λ (x : ℕ). x < regs_of s) e (below r i))
          ∙ sym (in_same (regs_of s) q v (file_of s) (subst (λ (x : ℕ). x < regs_of s) e (below r i)) long))
      go (no n) = held_return v r i n ∙ sym (in_other (regs_of s) q v (file_of s) r n)

  -- .. and on the result register
  pub agree_result : (v : ℕ) → AgreeOn (alone (regs_of s) q) (file_of (leave_of t (returned v)).left) (put_in (regs_of s) q v (file_of s))
  agree_result v r h = go (ltb q (regs_of s)) refl h
    where
      go : (b : Bool) → ltb q (regs_of s) ≡ b → 0 < bit (cond b (2 ^ q) 0) r
          → get_or (file_of (leave_of t (returned v)).left) r 0 ≡ get_or (put_in (regs_of s) q v (file_of s)) r 0
      go false e z = absurd (omega (arith, bit_zero r))
      go true e z = at (ℕ_discrete q r)
        where
          at : Dec (q ≡ r) → get_or (file_of (leave_of t (returned v)).left) r 0 ≡ get_or (put_in (regs_of s) q v (file_of s)) r 0
          at (yes p) = subst (λ (x : ℕ). get_or (file_of (leave_of t (returned v)).left) x 0 ≡ get_or (put_in (regs_of s) q v (file_of s)) x 0) p
              (held_result v (ltb-true q (regs_of s) e) ∙ sym (in_same (regs_of s) q v (file_of s) (ltb-true q (regs_of s) e) long))
          at (no n) = absurd (omega (arith, pow_other q r n))

  -- the file after an exception agrees on the list with the file at the entry
  pub agree_thrown : Agree l (file_of (leave_of t thrown).left) (file_of s)
  agree_thrown r i = held_thrown r i

  -- Where the list is kept for a level, as demand 3 has it, with this result register:
  module _ (f : Flow) (v : Level) (keeps : Keeps f l v) (result : v.result ≡ alone (regs_of s) q) where
    -- a run resumed after the return visits the same positions and reads the same values as one whose registers nobody touched but for the result
    pub alike_return : (x : ℕ) → Alike f v.resume (file_of (leave_of t (returned x)).left) (put_in (regs_of s) q x (file_of s))
    alike_return x = keeps.resumed (file_of (leave_of t (returned x)).left) (put_in (regs_of s) q x (file_of s)) (agree_return x)
        (subst (λ (y : ℕ). AgreeOn y (file_of (leave_of t (returned x)).left) (put_in (regs_of s) q x (file_of s))) (sym result) (agree_result x))

    -- and in every handler around the level as one whose registers nobody touched
    pub alike_thrown : (h : ℕ) → Memᴰ h v.handlers → Alike f h (file_of (leave_of t thrown).left) (file_of s)
    alike_thrown = keeps.handled (file_of (leave_of t thrown).left) (file_of s) agree_thrown
