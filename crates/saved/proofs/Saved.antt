-- Demand 3 through the saver, from what the kept-register call answered and left. Assumes nothing.
use mathlib.Core.Path.{◌≡◌, sym, ap, subst}
use mathlib.Core.Bool.{Bool, true}
use mathlib.Core.List.{List, Memᴰ}
use Prim.Native.Nat.{ℕ, ◌+◌, ◌*◌, ◌≤◌, ◌<◌}
use borrow.Author.Tests.{lt-ltb, le-ltb}
use lib.ListN.{length}
use Rattle.code.specs.Ins.{ins_at, count}
use Rattle.flow.specs.Set.{alone}
use Rattle.flow.specs.Kept.{handlers_of}
use Rattle.flow.specs.Demand.{Alike}
use Rattle.steps.specs.Level.{is_level}
use Rattle.steps.specs.Code.{flow}
use Rattle.kept.specs.Level.{resume_of, result_at, level_of}
use Rattle.kept.specs.Lists.{part_at}
use Rattle.kept.specs.Answers.{Outcome}
use Rattle.kept.specs.declared.KeptAnswer.TheVariants.{Is}
use Rattle.kept.proofs.Demand.{demand_3, kept_each_once}
use Rattle.taken.specs.Lists.{first_strange}
use Rattle.area.specs.Area.{free_of, need_of, put_in}
use Rattle.saver.specs.Saver.{Saver, ends, regs_of, in_use, entered, enter_of}
use Rattle.leaves.specs.Leaving.{returned, thrown, leave_of}
use Rattle.frames.specs.Frames.{file_of, Sound, CallEvent, Matched}
use Rattle.frames.specs.Inner.{Play}
use Rattle.std.specs.declared.result.Result.TheVariants.{Ok, Err}
use Rattle.saver.specs.declared.SaverRefusal.TheVariants.{Full}
use Rattle.frames.proofs.Listed.{fine_list}
use Rattle.frames.proofs.Resumes.{alike_return, alike_thrown}

-- the kept-register call answered, and k is a level of the code
module _ (bits : ℕ) (w : List ℕ) (regs : ℕ) (tries : List ℕ) (wide : Bool) (rows offsets list : List ℕ) (new o l : List ℕ) (total full abandoned : ℕ)
    (out : Outcome bits w regs tries wide rows offsets list new o l (Is total full abandoned)) (k : ℕ) (in_code : k < count w)
    (level : is_level (ins_at w k) ≡ true)
    (s : Saver) (ok : Sound s) (same : regs_of s ≡ regs) where
  -- its list is never refused with 14
  pub list_fine : length (part_at o l k) ≤ first_strange (regs_of s) (part_at o l k)
  list_fine = fine_list (regs_of s) (part_at o l k)
      (λ r m. subst (λ (n : ℕ). r < n) (sym same) ((demand_3 bits w regs tries wide rows offsets list new o l total full abandoned out k in_code level).below r
      m))
      (kept_each_once bits w regs tries wide rows offsets list new o l total full abandoned out k in_code level)

  -- so an entry is refused with 8 where free words are fewer than twice the list plus two ..
  pub no_room : free_of (in_use s) < 2 * length (part_at o l k) + 2 → enter_of s (part_at o l k) (result_at w k) ≡ ends s (Err (Full (free_of (in_use s))))
  unfolding enter_of
  no_room h = rw (
    le-ltb 64 (regs_of s) ok.few,
    le-ltb (first_strange (regs_of s) (part_at o l k)) (length (part_at o l k)) list_fine,
    lt-ltb (free_of (in_use s))
        (need_of (part_at o l k)) h,
  )

  -- .. and goes through everywhere else
  pub room : 2 * length (part_at o l k) + 2 ≤ free_of (in_use s)
      → enter_of s (part_at o l k) (result_at w k) ≡ ends (entered s (part_at o l k) (result_at w k)) (Ok (in_use s + (2 * length (part_at o l k) + 2)))
  unfolding enter_of
  room h = rw (
    le-ltb 64 (regs_of s) ok.few,
    le-ltb (first_strange (regs_of s) (part_at o l k)) (length (part_at o l k)) list_fine,
    le-ltb (free_of (in_use s))
        (need_of (part_at o l k)) h,
  )

  -- the level is entered, anything well bracketed happens, with registers overwritten at will, and the call is left
  module _ (u : ℕ) (entry : (enter_of s (part_at o l k) (result_at w k)).answer ≡ Ok u) (es : List CallEvent) (bracketed : Matched es)
      (t : Saver) (play : Play (enter_of s (part_at o l k) (result_at w k)).left es t) where
    -- by a return: the run resumed there visits the same positions and reads the same values as one whose registers nobody touched, save for the result
    pub saved_return : (x : ℕ) → Alike (flow regs w) (resume_of w k) (file_of (leave_of t (returned x)).left) (put_in (regs_of s) (result_at w k) x (file_of s))
    saved_return = alike_return s ok (part_at o l k) (result_at w k) u entry es bracketed t play (flow regs w) (level_of regs w tries k)
        (demand_3 bits w regs tries wide rows offsets list new o l total full abandoned out k in_code level) (ap (λ (n : ℕ). alone n (result_at w k)) (sym same))

    -- by an exception: in every handler of a try around the level likewise
    pub saved_handler : (h : ℕ) → Memᴰ h (handlers_of (count w) k tries) → Alike (flow regs w) h (file_of (leave_of t thrown).left) (file_of s)
    saved_handler = alike_thrown s ok (part_at o l k) (result_at w k) u entry es bracketed t play (flow regs w) (level_of regs w tries k)
        (demand_3 bits w regs tries wide rows offsets list new o l total full abandoned out k in_code level) (ap (λ (n : ℕ). alone n (result_at w k)) (sym same))
