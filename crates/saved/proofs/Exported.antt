-- The frame saver's promises at the exported calls, each in a sentence. Assumes nothing.
use mathlib.Core.Path.{◌≡◌, refl, sym, ap, ◌∙◌, subst}
use mathlib.Core.Logic.{◌≢◌}
use mathlib.Core.Bool.{Bool, true, false, cond}
use mathlib.Core.List.{List, Memᴰ}
use Prim.Native.Nat.{ℕ, suc, ◌+◌, ◌*◌, ◌≤◌, ◌<◌}
use native.Mathlib.Decide.{dec_lt}
use native.Mathlib.Omega.{arith}
use borrow.Author.Tests.{lt-ltb, le-ltb}
use lib.Dec.{ltb}
use lib.ListN.{length, get_or, set}
use lib.Seq.{get_or-set_same, get_or-set_other}
use Rattle.code.specs.Ins.{ins_at, count}
use Rattle.code.specs.Check.{check_of}
use Rattle.refusals.specs.Stages.{inside_of}
use Rattle.refusals.specs.Answers.{asked, answer_of, refusal_of, refused_of}
use Rattle.refusals.specs.declared.Answer.{Answer}
use Rattle.refusals.specs.Stages.{Checked}
use Rattle.std.specs.declared.result.Result.TheVariants.{Ok, Err}
use Rattle.code.proofs.Checks.{counted}
use Rattle.refusals.proofs.Stages.{at_before, at_inside}
use Rattle.flow.specs.Kept.{handlers_of}
use Rattle.flow.specs.Demand.{Alike}
use Rattle.steps.specs.Level.{is_level}
use Rattle.steps.specs.Code.{flow}
use Rattle.kept.specs.Level.{resume_of, result_at}
use Rattle.kept.specs.Lists.{part_at}
use Rattle.levels.specs.Answers.{level_told, level_answer}
use Rattle.area.specs.Area.{free_of, put_in}
use Rattle.saver.specs.Saver.{Saver, saver, made_head, Ends, ends, regs_of, in_use, entered, enter_of}
use Rattle.leaves.specs.Leaving.{Back, returned, thrown, leave_of}
use Rattle.frames.specs.Frames.{file_of, Sound, CallEvent, Matched, Open}
use Rattle.frames.specs.Inner.{Play, done, enter, write, leave}
use Rattle.saver.specs.Answers.{saver_told}
use Rattle.std.specs.declared.result.Result.TheVariants.{Ok, Err}
use Rattle.saver.specs.Saver.{SaverAnswer}
use Rattle.saver.specs.declared.SaverRefusal.TheVariants.{Registers, Listed, Full, Nothing}
use Rattle.frames.proofs.Resumes.{answers}
use Rattle.frames.proofs.Open.{open_sound, none_open, some_open, made_open}
use Rattle.answers.specs.Answers.{By, KeptTold, MadeTold, EnterTold, LeaveTold}
use Rattle.answers.proofs.Answered.{never_0, kept_answered}
use Rattle.saved.specs.Calls.{ByCalls}
use Rattle.saved.specs.Calls as called
use Rattle.saved.proofs.Saved as saved

-- a level that was asked for and found: it stands in the code, and the answer has its resume point and its result register
record Found (w : List ℕ) (k : ℕ) (v : Answer) : Type 0 where
  inside : k < count w
  level : is_level (ins_at w k) ≡ true
  resumes : v.second ≡ resume_of w k
  results : v.third ≡ result_at w k

level_found : (w : List ℕ) (k : ℕ) (v : Answer) → v ≡ level_answer w k → v.refusal ≡ 0 → v.first ≡ 1 → Found w k v
unfolding level_answer
level_found w k v e h one = go (inside_of (check_of w) k) refl (sym (ap (λ (a : Answer). a.refusal) e) ∙ h) (sym (ap (λ (a : Answer). a.first) e) ∙ one) e
  where
    go : (c : Checked) → inside_of (check_of w) k ≡ c → (asked c refused_of (level_told w k)).refusal ≡ 0 → (asked c refused_of (level_told w k)).first ≡ 1
        → v ≡ asked c refused_of (level_told w k) → Found w k v
    go (Err q) p z u x = absurd (never_0 q z)
    go (Ok n) p z u x = at (is_level (ins_at w k)) refl u x
      where
        at : (b : Bool) → is_level (ins_at w k) ≡ b → (cond b (answer_of 1 (resume_of w k) (result_at w k) 0) (answer_of 0 0 0 0)).first ≡ 1
            → v ≡ cond b (answer_of 1 (resume_of w k) (result_at w k) 0) (answer_of 0 0 0 0) → Found w k v
        at false q y x = absurd (omega arith)
        at true q y x = record {
          inside = omega (arith, at_inside n (check_of w) k (sym p), counted w n (sym (at_before n (check_of w) k (sym p))));
          level = q;
          resumes = ap (λ (a : Answer). a.second) x;
          results = ap (λ (a : Answer). a.third) x;
        }

-- an exported saver call with refusal 0 is an answer of the call inside
used_of_lem : (v : SaverAnswer) → (saver_told v).refusal ≡ 0 → (u : ℕ) × (v ≡ Ok u)
used_of_lem (Ok u) h = (u, refl)
used_of_lem (Err (Registers n)) h = absurd (omega arith)
used_of_lem (Err (Listed i)) h = absurd (omega arith)
used_of_lem (Err (Full n)) h = absurd (omega arith)
used_of_lem (Err Nothing) h = absurd (omega arith)

pub by_call : (e : Ends) (s : Saver) (r : Answer) → By saver_told (λ v. e ≡ ends s v) r → r.refusal ≡ 0 → (u : ℕ) × (e.answer ≡ Ok u)
by_call e s r x h =
    let (u, z) = used_of_lem x.told (sym (ap (λ (a : Answer). a.refusal) x.is) ∙ h) in
    (u, ap (λ (y : Ends). y.answer) x.allowed ∙ z)

pub left_is : (e : Ends) (s : Saver) (r : Answer) → By saver_told (λ v. e ≡ ends s v) r → e.left ≡ s
left_is e s r x = ap (λ (y : Ends). y.left) x.allowed

told_is : (e : Ends) (s : Saver) (r : Answer) → By saver_told (λ v. e ≡ ends s v) r → r ≡ saver_told e.answer
told_is e s r x = x.is ∙ ap saver_told (sym (ap (λ (y : Ends). y.answer) x.allowed))

-- exported calls in order are the calls inside in order
pub played : {s t : Saver} {es : List CallEvent} → ByCalls s es t → Play s es t
played called.done = done
played {t = t} (called.enter {s = s} {m = m} {l = l} {q = q} {es = es} {r = r} x h p) =
    let (u, e) = by_call (enter_of s l q) m r x h in
    enter e (subst (λ (z : Saver). Play z es t) (sym (left_is (enter_of s l q) m r x)) (played p))
played (called.write e p) = write e (played p)
played {t = t} (called.leave {s = s} {m = m} {back = back} {es = es} {r = r} x p) =
    leave (subst (λ (z : Saver). Play z es t) (sym (left_is (leave_of s back) m r x)) (played p))

-- A saver that was made has as many registers as asked for and no call open, whatever area and file hold.
pub made : (regs : ℕ) (head head' area file : List ℕ) (r : Answer) → length head ≡ 2 → length area ≡ 4096 → length file ≡ 64
    → MadeTold regs head head' r → r.refusal ≡ 0 → Open (saver head' area file) 0 × (regs_of (saver head' area file) ≡ regs)
made regs head head' area file r h a f x zero = go (dec_lt 64 regs)
  where
    told : (saver_told (cond (ltb 64 regs) (Err (Registers regs)) (Ok 0))).refusal ≡ 0
    told = ap (λ (v : SaverAnswer). (saver_told v).refusal) (sym x.allowed.answer) ∙ sym (ap (λ (y : Answer). y.refusal) x.is) ∙ zero

    go : Dec (64 < regs) → Open (saver head' area file) 0 × (regs_of (saver head' area file) ≡ regs)
    go (yes n) = let e = told in let z : ◌≡◌ {A = ℕ} 3 0 = rw (lt-ltb 64 regs n) at e in absurd (omega arith)
    go (no n) =
        let e : head' ≡ made_head head regs = x.allowed.words in (
          subst (λ (y : List ℕ). Open (saver y area file) 0) (sym e) (made_open head area file regs h a f (omega arith)),
          ap (λ (y : List ℕ). get_or y 0 0) e ∙ rw (le-ltb 64 regs (omega arith)) zeroth,
        )
      where
        zeroth : get_or (set (set head 0 regs) 1 0) 0 0 ≡ regs
        zeroth = get_or-set_other (set head 0 regs) 1 0 0 0 (λ z. omega arith) ∙ get_or-set_same head 0 regs 0 (omega arith)

-- However it is used from there on, it is what the promises below ask of it.
pub in_use_lem : {s : Saver} {n : ℕ} → Open s n → Sound s
in_use_lem o = open_sound o

-- With no call open a leaving is refused with 9, and no word changes.
pub nine : {s : Saver} → Open s 0 → (back : Back) (t : Saver) (r : Answer) → LeaveTold s back t r → (r ≡ refusal_of 9 0 0) × (t ≡ s)
nine {s} o back t r x =
    let e = none_open o back in
    (told_is (leave_of s back) t r x ∙ ap (λ (y : Ends). saver_told y.answer) e, sym (left_is (leave_of s back) t r x) ∙ ap (λ (y : Ends). y.left) e)

-- With a call open it is answered.
pub not_nine : {s : Saver} {n : ℕ} → Open s (suc n) → (back : Back) (t : Saver) (r : Answer) → LeaveTold s back t r → r.refusal ≡ 0
not_nine {s} o back t r x =
    let (u, e) = some_open o back in
    ap (λ (a : Answer). a.refusal) (told_is (leave_of s back) t r x ∙ ap saver_told e)

-- The kept call was answered, k is a level by the level call, and the saver was made for as many registers.
module _ (bits : ℕ) (w : List ℕ) (regs : ℕ) (tries : List ℕ) (wide : Bool) (rows offsets list new o l : List ℕ) (r : Answer)
    (kept : KeptTold bits w regs tries wide rows offsets list new o l r) (answered : r.refusal ≡ 0)
    (k : ℕ) (v : Answer) (asks : v ≡ level_answer w k) (heard : v.refusal ≡ 0) (one : v.first ≡ 1)
    (s : Saver) (ok : Sound s) (same : regs_of s ≡ regs) where
  f : Found w k v
  f = level_found w k v asks heard one

  at : (P : ℕ → Type 0) → P (result_at w k) → P v.third
  at P = subst P (sym f.results)

  -- It is refused with 8 and the free words, and no word changes, where these are fewer than twice the list plus two.
  pub no_room : free_of (in_use s) < 2 * length (part_at o l k) + 2 → (t : Saver) (a : Answer) → EnterTold s (part_at o l k) v.third t a
      → (a ≡ refusal_of 8 (free_of (in_use s)) 0) × (t ≡ s)
  no_room h t a x =
      let (n, g, b, out) = kept_answered bits w regs tries wide rows offsets list new o l r kept answered in
      let e = at (λ q. enter_of s (part_at o l k) q ≡ ends s (Err (Full (free_of (in_use s)))))
      (saved.no_room bits w regs tries wide rows offsets list new o l n g b out k f.inside f.level s ok same h) in (
        told_is (enter_of s (part_at o l k) v.third) t a x ∙ ap (λ (y : Ends). saver_told y.answer) e,
        sym (left_is (enter_of s (part_at o l k) v.third) t a x) ∙ ap (λ (y : Ends). y.left) e,
      )

  -- Everywhere else it is answered.
  pub room : 2 * length (part_at o l k) + 2 ≤ free_of (in_use s) → (t : Saver) (a : Answer) → EnterTold s (part_at o l k) v.third t a
      → a ≡ answer_of (in_use s + (2 * length (part_at o l k) + 2)) 0 0 0
  room h t a x =
      let (n, g, b, out) = kept_answered bits w regs tries wide rows offsets list new o l r kept answered in
      let e = at (λ q. enter_of s (part_at o l k) q ≡ ends (entered s (part_at o l k) q) (Ok (in_use s + (2 * length (part_at o l k) + 2))))
      (saved.room bits w regs tries wide rows offsets list new o l n g b out k f.inside f.level s ok same h) in
      told_is (enter_of s (part_at o l k) v.third) t a x ∙ ap (λ (y : Ends). saver_told y.answer) e

  -- Its kept list is never refused with 14.
  pub list_fine : (t : Saver) (a : Answer) → EnterTold s (part_at o l k) v.third t a → a.refusal ≢ 14
  list_fine t a x h = go (dec_lt (free_of (in_use s)) (2 * length (part_at o l k) + 2))
    where
      go : Dec (free_of (in_use s) < 2 * length (part_at o l k) + 2) → ⊥
      go (yes z) = let e : a.refusal ≡ 8 = ap (λ (y : Answer). y.refusal) (no_room z t a x).0 in omega arith
      go (no z) = let e : a.refusal ≡ 0 = ap (λ (y : Answer). y.refusal) (room (omega arith) t a x) in omega arith

  -- The level is entered, exported calls come and go well bracketed, nested to any depth, and registers are overwritten at will.
  module _ (s₁ : Saver) (a : Answer) (entry : EnterTold s (part_at o l k) v.third s₁ a) (went : a.refusal ≡ 0)
      (es : List CallEvent) (bracketed : Matched es) (t : Saver) (calls : ByCalls s₁ es t) where
    -- what follows for the calls inside
    play : Play (enter_of s (part_at o l k) v.third).left es t
    play = subst (λ (z : Saver). Play z es t) (sym (left_is (enter_of s (part_at o l k) v.third) s₁ a entry)) (played calls)

    from : Play (enter_of s (part_at o l k) (result_at w k)).left es t
    from = subst (λ (q : ℕ). Play (enter_of s (part_at o l k) q).left es t) f.results play

    to : (u : ℕ) → (enter_of s (part_at o l k) v.third).answer ≡ Ok u → (enter_of s (part_at o l k) (result_at w k)).answer ≡ Ok u
    to u = subst (λ (q : ℕ). (enter_of s (part_at o l k) q).answer ≡ Ok u) f.results

    -- The leaving is answered, by a return or an exception.
    pub left : (back : Back) (t' : Saver) (b : Answer) → LeaveTold t back t' b → b ≡ answer_of (in_use s) 0 0 0
    left back t' b x =
        let (u, e) = by_call (enter_of s (part_at o l k) v.third) s₁ a entry went in
        told_is (leave_of t back) t' b x ∙ ap saver_told (answers s ok (part_at o l k) v.third u e es bracketed t play back)

    -- Left by a return, the run resumed visits the same positions and reads the same values as one whose registers nobody touched, save for the result.
    pub saved_return : (x : ℕ) (t' : Saver) (b : Answer) → LeaveTold t (returned x) t' b
        → Alike (flow regs w) v.second (file_of t') (put_in regs v.third x (file_of s))
    saved_return x t' b y =
        let (u, e) = by_call (enter_of s (part_at o l k) v.third) s₁ a entry went in
        let (n, g, c, out) = kept_answered bits w regs tries wide rows offsets list new o l r kept answered in
        subst (λ (z : Saver). Alike (flow regs w) v.second (file_of z) (put_in regs v.third x (file_of s))) (left_is (leave_of t (returned x)) t' b y)
        (at (λ q. Alike (flow regs w) v.second (file_of (leave_of t (returned x)).left) (put_in regs q x (file_of s)))
        (subst (λ (p : ℕ). Alike (flow regs w) p (file_of (leave_of t (returned x)).left) (put_in regs (result_at w k) x (file_of s))) (sym f.resumes)
        (subst (λ (m : ℕ). Alike (flow regs w) (resume_of w k) (file_of (leave_of t (returned x)).left) (put_in m (result_at w k) x (file_of s))) same
        (saved.saved_return bits w regs tries wide rows offsets list new o l n g c out k f.inside f.level s ok same u (to u e) es bracketed t from x))))

    -- Left by an exception, it does in every handler of a try around the level as one whose registers nobody touched.
    pub saved_handler : (t' : Saver) (b : Answer) → LeaveTold t thrown t' b
        → (h : ℕ) → Memᴰ h (handlers_of (count w) k tries) → Alike (flow regs w) h (file_of t') (file_of s)
    saved_handler t' b y h i =
        let (u, e) = by_call (enter_of s (part_at o l k) v.third) s₁ a entry went in
        let (n, g, c, out) = kept_answered bits w regs tries wide rows offsets list new o l r kept answered in
        subst (λ (z : Saver). Alike (flow regs w) h (file_of z) (file_of s)) (left_is (leave_of t thrown) t' b y)
        (saved.saved_handler bits w regs tries wide rows offsets list new o l n g c out k f.inside f.level s ok same u (to u e) es bracketed t from h i)
