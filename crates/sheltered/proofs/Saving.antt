-- Calls that go through the exported frame saver are calls of the machine of nested frames, so their runs are sheltered too. Assumes nothing.
use mathlib.Core.Path.{◌≡◌, refl, sym, ap, ◌∙◌, subst}
use mathlib.Core.Logic.{⊎_elim}
use mathlib.Core.Bool.{Bool, true, false, cond}
use mathlib.Core.List.Memᴰ
use mathlib.Core.List.{List, [], ◌∷◌}
use Prim.Native.Nat.{ℕ, zero, suc, ◌^◌, ◌≤◌, ◌<◌}
use native.Mathlib.Decide.{dec_lt, ℕ_discrete}
use native.Mathlib.Omega.{arith}
use borrow.Author.Tests.{lt-ltb, le-ltb}
use lib.Dec.{ltb}
use lib.ListN.{length, get_or}
use lib.Seq.{ext_get_or, length-take-le}
use Rattle.code.specs.Ins.{count}
use Rattle.refusals.specs.declared.Answer.{Answer}
use Rattle.flow.specs.Set.{bit, alone}
use Rattle.flow.specs.Run.{values_of, wrote, chosen}
use Rattle.flow.specs.Kept.{handlers_of}
use Rattle.flow.proofs.Bits.{bit_zero, pow_here, pow_other}
use Rattle.flow.proofs.Rows.{In, joined_in, joined_has}
use Rattle.flow.proofs.Steps.{wrote_kept, wrote_new}
use Rattle.steps.specs.Code.{set_of}
use Rattle.kept.specs.Level.{resume_of, result_at}
use Rattle.saver.specs.Saver.{Saver, regs_of, enter_of}
use Rattle.leaves.specs.Leaving.{Back, returned, leave_of}
use Rattle.leaves.specs.Leaving as saver
use Rattle.frames.specs.Frames as frames
use Rattle.frames.specs.Frames.{file_of, Sound, Matched}
use Rattle.frames.specs.Inner.{SameRoom, Play}
use Rattle.std.specs.declared.result.Result.TheVariants.{Ok}
use Rattle.frames.proofs.Resumes.{frame_same, held_return, held_result, held_thrown}
use Rattle.saved.specs.Calls.{Entered}
use Rattle.saved.proofs.Exported.{by_call, left_is, played}
use Rattle.answers.specs.Answers.{LeaveTold}
use Rattle.exported.specs.Calls.{Lists}
use Rattle.exported.specs.Told.{list_left}
use Rattle.nested.specs.Machine.{Event, nested, undisturbed, Spares}
use Rattle.nested.specs.Raising.{raising, levels, mays, args_at, frame}
use Rattle.nested.specs.Exposed.{exposed}
use Rattle.nested.proofs.Exposed.{exposed_only, exposed_or}
use Rattle.sheltered.specs.Calls.{RaisingCall}
use Rattle.sheltered.specs.Saving.{result_in, Ran, ends, past, steps, returns, raises}
use Rattle.sheltered.proofs.Exported.{raising_holds}

-- ---- the registers that are not kept

upto : ℕ → List ℕ
upto zero = []
upto (suc n) = n ∷ upto n

in_upto : (n r : ℕ) → r < n → In r (upto n)
unfolding upto
in_upto zero r h = absurd (omega arith)
in_upto (suc n) r h = go (ℕ_discrete r n) (λ h'. in_upto n r h')
  where
    go : Dec (r ≡ n) → (r < n → In r (upto n)) → In r (n ∷ upto n)
    go (yes p) rec = Memᴰ.head p
    go (no p) rec = Memᴰ.tail (rec (omega arith))

alone_here : (n r : ℕ) → r < n → bit (alone n r) r ≡ 1
alone_here n r h = ap (λ (t : Bool). bit (cond t (2 ^ r) 0) r) (lt-ltb r n h) ∙ pow_here r

alone_one : (n s r : ℕ) → 0 < bit (alone n s) r → s ≡ r
alone_one n s r h = go (ltb s n) (ℕ_discrete s r) h
  where
    go : (t : Bool) → Dec (s ≡ r) → 0 < bit (cond t (2 ^ s) 0) r → s ≡ r
    go t (yes e) z = e
    go true (no e) z = absurd (omega (arith, pow_other s r e))
    go false (no e) z = absurd (omega (arith, bit_zero r))

-- all below n that a list has not, as a set
lost_of : ℕ → List ℕ → ℕ
lost_of n l = set_of n (exposed l (upto n))

lost_spares : (n r : ℕ) (l : List ℕ) → In r l → bit (lost_of n l) r ≡ 0
unfolding lost_of
lost_spares n r l m = go (dec_lt 0 (bit (set_of n (exposed l (upto n))) r))
  where
    go : Dec (0 < bit (set_of n (exposed l (upto n))) r) → bit (set_of n (exposed l (upto n))) r ≡ 0
    go (no h) = omega arith
    go (yes h) =
        let (s, i, b) = joined_has (alone n) r (exposed l (upto n)) h in
        let e : s ≡ r = alone_one n s r b in
        absurd ((exposed_only l (upto n) s i).1 (subst (λ (x : ℕ). In x l) (sym e) m))

lost_in : (n r : ℕ) (l : List ℕ) → r < n → bit (lost_of n l) r ≡ 0 → In r l
unfolding lost_of
lost_in n r l h z = ⊎_elim (λ i. absurd (omega (arith, z, alone_here n r h, joined_in (alone n) r (exposed l (upto n)) r i))) (λ i. i)
    (exposed_or l (upto n) r (in_upto n r h))

-- ---- files

wrote_long : (s : ℕ) (new file : List ℕ) (r m : ℕ) → length (wrote s new file r m) ≡ m
wrote_long s new file r zero = refl
wrote_long s new file r (suc m) = ap suc (wrote_long s new file (suc r) m)

result_at_lem : (q x : ℕ) → get_or (result_in q x) q 0 ≡ x
result_at_lem zero x = refl
result_at_lem (suc q) x = result_at_lem q x

module _ (s : Saver) (ok : Sound s) (l : List ℕ) (q u : ℕ) (entry : (enter_of s l q).answer
    ≡ Ok u) (es : List frames.CallEvent) (bracketed : Matched es) (t : Saver)
    (play : Play (enter_of s l q).left es t) where
  abbrev n : ℕ
  n = regs_of s

  abbrev file : Back → List ℕ
  file b = file_of (leave_of t b).left

  long : (b : Back) → length (file b) ≡ n
  long b = let m = frame_same s ok l q u entry es bracketed t play b in
      length-take-le (regs_of (leave_of t b).left) (leave_of t b).left.file (omega (arith, m.sound.files, m.sound.few)) ∙ m.regs

  -- by an exception the file is that of an event of the machine, in which what is not listed is lost
  file_thrown : file_of (leave_of t saver.thrown).left ≡ wrote (lost_of (regs_of s) l) (file_of (leave_of t saver.thrown).left) (file_of s) 0 (regs_of s)
  file_thrown = ext_get_or 0 F W (long saver.thrown ∙ sym (wrote_long (lost_of n l) F (file_of s) 0 n))
      (λ r h. at r (omega (arith, h, long saver.thrown)) (dec_lt 0 (bit (lost_of n l) r)))
    where
      F : List ℕ
      F = file saver.thrown

      W : List ℕ
      W = wrote (lost_of n l) F (file_of s) 0 n

      at : (r : ℕ) → r < n → Dec (0 < bit (lost_of n l) r) → get_or F r 0 ≡ get_or W r 0
      at r h (yes g) = sym (wrote_new (lost_of n l) F (file_of s) n r h g)
      at r h (no g) = held_thrown s ok l q u entry es bracketed t play r (lost_in n r l h (omega arith))
          ∙ sym (wrote_kept (lost_of n l) F (file_of s) n r h (omega arith))

  -- and by a return, in which the result is written besides
  file_returned : (x : ℕ) → file_of (leave_of t (returned x)).left
      ≡ wrote (alone (regs_of s) q) (result_in q x) (wrote (lost_of (regs_of s) l) (file_of (leave_of t (returned x)).left) (file_of s) 0 (regs_of s)) 0 (regs_of s)
  file_returned x = ext_get_or 0 F (wrote (alone n q) (result_in q x) W 0 n) (long (returned x) ∙ sym (wrote_long (alone n q) (result_in q x) W 0 n))
      (λ r h. at r (omega (arith, h, long (returned x))) (dec_lt 0 (bit (alone n q) r)))
    where
      F : List ℕ
      F = file (returned x)

      W : List ℕ
      W = wrote (lost_of n l) F (file_of s) 0 n

      under : (r : ℕ) → r < n → bit (alone n q) r ≡ 0 → Dec (0 < bit (lost_of n l) r) → get_or F r 0 ≡ get_or W r 0
      under r h z (yes g) = sym (wrote_new (lost_of n l) F (file_of s) n r h g)
      under r h z (no g) =
          held_return s ok l q u entry es bracketed t play x r (lost_in n r l h (omega arith)) (λ e. other e)
          ∙ sym (wrote_kept (lost_of n l) F (file_of s) n r h (omega arith))
        where
          other : r ≡ q → ⊥
          other e = omega (arith, z, ap (λ (y : ℕ). bit (alone n y) r) e, alone_here n r h)

      at : (r : ℕ) → r < n → Dec (0 < bit (alone n q) r) → get_or F r 0 ≡ get_or (wrote (alone n q) (result_in q x) W 0 n) r 0
      at r h (yes g) =
          let e : q ≡ r = alone_one n q r g in
          subst (λ (y : ℕ). get_or F y 0 ≡ x) e (held_result s ok l q u entry es bracketed t play x (subst (λ (y : ℕ). y < n) (sym e) h))
          ∙ sym (wrote_new (alone n q) (result_in q x) W n r h g ∙ subst (λ (y : ℕ). get_or (result_in q x) y 0 ≡ x) e (result_at_lem q x))
      at r h (no g) = under r h (omega arith) (dec_lt 0 (bit (lost_of n l) r)) ∙ sym (wrote_kept (alone n q) (result_in q x) W n r h (omega arith))

-- ---- a frame that was entered by the exported calls

module _ (s : Saver) (ok : Sound s) (l : List ℕ) (q : ℕ) (t : Saver) (x : Entered l q s t) where
  opened : (u : ℕ) × ((enter_of s l q).answer ≡ Ok u)
  opened = by_call (enter_of s l q) x.after x.answer x.entry x.went

  inner : Play (enter_of s l q).left x.events t
  inner = subst (λ (z : Saver). Play z x.events t) (sym (left_is (enter_of s l q) x.after x.answer x.entry)) (played x.calls)

  left_same : (b : Back) (t' : Saver) (r : Answer) → LeaveTold t b t' r → Sound t' × (regs_of t' ≡ regs_of s)
  left_same b t' r y =
      let m = subst (λ (z : Saver). SameRoom s z) (left_is (leave_of t b) t' r y)
      (frame_same s ok l q opened.0 opened.1 x.events x.bracketed t inner b) in
      (m.sound, m.regs)

  left_thrown : (t' : Saver) (r : Answer) → LeaveTold t saver.thrown t' r → file_of t' ≡ wrote (lost_of (regs_of s) l) (file_of t') (file_of s) 0 (regs_of s)
  left_thrown t' r y = subst (λ (z : Saver). file_of z ≡ wrote (lost_of (regs_of s) l) (file_of z) (file_of s) 0 (regs_of s))
      (left_is (leave_of t saver.thrown) t' r y)
      (file_thrown s ok l q opened.0 opened.1 x.events x.bracketed t inner)

  left_returned : (v : ℕ) (t' : Saver) (r : Answer) → LeaveTold t (returned v) t' r
      → file_of t' ≡ wrote (alone (regs_of s) q) (result_in q v) (wrote (lost_of (regs_of s) l) (file_of t') (file_of s) 0 (regs_of s)) 0 (regs_of s)
  left_returned v t' r y =
      subst (λ (z : Saver). file_of z ≡ wrote (alone (regs_of s) q) (result_in q v) (wrote (lost_of (regs_of s) l) (file_of z) (file_of s) 0 (regs_of s)) 0 (regs_of s))
      (left_is (leave_of t (returned v)) t' r y) (file_returned s ok l q opened.0 opened.1 x.events x.bracketed t inner v)

-- ---- a run

module _ (w : List ℕ) (regs : ℕ) (tries : List ℕ) (all : Bool) (lists : ℕ → List ℕ) where
  lost_at : ℕ → ℕ
  lost_at k = lost_of regs (lists k)

  spared : Spares (frame (mays all w) regs w tries) lists lost_at
  unfolding lost_at
  spared k r h e m = lost_spares regs r (lists k) m

  abbrev On : List Event → ℕ → List ℕ → List (ℕ × List ℕ)
  On es k file = nested (frame (mays all w) regs w tries) lost_at es k file

  -- a position below n, and a level where a call happens
  stepped : (k : ℕ) (file : List ℕ) (told : List (ℕ × List ℕ)) (read : ℕ) (rest : List (ℕ × List ℕ)) (v : Bool) → v ≡ true → told ≡ rest
      → ((k, values_of (raising (mays all w) regs w tries) read file) ∷ told) ≡ cond v ((k, values_of (raising (mays all w) regs w tries) read file) ∷ rest) []
  stepped k file told read rest v p e = rw p (ap (λ (y : List (ℕ × List ℕ)). (k, values_of (raising (mays all w) regs w tries) read file) ∷ y) e)

  called : (k : ℕ) (file : List ℕ) (told : List (ℕ × List ℕ)) (es : List Event) (next : ℕ) (after : List ℕ) (b v : Bool) → b ≡ true → v ≡ true
      → told ≡ On es next after
      → ((k, values_of (raising (mays all w) regs w tries) (args_at regs w k) file) ∷ told)
      ≡ cond v ((k, values_of (raising (mays all w) regs w tries) (cond b (args_at regs w k) 0) file) ∷ On es (cond b next (count w)) after) []
  called k file told es next after b v p q e =
      rw (p, q) (ap (λ (y : List (ℕ × List ℕ)). (k, values_of (raising (mays all w) regs w tries) (args_at regs w k) file) ∷ y) e)

  over : (k : ℕ) (rest : List (ℕ × List ℕ)) → count w ≤ k → [] ≡ cond (ltb k (count w)) rest []
  over k rest h = sym (ap (λ (t : Bool). cond t rest []) (le-ltb k (count w) h))

  -- it is one of the machine, in which every level loses all that it does not list
  ran : {k : ℕ} {s : Saver} {es : List Event} {told : List (ℕ × List ℕ)} → Ran w regs tries all lists k s es told → Sound s → regs_of s ≡ regs
      → told ≡ nested (frame (mays all w) regs w tries) lost_at es k (file_of s)
  unfolding nested lost_at
  ran ends ok e = refl
  ran {k} {s} (past h) ok e = over k _ h
  ran {k} {s} (steps {choice = choice} {new = new} {es = es} {told = told} s' h ok' e' f rest) ok e =
      stepped k (file_of s) told _ _ (ltb k (count w)) (lt-ltb k (count w) h)
      (ran rest ok' e' ∙ ap (On es (chosen (raising (mays all w) regs w tries) k choice)) f)
  ran {k} {s} (returns {es = es} {told = told} x t t' r h level went left rest) ok e =
      let m = left_same s ok (lists k) (result_at w k) t went (returned x) t' r left in
      called k (file_of s) told es (resume_of w k) _ (levels w k) (ltb k (count w)) level (lt-ltb k (count w) h)
      (ran rest m.0 (m.1 ∙ e) ∙ ap (On es (resume_of w k)) (subst
      (λ (n : ℕ). file_of t' ≡ wrote (alone n (result_at w k)) (result_in (result_at w k) x) (wrote (lost_of n (lists k)) (file_of t') (file_of s) 0 n) 0 n) e
      (left_returned s ok (lists k) (result_at w k) t went x t' r left)))
  ran {k} {s} (raises {es = es} {told = told} i t t' r h level went left rest) ok e =
      let m = left_same s ok (lists k) (result_at w k) t went saver.thrown t' r left in
      called k (file_of s) told es (get_or (handlers_of (count w) k tries) i (count w)) _ (levels w k) (ltb k (count w)) level (lt-ltb k (count w) h)
      (ran rest m.0 (m.1 ∙ e) ∙ ap (On es (get_or (handlers_of (count w) k tries) i (count w))) (subst
      (λ (n : ℕ). file_of t' ≡ wrote (lost_of n (lists k)) (file_of t') (file_of s) 0 n) e
      (left_thrown s ok (lists k) (result_at w k) t went t' r left)))

-- Lists of kept_raising, entered and left by the saver's calls: all that is read is what the undisturbed run reads.
pub saved_run : (w : List ℕ) (regs : ℕ) (tries : List ℕ) (all : Bool) (b : Lists) (r : Answer) (a : Lists) → RaisingCall w regs tries all b r a → r.refusal ≡ 0
    → (k : ℕ) (s : Saver) → Sound s → regs_of s ≡ regs → (es : List Event) (told : List (ℕ × List ℕ)) → Ran w regs tries all (list_left a) k s es told
    → told ≡ nested (frame (mays all w) regs w tries) undisturbed es k (file_of s)
saved_run w regs tries all b r a x z k s ok e es told run =
    ran w regs tries all (list_left a) run ok e
    ∙ (raising_holds w regs tries all b r a x z).shelters (lost_at w regs tries all (list_left a)) (spared w regs tries all (list_left a)) es k (file_of s)
