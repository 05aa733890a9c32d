-- Any two results that an exported call's statement allows are equal, with every lent word. Where the statement is an equation, that is its form;
-- these are the others. Assumes nothing.
use mathlib.Core.Path.{◌≡◌, sym, ap, ◌∙◌}
use mathlib.Core.Bool.{Bool}
use mathlib.Core.List.{List}
use Prim.Native.Nat.{ℕ, ◌+◌, ◌<◌}
use lib.ListN.{length}
use Rattle.code.specs.Ins.{count}
use Rattle.code.specs.Check.{check_of}
use Rattle.refusals.specs.Stages.{inside_of, registers_of, tried_of, room_of}
use Rattle.refusals.specs.declared.Answer.{Answer}
use Rattle.flow.specs.Words.{Small}
use Rattle.surveys.specs.Answers.{target_mark, Targets}
use Rattle.loops.specs.Answers.{LoopsAround}
use Rattle.loops.specs.Loops.{depth}
use Rattle.surveys.proofs.Filling.{one_filling}
use Rattle.unread.specs.Phi.{Dead}
use Rattle.generators.specs.Generator.{GenPure}
use Rattle.generators.specs.Answers.{GenTold}
use Rattle.unread.specs.Answers.{room_both, DeadPhi}
use Rattle.unread.proofs.Telling.{one_answer}
use Rattle.steps.specs.Code.{flow}
use Rattle.needed.specs.Path.{Needs}
use Rattle.needed.specs.Answers.{upto_of, NeededTold}
use Rattle.flow.specs.Flow.{Flow}
use Rattle.kept.proofs.Alone.{outcome_one}
use Rattle.chunk.specs.declared.Counts.{Counts}
use Rattle.optimizer.specs.Fold.{Buffers, Called}
use Rattle.clear.specs.Clear as clearing
use Rattle.clear.specs.Clear.{clear_told, ClearTold}
use Rattle.answers.specs.Answers.{By, kept_told, ListsTold, FoldTold, MadeTold, EnterTold, LeaveTold, ReplayTold, count_told, ExposedTold}
use Rattle.answers.specs.Inner.{fold_told}
use Rattle.saver.specs.Saver.{Saver, Ends}
use Rattle.leaves.specs.Leaving.{Back}
use Rattle.saver.specs.Answers.{saver_told}
use Rattle.day.specs.Answers.{day_told}
use Rattle.day.proofs.Alone.{one_day}

-- equal cases are told alike
by_one : {A : Type 0} (f : A → Answer) {P Q : A → Type 0} {r r' : Answer} (x : By f P r) (y : By f Q r') → x.told ≡ y.told → r ≡ r'
by_one f x y e = x.is ∙ ap f e ∙ sym y.is

pub one_targets : (w t out : List ℕ) (r r' : Answer) (a a' : List ℕ) → Targets w t out r a → Targets w t out r' a' → (r ≡ r') × (a ≡ a')
one_targets w t out r r' a a' x y =
    one_filling (room_of (tried_of (check_of w) t) 1 (length out) (count w + 1)) (count w + 1) (target_mark w t) out r r' a a' x y

pub one_loops : (w out : List ℕ) (r r' : Answer) (a a' : List ℕ) → LoopsAround w out r a → LoopsAround w out r' a' → (r ≡ r') × (a ≡ a')
one_loops w out r r' a a' x y = one_filling (room_of (check_of w) 1 (length out) (count w + 1)) (count w + 1) (depth w) out r r' a a' x y

pub one_dead : (w : List ℕ) (k q : ℕ) (seen todo : List ℕ) (r r' : Answer) (a a' b b' : List ℕ) → DeadPhi w k q seen todo r a b → DeadPhi w k q seen todo r' a'
    b'
    → (r ≡ r') × (a ≡ a') × (b ≡ b')
one_dead w k q seen todo r r' a a' b b' x y =
    one_answer (room_both (inside_of (check_of w) k) w seen todo) (Dead w k q) (count w + 1) seen todo r r' a a' b b' x y

pub one_gen : (w seen todo : List ℕ) (r r' : Answer) (a a' b b' : List ℕ) → GenTold w seen todo r a b → GenTold w seen todo r' a' b' → (r ≡ r') × (a ≡ a')
    × (b ≡ b')
one_gen w seen todo r r' a a' b b' x y = one_answer (room_both (check_of w) w seen todo) (GenPure w) (count w + 1) seen todo r r' a a' b b' x y

pub one_needed : (w : List ℕ) (regs k q : ℕ) (seen todo : List ℕ) (r r' : Answer) (a a' b b' : List ℕ) → NeededTold w regs k q seen todo r a b
    → NeededTold w regs k q seen todo r' a' b'
    → (r ≡ r') × (a ≡ a') × (b ≡ b')
one_needed w regs k q seen todo r r' a a' b b' x y =
    one_answer (room_both (upto_of (registers_of (check_of w) regs) k) w seen todo) (Needs (flow regs w) q k) (count w + 1) seen todo r r' a a' b b' x y

-- the scratch is words of so many bits, as every lent u64 or u32 is
pub one_kept : (f : Flow) (start bits : ℕ) → 0 < bits → (w : List ℕ) (regs : ℕ) (tries rows offsets list : List ℕ) (r r' : Answer) (a a' b b' c c' : List ℕ)
    → Small bits a → Small bits a' → ListsTold f start bits w regs tries rows offsets list a b c r → ListsTold f start bits w regs tries rows offsets list a' b'
    c' r'
    → (r ≡ r') × (a ≡ a') × (b ≡ b') × (c ≡ c')
one_kept f start bits some w regs tries rows offsets list r r' a a' b b' c c' s s' x y =
    let (p, q, t, e) = outcome_one f start bits some w regs tries rows offsets list s s' x.allowed y.allowed in
    (by_one kept_told x y e, p, q, t)

pub one_fold : (strict : Bool) (b : Buffers) (tries landings : List ℕ) (c : Counts) (r r' : Answer) (a a' : Buffers) (t t' l l' : List ℕ)
    → FoldTold strict b tries landings c r a t l
    → FoldTold strict b tries landings c r' a' t' l' → (r ≡ r') × (a ≡ a') × (t ≡ t') × (l ≡ l')
one_fold strict b tries landings c r r' a a' t t' l l' x y =
    let e = x.allowed ∙ sym y.allowed in (
      x.is ∙ ap (λ (o : Called). fold_told o.result.answer) e ∙ sym y.is,
      ap (λ (o : Called). o.result.after) e,
      ap (λ (o : Called). o.tries) e,
      ap
          (λ (o : Called). o.landings) e,
    )

pub one_clear : (b : clearing.PoolBuffers) (m : ℕ) (r r' : Answer) (a a' : clearing.PoolBuffers) → ClearTold b m r a → ClearTold b m r' a' → (r ≡ r') × (a ≡ a')
one_clear b m r r' a a' x y =
    let e = x.allowed ∙ sym y.allowed in
    (x.is ∙ ap (λ (o : clearing.ClearOutcome). clear_told o.answer) e ∙ sym y.is, ap (λ (o : clearing.ClearOutcome). o.after) e)

pub one_make : (regs : ℕ) (head : List ℕ) (r r' : Answer) (a a' : List ℕ) → MadeTold regs head a r → MadeTold regs head a' r' → (r ≡ r') × (a ≡ a')
one_make regs head r r' a a' x y = (by_one saver_told x y (x.allowed.answer ∙ sym y.allowed.answer), x.allowed.words ∙ sym y.allowed.words)

pub one_enter : (s : Saver) (l : List ℕ) (q : ℕ) (r r' : Answer) (a a' : Saver) → EnterTold s l q a r → EnterTold s l q a' r' → (r ≡ r') × (a ≡ a')
one_enter s l q r r' a a' x y =
    let e = sym x.allowed ∙ y.allowed in
    (by_one saver_told x y (ap (λ (o : Ends). o.answer) e), ap (λ (o : Ends). o.left) e)

pub one_leave : (s : Saver) (back : Back) (r r' : Answer) (a a' : Saver) → LeaveTold s back a r → LeaveTold s back a' r' → (r ≡ r') × (a ≡ a')
one_leave s back r r' a a' x y =
    let e = sym x.allowed ∙ y.allowed in
    (by_one saver_told x y (ap (λ (o : Ends). o.answer) e), ap (λ (o : Ends). o.left) e)

pub one_replay : (w : List ℕ) (regs : ℕ) (tries t reads : List ℕ) (r r' : Answer) (a a' : List ℕ) → ReplayTold w regs tries t reads a r
    → ReplayTold w regs tries t reads a' r'
    → (r ≡ r') × (a ≡ a')
one_replay w regs tries t reads r r' a a' x y =
    let (z, e) = one_day w regs tries t reads x.allowed y.allowed in
    (by_one day_told x y e, z)

pub one_exposed : (plain list out : List ℕ) (r r' : Answer) (a a' : List ℕ) → ExposedTold plain list out a r → ExposedTold plain list out a' r' → (r ≡ r')
    × (a ≡ a')
one_exposed plain list out r r' a a' x y =
    (by_one count_told x y (x.allowed.answer ∙ sym y.allowed.answer), x.allowed.left ∙ sym y.allowed.left)
