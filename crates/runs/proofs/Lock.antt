-- A fold and its chunk run in step: at each step both are at one position. Assumes nothing.
use Prim.Native.Nat.{ℕ, suc, ◌≤◌, ◌<◌}
use native.Mathlib.Omega.{arith}
use mathlib.Core.Path.{◌≡◌, refl, sym, ◌∙◌}
use mathlib.Core.Bool.{Bool, true, false, cond}
use mathlib.Core.List.{[], ◌∷◌, ◌++◌}
use mathlib.Core.Logic.{◌⊎◌, inl, inr}
use lib.Dec.{ltb}
use borrow.Author.Tests.{ltb-true, ltb-false}
use Rattle.std.specs.declared.option.Option.{Option}
use Rattle.values.specs.declared.Val.{Val}
use Rattle.std.specs.declared.option.Option.TheVariants.{Some, None}
use Rattle.fold.specs.declared.Kind.{Kind}
use Rattle.fold.specs.declared.Kind.TheVariants.{Binop, Not, Minus, Other}
use Rattle.runs.specs.Machine.{Value, Stack, is_true, Ins, Push, Unread, Apply, Jump, JumpIfFalse, Pass, End, Onto, At, Stop, answer, apply, test, act}
use Rattle.runs.specs.Machine.{Run, ends, stops, goes, binop_v, neg_v}

-- outside (p, i]
abbrev pub Outside : ℕ → ℕ → ℕ → Type 0
Outside p i k = (k ≤ p) ⊎ (i < k)

-- an instruction that jumps nowhere into (p, i]
abbrev pub Clear : ℕ → ℕ → Ins → Type 0
Clear p i (Push v) = Unit {0}
Clear p i (Unread kind w) = Unit {0}
Clear p i (Apply kind) = Unit {0}
Clear p i (Jump t) = Outside p i t
Clear p i (JumpIfFalse t) = Outside p i t
Clear p i Pass = Unit {0}

stop_at : {X : Type 0} {e : End} {j : ℕ} {t : Stack} → Stop e ≡ At j t → X
stop_at e = absurd (let z : ◌≡◌ {A = ℕ} 0 1 = cc in omega arith)

-- ---- where a step goes

module _ (p i k : ℕ) (on : Outside p i (suc k)) where
  next : {s t : Stack} {j : ℕ} → At (suc k) s ≡ At j t → Outside p i j
  next {j = j} e = let q : suc k ≡ j = cc in rw (← q) on

  answer_clear : (kind : Kind) (operands : Stack) (f : Option Val) (s : Stack) {j : ℕ} {t : Stack} → answer kind operands f s k ≡ At j t → Outside p i j
  unfolding answer
  answer_clear kind operands (Some v) s e = next e
  answer_clear kind operands None s e = stop_at e

  apply_clear : (kind : Kind) (s : Stack) {j : ℕ} {t : Stack} → apply kind s k ≡ At j t → Outside p i j
  unfolding apply
  apply_clear (Binop op) [] e = stop_at e
  apply_clear (Binop op) (b ∷ []) e = stop_at e
  apply_clear (Binop op) (b ∷ a ∷ s) e = answer_clear (Binop op) (a ∷ b ∷ []) (binop_v op a b) s e
  apply_clear Not [] e = stop_at e
  apply_clear Not (v ∷ s) e = next e
  apply_clear Minus [] e = stop_at e
  apply_clear Minus (v ∷ s) e = answer_clear Minus (v ∷ []) (neg_v v) s e
  apply_clear Other s e = stop_at e

  branch : (b : Bool) (x : ℕ) {s t : Stack} {j : ℕ} → Outside p i x → At (cond b (suc k) x) s ≡ At j t → Outside p i j
  branch true x h e = next e
  branch false x {j = j} h e = let q : x ≡ j = cc in rw (← q) h

  test_clear : (x : ℕ) (s : Stack) {j : ℕ} {t : Stack} → Outside p i x → test x s k ≡ At j t → Outside p i j
  unfolding test
  test_clear x [] h e = stop_at e
  test_clear x (v ∷ s) h e = branch (is_true v) x h e

  act_clear : (c : Ins) (s : Stack) {j : ℕ} {t : Stack} → Clear p i c → act c s k ≡ At j t → Outside p i j
  unfolding act
  act_clear (Push v) s h e = next e
  act_clear (Unread kind w) s h e = stop_at e
  act_clear (Apply kind) s h e = apply_clear kind s e
  act_clear (Jump x) s {j = j} h e = let q : x ≡ j = cc in rw (← q) h
  act_clear (JumpIfFalse x) s h e = test_clear x s h e
  act_clear Pass s h e = next e

-- A group that folds: code does from p to i what code' does at p alone. Within, code holds `held k` where code' holds v.
pub record Group (code code' : ℕ → Ins) (n p i : ℕ) (held : ℕ → Stack) (v : Value) : Type 0 where
  pub order : p < i
  pub inside : i < n
  pub early : (k : ℕ) → k < p → code' k ≡ code k
  pub late : (k : ℕ) → i < k → k < n → code' k ≡ code k
  pub put : code' p ≡ Push v
  pub quiet : (k : ℕ) → p < k → k ≤ i → code' k ≡ Pass
  pub first : (s : Stack) → act (code p) s p ≡ At (suc p) (held (suc p) ++ s)
  pub inner : (k : ℕ) → p < k → k < i → (s : Stack) → act (code k) (held k ++ s) k ≡ At (suc k) (held (suc k) ++ s)
  pub last : (s : Stack) → act (code i) (held i ++ s) i ≡ At (suc i) (v ∷ s)
  pub clear : (k : ℕ) → k < n → Clear p i (code k)

-- the stacks at position k
pub data Same (p i : ℕ) (held : ℕ → Stack) (v : Value) (k : ℕ) (s t : Stack) : Type 0 where
  out : Outside p i k → s ≡ t → Same p i held v k s t
  within : p < k → k ≤ i → (u : Stack) → s ≡ held k ++ u → t ≡ v ∷ u → Same p i held v k s t

-- one step of both
pub data Both (p i : ℕ) (held : ℕ → Stack) (v : Value) (e f : Onto) : Type 0 where
  stopped : (o : End) → e ≡ Stop o → f ≡ Stop o → Both p i held v e f
  moved : (j : ℕ) (s t : Stack) → e ≡ At j s → f ≡ At j t → Same p i held v j s t → Both p i held v e f

module _ {code code' : ℕ → Ins} {n p i : ℕ} {held : ℕ → Stack} {v : Value} (g : Group code code' n p i held v) where
  apart : (k : ℕ) → k < n → Outside p i k → Outside p i (suc k) → (s : Stack) → code' k ≡ code k → Both p i held v (act (code k) s k) (act (code' k) s k)
  apart k h o on s e = go (act (code k) s k) refl
    where
      go : (m : Onto) → act (code k) s k ≡ m → Both p i held v (act (code k) s k) (act (code' k) s k)
      go (At j t) q = moved j t t q (rw e q) (out (act_clear p i k on (code k) s (g.clear k h) q) refl)
      go (Stop o) q = stopped o q (rw e q)

  at_first : (s : Stack) → Both p i held v (act (code p) s p) (act (code' p) s p)
  unfolding act
  at_first s = moved (suc p) (held (suc p) ++ s) (v ∷ s) (g.first s) (rw g.put refl) (within (omega arith) (omega (arith, g.order)) s refl refl)

  one : (k : ℕ) → k < n → {s t : Stack} → Same p i held v k s t → Both p i held v (act (code k) s k) (act (code' k) t k)
  unfolding act
  one k h {s} {t} (out (inl low) e) = rw (← e) (go (ltb k p) refl)
    where
      go : (b : Bool) → ltb k p ≡ b → Both p i held v (act (code k) s k) (act (code' k) s k)
      go true q = let l = ltb-true k p q in apart k h (inl low) (inl l) s (g.early k l)
      go false q =
          let same : p ≡ k = omega (arith, ltb-false k p q) in
          rw (← same) (at_first s)
  one k h {s} {t} (out (inr high) e) = rw (← e) (apart k h (inr high) (inr (omega arith)) s (g.late k high h))
  one k h {s} {t} (within low high u e f) = rw (e, f) (go (ltb k i) refl)
    where
      quiet : act (code' k) (v ∷ u) k ≡ At (suc k) (v ∷ u)
      quiet = rw (g.quiet k low high) refl

      go : (b : Bool) → ltb k i ≡ b → Both p i held v (act (code k) (held k ++ u) k) (act (code' k) (v ∷ u) k)
      go true q =
          let l = ltb-true k i q in
          moved (suc k) (held (suc k) ++ u) (v ∷ u) (g.inner k low l u) quiet (within (omega arith) l u refl refl)
      go false q =
          let same : i ≡ k = omega (arith, ltb-false k i q) in
          moved (suc k) (v ∷ u) (v ∷ u) (rw same at (g.last u)) quiet (out (inr (omega arith)) refl)

  pub lock : {k : ℕ} {s t : Stack} {o : End} → Run code n k s o → Same p i held v k s t → Run code' n k t o
  lock (ends h) (out w e) = rw (← e) (ends h)
  lock (ends h) (within low high u e f) = absurd (omega (arith, g.inside))
  lock (stops {k = k} {s = s} {e = o} h q) r = go (one k h r)
    where
      go : {t : Stack} → Both p i held v (act (code k) s k) (act (code' k) t k) → Run code' n k t o
      go (stopped o' a b) = let same : o' ≡ o = cc in stops h (rw same at b)
      go (moved j s' t' a b r') = stop_at (sym q ∙ a)
  lock (goes {k = k} {j = j} {s = s} {t = s'} {e = o} h q run) r = go (one k h r) (λ t' r'. lock run r')
    where
      go : {t : Stack} → Both p i held v (act (code k) s k) (act (code' k) t k) → ((t' : Stack) → Same p i held v j s' t' → Run code' n j t' o)
          → Run code' n k t o
      go (stopped o' a b) ih = stop_at (sym a ∙ q)
      go (moved j' s'' t' a b r') ih =
          let ej : j' ≡ j = cc in
          let es : s'' ≡ s' = cc in
          goes h (rw ej at b) (ih t' (rw (ej, es) at r'))

  -- and back
  pub unlock : {k : ℕ} {s t : Stack} {o : End} → Run code' n k t o → Same p i held v k s t → Run code n k s o
  unlock (ends h) (out w e) = rw e (ends h)
  unlock (ends h) (within low high u e f) = absurd (omega (arith, g.inside))
  unlock (stops {k = k} {s = t} {e = o} h q) r = go (one k h r)
    where
      go : {s : Stack} → Both p i held v (act (code k) s k) (act (code' k) t k) → Run code n k s o
      go (stopped o' a b) = let same : o' ≡ o = cc in stops h (rw same at a)
      go (moved j s' t' a b r') = stop_at (sym q ∙ b)
  unlock (goes {k = k} {j = j} {s = t} {t = t₁} {e = o} h q run) r = go (one k h r) (λ s' r'. unlock run r')
    where
      go : {s : Stack} → Both p i held v (act (code k) s k) (act (code' k) t k) → ((s' : Stack) → Same p i held v j s' t₁ → Run code n j s' o)
          → Run code n k s o
      go (stopped o' a b) ih = stop_at (sym b ∙ q)
      go (moved j' s' t' a b r') ih =
          let ej : j' ≡ j = cc in
          let et : t' ≡ t₁ = cc in
          goes h (rw ej at a) (ih s' (rw (ej, et) at r'))

-- ---- a run has one end

module _ {code : ℕ → Ins} {n : ℕ} where
  pub one_end : {k : ℕ} {s : Stack} {e f : End} → Run code n k s e → Run code n k s f → e ≡ f
  one_end (ends h) (ends l) = refl
  one_end (ends h) (stops l q) = absurd (omega arith)
  one_end (ends h) (goes l q r) = absurd (omega arith)
  one_end (stops h p) (ends l) = absurd (omega arith)
  one_end (stops h p) (stops l q) = cc
  one_end (stops h p) (goes l q r) = stop_at (sym p ∙ q)
  one_end (goes h p r) (ends l) = absurd (omega arith)
  one_end (goes h p r) (stops l q) = stop_at (sym q ∙ p)
  one_end (goes {j = j} {t = t} h p r) (goes {j = j'} {t = t'} l q r') =
      let ej : j' ≡ j = cc in
      let et : t' ≡ t = cc in
      one_end r (rw (ej, et) at r')
