-- A chunk with dead instructions and the chunk without them end alike. Assumes nothing.
use Prim.Native.Nat.{ℕ, zero, suc, ◌+◌, ◌≤◌, ◌<◌}
use lib.Dec.{ltb}
use borrow.Author.Tests.{ltb-true, ltb-false}
use native.Mathlib.Omega.{arith}
use mathlib.Core.Path.{◌≡◌, refl, sym, ap, ◌∙◌}
use mathlib.Core.Bool.{Bool, true, false, cond}
use mathlib.Core.List.{[], ◌∷◌}
use Rattle.std.specs.declared.option.Option.{Option}
use Rattle.values.specs.declared.Val.{Val}
use Rattle.std.specs.declared.option.Option.TheVariants.{Some, None}
use Rattle.fold.specs.declared.Kind.{Kind}
use Rattle.fold.specs.declared.Kind.TheVariants.{Binop, Not, Minus, Other}
use Rattle.runs.specs.Machine.{Stack, is_true, Ins, Push, Unread, Apply, Jump, JumpIfFalse, Pass, End, Onto, At, Stop, answer, apply, test, act, Run}
use Rattle.runs.specs.Machine.{ends, stops, goes, binop_v, neg_v}

-- its targets moved
abbrev pub turn : (ℕ → ℕ) → Ins → Ins
turn g (Push v) = Push v
turn g (Unread kind w) = Unread kind w
turn g (Apply kind) = Apply kind
turn g (Jump t) = Jump (g t)
turn g (JumpIfFalse t) = JumpIfFalse (g t)
turn g Pass = Pass

abbrev onward : (ℕ → ℕ) → Onto → Onto
onward g (At j t) = At (g j) t
onward g (Stop e) = Stop e

module _ (g : ℕ → ℕ) (k k₂ : ℕ) (on : g (suc k) ≡ suc k₂) where
  answer_turn : (kind : Kind) (operands : Stack) (f : Option Val) (s : Stack) → answer kind operands f s k₂ ≡ onward g (answer kind operands f s k)
  unfolding answer
  answer_turn kind operands (Some v) s = rw on refl
  answer_turn kind operands None s = refl

  apply_turn : (kind : Kind) (s : Stack) → apply kind s k₂ ≡ onward g (apply kind s k)
  unfolding apply
  apply_turn (Binop op) [] = refl
  apply_turn (Binop op) (b ∷ []) = refl
  apply_turn (Binop op) (b ∷ a ∷ s) = answer_turn (Binop op) (a ∷ b ∷ []) (binop_v op a b) s
  apply_turn Not [] = refl
  apply_turn Not (v ∷ s) = rw on refl
  apply_turn Minus [] = refl
  apply_turn Minus (v ∷ s) = answer_turn Minus (v ∷ []) (neg_v v) s
  apply_turn Other s = refl

  branch_turn : (b : Bool) (x : ℕ) → cond b (suc k₂) (g x) ≡ g (cond b (suc k) x)
  branch_turn true x = sym on
  branch_turn false x = refl

  test_turn : (x : ℕ) (s : Stack) → test (g x) s k₂ ≡ onward g (test x s k)
  unfolding test
  test_turn x [] = refl
  test_turn x (v ∷ s) = ap (λ (j : ℕ). At j s) (branch_turn (is_true v) x)

  act_turn : (c : Ins) (s : Stack) → act (turn g c) s k₂ ≡ onward g (act c s k)
  unfolding act
  act_turn (Push v) s = rw on refl
  act_turn (Unread kind w) s = refl
  act_turn (Apply kind) s = apply_turn kind s
  act_turn (Jump x) s = refl
  act_turn (JumpIfFalse x) s = test_turn x s
  act_turn Pass s = rw on refl

-- Position k went to g k: gone, with the next one's place, or kept there with its targets moved.
pub data Moved (code code₂ : ℕ → Ins) (m : ℕ) (g : ℕ → ℕ) (k : ℕ) : Type 0 where
  gone : code k ≡ Pass → g (suc k) ≡ g k → Moved code code₂ m g k
  kept : g k < m → code₂ (g k) ≡ turn g (code k) → g (suc k) ≡ suc (g k) → Moved code code₂ m g k

pub record Packed (code code₂ : ℕ → Ins) (n m : ℕ) (g : ℕ → ℕ) : Type 0 where
  pub each : (k : ℕ) → k < n → Moved code code₂ m g k
  pub past : (k : ℕ) → n ≤ k → m ≤ g k

stop_at : {X : Type 0} {e : End} {j : ℕ} {t : Stack} → Stop e ≡ At j t → X
stop_at e = absurd (let z : ◌≡◌ {A = ℕ} 0 1 = cc in omega arith)

module _ {code code₂ : ℕ → Ins} {n m : ℕ} {g : ℕ → ℕ} (w : Packed code code₂ n m g) where
  pub pack : {k : ℕ} {s : Stack} {o : End} → Run code n k s o → Run code₂ m (g k) s o
  unfolding act
  pack (ends {k = k} h) = ends (w.past k h)
  pack (stops {k = k} {s = s} {e = o} h q) = go (w.each k h)
    where
      go : Moved code code₂ m g k → Run code₂ m (g k) s o
      go (gone p e) = let b : At (suc k) s ≡ Stop o = rw p at q in stop_at (sym b)
      go (kept l p e) =
          let a : act (code₂ (g k)) s (g k) ≡ Stop o = rw p (act_turn g k (g k) e (code k) s ∙ ap (onward g) q) in
          stops l a
  pack (goes {k = k} {j = j} {s = s} {t = t} {e = o} h q run) = go (w.each k h) (pack run)
    where
      go : Moved code code₂ m g k → Run code₂ m (g j) t o → Run code₂ m (g k) s o
      go (gone p e) r =
          let b : At (suc k) s ≡ At j t = rw p at q in
          let ej : suc k ≡ j = cc in
          let es : s ≡ t = cc in
          rw (es, ← e, ej) r
      go (kept l p e) r =
          let a : act (code₂ (g k)) s (g k) ≡ At (g j) t = rw p (act_turn g k (g k) e (code k) s ∙ ap (onward g) q) in
          goes l a r

  -- ---- and back: from k, past what is gone, to a position that was kept or to the end

  walk : {s : Stack} {o : End} (d k : ℕ) → n ≤ d + k → ((j : ℕ) → g j ≡ g k → n ≤ j → Run code n j s o)
      → ((j : ℕ) → g j ≡ g k → j < n → g j < m → code₂ (g j) ≡ turn g (code j) → g (suc j) ≡ suc (g j) → Run code n j s o) → Run code n k s o
  unfolding act
  walk zero k h past here = past k refl (omega arith)
  walk {s} {o} (suc d) k h past here = go (ltb k n) refl (λ e. walk d (suc k) (omega arith) (λ j q. past j (q ∙ e)) (λ j q. here j (q ∙ e)))
    where
      go : (t : Bool) → ltb k n ≡ t → (g (suc k) ≡ g k → Run code n (suc k) s o) → Run code n k s o
      go true q ih = at (w.each k (ltb-true k n q))
        where
          at : Moved code code₂ m g k → Run code n k s o
          at (gone p e) = let a : act (code k) s k ≡ At (suc k) s = rw p refl in goes (ltb-true k n q) a (ih e)
          at (kept l p e) = here k refl (ltb-true k n q) l p e
      go false q ih = past k refl (ltb-false k n q)

  back_stop : (mv : Onto) {o : End} → onward g mv ≡ Stop o → mv ≡ Stop o
  back_stop (At j t) e = stop_at (sym e)
  back_stop (Stop o') e = e

  acts : {k₂ : ℕ} (s : Stack) (j : ℕ) → g j ≡ k₂ → code₂ (g j) ≡ turn g (code j) → g (suc j) ≡ suc (g j) → act (code₂ k₂) s k₂ ≡ onward g (act (code j) s j)
  acts {k₂} s j e p on =
      let c : code₂ k₂ ≡ turn g (code j) = rw e at p in
      rw c (rw e at (act_turn g j (g j) on (code j) s))

  pub unpack : {k₂ : ℕ} {s : Stack} {o : End} → Run code₂ m k₂ s o → (k : ℕ) → g k ≡ k₂ → Run code n k s o
  unpack (ends {k = k₂} h) k e = walk n k (omega arith) (λ j q l. ends l) (λ j q hj l p on. absurd (omega (arith, q, e)))
  unpack (stops {k = k₂} {s = s} {e = o} h q) k e =
      walk n k (omega arith) (λ j r l. absurd (omega (arith, w.past j l, r, e)))
      (λ j r hj l p on. stops hj (back_stop (act (code j) s j) (sym (acts s j (r ∙ e) p on) ∙ q)))
  unpack (goes {k = k₂} {j = j₂} {s = s} {t = t} {e = o} h q run) k e =
      walk n k (omega arith) (λ j r l. absurd (omega (arith, w.past j l, r, e)))
      (λ j r hj l p on. onto j hj (act (code j) s j) refl (sym (acts s j (r ∙ e) p on) ∙ q) (λ j' e'. unpack run j' e'))
    where
      onto : (j : ℕ) → j < n → (mv : Onto) → act (code j) s j ≡ mv → onward g mv ≡ At j₂ t → ((j' : ℕ) → g j' ≡ j₂ → Run code n j' t o) → Run code n j s o
      onto j hj (At j' t') a b ih =
          let et : t' ≡ t = cc in
          let ej : g j' ≡ j₂ = cc in
          goes hj (rw et at a) (ih j' ej)
      onto j hj (Stop o') a b ih = stop_at b
