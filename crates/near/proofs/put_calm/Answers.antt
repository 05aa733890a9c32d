-- `near::put_calm` meets its contract. Assumes nothing.
use mathlib.Core.Path.{◌≡◌, sym, ap, ◌∙◌, subst}
use mathlib.Core.Bool.{Bool, cond, ◌||◌}
use mathlib.Core.List.{List}
use Prim.Native.Nat.{ℕ, ◌+◌, ◌<◌}
use native.Mathlib.Omega.{arith}
use Rattle.code.specs.Ins.{dunder}
use Rattle.code.specs.declared.Ins.{Ins}
use Rattle.flow.specs.Inner.{Put}
use Rattle.steps.specs.Level.{is_level}
use Rattle.steps.specs.Inner.{calm_of, calm_step}
use Rattle.steps.specs.declared.Step.{Step}
use Rattle.near.specs.Inner.{more_step}
use Rattle.near.proofs.Near.{by_mark}
use Rattle.near.proofs.put_calm.Goals as goal

no_target : (i : Ins) (m k n : ℕ) (s : Step) → s ≡ calm_step i m → k + 1 < n → s.target < n
no_target i m k n s e l = rw e (omega arith)

put_as : (i : Ins) (m j more x regs k : ℕ) (s : Step) (rows out : List ℕ) (r : Bool) → s ≡ calm_step i j → m ≡ j → more ≡ x
    → Put (more_step more regs s) rows k out r → Put (more_step x regs (calm_step i m)) rows k out r
put_as i m j more x regs k s rows out r e h g p =
    subst (λ (y : ℕ). Put (more_step y regs (calm_step i m)) rows k out r) g
    (subst (λ (y : Step). Put (more_step more regs y) rows k out r) (e ∙ ap (calm_step i) (sym h)) p)

put_marked : (i : Ins) (m more regs k : ℕ) (all : Bool) (out : ℕ) (s : Step) (rows new : List ℕ) (r : Bool) → m ≡ calm_of i.op → s ≡ calm_step i 13 → m ≡ 13
    → more ≡ cond (all || dunder i) out 0 → Put (more_step more regs s) rows k new r
    → Put (more_step (cond (all || is_level i) out 0) regs (calm_step i m)) rows k new r
put_marked i m more regs k all out s rows new r told e h x p = put_as i m 13 more _ regs k s rows new r e h (by_mark i m all out more told h x) p

pub returns-then-m-eq13 : goal.returns-then-m-eq13
returns-then-m-eq13 c = search put_marked
