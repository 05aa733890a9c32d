-- A push that is taken back stands before the store that takes it. Assumes nothing.
use mathlib.Core.Path.{◌≡◌, refl}
use mathlib.Core.Bool.{Bool, true, false, cond, ◌&&◌}
use mathlib.Core.List.{List}
use Prim.Native.Nat.{ℕ, zero, suc, ◌-◌, ◌<◌, ◌≤◌}
use native.Mathlib.Omega.{arith}
use lib.Dec.{eqb, ltb}
use borrow.Author.Tests.{ltb-true}
use Rattle.ops.specs.Op.{StoreTopR}
use Rattle.code.specs.Ins.{ins_at}
use Rattle.std.specs.declared.option.Option.TheVariants.{Some, None}
use Rattle.pushes.specs.Pushes.{Place, stores_from, call_before, gives_back, push_under, pushed_back}

stores_le : (w : List ℕ) (d : ℕ) → stores_from w d ≤ d
unfolding stores_from
stores_le w zero = omega arith
stores_le w (suc k) = go (eqb (ins_at w k).op StoreTopR) (stores_le w k)
  where
    go : (b : Bool) → stores_from w k ≤ k → cond b (stores_from w k) (suc k) ≤ suc k
    go true h = omega arith
    go false h = omega arith

call_le : (w : List ℕ) (s : ℕ) → call_before w s ≤ s
unfolding call_before
call_le w s = omega arith

no_at : {A : Type 0} (p : ℕ) → ◌≡◌ {A = Place} (Some p) None → A
no_at p e = let y : ◌≡◌ {A = ℕ} 0 1 = cc in absurd (omega arith)

module _ (w : List ℕ) (d r p : ℕ) where
  under_falls : (c s : ℕ) → c ≤ d → Some p ≡ push_under w c s d r → p < d
  unfolding push_under
  under_falls c s l = go (ltb 0 c) refl (gives_back w c s d r)
    where
      go : (a : Bool) → ltb 0 c ≡ a → (g : Bool) → Some p ≡ cond (a && g) (Some (c - 1)) None → p < d
      go true t true e = let q : p ≡ c - 1 = cc in omega (arith, ltb-true 0 c t)
      go true t false e = no_at p e
      go false t g e = no_at p e

  pub pushed_falls : Some p ≡ pushed_back w d r → p < d
  unfolding pushed_back
  pushed_falls =
      under_falls (call_before w (stores_from w d)) (stores_from w d)
      (omega (arith, call_le w (stores_from w d), stores_le w d))
