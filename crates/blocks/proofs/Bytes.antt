-- The sum of a check, as far as it is made. Assumes nothing.
use mathlib.Core.Path.{◌≡◌, refl, ap}
use mathlib.Core.List.{List}
use Prim.Native.Nat.{ℕ, suc, ◌+◌, ◌*◌, ◌≤◌, ◌<◌, zero-le}
use native.Mathlib.Numerals.{add-one}
use native.Mathlib.Nat.{mul-le-mul_right}
use native.Mathlib.Omega.{arith}
use lib.ListN.{get_or}
use Rattle.blocks.specs.Blocks.{weighed}

pub record Weighing (t : List ℕ) (at sum m : ℕ) : Type 0 where
  pub le : m ≤ 508
  pub small : sum ≤ 130000 * m
  pub so : sum ≡ weighed t at m

module _ (t : List ℕ) (at : ℕ) where
  pub weighing_start : Weighing t at 0 0
  unfolding weighed
  weighing_start = record { le = zero-le; small = zero-le; so = refl }

  module _ (sum m : ℕ) (w : Weighing t at sum m) where
    pub weighing_product : (x : ℕ) → x < 256 → m < 508 → x * (m + 1) ≤ 130000
    weighing_product x h k = let f : x ≤ 255 = omega arith in omega (arith, mul-le-mul_right (m + 1) f)

    pub weighing_more : (x : ℕ) → x ≡ get_or t (at + m) 0 → x < 256 → m < 508 → Weighing t at (sum + x * (m + 1)) (m + 1)
    unfolding weighed
    weighing_more x e h k = record {
      le = omega arith;
      small = omega (arith, w.small, weighing_product x h k);
      so = rw (add-one m, e) (ap (λ (y : ℕ). y + get_or t (at + m) 0 * suc m) w.so);
    }

    pub weighing_end : 508 ≤ m → sum ≡ weighed t at 508
    weighing_end h = let q : m ≡ 508 = omega (arith, w.le) in rw q at w.so

pub ruleset weighings = (weighing_start, weighing_more, weighing_end)
