-- Where a result goes. Assumes nothing.
use Prim.Native.Nat.{ℕ, ◌+◌, ◌^◌, ◌≤◌, ◌<◌, min, max}
use native.Mathlib.Omega.{arith}
use mathlib.Core.Path.{◌≡◌, refl, sym, ap}
use mathlib.Core.Bool.{Bool, true, false, not, cond}
use mathlib.Core.List.{List}
use lib.IntN.{ℤ}
use lib.Dec.{ltb, eqb}
use lib.Signed.{mag}
use lib.ListN.{set}
use lib.Ieee.{binary64, of_bits, to_bits}
use mir.Syntax.{w64}
use mir.Val.{to_z, of_z}
use borrow.Author.Tests.{lt-ltb, le-ltb, ltb-true}
use Rattle.values.specs.Folds.{in_range}
use Rattle.values.specs.Inner.{SoundInt}
use Rattle.values.specs.declared.Val.{Val}
use Rattle.values.specs.declared.Val.TheVariants.{Int, Float as Real, Bool as Truth}
use Rattle.std.specs.declared.option.Option.TheVariants.{Some, None}
use Rattle.std.specs.declared.option.Option.{Option}
use Rattle.pool.specs.Pool.{Stored, to_val, position, stored, find_or_push, find_or_push_const}

module _ (kinds words : List ℕ) (count k w i : ℕ) (e : i ≡ position kinds words count k w) where
  pub found : i < count → stored (Some (i, count)) kinds words ≡ find_or_push kinds words count k w
  unfolding find_or_push
  found h = rw (sym e, lt-ltb i count h) refl

  pub pushed : count ≤ i → count < 65535 → stored (Some (count, count + 1)) (set kinds count k) (set words count w) ≡ find_or_push kinds words count k w
  unfolding find_or_push
  pushed h l = rw (sym e, le-ltb i count h, lt-ltb count 65535 l) refl

-- ---- what the pool gives back

-- an operand's int is in range
pub val_sound : (k w : ℕ) (v : Val) → to_val k w ≡ Some v → SoundInt v
unfolding to_val in_range
val_sound k w v e = go (eqb k 1) (eqb k 2) (eqb k 3) e
  where
    no : None ≡ Some v → SoundInt v
    no e = absurd (let z : ◌≡◌ {A = ℕ} 0 1 = cc in omega arith)

    plain : (u : Val) → SoundInt u → Some u ≡ Some v → SoundInt v
    plain u h e = let s : u ≡ v = cc in rw (sym s) h

    small : (z : ℤ) (t : Bool) → ltb (mag z) (2 ^ 47) ≡ t → cond t (Some (Int z)) None ≡ Some v → SoundInt v
    small z true h e = plain (Int z) (record { small = ltb-true (mag z) (2 ^ 47) h }) e
    small z false h e = no e

    go : (a b d : Bool) → cond a (in_range (to_z w64 w)) (cond b (Some (Real (of_bits binary64 w))) (cond d (Some (Truth (not (eqb w 0)))) None)) ≡ Some v
        → SoundInt v
    go true b d e = small (to_z w64 w) (ltb (mag (to_z w64 w)) (2 ^ 47)) refl e
    go false true d e = plain (Real (of_bits binary64 w)) tt e
    go false false true e = plain (Truth (not (eqb w 0))) tt e
    go false false false e = no e

abbrev second : Option (ℕ × ℕ) → ℕ
second (Some p) = p.1
second None = 0

-- the count grows by one at most, and not from 65,535 on
pub kept_few : {k : Option (ℕ × ℕ)} {ks ws : List ℕ} {i m : ℕ} (kinds words : List ℕ) (count : ℕ) (v : Val) → stored k ks ws ≡ find_or_push_const kinds words count v
    → k ≡ Some (i, m)
    → m ≤ max count (min 65535 (count + 1))
unfolding find_or_push_const find_or_push
kept_few {k} {ks} {ws} {i} {m} kinds words count v e h = by v (rw h at e)
  where
    full : stored (Some (i, m)) ks ws ≡ stored None kinds words → m ≤ max count (min 65535 (count + 1))
    full e =
        let k : ◌≡◌ {A = Option (ℕ × ℕ)} (Some (i, m)) None = ap (λ (s : Stored). s.kept) e in
        absurd (let z : ◌≡◌ {A = ℕ} 0 1 = cc in omega arith)

    go : (a b : Bool) (j x y : ℕ) → ltb count 65535 ≡ b
        → stored (Some (i, m)) ks ws ≡ cond a (stored (Some (j, count)) kinds words) (cond b (stored (Some (count, count + 1)) (set kinds count x) (set words count y))
        (stored None kinds words))
        → m ≤ max count (min 65535 (count + 1))
    go true b j x y l e =
        let k : ◌≡◌ {A = Option (ℕ × ℕ)} (Some (i, m)) (Some (j, count)) = ap (λ (s : Stored). s.kept) e in
        let s : m ≡ count = ap second k in
        omega arith
    go false true j x y l e =
        let k : ◌≡◌ {A = Option (ℕ × ℕ)} (Some (i, m)) (Some (count, count + 1)) = ap (λ (s : Stored). s.kept) e in
        let s : m ≡ count + 1 = ap second k in
        omega (arith, ltb-true count 65535 l)
    go false false j x y l e = full e

    by : (v : Val) → stored (Some (i, m)) ks ws ≡ find_or_push_const kinds words count v → m ≤ max count (min 65535 (count + 1))
    by (Int z) e = go (ltb (position kinds words count 1 (of_z w64 z)) count) (ltb count 65535) _ _ _ refl e
    by (Real x) e = go (ltb (position kinds words count 2 (to_bits binary64 x)) count) (ltb count 65535) _ _ _ refl e
    by (Truth b) e = full e

-- with no room the pool stays
pub full_stays : (kinds words : List ℕ) (count : ℕ) (v : Val) → (find_or_push_const kinds words count v).kept ≡ None → find_or_push_const kinds words count v ≡ stored
    None kinds words
unfolding find_or_push_const find_or_push
full_stays kinds words count v e = by v e
  where
    at_full : {X : Type 0} {i m : ℕ} → ◌≡◌ {A = Option (ℕ × ℕ)} (Some (i, m)) None → X
    at_full e = absurd (let z : ◌≡◌ {A = ℕ} 0 1 = cc in omega arith)

    go : (a b : Bool) (j x y : ℕ)
        → (cond a (stored (Some (j, count)) kinds words) (cond b (stored (Some (count, count + 1)) (set kinds count x) (set words count y)) (stored None kinds words))
        ).kept ≡ None
        → cond a (stored (Some (j, count)) kinds words) (cond b (stored (Some (count, count + 1)) (set kinds count x) (set words count y)) (stored None kinds words)) ≡
        stored None kinds words
    go true b j x y e = at_full e
    go false true j x y e = at_full e
    go false false j x y e = refl

    by : (v : Val) → (find_or_push_const kinds words count v).kept ≡ None → find_or_push_const kinds words count v ≡ stored None kinds words
    by (Int z) e = go (ltb (position kinds words count 1 (of_z w64 z)) count) (ltb count 65535) _ _ _ e
    by (Real x) e = go (ltb (position kinds words count 2 (to_bits binary64 x)) count) (ltb count 65535) _ _ _ e
    by (Truth b) e = refl
