-- What an instruction touches names the registers of its three sets, case by case. Assumes nothing.
use mathlib.Core.Path.{◌≡◌, refl, sym, ap, ◌∙◌}
use mathlib.Core.Bool.{Bool, true, false, not, cond}
use mathlib.Core.List.{List, [], ◌∷◌, ◌++◌, append-nil}
use Prim.Native.Nat.{ℕ, zero, suc, ◌*◌, ◌/◌, ◌%◌}
use native.Mathlib.Omega.{arith}
use lib.Dec.{eqb}
use lib.ListN.{take}
use lib.Seq.{take-nil}
use Rattle.code.specs.declared.Ins.{Ins}
use Rattle.roles.specs.Kinds.{a, b, c, dest, none, has, abc, total, first_of, has_role, kinds_of}
use Rattle.roles.specs.Sets.{only, from, case_of, used, given, written, used_by, given_by}
use Rattle.roles.specs.declared.Case.{Case}
use Rattle.roles.specs.declared.Case.TheVariants.{Store, Unpack, Enter, Exit, Judge, Step, Plain}
use Rattle.touch.specs.Touch.{named, touch, touch_by, touch_of, written_by, plain_of}
use Rattle.touch.specs.Inner.{Touches}
use Rattle.touch.specs.declared.Touch.{Touch}

-- ---- masks

module _ (p q r : ℕ) where
  if_a : (t : Bool) (m : ℕ) → m ≡ cond t 2 0 → named m p q r ≡ only t p
  if_a true m e = rw e
  if_a false m e = rw e

  if_b : (t : Bool) (m : ℕ) → m ≡ cond t 4 0 → named m p q r ≡ only t q
  if_b true m e = rw e
  if_b false m e = rw e

  if_c : (t : Bool) (m : ℕ) → m ≡ cond t 8 0 → named m p q r ≡ only t r
  if_c true m e = rw e
  if_c false m e = rw e

  firsts : (x : ℕ) → named (first_of abc x) p q r ++ [] ≡ take x (p ∷ q ∷ r ∷ [])
  firsts zero = refl
  firsts (suc zero) = refl
  firsts (suc (suc zero)) = refl
  firsts (suc (suc (suc x))) =
      ap (λ (l : List ℕ). named (total (a ∷ b ∷ c ∷ l)) p q r ++ []) (take-nil x)
      ∙ ap (λ (l : List ℕ). p ∷ q ∷ r ∷ l) (sym (take-nil x))

some : (r m : ℕ) (t : Bool) (x : ℕ) → x ≡ cond (not t) m 0 → from r x ≡ cond t [] (from r m)
some r m true x e = rw e
some r m false x e = rw e

no_more : (l : List ℕ) → l ++ [] ≡ l
no_more l = append-nil l

same : (k m j : ℕ) → k ≡ j → eqb k m ≡ eqb j m
same k m j e = rw e

-- ---- case by case

module _ (i : Ins) (k : Case) (e : k ≡ case_of i.op) where
  by_case : (s : Case) (f : Touch) → k ≡ s → named f.used i.a i.b i.c ≡ used s i
      → named f.given i.a i.b i.c ++ from i.b f.run ≡ given s i → named f.written i.a i.b i.c ++ from i.b f.run ≡ written s
      i → Touches i f
  unfolding used_by given_by written_by
  by_case s f h u g v = record { used = rw (← e, h) u; given = rw (← e, h) g; written = rw (← e, h) v }

  is_store : (v : ℕ) → k ≡ Store → v ≡ cond (eqb i.x 0) 2 0 → Touches i (record { used = 0; given = 2; written = v; run = 0 })
  is_store v h z = by_case Store (record { used = 0; given = 2; written = v; run = 0 }) h refl refl (no_more (named v i.a i.b i.c) ∙ if_a i.a i.b
      i.c (eqb i.x 0) v z)

  is_unpack : (g : ℕ) → k ≡ Unpack → g ≡ first_of abc i.x → Touches i (record { used = 0; given = g; written = g; run = 0 })
  is_unpack g h z = by_case Unpack (record { used = 0; given = g; written = g; run = 0 }) h refl (rw z (firsts i.a i.b i.c i.x))
      (rw z (firsts i.a i.b i.c i.x))

  is_enter : (u r : ℕ) → k ≡ Enter → u ≡ cond (eqb i.x 2) 8 0 → r ≡ cond (not (eqb i.x 0)) 2 0
      → Touches i (record { used = u; given = 0; written = 0; run = r })
  is_enter u r h z y =
      by_case Enter (record { used = u; given = 0; written = 0; run = r }) h
      (if_c i.a i.b i.c (eqb i.x 2) u z) (some i.b 2 (eqb i.x 0) r y) (some i.b 2 (eqb i.x 0) r y)

  is_exit : (r : ℕ) → k ≡ Exit → r ≡ cond (not (eqb i.x 0)) 5 0 → Touches i (record { used = 0; given = 0; written = 0; run = r })
  is_exit r h y = by_case Exit (record { used = 0; given = 0; written = 0; run = r }) h refl (some i.b 5 (eqb i.x 0) r y)
      (some i.b 5 (eqb i.x 0) r y)

  is_judge : (u : ℕ) → k ≡ Judge → u ≡ cond (eqb i.x 1) 2 0 → Touches i (record { used = u; given = 0; written = 0; run = 0 })
  is_judge u h z = by_case Judge (record { used = u; given = 0; written = 0; run = 0 }) h (if_a i.a i.b i.c (eqb i.x 1) u z) refl refl

  is_step : (u : ℕ) → k ≡ Step → u ≡ cond (eqb i.x 0) 4 0 → Touches i (record { used = u; given = 0; written = u; run = 0 })
  is_step u h z = by_case Step (record { used = u; given = 0; written = u; run = 0 }) h (if_b i.a i.b i.c (eqb i.x 0) u z) refl
      (no_more (named u i.a i.b i.c) ∙ if_b i.a i.b i.c (eqb i.x 0) u z)

  -- by `role`: without one, nothing; else by its bits
  no_role : (f : Touch) (m : ℕ) → k ≡ Plain → m ≡ kinds_of i → has none m ≡ true → f ≡ record { used = 0; given = 0; written = 0; run = 0 } → Touches i f
  unfolding has_role
  no_role f m h z t y = by_case Plain f h (rw (y, ← z, t)) (rw (y, ← z, t)) (rw (y, ← z, t))

  a_role : (f : Touch) (m : ℕ) → k ≡ Plain → m ≡ kinds_of i → has none m ≡ false → f ≡ record {
    used = m / 2 % 8 * 2;
    given = m % 2 * 2;
    written = m % 2 * 2;
    run
        = 0;
  } → Touches i f
  unfolding has_role
  a_role f m h z t y = by_case Plain f h (rw (y, ← z, t, low, mid, high)) (rw (y, ← z, t, first, second, third) (alone_list (has dest m)))
      (rw (y, ← z, t, first, second, third) (alone_list (has dest m)))
    where
      low : eqb (m / 2 % 8 * 2 / 2 % 2) 1 ≡ eqb (m / 2 % 2) 1
      low = same (m / 2 % 8 * 2 / 2 % 2) 1 (m / 2 % 2) (omega arith)

      mid : eqb (m / 2 % 8 * 2 / 4 % 2) 1 ≡ eqb (m / 4 % 2) 1
      mid = same (m / 2 % 8 * 2 / 4 % 2) 1 (m / 4 % 2) (omega arith)

      high : eqb (m / 2 % 8 * 2 / 8 % 2) 1 ≡ eqb (m / 8 % 2) 1
      high = same (m / 2 % 8 * 2 / 8 % 2) 1 (m / 8 % 2) (omega arith)

      first : eqb (m % 2 * 2 / 2 % 2) 1 ≡ eqb (m / 1 % 2) 1
      first = same (m % 2 * 2 / 2 % 2) 1 (m / 1 % 2) (omega arith)

      second : eqb (m % 2 * 2 / 4 % 2) 1 ≡ false
      second = same (m % 2 * 2 / 4 % 2) 1 0 (omega arith)

      third : eqb (m % 2 * 2 / 8 % 2) 1 ≡ false
      third = same (m % 2 * 2 / 8 % 2) 1 0 (omega arith)

      alone_list : (t : Bool) → only t i.a ++ [] ++ [] ++ [] ≡ only t i.a
      alone_list true = refl
      alone_list false = refl

  pub is_plain_lem : (m : ℕ) (f : Touch) → k ≡ Plain → m ≡ kinds_of i → f ≡ plain_of m → Touches i f
  unfolding plain_of
  is_plain_lem m f h z y = go (has none m) refl
    where
      go : (t : Bool) → has none m ≡ t → Touches i f
      go true t = no_role f m h z t (rw t at y)
      go false t = a_role f m h z t (rw t at y)

-- so the masks name the three sets
pub touches : (i : Ins) → Touches i (touch_of i)
unfolding touch_of
touches i = go (case_of i.op) refl
  where
    go : (s : Case) → case_of i.op ≡ s → Touches i (touch_by s i)
    go Store h = is_store i (case_of i.op) refl (cond (eqb i.x 0) 2 0) h refl
    go Unpack h = is_unpack i (case_of i.op) refl (first_of abc i.x) h refl
    go Enter h = is_enter i (case_of i.op) refl (cond (eqb i.x 2) 8 0) (cond (not (eqb i.x 0)) 2 0) h refl refl
    go Exit h = is_exit i (case_of i.op) refl (cond (not (eqb i.x 0)) 5 0) h refl
    go Judge h = is_judge i (case_of i.op) refl (cond (eqb i.x 1) 2 0) h refl
    go Step h = is_step i (case_of i.op) refl (cond (eqb i.x 0) 4 0) h refl
    go Plain h = is_plain_lem i (case_of i.op) refl (kinds_of i) (plain_of (kinds_of i)) h refl refl

-- ---- the arms of `touch_of`

module _ (i : Ins) (k : Case) (e : k ≡ case_of i.op) where
  by_arm : (s : Case) (t : Touch) → k ≡ s → t ≡ touch_by s i → t ≡ touch_of i
  unfolding touch_of
  by_arm s t h z = rw (← e, h) z

  pub arm_store : (v : ℕ) → k ≡ Store → v ≡ cond (eqb i.x 0) 2 0 → touch 0 2 v 0 ≡ touch_of i
  arm_store v h z = by_arm Store (touch 0 2 v 0) h (rw z)

  pub arm_unpack : (m : ℕ) → k ≡ Unpack → m ≡ first_of abc i.x → touch 0 m m 0 ≡ touch_of i
  arm_unpack m h z = by_arm Unpack (touch 0 m m 0) h (rw z)

  pub arm_enter : (u r : ℕ) → k ≡ Enter → u ≡ cond (eqb i.x 2) 8 0 → r ≡ cond (not (eqb i.x 0)) 2 0 → touch u 0 0 r ≡ touch_of i
  arm_enter u r h z y = by_arm Enter (touch u 0 0 r) h (rw (z, y))

  pub arm_exit : (r : ℕ) → k ≡ Exit → r ≡ cond (not (eqb i.x 0)) 5 0 → touch 0 0 0 r ≡ touch_of i
  arm_exit r h y = by_arm Exit (touch 0 0 0 r) h (rw y)

  pub arm_judge : (u : ℕ) → k ≡ Judge → u ≡ cond (eqb i.x 1) 2 0 → touch u 0 0 0 ≡ touch_of i
  arm_judge u h z = by_arm Judge (touch u 0 0 0) h (rw z)

  pub arm_step : (m : ℕ) → k ≡ Step → m ≡ cond (eqb i.x 0) 4 0 → touch m 0 m 0 ≡ touch_of i
  arm_step m h z = by_arm Step (touch m 0 m 0) h (rw z)

  pub arm_plain : (m : ℕ) (t : Touch) → k ≡ Plain → m ≡ kinds_of i → t ≡ plain_of m → t ≡ touch_of i
  arm_plain m t h z y = by_arm Plain t h (y ∙ ap plain_of z)

pub ruleset arms = (arm_store, arm_unpack, arm_enter, arm_exit, arm_judge, arm_step, arm_plain)
