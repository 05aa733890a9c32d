-- What each function's answers rest on: one law for each way out. Assumes nothing.
use mathlib.Core.Path.{◌≡◌, refl, sym, ap, ap₂, ◌∙◌}
use mathlib.Core.Bool.{Bool, true, false, cond}
use mathlib.Core.List.{List, [], ◌∷◌, ◌++◌}
use Prim.Native.Nat.{ℕ, suc, ◌+◌, ◌-◌, ◌*◌, ◌/◌, ◌≤◌, ◌<◌, zero-le}
use native.Mathlib.Numerals.{add-one}
use native.Mathlib.Omega.{arith}
use borrow.Author.Tests.{lt-ltb, le-ltb, ltb-false}
use lib.Dec.{ltb}
use lib.ListN.{length, get_or, drop, set, length-drop}
use lib.Seq.{sets, drop-cons}
use Rattle.area.specs.Area.{pairs_of, entry_of, put_in, put_back, entry, top_of}
use Rattle.area.specs.Inner.{StoreRoom, EntryStored}
use Rattle.std.specs.declared.option.Option.{Option}
use Rattle.std.specs.declared.option.Option.TheVariants.{Some, None}
use Rattle.area.specs.declared.Entry.{Entry}

-- ---- an entry is being stored

pub record Storing (file l : List ℕ) (q : ℕ) (old : List ℕ) (at : ℕ) (out : List ℕ) (i : ℕ) : Type 0 where
  pub le : i ≤ length l
  pub fit : StoreRoom at l
  pub so : sets out (at + 2 * i) (pairs_of file (drop i l) ++ (length l ∷ q ∷ [])) ≡ sets old at (entry_of file l q)

module _ (file l : List ℕ) (q : ℕ) (old : List ℕ) (at : ℕ) where
  pub storing_start : StoreRoom at l → Storing file l q old at old 0
  unfolding entry_of
  storing_start f = record { le = zero-le; fit = f; so = rw here refl }
    where
      here : at + 2 * 0 ≡ at
      here = omega arith

  module _ (out : List ℕ) (i : ℕ) (s : Storing file l q old at out i) where
    pub storing_reg : i < length l → get_or l i 0 < 64
    storing_reg h = s.fit.below i h

    pub storing_more : i < length l → (r : ℕ) → r ≡ get_or l i 0
        → Storing file l q old at (set (set out (at + 2 * i) r) (at + 2 * i + 1) (get_or file r 0)) (i + 1)
    unfolding pairs_of
    storing_more h r e = record {
      le = omega arith;
      fit = s.fit;
      so = step ∙ s.so;
    }
      where
        two : at + 2 * (i + 1) ≡ suc (suc (at + 2 * i))
        two = omega arith

        step : sets (set (set out (at + 2 * i) r) (at + 2 * i + 1) (get_or file r 0)) (at + 2 * (i + 1)) (pairs_of file (drop (i + 1) l) ++ (length l ∷ q ∷ []))
            ≡ sets out (at + 2 * i) (pairs_of file (drop i l) ++ (length l ∷ q ∷ []))
        step = rw (e, two, add-one (at + 2 * i), add-one i)
            (sym (ap (λ (x : List ℕ). sets out (at + 2 * i) (pairs_of file x ++ (length l ∷ q ∷ []))) (drop-cons l i 0 h)))

    pub storing_end : length l ≤ i
        → EntryStored at file l q old (set (set out (at + 2 * length l) (length l)) (at + 2 * length l + 1) q) (at + 2 * length l + 2)
    unfolding pairs_of
    storing_end h = record { words = rw (add-one (at + 2 * length l)) (last ∙ s.so); past = omega arith }
      where
        none : drop i l ≡ []
        none = empty (drop i l) (omega (arith, length-drop i l))
          where
            empty : (x : List ℕ) → length x ≡ 0 → x ≡ []
            empty [] e = refl
            empty (x ∷ xs) e = absurd (omega arith)

        all : length l ≡ i
        all = omega (arith, s.le)

        last : set (set out (at + 2 * length l) (length l)) (suc (at + 2 * length l)) q ≡ sets out (at + 2 * i) (pairs_of file (drop i l) ++ (length l ∷ q ∷ []))
        last = rw (none, ← all) refl

pub ruleset storings = (storing_start, storing_more, storing_end, storing_reg)

-- ---- the newest entry

module _ (used : ℕ) (area : List ℕ) where
  pub top_few : used < 2 → ◌≡◌ {A = Option Entry} None (top_of used area)
  unfolding top_of
  top_few h = rw (lt-ltb used 2 h)

  pub top_past : 2 ≤ used → 4096 < used → ◌≡◌ {A = Option Entry} None (top_of used area)
  unfolding top_of
  top_past h k = rw (le-ltb used 2 h, lt-ltb 4096 used k)

  module _ (lo : 2 ≤ used) (hi : used ≤ 4096) (len : ℕ) (e : len ≡ get_or area (used - 2) 0) where
    pub top_long : (used - 2) / 2 < len → ◌≡◌ {A = Option Entry} None (top_of used area)
    unfolding top_of
    top_long h = rw (le-ltb used 2 lo, le-ltb 4096 used hi, ← e, lt-ltb ((used - 2) / 2) len h)

    pub top_found : len ≤ (used - 2) / 2 → Some (entry (used - 2 - 2 * len) len (get_or area (used - 2 + 1) 0)) ≡ top_of used area
    unfolding top_of
    top_found h = rw (le-ltb used 2 lo, le-ltb 4096 used hi, ← e, le-ltb ((used - 2) / 2) len h)

pub ruleset tops = (top_few, top_past, top_long, top_found)

-- an entry that is found lies in the area
pub top_within : (used : ℕ) (area : List ℕ) (e : Entry) → Some e ≡ top_of used area → e.base + 2 * e.len ≤ 4096
unfolding top_of
top_within used area t = go (ltb used 2) (ltb 4096 used) refl (ltb ((used - 2) / 2) (get_or area (used - 2) 0)) refl
  where
    go : (a b : Bool) → ltb 4096 used ≡ b → (c : Bool) → ltb ((used - 2) / 2) (get_or area (used - 2) 0) ≡ c
        → Some t ≡ cond a None
        (cond b None (cond c None (Some (entry (used - 2 - 2 * get_or area (used - 2) 0) (get_or area (used - 2) 0) (get_or area (used - 2 + 1) 0)))))
        → t.base + 2 * t.len ≤ 4096
    go true b p c r e = let z : ◌≡◌ {A = ℕ} 0 1 = cc in absurd (omega arith)
    go false true p c r e = let z : ◌≡◌ {A = ℕ} 0 1 = cc in absurd (omega arith)
    go false false p true r e = let z : ◌≡◌ {A = ℕ} 0 1 = cc in absurd (omega arith)
    go false false p false r e =
        let x : t.base ≡ used - 2 - 2 * get_or area (used - 2) 0 = cc in
        let y : t.len ≡ get_or area (used - 2) 0 = cc in
        omega (arith, ltb-false 4096 used p, ltb-false ((used - 2) / 2) (get_or area (used - 2) 0) r)

-- ---- registers put back

pub record Backing (regs : ℕ) (area : List ℕ) (base len : ℕ) (old file : List ℕ) (i : ℕ) : Type 0 where
  pub le : i ≤ len
  pub within : base + 2 * len ≤ 4096
  pub so : put_back regs area (base + 2 * i) (len - i) file ≡ put_back regs area base len old

module _ (regs : ℕ) (area : List ℕ) (base len : ℕ) (old : List ℕ) where
  pub backing_start : base + 2 * len ≤ 4096 → Backing regs area base len old old 0
  backing_start h = record { le = zero-le; within = h; so = ap₂ (λ (x y : ℕ). put_back regs area x y old) (zero base) (less len) }
    where
      zero : (x : ℕ) → x + 2 * 0 ≡ x
      zero x = omega arith

      less : (x : ℕ) → x - 0 ≡ x
      less x = omega arith

  module _ (file : List ℕ) (i : ℕ) (b : Backing regs area base len old file i) where
    pub backing_more : i < len → (next : List ℕ) → next ≡ put_in regs (get_or area (base + 2 * i) 0) (get_or area (base + 2 * i + 1) 0) file
        → Backing regs area base len old next (i + 1)
    unfolding put_back
    backing_more h next e = record {
      le = omega arith;
      within = b.within;
      so = rw (e, two, add-one (base + 2 * i)) (sym (ap (λ (x : ℕ). put_back regs area (base + 2 * i) x file) more) ∙ b.so);
    }
      where
        two : base + 2 * (i + 1) ≡ suc (suc (base + 2 * i))
        two = omega arith

        more : len - i ≡ suc (len - (i + 1))
        more = omega arith

    pub backing_end : len ≤ i → file ≡ put_back regs area base len old
    unfolding put_back
    backing_end h = ap (λ (x : ℕ). put_back regs area (base + 2 * i) x file) (none) ∙ b.so
      where
        none : 0 ≡ len - i
        none = omega arith

pub ruleset backings = (backing_start, backing_more, backing_end)
