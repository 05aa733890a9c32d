-- Nested frames: after matched entries and leavings the same room is in use, and a leaving finds what its entry put aside. Assumes nothing.
use mathlib.Core.Path.{◌≡◌, refl, sym, ap, ap₂, ◌∙◌, subst}
use mathlib.Core.Bool.{Bool, true, false, cond}
use mathlib.Core.List.{List, [], ◌∷◌, ◌++◌, append_assoc}
use Prim.Native.Nat.{ℕ, ◌+◌, ◌-◌, ◌*◌, ◌/◌, ◌≤◌}
use native.Mathlib.Omega.{arith}
use borrow.Author.Tests.{le-ltb, ltb-false}
use lib.Dec.{ltb}
use lib.ListN.{length, get_or, take, drop, set, length-set, length-append, take-append-drop}
use lib.Seq.{sets-eq, length-sets, get_or-set_same, get_or-set_other, get_or_at, take_at, take-take, length-take-le}
use Rattle.area.specs.Area.{free_of, need_of, pairs_of, entry_of, put_back, entry, top_of}
use Rattle.saver.specs.Saver.{Saver, saver, Ends, ends, regs_of, in_use, entered, enter_of}
use Rattle.leaves.specs.Leaving.{Back, result_written, left_by, leave_of}
use Rattle.taken.specs.Lists.{first_strange}
use Rattle.frames.specs.Frames.{Sound, CallEvent, enters, writes, leaves, Matched, none, over, frame}
use Rattle.frames.specs.Inner.{restored, Play, done, enter, write, leave, SameRoom}
use Rattle.std.specs.declared.result.Result.TheVariants.{Ok, Err}
use Rattle.saver.specs.declared.SaverRefusal.TheVariants.{Registers, Listed, Full}
use Rattle.std.specs.declared.option.Option.TheVariants.{Some, None}
use Rattle.frames.proofs.Words.{pairs_length, entry_length, back_length, back_is, written_length}

-- what an entry is that is not refused
pub record Accepted (s : Saver) (l : List ℕ) (q : ℕ) : Type 0 where
  pub few : regs_of s ≤ 64
  pub fine : length l ≤ first_strange (regs_of s) l
  pub room : need_of l ≤ free_of (in_use s)
  pub is : enter_of s l q ≡ ends (entered s l q) (Ok (in_use s + need_of l))

pub accepted : (s : Saver) (l : List ℕ) (q u : ℕ) → (enter_of s l q).answer ≡ Ok u → Accepted s l q
unfolding enter_of
accepted s l q u e = go (ltb 64 (regs_of s)) refl (ltb (first_strange (regs_of s) l) (length l)) refl (ltb (free_of (in_use s)) (need_of l)) refl e
  where
    go : (a : Bool) → ltb 64 (regs_of s) ≡ a → (b : Bool) → ltb (first_strange (regs_of s) l) (length l) ≡ b → (c : Bool) → ltb (free_of (in_use s)) (need_of l) ≡ c
        → (cond a (ends s (Err (Registers (regs_of s)))) (cond b (ends s (Err (Listed (first_strange (regs_of s) l)))) (cond c (ends s (Err (Full (free_of (in_use s)))))
        (ends (entered s l q) (Ok (in_use s + need_of l)))))).answer ≡ Ok u
        → Accepted s l q
    go true p b q' c r h = let z : ◌≡◌ {A = ℕ} 0 1 = cc in absurd (omega arith)
    go false p true q' c r h = let z : ◌≡◌ {A = ℕ} 0 1 = cc in absurd (omega arith)
    go false p false q' true r h = let z : ◌≡◌ {A = ℕ} 0 1 = cc in absurd (omega arith)
    go false p false q' false r h = record {
      few = ltb-false 64 (regs_of s) p;
      fine = ltb-false (first_strange (regs_of s) l) (length l) q';
      room = ltb-false (free_of (in_use s)) (need_of l) r;
      is = rw (p, q', r);
    }

-- the newest entry is found
module _ (pre pairs D : List ℕ) (len q : ℕ) (two : length pairs ≡ 2 * len) (room : length pre + (2 * len + 2) ≤ 4096) where
  abbrev A : List ℕ
  A = pre ++ (pairs ++ (len ∷ q ∷ D))

  abbrev U : ℕ
  U = length pre + (2 * len + 2)

  len_at_lem : get_or A (U - 2) 0 ≡ len
  len_at_lem = ap (λ (x : List ℕ). get_or x (U - 2) 0) (sym (append_assoc pre pairs (len ∷ q ∷ D)))
      ∙ get_or_at (pre ++ pairs) len (q ∷ D) 0 (U - 2) (omega (arith, length-append pre pairs))

  result_at_lem : get_or A (U - 2 + 1) 0 ≡ q
  result_at_lem = ap (λ (x : List ℕ). get_or x (U - 2 + 1) 0) (sym (append_assoc pre pairs (len ∷ q ∷ D)) ∙ sym (append_assoc (pre ++ pairs) (len ∷ []) (q ∷ D)))
      ∙ get_or_at ((pre ++ pairs) ++ (len ∷ [])) q D 0 (U - 2 + 1) (omega (arith, length-append pre pairs, length-append (pre ++ pairs) (len ∷ [])))

  pub top_is : top_of (length pre + (2 * len + 2)) (pre ++ (pairs ++ (len ∷ q ∷ D))) ≡ Some (entry (length pre) len q)
  unfolding top_of
  top_is =
      ap₂ (λ (x y : ℕ). cond (ltb U 2) None (cond (ltb 4096 U) None (cond (ltb ((U - 2) / 2) x) None (Some (entry (U - 2 - 2 * x) x y))))) len_at_lem result_at_lem
      ∙ rw (le-ltb U 2 (omega arith), le-ltb 4096 U room, le-ltb ((U - 2) / 2) len (omega arith)) (ap (λ (x : ℕ). Some (entry x len q)) base)
    where
      base : U - 2 - 2 * len ≡ length pre
      base = omega arith

-- an entry that stands in the area, its last word the last in use
module _ (area : List ℕ) (long : length area ≡ 4096) (u : ℕ) (file l : List ℕ) (q : ℕ) (fits : u + need_of l ≤ 4096)
    (so : take (u + need_of l) area ≡ take u area ++ entry_of file l q) where
  abbrev front : List ℕ
  front = take u area

  abbrev rest : List ℕ
  rest = drop (u + need_of l) area

  front_length : length front ≡ u
  front_length = length-take-le u area (omega arith)

  whole : area ≡ front ++ (pairs_of file l ++ (length l ∷ q ∷ rest))
  unfolding entry_of
  whole = sym (take-append-drop (u + need_of l) area)
      ∙ ap (λ (x : List ℕ). x ++ rest) so
      ∙ append_assoc front (entry_of file l q) rest
      ∙ ap (λ (x : List ℕ). front ++ x) (append_assoc (pairs_of file l) (length l ∷ q ∷ []) rest)

  -- is found
  pub entry_found : top_of (u + need_of l) area ≡ Some (entry u (length l) q)
  entry_found = ap₂ top_of (ap (λ (x : ℕ). x + need_of l) (sym front_length)) whole
      ∙ top_is front (pairs_of file l) rest (length l) q (pairs_length file l) (omega (arith, front_length))
      ∙ ap (λ (n : ℕ). Some (entry n (length l) q)) front_length

  -- and put back
  pub entry_back : (regs : ℕ) (g : List ℕ) → put_back regs area u (length l) g ≡ restored regs file l g
  entry_back regs g = ap₂ (λ (n : ℕ) (x : List ℕ). put_back regs x n (length l) g) (sym front_length) whole ∙ back_is regs file l g front (length l ∷ q ∷ rest)

-- an entry and what comes after it, up to its leaving
module _ (s : Saver) (ok : Sound s) (l : List ℕ) (q : ℕ) (a : Accepted s l q) where
  abbrev E : List ℕ
  E = entry_of s.file l q

  abbrev s₁ : Saver
  s₁ = (enter_of s l q).left

  long : length E ≡ 2 * length l + 2
  long = entry_length s.file l q

  pub fits : in_use s + need_of l ≤ 4096
  fits = omega (arith, long, a.room, ok.room)

  is₁ : s₁ ≡ entered s l q
  is₁ = ap (λ (e : Ends). e.left) a.is

  regs₁ : regs_of s₁ ≡ regs_of s
  regs₁ = ap regs_of is₁ ∙ get_or-set_other s.head 1 0 (in_use s + need_of l) 0 (λ e. omega arith)

  pub used₁ : in_use (enter_of s l q).left ≡ in_use s + need_of l
  used₁ = ap in_use is₁ ∙ get_or-set_same s.head 1 (in_use s + need_of l) 0 (omega (arith, ok.heads))

  pub entered_sound : Sound (enter_of s l q).left
  entered_sound = record {
    few = omega (arith, regs₁, ok.few);
    room = omega (arith, used₁, fits);
    heads = ap (λ (x : Saver). length x.head) is₁ ∙ length-set s.head 1 (in_use s + need_of l) ∙ ok.heads;
    areas = ap (λ (x : Saver). length x.area) is₁ ∙ length-sets s.area (in_use s) E ∙ ok.areas;
    files = ap (λ (x : Saver). length x.file) is₁ ∙ ok.files;
  }

  saved₁ : take (in_use s + need_of l) s₁.area ≡ take (in_use s) s.area ++ E
  saved₁ = ap (λ (x : Saver). take (in_use s + need_of l) x.area) is₁
      ∙ ap (take (in_use s + need_of l)) (sets-eq E s.area (in_use s) (omega (arith, long, fits, ok.areas)))
      ∙ take_at (take (in_use s) s.area ++ E) (drop (in_use s + length E) s.area) (in_use s + need_of l)
      (omega (arith, length-append (take (in_use s) s.area) E, long, length-take-le (in_use s) s.area (omega (arith, ok.room, ok.areas))))

  -- what stood below the entry still does
  pub below₁ : take (in_use s) (enter_of s l q).left.area ≡ take (in_use s) s.area
  below₁ = sym (take-take (in_use s) (in_use s + need_of l) s₁.area (omega arith)) ∙ ap (take (in_use s)) saved₁
      ∙ take_at (take (in_use s) s.area) E (in_use s) (length-take-le (in_use s) s.area (omega (arith, ok.room, ok.areas)))

  pub stands₁ : take (in_use s + need_of l) (enter_of s l q).left.area ≡ take (in_use s) (enter_of s l q).left.area ++ entry_of s.file l q
  stands₁ = saved₁ ∙ ap (λ (x : List ℕ). x ++ E) (sym below₁)

  module _ (t : Saver) (m : SameRoom (enter_of s l q).left t) where
    -- as the call is left, the same words are in use
    saved₂ : take (in_use s + need_of l) t.area ≡ take (in_use s + need_of l) s₁.area
    saved₂ = ap (λ (n : ℕ). take n t.area) (sym used₁) ∙ m.saved ∙ ap (λ (n : ℕ). take n s₁.area) used₁

    below₂ : take (in_use s) t.area ≡ take (in_use s) s.area
    below₂ = sym (take-take (in_use s) (in_use s + need_of l) t.area (omega arith)) ∙ ap (take (in_use s)) saved₂
        ∙ take-take (in_use s) (in_use s + need_of l) s₁.area (omega arith) ∙ below₁

    stands₂ : take (in_use s + need_of l) t.area ≡ take (in_use s) t.area ++ E
    stands₂ = saved₂ ∙ saved₁ ∙ ap (λ (x : List ℕ). x ++ E) (sym below₂)

    found : top_of (in_use t) t.area ≡ Some (entry (in_use s) (length l) q)
    found = ap (λ (n : ℕ). top_of n t.area) (m.used ∙ used₁) ∙ entry_found t.area m.sound.areas (in_use s) s.file l q fits stands₂

    part : (g : List ℕ) → put_back (regs_of s) t.area (in_use s) (length l) g ≡ restored (regs_of s) s.file l g
    part = entry_back t.area m.sound.areas (in_use s) s.file l q fits stands₂ (regs_of s)

    regs₂ : regs_of t ≡ regs_of s
    regs₂ = m.regs ∙ regs₁

    abbrev back_to : Back → List ℕ
    back_to back = result_written (regs_of s) q back (restored (regs_of s) s.file l t.file)

    -- the leaving is not refused; it puts back what this entry put aside, and frees its room
    pub leaving : (back : Back)
        → leave_of t back ≡ ends (saver (set t.head 1 (in_use s)) t.area (result_written (regs_of s) q back (restored (regs_of s) s.file l t.file)))
        (Ok (in_use s))
    unfolding leave_of left_by
    leaving back = rw (le-ltb 64 (regs_of t) m.sound.few, found, regs₂, part)

    abbrev s₃ : Back → Saver
    s₃ back = saver (set t.head 1 (in_use s)) t.area (back_to back)

    same₃ : (back : Back) → SameRoom s (s₃ back)
    same₃ back = record {
      sound = record {
        few = omega (arith, regs, ok.few);
        room = omega (arith, used, ok.room);
        heads = length-set t.head 1 (in_use s) ∙ m.sound.heads;
        areas = m.sound.areas;
        files = written_length (regs_of s) q back (restored (regs_of s) s.file l t.file) ∙ back_length (regs_of s) s.file l t.file ∙ m.sound.files;
      };
      regs = regs;
      used = used;
      saved = below₂;
    }
      where
        regs : regs_of (s₃ back) ≡ regs_of s
        regs = get_or-set_other t.head 1 0 (in_use s) 0 (λ e. omega arith) ∙ regs₂

        used : in_use (s₃ back) ≡ in_use s
        used = get_or-set_same t.head 1 (in_use s) 0 (omega (arith, m.sound.heads))

    pub left_same : (back : Back) → SameRoom s (leave_of t back).left
    left_same back = subst (λ (e : Ends). SameRoom s e.left) (sym (leaving back)) (same₃ back)

pub same_refl : (s : Saver) → Sound s → SameRoom s s
same_refl s ok = record { sound = ok; regs = refl; used = refl; saved = refl }

pub same_trans : (s t u : Saver) → SameRoom s t → SameRoom t u → SameRoom s u
same_trans s t u a b = record {
  sound = b.sound;
  regs = b.regs ∙ a.regs;
  used = b.used ∙ a.used;
  saved = ap (λ (n : ℕ). take n u.area) (sym a.used) ∙ b.saved ∙ ap (λ (n : ℕ). take n t.area) a.used ∙ a.saved;
}

-- events played in two parts
pub split : (es fs : List CallEvent) {s t : Saver} → Play s (es ++ fs) t → (m : Saver) × Play s es m × Play m fs t
split [] fs {s} p = (s, done, p)
split (enters l q ∷ es) fs (enter e p) = let (m, a, b) = split es fs p in (m, enter e a, b)
split (writes new ∷ es) fs (write e p) = let (m, a, b) = split es fs p in (m, write e a, b)
split (leaves back ∷ es) fs (leave p) = let (m, a, b) = split es fs p in (m, leave a, b)

leave_play : {s t : Saver} {back : Back} {es : List CallEvent} → Play s (leaves back ∷ es) t → Play (leave_of s back).left es t
leave_play (leave p) = p

-- after matched entries and leavings the same room is in use, by the same words
pub matched : {es : List CallEvent} {s t : Saver} → Matched es → Sound s → Play s es t → SameRoom s t
matched {s = s} none ok done = same_refl s ok
matched {s = s} {t = t} (over {new = new} m) ok (write e p) =
    let r = matched m (record { few = ok.few; room = ok.room; heads = ok.heads; areas = ok.areas; files = e ∙ ok.files }) p in
    record { sound = r.sound; regs = r.regs; used = r.used; saved = r.saved }
matched {s = s} {t = t} (frame {l = l} {q = q} {es = es} {fs = fs} back m n) ok (enter {u = u} e p) =
    let a = accepted s l q u e in
    let (x, p₁, p₂) = split es (leaves back ∷ fs) p in
    let r = left_same s ok l q a x (matched m (entered_sound s ok l q a) p₁) back in
    same_trans s (leave_of x back).left t r (matched n r.sound (leave_play p₂))
