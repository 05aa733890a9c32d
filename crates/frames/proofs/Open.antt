-- Refusal 9 is given exactly where no call is open, whatever happened before. Assumes nothing.
use mathlib.Core.Path.{◌≡◌, refl, sym, ap, ◌∙◌, subst}
use mathlib.Core.List.{List, ◌++◌}
use Prim.Native.Nat.{ℕ, zero, suc, ◌+◌, ◌≤◌}
use native.Mathlib.Omega.{arith}
use borrow.Author.Tests.{le-ltb}
use lib.ListN.{length, get_or, take, set, length-set}
use lib.Seq.{take-take, get_or-set_same, get_or-set_other}
use Rattle.area.specs.Area.{need_of, entry_of, put_in, put_back, top_of}
use Rattle.saver.specs.Saver.{Saver, saver, Ends, ends, regs_of, in_use, made_head, enter_of}
use Rattle.leaves.specs.Leaving.{Back, result_written, left_by, leave_of}
use Rattle.frames.specs.Frames.{Sound, Open, made, entered, overwritten, left}
use Rattle.std.specs.declared.result.Result.TheVariants.{Ok, Err}
use Rattle.saver.specs.declared.SaverRefusal.TheVariants.{Nothing}
use Rattle.frames.proofs.Words.{in_length, written_length}
use Rattle.frames.proofs.Frames.{accepted, entered_sound, entry_found, used₁, fits, stands₁, below₁}

-- the first w words are n entries, one upon the other
data Tower (area : List ℕ) : ℕ → ℕ → Type 0 where
  ground : {w : ℕ} → w ≡ 0 → Tower area 0 w
  floor : {n u w : ℕ} (file l : List ℕ) (q : ℕ) → Tower area n u → u + need_of l ≤ 4096 → take (u + need_of l) area ≡ take u area ++ entry_of file l q
      → w ≡ u + need_of l → Tower area (suc n) w

moved : (area area' : List ℕ) {n w : ℕ} → Tower area n w → take w area' ≡ take w area → Tower area' n w
moved area area' (ground e) h = ground e
moved area area' {w = w} (floor {u = u} file l q t f s e) h = floor file l q (moved area area' t (less u (omega arith))) f
    (ap (λ (n : ℕ). take n area') (sym e) ∙ h ∙ ap (λ (n : ℕ). take n area) e ∙ s ∙ ap (λ (x : List ℕ). x ++ entry_of file l q) (sym (less u (omega arith)))) e
  where
    less : (u : ℕ) → u ≤ w → take u area' ≡ take u area
    less u k = sym (take-take u w area' k) ∙ ap (take u) h ∙ take-take u w area k

back_length : (regs : ℕ) (area : List ℕ) (m p : ℕ) (g : List ℕ) → length (put_back regs area p m g) ≡ length g
unfolding put_back
back_length regs area zero p g = refl
back_length regs area (suc m) p g = back_length regs area m (suc (suc p)) (put_in regs (get_or area p 0) (get_or area (suc p) 0) g)
    ∙ in_length regs (get_or area p 0) (get_or area (suc p) 0) g

-- the newest of n + 1 entries is left
module _ (s : Saver) (ok : Sound s) (u : ℕ) (file l : List ℕ) (q : ℕ) (f : u + need_of l ≤ 4096)
    (so : take (u + need_of l) s.area ≡ take u s.area ++ entry_of file l q) (e : in_use s ≡ u + need_of l) (back : Back) where
  abbrev to : List ℕ
  to = result_written (regs_of s) q back (put_back (regs_of s) s.area u (length l) s.file)

  leaves_it : leave_of s back ≡ ends (saver (set s.head 1 u) s.area to) (Ok u)
  unfolding leave_of left_by
  leaves_it = rw (le-ltb 64 (regs_of s) ok.few, e, entry_found s.area ok.areas u file l q f so)

  used_then : in_use (leave_of s back).left ≡ u
  used_then = ap (λ (x : Ends). in_use x.left) leaves_it ∙ get_or-set_same s.head 1 u 0 (omega (arith, ok.heads))

  regs_then : regs_of (leave_of s back).left ≡ regs_of s
  regs_then = ap (λ (x : Ends). regs_of x.left) leaves_it ∙ get_or-set_other s.head 1 0 u 0 (λ z. omega arith)

  sound_then : Sound (leave_of s back).left
  sound_then = record {
    few = omega (arith, regs_then, ok.few);
    room = omega (arith, used_then);
    heads = ap (λ (x : Ends). length x.left.head) leaves_it ∙ length-set s.head 1 u ∙ ok.heads;
    areas = ap (λ (x : Ends). length x.left.area) leaves_it ∙ ok.areas;
    files = ap (λ (x : Ends). length x.left.file) leaves_it ∙ written_length (regs_of s) q back (put_back (regs_of s) s.area u (length l) s.file)
        ∙ back_length (regs_of s) s.area (length l) u s.file ∙ ok.files;
  }

-- what every saver is that was made and used
standing : {s : Saver} {n : ℕ} → Open s n → Sound s × Tower s.area n (in_use s)
standing (made ok e) = (ok, ground e)
standing (entered {s = s} o l q u e) =
    let (ok, t) = standing o in
    let a = accepted s l q u e in (
      entered_sound s ok l q a,
      floor s.file l q (moved s.area (enter_of s l q).left.area t (below₁ s ok l q a)) (fits s ok l q a) (stands₁ s ok l q a) (used₁ s ok l q a),
    )
standing (overwritten {s = s} o new e) =
    let (ok, t) = standing o in
    (record { few = ok.few; room = ok.room; heads = ok.heads; areas = ok.areas; files = e ∙ ok.files }, t)
standing (left {s = s} o back) =
    let (ok, t) = standing o in
    down s ok back t
  where
    down : {n : ℕ} (s : Saver) → Sound s → (back : Back) → Tower s.area (suc n) (in_use s)
        → Sound (leave_of s back).left × Tower (leave_of s back).left.area n (in_use (leave_of s back).left)
    down {n} s ok back (floor {u = u} file l q t f so e) = (
      sound_then s ok u file l q f so e back,
      subst (λ (x : Ends). Tower x.left.area n (in_use (leave_of s back).left)) (sym (leaves_it s ok u file l q f so e back))
          (subst (λ (w : ℕ). Tower s.area n w) (sym (used_then s ok u file l q f so e back)) t),
    )

-- however it was used, a saver that was made is sound
pub open_sound : {s : Saver} {n : ℕ} → Open s n → Sound s
open_sound o = (standing o).0

-- with no call open a leaving is refused with 9 and changes nothing
pub none_open : {s : Saver} → Open s 0 → (back : Back) → leave_of s back ≡ ends s (Err Nothing)
unfolding leave_of left_by top_of
none_open {s} o back = let (ok, t) = standing o in bare ok (zero_used t)
  where
    zero_used : {w : ℕ} → Tower s.area 0 w → w ≡ 0
    zero_used (ground e) = e

    bare : Sound s → in_use s ≡ 0 → leave_of s back ≡ ends s (Err Nothing)
    bare ok e = rw (le-ltb 64 (regs_of s) ok.few, e)

-- with a call open it is not
pub some_open : {s : Saver} {n : ℕ} → Open s (suc n) → (back : Back) → (u : ℕ) × ((leave_of s back).answer ≡ Ok u)
some_open {s} o back = let (ok, t) = standing o in found ok t
  where
    found : {n : ℕ} → Sound s → Tower s.area (suc n) (in_use s) → (u : ℕ) × ((leave_of s back).answer ≡ Ok u)
    found ok (floor {u = u} file l q t f so e) = (u, ap (λ (x : Ends). x.answer) (leaves_it s ok u file l q f so e back))

-- what `make` leaves is such a saver
pub made_open : (head area file : List ℕ) (regs : ℕ) → length head ≡ 2 → length area ≡ 4096 → length file ≡ 64 → regs ≤ 64
    → Open (saver (made_head head regs) area file) 0
made_open head area file regs h a f few = rw (le-ltb 64 regs few) (made {s = saver (set (set head 0 regs) 1 0) area file}
    (record {
      few = omega (arith, zeroth, few);
      room = omega (arith, first);
      heads = length-set (set head 0 regs) 1 0 ∙ length-set head 0 regs ∙ h;
      areas = a;
      files = f;
    })
    first)
  where
    first : get_or (set (set head 0 regs) 1 0) 1 0 ≡ 0
    first = get_or-set_same (set head 0 regs) 1 0 0 (omega (arith, length-set head 0 regs, h))

    zeroth : get_or (set (set head 0 regs) 1 0) 0 0 ≡ regs
    zeroth = get_or-set_other (set head 0 regs) 1 0 0 0 (λ e. omega arith) ∙ get_or-set_same head 0 regs 0 (omega arith)
