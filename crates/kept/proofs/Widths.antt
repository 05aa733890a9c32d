-- Kept lists do not depend on the width of the words, nor on the route: any two routes agree from every level on. Assumes nothing.
use mathlib.Core.Path.{◌≡◌, refl, sym, ap, ap₂, ◌∙◌}
use mathlib.Core.Bool.{Bool, true, false, cond}
use mathlib.Core.List.{List, [], ◌∷◌, ◌++◌, Memᴰ}
use Prim.Native.Nat.{ℕ, zero, suc, ◌≤◌, ◌<◌}
use native.Mathlib.Nat.{le_refl}
use native.Mathlib.Decide.{dec_lt}
use native.Mathlib.Omega.{arith}
use lib.Bits.{bit_or}
use lib.ListN.{length, take, drop}
use lib.Seq.{take-append_seam}
use Rattle.code.specs.Ins.{ins_at, count}
use Rattle.code.specs.Inner.{Valid}
use Rattle.flow.specs.Set.{minus}
use Rattle.flow.specs.Sweep.{row, start_of}
use Rattle.flow.specs.Listed.{listed}
use Rattle.flow.specs.Kept.{Level, added, kept}
use Rattle.flow.proofs.Answer.{found_agree, start_le}
use Rattle.flow.proofs.Tries.{handlers_past}
use Rattle.steps.specs.Level.{is_level}
use Rattle.steps.specs.Code.{flow}
use Rattle.rows.specs.Route.{route_start, rows_in}
use Rattle.rows.specs.Inner.{Rows}
use Rattle.kept.specs.Level.{resume_of, level_of, kept_at}
use Rattle.kept.specs.Lists.{lists_to, offsets_to, over}
use Rattle.kept.specs.Answers.{Outcome}
use Rattle.kept.specs.declared.KeptAnswer.TheVariants.{Is}
use Rattle.steps.proofs.Resume.{resume_in}
use Rattle.kept.proofs.Passes.{offsets_long}
use Rattle.kept.proofs.Demand.{inside, before, Left, left}

-- rows that agree where a level goes on give it one list
module _ (regs : ℕ) (R S : ℕ → ℕ) where
  added_agree : (hs : List ℕ) (seen : ℕ) → ((h : ℕ) → Memᴰ h hs → R h ≡ S h) → added regs R seen hs ≡ added regs S seen hs
  unfolding added
  added_agree [] seen e = refl
  added_agree (h ∷ hs) seen e =
      ap₂ ◌++◌ (ap (λ (x : ℕ). listed regs 0 (minus x seen)) (e h (Memᴰ.head refl)))
      (added_agree hs (bit_or seen (R h)) (λ g m. e g (Memᴰ.tail m)) ∙ ap (λ (x : ℕ). added regs S (bit_or seen x) hs) (e h (Memᴰ.head refl)))

  kept_agree : (v : Level) → R v.resume ≡ S v.resume → ((h : ℕ) → Memᴰ h v.handlers → R h ≡ S h) → kept regs R v ≡ kept regs S v
  kept_agree v e es =
      ap (λ (x : ℕ). listed regs 0 (minus x v.result) ++ added regs R (minus x v.result) v.handlers) e
      ∙ ap (λ (l : List ℕ). listed regs 0 (minus (S v.resume) v.result) ++ l) (added_agree v.handlers (minus (S v.resume) v.result) es)

module _ (w : List ℕ) (regs : ℕ) (tries : List ℕ) (valid : Valid w) (bits bits' : ℕ) (wide wide' : Bool) (a a' : List ℕ) (full lost full' lost' : ℕ)
    (p : Rows bits wide regs w a full lost) (q : Rows bits' wide' regs w a' full' lost') where
  abbrev R : List ℕ
  R = rows_in bits regs w a

  abbrev S : List ℕ
  S = rows_in bits' regs w a'

  -- where each route begins
  abbrev here : ℕ
  here = route_start bits wide regs w

  abbrev there : ℕ
  there = route_start bits' wide' regs w

  -- at or past both starts the rows are the same
  rows_same : (j : ℕ) → here ≤ j → there ≤ j → row R j ≡ row S j
  rows_same j l l' = go (dec_lt (start_of (flow regs w) here) (start_of (flow regs w) there))
    where
      go : Dec (start_of (flow regs w) here < start_of (flow regs w) there) → row R j ≡ row S j
      go (yes h) = found_agree (flow regs w) here there (inside bits wide regs w) (inside bits' wide' regs w) (omega arith) p q j
          (omega (arith, start_le (flow regs w) there))
      go (no n) = sym (found_agree (flow regs w) there here (inside bits' wide' regs w) (inside bits wide regs w) (omega arith) q p j
          (omega (arith, start_le (flow regs w) here)))

  -- so the list of each position is the same
  pub kept_same : (k : ℕ) → k < count w → kept_at regs w tries R k ≡ kept_at regs w tries S k
  unfolding kept_at
  kept_same k l = go (is_level (ins_at w k)) refl
    where
      go : (t : Bool) → is_level (ins_at w k) ≡ t → cond t (kept regs (row R) (level_of regs w tries k)) [] ≡ cond t (kept regs (row S) (level_of regs w tries k))
          []
      go true e = kept_agree regs (row R) (row S) (level_of regs w tries k)
          (from (resume_of w k) (resume_in w k valid l).0) (λ h m. from h (omega (arith, (handlers_past (count w) k l tries h m).0)))
        where
          from : (j : ℕ) → k ≤ j → row R j ≡ row S j
          from j h = rows_same j (omega (arith, before bits wide regs w k l e)) (omega (arith, before bits' wide' regs w k l e))
      go false e = refl

  -- and so are the flat list and its offsets
  pub lists_same : (m : ℕ) → m ≤ count w → lists_to regs w tries R m ≡ lists_to regs w tries S m
  unfolding lists_to
  lists_same zero l = refl
  lists_same (suc m) l = ap₂ ◌++◌ (lists_same m (omega arith)) (kept_same m (omega arith))

  pub offsets_same : (m : ℕ) → m ≤ suc (count w) → offsets_to regs w tries R m ≡ offsets_to regs w tries S m
  unfolding offsets_to
  offsets_same zero l = refl
  offsets_same (suc m) l = ap₂ ◌++◌ (offsets_same m (omega arith)) (ap (λ (x : List ℕ). length x ∷ []) (lists_same m (omega arith)))

-- a buffer that begins with a list
front : (l old : List ℕ) (n : ℕ) → length l ≡ n → take n (over l old) ≡ l
front l old n e = ap (λ (x : ℕ). take x (over l old)) (sym e) ∙ take-append_seam l (drop (length l) old)

-- what an answer leaves in the first words of list and offsets
module _ (bits : ℕ) (w : List ℕ) (regs : ℕ) (tries : List ℕ) (wide : Bool) (rows offsets list a b c : List ℕ) (t f g : ℕ)
    (p : Outcome bits w regs tries wide rows offsets list a b c (Is t f g)) where
  said : Left bits w regs tries wide rows offsets list a b c t f g
  said = left bits w regs tries wide rows offsets list p t f g refl

  list_is : take t c ≡ lists_to regs w tries (rows_in bits regs w a) (count w)
  list_is = ap (take t) said.lists ∙ front (lists_to regs w tries (rows_in bits regs w a) (count w)) list t (sym said.total)

  offsets_are : take (suc (count w)) b ≡ offsets_to regs w tries (rows_in bits regs w a) (suc (count w))
  offsets_are = ap (take (suc (count w))) said.begins
      ∙ front (offsets_to regs w tries (rows_in bits regs w a) (suc (count w))) offsets (suc (count w)) (offsets_long regs w tries (rows_in bits regs w a)
      (suc (count w)))

-- Two calls with the same code, register count and tries, of whatever widths and routes, that both answer: one length, one list, one page of offsets.
module _ (w : List ℕ) (regs : ℕ) (tries : List ℕ) (bits bits' : ℕ) (wide wide' : Bool) (rows offsets list rows' offsets' list' : List ℕ)
    (a b c a' b' c' : List ℕ) (t f g t' f' g' : ℕ) (p : Outcome bits w regs tries wide rows offsets list a b c (Is t f g))
    (q : Outcome bits' w regs tries wide' rows' offsets' list' a' b' c' (Is t' f' g')) where
  one : Left bits w regs tries wide rows offsets list a b c t f g
  one = said bits w regs tries wide rows offsets list a b c t f g p

  other : Left bits' w regs tries wide' rows' offsets' list' a' b' c' t' f' g'
  other = said bits' w regs tries wide' rows' offsets' list' a' b' c' t' f' g' q

  all : lists_to regs w tries (rows_in bits regs w a) (count w) ≡ lists_to regs w tries (rows_in bits' regs w a') (count w)
  all = lists_same w regs tries one.valid bits bits' wide wide' a a' f g f' g' one.scratch.found other.scratch.found (count w) (le_refl (count w))

  pub totals_one : t ≡ t'
  totals_one = one.total ∙ ap length all ∙ sym other.total

  pub lists_one : take t c ≡ take t' c'
  lists_one = list_is bits w regs tries wide rows offsets list a b c t f g p ∙ all ∙ sym (list_is bits' w regs tries wide' rows' offsets' list' a' b' c' t' f'
      g' q)

  pub offsets_one : take (suc (count w)) b ≡ take (suc (count w)) b'
  offsets_one = offsets_are bits w regs tries wide rows offsets list a b c t f g p
      ∙ offsets_same w regs tries one.valid bits bits' wide wide' a a' f g f' g' one.scratch.found other.scratch.found
      (suc (count w)) (le_refl (suc (count w)))
      ∙ sym (offsets_are bits' w regs tries wide' rows' offsets' list' a' b' c' t' f' g' q)
