-- The fill counts each jump and each handler once. Assumes nothing.
use Prim.Native.Nat.{ℕ, ◌+◌, ◌/◌, ◌^◌, ◌≤◌, ◌<◌}
use native.Mathlib.Omega.{arith}
use mathlib.Core.Path.{◌≡◌, refl, sym, ap, ◌∙◌}
use mathlib.Core.Bool.{Bool, true, false, cond}
use mathlib.Core.List.{List, [], ◌∷◌}
use lib.Dec.{eqb, ltb}
use lib.ListN.{length, get_or, set, length-set, get_or-eq_default}
use lib.Seq.{get_or-set_same, get_or-set_other, ext_get_or}
use borrow.Author.Tests.{lt-ltb, ltb-true, ltb-false, eqb-true, eqb-false}
use mir.Val.{bool_byte}
use Rattle.laws.specs.All.{many}
use Rattle.laws.specs.Each.{each}
use Rattle.laws.proofs.Many.{many_more, many_few}
use Rattle.laws.proofs.Each.{each_word, each_at}
use Rattle.chunk.specs.Chunk.{chunk_count, operand_at, marks_jump}
use Rattle.landings.specs.Landings.{handler_at, jump_lands, handler_lands, landings_at, landings_of}
use Rattle.landings.specs.Inner.{bumped, Counts, FewAt, Jumped, Handled}

-- ---- one landing more

pub bumped_long : (l : List ℕ) (x : ℕ) → length (bumped l x) ≡ length l
unfolding bumped
bumped_long l x = go (ltb x (length l))
  where
    go : (b : Bool) → length (cond b (set l x (get_or l x 0 + 1)) l) ≡ length l
    go true = length-set l x (get_or l x 0 + 1)
    go false = refl

bumped_at : (l : List ℕ) (x t : ℕ) → t < length l → get_or (bumped l x) t 0 ≡ get_or l t 0 + bool_byte (eqb x t)
unfolding bumped
bumped_at l x t h = go (eqb x t) refl
  where
    go : (b : Bool) → eqb x t ≡ b → get_or (cond (ltb x (length l)) (set l x (get_or l x 0 + 1)) l) t 0 ≡ get_or l t 0 + bool_byte b
    go true e = let q = eqb-true x t e in rw (q, lt-ltb t (length l) h) (get_or-set_same l t (get_or l t 0 + 1) 0 h)
    go false e = off (ltb x (length l))
      where
        off : (c : Bool) → get_or (cond c (set l x (get_or l x 0 + 1)) l) t 0 ≡ get_or l t 0 + 0
        off true = get_or-set_other l x t (get_or l x 0 + 1) 0 (λ q. eqb-false x t e (sym q)) ∙ omega arith
        off false = omega arith

module _ (f : ℕ → ℕ → Bool) (g : ℕ → ℕ) (l : List ℕ) (m k : ℕ) (c : Counts l m (λ t. g t + many (f t) k)) where
  skipped : ((t : ℕ) → f t k ≡ false) → Counts l m (λ t. g t + many (f t) (k + 1))
  skipped h =
      record {
        long = c.long;
        each = λ t l. omega (arith, c.each t l, many_more (f t) k, ap bool_byte (h t));
      }

  counted : (x : ℕ) → ((t : ℕ) → f t k ≡ eqb x t) → Counts (bumped l x) m (λ t. g t + many (f t) (k + 1))
  counted x h =
      record {
        long = bumped_long l x ∙ c.long;
        each = λ t b. omega (arith, bumped_at l x t (rw c.long b), c.each t b, many_more (f t) k, ap bool_byte (h t));
      }

-- ---- the jumps

pub jumped_none : (w l : List ℕ) → Jumped w l l 0
unfolding many
jumped_none w l = record { counts = record { long = refl; each = λ t h. omega arith } }

module _ (w l₀ l : List ℕ) (k : ℕ) (d : Jumped w l₀ l k) where
  pub jumped_skip : marks_jump w k ≡ false → Jumped w l₀ l (k + 1)
  jumped_skip n = record { counts = skipped (jump_lands w) (λ t. get_or l₀ t 0) l (length l₀) k d.counts (λ t. rw n refl) }

  pub jumped_more : marks_jump w k ≡ true → Jumped w l₀ (bumped l (operand_at w k)) (k + 1)
  jumped_more n =
      record { counts = counted (jump_lands w) (λ t. get_or l₀ t 0) l (length l₀) k d.counts (operand_at w k) (λ t. rw n refl) }

-- a count is small where each part is
counts_low : (l : List ℕ) (m : ℕ) (f : ℕ → ℕ) (b : ℕ) → Counts l m f → ((t : ℕ) → f t ≤ b) → FewAt l b
counts_low l m f b c h = record { each = λ t. go t (ltb t (length l)) refl }
  where
    go : (t : ℕ) (s : Bool) → ltb t (length l) ≡ s → get_or l t 0 ≤ b
    go t true e = omega (arith, c.each t (omega (arith, ltb-true t (length l) e, c.long)), h t)
    go t false e = omega (arith, get_or-eq_default l 0 (ltb-false t (length l) e))

pub jumped_low : (w l₀ l : List ℕ) (k : ℕ) → FewAt l₀ 0 → Jumped w l₀ l k → FewAt l k
jumped_low w l₀ l k z d = counts_low l (length l₀) (λ t. get_or l₀ t 0 + many (jump_lands w t) k) k d.counts
    (λ t. omega (arith, z.each t, many_few (jump_lands w t) k))

pub jump_fits : (w l₀ l : List ℕ) (k x : ℕ) → FewAt l₀ 0 → Jumped w l₀ l k → k < chunk_count w → length w < 2 ^ 64 → get_or l x 0 + 1 < 2 ^ 64
jump_fits w l₀ l k x z d h f = omega (arith, (jumped_low w l₀ l k z d).each x)

-- ---- the handlers

pub handled_none : (tries l : List ℕ) → Handled tries l l 0
unfolding many
handled_none tries l = record { counts = record { long = refl; each = λ t h. omega arith } }

module _ (tries l₀ l : List ℕ) (k : ℕ) (d : Handled tries l₀ l k) where
  pub handled_more : Handled tries l₀ (bumped l (handler_at tries k)) (k + 1)
  handled_more = record { counts = counted (handler_lands tries) (λ t. get_or l₀ t 0) l (length l₀) k d.counts (handler_at tries k) (λ t. refl) }

  pub handled_low : (b : ℕ) → FewAt l₀ b → FewAt l (b + k)
  handled_low b z = counts_low l (length l₀) (λ t. get_or l₀ t 0 + many (handler_lands tries t) k) (b + k) d.counts
      (λ t. omega (arith, z.each t, many_few (handler_lands tries t) k))

  pub handle_fits : (x : ℕ) → FewAt l₀ 65535 → k < length tries / 2 → length tries < 2 ^ 64 → get_or l x 0 + 1 < 2 ^ 64
  handle_fits x z h f = omega (arith, (handled_low 65535 z).each x)

-- ---- the table

module _ (w l₁ l₂ : List ℕ) (z : FewAt l₁ 0) (j : Jumped w l₁ l₂ (chunk_count w)) where
  pub jumps_low : chunk_count w ≤ 65535 → FewAt l₂ 65535
  jumps_low f = let d = jumped_low w l₁ l₂ (chunk_count w) z j in record { each = λ t. omega (arith, d.each t) }

  module _ (tries l₃ : List ℕ) (h : Handled tries l₂ l₃ (length tries / 2)) where
    pub filled : length l₁ ≡ chunk_count w + 1 → l₃ ≡ landings_of w tries
    unfolding landings_of landings_at
    filled e =
        ext_get_or 0 l₃ (each (λ t. landings_at w tries t ∷ []) (chunk_count w + 1)) (h.counts.long ∙ j.counts.long ∙ e ∙ sym (each_word (landings_at w tries) (chunk_count w + 1)))
        (λ t b.
        let s : t < chunk_count w + 1 = omega (arith, h.counts.long, j.counts.long) in
        h.counts.each t (omega (arith, h.counts.long))
        ∙ omega (arith, j.counts.each t (omega (arith, j.counts.long, h.counts.long)), z.each t)
        ∙ sym (each_at (landings_at w tries) (chunk_count w + 1) t s))

-- what the contracts of `landings` need
pub ruleset fills = (jumped_skip, jumped_more, handled_more)
