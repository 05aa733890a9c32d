-- Laws of the code that is left, for the loop that moves it down in place. Assumes nothing.
use Prim.Native.Nat.{ℕ, ◌+◌, ◌-◌, ◌*◌, ◌≤◌, ◌<◌}
use native.Mathlib.Omega.{arith}
use mathlib.Core.Path.{◌≡◌, refl, sym, ap, ◌∙◌}
use mathlib.Core.List.{List, [], ◌∷◌, ◌++◌, append-nil, append_assoc}
use lib.ListN.{length, get_or, set, take, replicate}
use borrow.Author.Tests.{eq-eqb, ne_eqb}
use Rattle.laws.specs.All.{many}
use Rattle.laws.specs.Each.{each}
use Rattle.laws.proofs.Many.{many_few}
use Rattle.laws.proofs.Each.{each_more}
use Rattle.laws.proofs.InPlace.{Walked, walk_none, walk_read, walk_pass, walk_put, walk_three, walk_at, walk_as, walk_count}
use Rattle.chunk.specs.Chunk.{stride, op_at, mark_at, operand_at, origin_at}
use Rattle.positions.specs.Remap.{alive, live}
use Rattle.positions.proofs.Moves.{live_on, live_off}
use Rattle.compact.specs.Tables.{moved_operand, words_of, left_at, left, compacted}

-- ---- the code

module _ (dead w : List ℕ) (i : ℕ) where
  left_on : get_or dead i 0 ≡ 0 → each (left_at dead w) (i + 1) ≡ each (left_at dead w) i ++ words_of dead w i
  left_on e = each_more (left_at dead w) i ∙ rw (eq-eqb (get_or dead i 0) 0 e)

  left_off : (get_or dead i 0 ≡ 0 → ⊥) → each (left_at dead w) (i + 1) ≡ each (left_at dead w) i
  left_off h = each_more (left_at dead w) i ∙ rw (ne_eqb (get_or dead i 0) 0 h) (append-nil (each (left_at dead w) i))

operand_same : (dead xs old : List ℕ) (i : ℕ) → mark_at xs i ≡ mark_at old i → operand_at xs i ≡ operand_at old i → moved_operand dead xs i ≡ moved_operand dead old i
unfolding moved_operand
operand_same dead xs old i p q = rw (p, q)

-- four words in place
walk_four : {xs old done : List ℕ} {to p : ℕ} → Walked xs old done to p → (a b d f : ℕ) → p + 3 < length old
    → Walked (set (set (set (set xs to a) (to + 1) b) (to + 2) d) (to + 3) f) old (done ++ (a ∷ b ∷ d ∷ f ∷ [])) (to + 4) (p + 4)
walk_four {xs} {old} {done} {to} {p} w a b d f h =
    let three = walk_three w a b d (omega arith) in
    let four = walk_put three f (omega arith) in
    walk_at (walk_as four (done ++ (a ∷ b ∷ d ∷ f ∷ [])) (append_assoc done (a ∷ b ∷ d ∷ []) (f ∷ []))) (to + 4) (p + 4) (omega arith) (omega arith)

-- where the loop stands at instruction i, with `to` kept
pub record Kept (dead xs old : List ℕ) (to i : ℕ) : Type 0 where
  pub walked : Walked xs old (each (left_at dead old) i) (stride * to) (stride * i)
  pub counts : to ≡ live dead i

pub kept_none : (dead old : List ℕ) → Kept dead old old 0 0
unfolding each many
kept_none dead old = record { walked = walk_none old; counts = refl }

module _ {dead xs old : List ℕ} {to i : ℕ} (k : Kept dead xs old to i) where
  pub kept_skip : (get_or dead i 0 ≡ 0 → ⊥) → Kept dead xs old to (i + 1)
  kept_skip h =
      record {
        walked = walk_at (walk_as (walk_pass k.walked stride) (each (left_at dead old) (i + 1)) (sym (left_off dead old i h))) (stride * to)
            (stride * (i + 1)) refl (omega arith);
        counts = k.counts ∙ sym (live_off dead i h);
      }

  pub kept_move : (ys : List ℕ) → get_or dead i 0 ≡ 0 → i < length dead → length old ≡ stride * length dead
      → ys
      ≡ set (set (set (set xs (stride * to) (op_at xs i)) (stride * to + 1) (mark_at xs i)) (stride * to + 2) (moved_operand dead xs i)) (stride * to + 3)
      (origin_at xs i)
      → Kept dead ys old (to + 1) (i + 1)
  kept_move ys e h l z =
      let w = k.walked in
      let o : op_at xs i ≡ op_at old i = walk_read w (stride * i) (omega arith) in
      let m : mark_at xs i ≡ mark_at old i = walk_read w (stride * i + 1) (omega arith) in
      let v : moved_operand dead xs i ≡ moved_operand dead old i = operand_same dead xs old i m (walk_read w (stride * i + 2) (omega arith)) in
      let u : origin_at xs i ≡ origin_at old i = walk_read w (stride * i + 3) (omega arith) in
      let four = walk_four w (op_at xs i) (mark_at xs i) (moved_operand dead xs i) (origin_at xs i) (omega arith) in
      let done : each (left_at dead old) i ++ (op_at xs i ∷ mark_at xs i ∷ moved_operand dead xs i ∷ origin_at xs i ∷ []) ≡ each (left_at dead old) (i + 1) =
      rw (o, m, v, u) (sym (left_on dead old i e)) in
      rw z
      (record {
        walked = walk_at (walk_as four (each (left_at dead old) (i + 1)) done) (stride * (to + 1)) (stride * (i + 1)) (omega arith) (omega arith);
        counts = ap (λ (x : ℕ). x + 1) k.counts ∙ sym (live_on dead i e);
      })

  pub kept_behind : to ≤ i
  kept_behind = omega (arith, k.counts, many_few (alive dead) i)

  pub kept_count : length dead ≤ i → i ≤ length dead → to ≡ live dead (length dead)
  kept_count h l = let e : i ≡ length dead = omega arith in k.counts ∙ ap (live dead) e

  -- cleared from there on, it is whole
  pub kept_done : (end : List ℕ) → length dead ≤ i → i ≤ length dead → length old ≡ stride * length dead
      → end ≡ take (stride * to) xs ++ replicate (length xs - stride * to) 0 → end ≡ compacted dead old
  unfolding compacted left
  kept_done end g f l h =
      let w = k.walked in
      let e : i ≡ length dead = omega arith in
      let c = walk_count w (omega (arith, w.behind)) in
      h ∙ rw (w.front, w.same, c, e)

pub ruleset keeping = (kept_none, kept_skip, kept_move, kept_behind, kept_count, kept_done)
