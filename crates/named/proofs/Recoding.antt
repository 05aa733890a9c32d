-- Laws of `recoded`, for the loop that writes it in place. Assumes nothing.
use Prim.Native.Nat.{ℕ, ◌+◌, ◌*◌, ◌≤◌, ◌<◌}
use native.Mathlib.Omega.{arith}
use mathlib.Core.Path.{◌≡◌, sym, ap, ◌∙◌}
use mathlib.Core.List.{List, [], ◌∷◌, ◌++◌, append_assoc}
use lib.ListN.{length, get_or, set}
use lib.Seq.{set-get_or}
use Rattle.laws.specs.Each.{each}
use Rattle.laws.proofs.Each.{each_more}
use Rattle.laws.proofs.InPlace.{Walked, walk_none, walk_read, walk_put, walk_at, walk_as, walk_whole}
use Rattle.chunk.specs.Chunk.{stride, chunk_count, op_at, mark_at, operand_at, origin_at}
use Rattle.named.specs.Unused.{renamed_operand, ins_of, recoded}
use Rattle.named.specs.Inner.{LowNumbers}

pub number_low : (m v : ℕ) (s : List ℕ) → LowNumbers m s → v < m → get_or s v 0 < 65536
number_low m v s l h = omega (arith, l.at v h, l.few)

-- where the loop stands at instruction k
pub record Recoding (number : ℕ → ℕ) (m : ℕ) (xs old : List ℕ) (k : ℕ) : Type 0 where
  pub walked : Walked xs old (each (ins_of number m old) k) (stride * k) (stride * k)

pub recoding_none : (number : ℕ → ℕ) (m : ℕ) (old : List ℕ) → Recoding number m old old 0
unfolding each
recoding_none number m old = record { walked = walk_none old }

operand_same : (number : ℕ → ℕ) (m : ℕ) (xs old : List ℕ) (k : ℕ) → mark_at xs k ≡ mark_at old k → operand_at xs k ≡ operand_at old k
    → renamed_operand number m xs k ≡ renamed_operand number m old k
unfolding renamed_operand
operand_same number m xs old k p q = rw (p, q)

append_four : (l : List ℕ) (a b d f : ℕ) → (((l ++ (a ∷ [])) ++ (b ∷ [])) ++ (d ∷ [])) ++ (f ∷ []) ≡ l ++ (a ∷ b ∷ d ∷ f ∷ [])
append_four l a b d f = simp append_assoc

module _ {number : ℕ → ℕ} {m : ℕ} {xs old : List ℕ} {k : ℕ} (r : Recoding number m xs old k) where
  pub recoding_more : (v : ℕ) → v ≡ renamed_operand number m xs k → k < chunk_count old → length old ≡ stride * chunk_count old
      → Recoding number m (set xs (stride * k + 2) v) old (k + 1)
  recoding_more v e h l =
      let w = r.walked in
      let o : op_at xs k ≡ op_at old k = walk_read w (stride * k) (omega arith) in
      let n : mark_at xs k ≡ mark_at old k = walk_read w (stride * k + 1) (omega arith) in
      let x : v ≡ renamed_operand number m old k = e ∙ operand_same number m xs old k n (walk_read w (stride * k + 2) (omega arith)) in
      let one = rw (set-get_or xs (stride * k) 0) at (walk_put w (op_at xs k) (omega arith)) in
      let two = rw (set-get_or xs (stride * k + 1) 0) at (walk_put one (mark_at xs k) (omega arith)) in
      let three = walk_put (walk_at two (stride * k + 2) (stride * k + 2) (omega arith) (omega arith)) v (omega arith) in
      let ys = set xs (stride * k + 2) v in
      let u : origin_at ys k ≡ origin_at old k = walk_read three (stride * k + 3) (omega arith) in
      let four = rw (set-get_or ys (stride * k + 3) 0) at (walk_put (walk_at three (stride * k + 3) (stride * k + 3) (omega arith) (omega arith)) (origin_at ys k)
      (omega arith)) in
      let j = each (ins_of number m old) k in
      let done : (((j ++ (op_at xs k ∷ [])) ++ (mark_at xs k ∷ [])) ++ (v ∷ [])) ++ (origin_at ys k ∷ []) ≡ each (ins_of number m old) (k + 1) =
      append_four j (op_at xs k) (mark_at xs k) v (origin_at ys k) ∙ rw (u, o, n, x) (sym (each_more (ins_of number m old) k)) in
      record { walked = walk_at (walk_as four (each (ins_of number m old) (k + 1)) done) (stride * (k + 1)) (stride * (k + 1)) (omega arith) (omega arith) }

  pub recoding_done : chunk_count old ≤ k → k ≤ chunk_count old → length old ≡ stride * chunk_count old → xs ≡ recoded number m old
  unfolding recoded
  recoding_done h l z = let e : k ≡ chunk_count old = omega arith in walk_whole r.walked (omega arith) ∙ ap (each (ins_of number m old)) e
