-- What an instruction with the mark loads is the same before and after; every other word of the code stays. Assumes nothing.
use Prim.Native.Nat.{ℕ, zero, suc, ◌+◌, ◌*◌, ◌/◌, ◌%◌, ◌≤◌, ◌<◌}
use native.Mathlib.Nat.{eq-or-lt_of_le}
use native.Mathlib.Omega.{arith}
use mathlib.Core.Path.{◌≡◌, refl, sym, ap, ◌∙◌}
use mathlib.Core.Logic.{⊎_elim}
use mathlib.Core.Bool.{Bool, true, false}
use mathlib.Core.List.{List, [], ◌∷◌, ◌++◌}
use lib.Dec.{eqb, ltb}
use lib.ListN.{length, get_or, get_or-append}
use lib.Seq.{get_or-append-add}
use borrow.Author.Tests.{lt-ltb, le-ltb, ltb-true, ltb-false}
use Rattle.laws.specs.Each.{each}
use Rattle.laws.proofs.Many.{many_few}
use Rattle.laws.proofs.Each.{each_length}
use Rattle.chunk.specs.Chunk.{stride, chunk_count, op_at, mark_at, operand_at, origin_at, names}
use Rattle.named.specs.Unused.{constant_named, before, pooled, renumbered, renamed_operand, ins_of, recoded, loaded}
use Rattle.clear.proofs.Kept.{named_by, in_order, pooled_kept}

-- word j of place k
word_at : (g : ℕ → List ℕ) → ((k : ℕ) → length (g k) ≡ stride) → (n k j : ℕ) → k < n → j < stride → get_or (each g n) (stride * k + j) 0 ≡ get_or (g k) j 0
unfolding each
word_at g t zero k j h l = absurd (omega arith)
word_at g t (suc n) k j h l =
    ⊎_elim
    (λ q.
    let e : stride * k + j ≡ length (each g n) + j = omega (arith, each_length g stride t n) in
    ap (λ (x : ℕ). get_or (each g n ++ g n) x 0) e ∙ get_or-append-add (each g n) (g n) j 0 ∙ ap (λ (x : ℕ). get_or (g x) j 0) (sym q))
    (λ q. get_or-append (each g n) (g n) 0 (stride * k + j) (omega (arith, each_length g stride t n)) ∙ word_at g t n k j q l)
    (eq-or-lt_of_le (below k n h))
  where
    below : (k n : ℕ) → k < suc n → k ≤ n
    below k n h = omega arith

module _ (number : ℕ → ℕ) (m : ℕ) (w : List ℕ) where
  pub recoded_length : length (recoded number m w) ≡ stride * chunk_count w
  unfolding recoded
  recoded_length = each_length (ins_of number m w) stride (λ k. refl) (chunk_count w)

  pub recoded_count : chunk_count (recoded number m w) ≡ chunk_count w
  recoded_count = omega (arith, recoded_length)

  module _ (k : ℕ) (h : k < chunk_count w) where
    pub recoded_op : op_at (recoded number m w) k ≡ op_at w k
    unfolding recoded
    recoded_op = let e : stride * k ≡ stride * k + 0 = omega arith in ap (λ (x : ℕ). get_or (each (ins_of number m w) (chunk_count w)) x 0) e
        ∙ word_at (ins_of number m w) (λ i. refl) (chunk_count w) k 0 h (omega arith)

    pub recoded_mark : mark_at (recoded number m w) k ≡ mark_at w k
    unfolding recoded
    recoded_mark = word_at (ins_of number m w) (λ i. refl) (chunk_count w) k 1 h (omega arith)

    pub recoded_operand : operand_at (recoded number m w) k ≡ renamed_operand number m w k
    unfolding recoded
    recoded_operand = word_at (ins_of number m w) (λ i. refl) (chunk_count w) k 2 h (omega arith)

    pub recoded_origin : origin_at (recoded number m w) k ≡ origin_at w k
    unfolding recoded
    recoded_origin = word_at (ins_of number m w) (λ i. refl) (chunk_count w) k 3 h (omega arith)

    pub recoded_names : names (recoded number m w) k ≡ names w k
    recoded_names = ap (λ (x : ℕ). eqb (x / 2 % 2) 1) recoded_mark

-- ---- operands

module _ (number : ℕ → ℕ) (m : ℕ) (w : List ℕ) (k : ℕ) where
  pub operand_unmarked : names w k ≡ false → renamed_operand number m w k ≡ operand_at w k
  unfolding renamed_operand
  operand_unmarked n = rw n

  pub operand_far : m ≤ operand_at w k → renamed_operand number m w k ≡ operand_at w k
  unfolding renamed_operand renumbered
  operand_far h = go (names w k) refl
    where
      go : (b : Bool) → names w k ≡ b → renamed_operand number m w k ≡ operand_at w k
      go true n = rw (n, le-ltb (operand_at w k) m h)
      go false n = rw n

  pub operand_near : names w k ≡ true → operand_at w k < m → renamed_operand number m w k ≡ number (operand_at w k)
  unfolding renamed_operand renumbered
  operand_near n h = rw (n, lt-ltb (operand_at w k) m h)

  module _ (h : k < chunk_count w) where
    -- an instruction without the mark keeps its operand
    pub unmarked_stays : names w k ≡ false → operand_at (recoded number m w) k ≡ operand_at w k
    unmarked_stays n = recoded_operand number m w k h ∙ operand_unmarked n

    -- and one whose operand is at or past the old count
    pub far_stays : m ≤ operand_at w k → operand_at (recoded number m w) k ≡ operand_at w k
    far_stays l = recoded_operand number m w k h ∙ operand_far l

    pub near_moves : names w k ≡ true → operand_at w k < m → operand_at (recoded number m w) k ≡ number (operand_at w k)
    near_moves n l = recoded_operand number m w k h ∙ operand_near n l

-- ---- what is loaded

loaded_in : (l : List ℕ) (m v : ℕ) → v < m → loaded l m v ≡ get_or l v 0 ∷ []
unfolding loaded
loaded_in l m v h = rw (lt-ltb v m h)

loaded_out : (l : List ℕ) (m v : ℕ) → m ≤ v → loaded l m v ≡ []
unfolding loaded
loaded_out l m v h = rw (le-ltb v m h)

-- an instruction with the mark loads the same entry of kinds, and of words, or still none
pub loads_same : (w l : List ℕ) (m k : ℕ) → k < chunk_count w → names w k ≡ true
    → loaded (pooled (constant_named w) m l) (before w m) (operand_at (recoded (before w) m w) k) ≡ loaded l m (operand_at w k)
loads_same w l m k h n = go (ltb (operand_at w k) m) refl
  where
    near : operand_at w k < m → loaded (pooled (constant_named w) m l) (before w m) (before w (operand_at w k)) ≡ loaded l m (operand_at w k)
    near q =
        let v = operand_at w k in
        let y : constant_named w v ≡ true = named_by w v k h n refl in
        loaded_in (pooled (constant_named w) m l) (before w m) (before w v) (in_order (constant_named w) v m q y)
        ∙ ap (λ (x : ℕ). x ∷ []) (pooled_kept (constant_named w) m l v q y)
        ∙ sym (loaded_in l m v q)

    go : (b : Bool) → ltb (operand_at w k) m ≡ b → loaded (pooled (constant_named w) m l) (before w m) (operand_at (recoded (before w) m w) k) ≡ loaded l m
        (operand_at w k)
    go true e =
        let q = ltb-true (operand_at w k) m e in
        ap (loaded (pooled (constant_named w) m l) (before w m)) (near_moves (before w) m w k h n q) ∙ near q
    go false e =
        let q = ltb-false (operand_at w k) m e in
        ap (loaded (pooled (constant_named w) m l) (before w m)) (far_stays (before w) m w k h q)
        ∙ loaded_out (pooled (constant_named w) m l) (before w m) (operand_at w k) (omega (arith, many_few (constant_named w) m))
        ∙ sym (loaded_out l m (operand_at w k) q)
