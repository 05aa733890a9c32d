-- Laws of the clearing call, from what its passes leave. Assumes nothing.
use Prim.Native.Nat.{ℕ, ◌≤◌, ◌<◌}
use native.Mathlib.Omega.{arith}
use mathlib.Core.Path.{◌≡◌, refl, ap, ◌∙◌}
use mathlib.Core.Bool.{Bool, true, false, not}
use mathlib.Core.List.{List, [], ◌∷◌, ◌++◌}
use lib.Dec.{eqb, ltb}
use lib.ListN.{length, get_or, drop, length-append, get_or-append}
use borrow.Author.Tests.{ltb-true}
use mir.Val.{bool_byte}
use Rattle.laws.specs.All.{many}
use Rattle.laws.specs.Each.{each}
use Rattle.laws.proofs.Many.{many_few}
use Rattle.laws.proofs.Each.{each_ext, each_word, each_at}
use Rattle.refusals.specs.Stages.{room_of}
use Rattle.refusals.specs.Stages.{Checked}
use Rattle.chunk.specs.Chunk.{chunk_count, operand_at, mark_at, op_at, origin_at, names}
use Rattle.chunk.specs.Tables.{constants_kept, table_of}
use Rattle.chunk.specs.Check.{chunk_check_of}
use Rattle.laws.proofs.Counting.{many_ext}
use Rattle.named.specs.Unused.{constant_named, before, packed_at, packed_list, pooled, renumbered, renamed_operand, ins_of, recoded, numbered}
use Rattle.named.specs.Inner.{NamedMarks, marked_in, LowNumbers, number_in}
use Rattle.clear.specs.Inner.{Moved, Down, freed}
use Rattle.clear.specs.Clear.{Is, pool_buffers, clear_outcome, cleared, clear_ready_of}

-- ---- two tests, or two numberings, that agree below m

module _ (f g : ℕ → Bool) (m : ℕ) (h : (i : ℕ) → i < m → f i ≡ g i) where
  kept_ext : (l : List ℕ) → packed_list f m l ≡ packed_list g m l
  unfolding packed_list
  kept_ext l = each_ext (packed_at f l) (packed_at g l) m (λ i q. rw (h i q))

  pub pooled_ext : (l : List ℕ) → pooled f m l ≡ pooled g m l
  unfolding pooled
  pooled_ext l = rw (kept_ext l, many_ext f g m h)

module _ (a b : ℕ → ℕ) (m : ℕ) (h : (i : ℕ) → i < m → a i ≡ b i) where
  pub numbered_ext : (l : List ℕ) → numbered a m l ≡ numbered b m l
  unfolding numbered
  numbered_ext l = ap (λ (t : List ℕ). t ++ drop m l) (each_ext (λ i. a i ∷ []) (λ i. b i ∷ []) m (λ i q. rw (h i q)))

  operand_ext : (w : List ℕ) (k : ℕ) → renamed_operand a m w k ≡ renamed_operand b m w k
  unfolding renamed_operand renumbered
  operand_ext w k = go (names w k) refl (ltb (operand_at w k) m) refl
    where
      go : (n : Bool) → names w k ≡ n → (t : Bool) → ltb (operand_at w k) m ≡ t → renamed_operand a m w k ≡ renamed_operand b m w k
      go false e t q = rw e
      go true e false q = rw (e, q)
      go true e true q = rw (e, q) (h (operand_at w k) (ltb-true (operand_at w k) m q))

  pub recoded_ext : (w : List ℕ) → recoded a m w ≡ recoded b m w
  unfolding recoded
  recoded_ext w = each_ext (ins_of a m w) (ins_of b m w) (chunk_count w) (λ k q. ap (λ (x : ℕ). op_at w k ∷ mark_at w k ∷ x ∷ origin_at w k ∷ []) (operand_ext w k))

-- ---- what the passes leave

byte_told : (b : Bool) → not (eqb (bool_byte b) 0) ≡ b
byte_told true = refl
byte_told false = refl

marked_named : {w : List ℕ} {m : ℕ} {old s : List ℕ} → NamedMarks w m old s → (i : ℕ) → i < m → marked_in s i ≡ constant_named w i
marked_named {w} x i h = rw (x.at i h) (byte_told (constant_named w i))

module _ (number : ℕ → ℕ) (m : ℕ) (l : List ℕ) where
  pub number_at : (i : ℕ) → i < m → get_or (numbered number m l) i 0 ≡ number i
  unfolding numbered
  number_at i h =
      let n : i < length (each (λ k. number k ∷ []) m) = rw (each_word number m) h in
      get_or-append (each (λ k. number k ∷ []) m) (drop m l) 0 i n ∙ each_at number m i h

  number_there : m ≤ length (numbered number m l)
  unfolding numbered
  number_there = rw (length-append (each (λ k. number k ∷ []) m) (drop m l), each_word number m) (omega arith)

-- the numbers that `keep` leaves
pub low_of : (f : ℕ → Bool) (m r : ℕ) (kinds kinds' words words' s s' : List ℕ) → m ≤ 65536 → Down f m r kinds kinds' words words' s s' → LowNumbers m s'
low_of f m r kinds kinds' words words' s s' h d =
    rw d.numbers (record { there = number_there (many f) m s; few = h; at = λ i q. rw (number_at (many f) m s i q) (many_few f i) })

moved_pool : (f : ℕ → Bool) (m r : ℕ) (old l end : List ℕ) → r ≡ many f m → Moved f m r old l → end ≡ freed r m l → end ≡ pooled f m old
unfolding pooled
moved_pool f m r old l end c x e = e ∙ rw (x.front, x.rest, c)

numbered_rest : (number : ℕ → ℕ) (m : ℕ) (a b : List ℕ) → drop m a ≡ drop m b → numbered number m a ≡ numbered number m b
unfolding numbered
numbered_rest number m a b e = ap (λ (l : List ℕ). each (λ i. number i ∷ []) m ++ l) e

pub all_of_it : (code kinds words scratch : List ℕ) (m r : ℕ) (code' kinds' words' scratch' kinds'' words'' marks : List ℕ)
    → NamedMarks code m scratch marks
    → Down (marked_in marks) m r kinds kinds' words words' marks scratch'
    → kinds'' ≡ freed r m kinds'
    → words'' ≡ freed r m words'
    → code' ≡ recoded (number_in scratch') m code
    → clear_outcome (Is r) (pool_buffers code' kinds'' words'' scratch') ≡ cleared (pool_buffers code kinds words scratch) m
unfolding cleared
all_of_it code kinds words scratch m r code' kinds' words' scratch' kinds'' words'' marks x d e f g =
    let t = marked_named x in
    let below : (i : ℕ) → i < m → many (marked_in marks) i ≡ before code i = λ i h. many_ext (marked_in marks) (constant_named code) i (λ j q. t j (omega arith))
    in
    let a : r ≡ before code m = d.count ∙ many_ext (marked_in marks) (constant_named code) m t in
    let k : kinds'' ≡ pooled (constant_named code) m kinds = moved_pool (marked_in marks) m r kinds kinds' kinds'' d.count d.kinds_moved e
    ∙ pooled_ext (marked_in marks) (constant_named code) m t kinds in
    let v : words'' ≡ pooled (constant_named code) m words = moved_pool (marked_in marks) m r words words' words'' d.count d.words_moved f
    ∙ pooled_ext (marked_in marks) (constant_named code) m t words in
    let n : (i : ℕ) → i < m → number_in scratch' i ≡ before code i = λ i h. ap (λ (l : List ℕ). get_or l i 0) d.numbers
    ∙ number_at (many (marked_in marks)) m marks i h ∙ below i h in
    let c : code' ≡ recoded (before code) m code = g ∙ recoded_ext (number_in scratch') (before code) m n code in
    let s : scratch' ≡ numbered (before code) m scratch = d.numbers ∙ numbered_ext (many (marked_in marks)) (before code) m below marks
    ∙ numbered_rest (before code) m marks scratch x.held.tail in
    rw (a, k, v, c, s)

-- ---- the tests

pub ready_of : (code kinds words scratch : List ℕ) (m : ℕ) (v v' r : Checked) (t : Bool) → v ≡ chunk_check_of code → t ≡ constants_kept kinds words m → v'
    ≡ table_of v 1 t
    → r ≡ room_of v' 1 (length scratch) m → r ≡ clear_ready_of (pool_buffers code kinds words scratch) m
unfolding clear_ready_of
ready_of code kinds words scratch m v v' r t a b d e = rw (e, d, b, a)
