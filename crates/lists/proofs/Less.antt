-- Sets in words of any width: a row less a set. Assumes nothing.
use mathlib.Core.Path.{◌≡◌, sym, ap, ap₂, ◌∙◌, subst}
use mathlib.Core.List.{List}
use Prim.Native.Nat.{ℕ, ◌+◌, ◌*◌, ◌≤◌, ◌<◌, zero-le}
use native.Mathlib.Nat.{mul-le-mul}
use native.Mathlib.Decide.{dec_lt}
use native.Mathlib.Omega.{arith}
use borrow.Author.Rules.{Fits-under}
use mir.Syntax.{w64}
use mir.Val.{Fits}
use lib.ListN.{length, get_or, take, drop, set, replicate, length-set, length-replicate}
use Rattle.flow.specs.Set.{minus}
use Rattle.flow.specs.Words.{value, Small}
use Rattle.flow.specs.Inner.{Holds}
use Rattle.flow.proofs.Bits.{bit_ext, bit_zero, minus_bit}
use Rattle.flow.proofs.Rows.{zeros_at}
use Rattle.flow.proofs.Words.{holds_minus}
use Rattle.flow.proofs.Buffer.{window_in, window_past, small_window}
use Rattle.sets.proofs.Words.{held}
use Rattle.flow.proofs.Fill.{Front, front_in, front_past, front_none, front_more}

-- where a row begins fits a word
pub scaled : (t words : ℕ) → t ≤ 65536 → words ≤ 1024 → Fits w64 (t * words)
scaled t words a b = Fits-under w64 (t * words) 67108865 (omega (arith, mul-le-mul a b)) tt

-- ---- a row less a set, word by word

pub record Lessing (hand : ℕ) (rows less : List ℕ) (at words j : ℕ) (out : List ℕ) : Type 0 where
  pub le : j ≤ words
  pub long : length out ≡ hand
  pub front : Front (λ i. minus (get_or rows (at + i) 0) (get_or less i 0)) (λ i. 0) j out

none_less : (x : ℕ) → minus 0 x ≡ 0
none_less x = bit_ext (minus 0 x) 0 (λ r. omega (arith, minus_bit 0 x r, bit_zero r))

module _ (rows less : List ℕ) (at words : ℕ) where
  abbrev A : ℕ → ℕ
  A i = minus (get_or rows (at + i) 0) (get_or less i 0)

  abbrev B : ℕ → ℕ
  B i = 0

  pub lessing_start : (hand : ℕ) (out : List ℕ) → out ≡ replicate hand 0 → Lessing hand rows less at words 0 out
  lessing_start hand out e = record {
    le = zero-le;
    long = ap length e ∙ length-replicate {A = ℕ} hand 0;
    front = front_none A B out (λ i. ap (λ (l : List ℕ). get_or l i 0) e ∙ zeros_at hand i);
  }

  pub lessing_more : (hand j : ℕ) (out new : List ℕ) (v x a : ℕ) → Lessing hand rows less at words j out → j < words → words ≤ hand → v ≡ minus x a
      → x ≡ get_or rows (at + j) 0 → a ≡ get_or less j 0 → new ≡ set out j v → Lessing hand rows less at words (j + 1) new
  lessing_more hand j out new v x a p l f e ex ea en = subst (λ (y : List ℕ). Lessing hand rows less at words (j + 1) y) (sym en) (record {
    le = omega arith;
    long = length-set out j v ∙ p.long;
    front = front_more A B j v out p.front (omega (arith, p.long)) (e ∙ ap₂ minus ex ea);
  })

  module _ (bits hand j : ℕ) (out : List ℕ) (p : Lessing hand rows less at words j out) (sl : Small bits less) (sr : Small bits rows) where
    pub lessing_done : 0 < bits → words ≤ j → Holds bits out (minus (value bits (take words (drop at rows))) (value bits less))
    lessing_done wide l = holds_minus bits wide (take words (drop at rows)) less out (value bits (take words (drop at rows))) (value bits less)
        (held bits (take words (drop at rows)) (small_window bits words at rows sr)) (held bits less sl) (λ i. go i (dec_lt i words))
      where
        whole : j ≤ words → j ≡ words
        whole h = omega arith

        all : Front A B words out
        all = subst (λ (x : ℕ). Front A B x out) (whole p.le) p.front

        go : (i : ℕ) → Dec (i < words) → get_or out i 0 ≡ minus (get_or (take words (drop at rows)) i 0) (get_or less i 0)
        go i (yes h) = all i ∙ front_in A B i words h ∙ rw (window_in words at rows i h)
        go i (no n) =
            let h : words ≤ i = omega arith in
            all i ∙ front_past A B i words h ∙ rw (window_past words at rows i h, none_less)

pub ruleset lessings = (lessing_start, lessing_more, lessing_done)
