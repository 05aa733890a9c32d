-- A loop that goes through a list from the front and writes at or behind where it reads.
-- `Walked xs old done to p`: xs was old; its first `to` words are done, and from p on it is as it was. Assumes nothing.
use Prim.Native.Nat.{ℕ, ◌+◌, ◌-◌, ◌≤◌, ◌<◌, zero-le}
use native.Mathlib.Nat.{le_refl, sub_self}
use native.Mathlib.Numerals.{add-one}
use native.Mathlib.Omega.{arith}
use mathlib.Core.Path.{◌≡◌, refl, sym, ap, ◌∙◌}
use mathlib.Core.List.{List, [], ◌∷◌, ◌++◌, append-nil, append_assoc}
use lib.ListN.{length, get_or, take, drop, set, replicate, length-set, take-append-drop, drop_of_length-le, replicate-append-replicate}
use lib.Seq.{take-suc-set, drop-set-lt, drop-drop, get_or-drop, length-take-le}
use Rattle.laws.specs.Each.{each}
use Rattle.laws.proofs.Each.{each_more}

pub record Walked (xs old done : List ℕ) (to p : ℕ) : Type 0 where
  pub front : take to xs ≡ done
  pub rest : drop p xs ≡ drop p old
  pub same : length xs ≡ length old
  pub behind : to ≤ p

pub walk_none : (old : List ℕ) → Walked old old [] 0 0
walk_none old = record { front = refl; rest = refl; same = refl; behind = zero-le }

later : (xs old : List ℕ) (p k : ℕ) → drop p xs ≡ drop p old → drop (p + k) xs ≡ drop (p + k) old
later xs old p k e = sym (drop-drop k p xs) ∙ ap (drop k) e ∙ drop-drop k p old

module _ {xs old done : List ℕ} {to p : ℕ} (w : Walked xs old done to p) where
  -- what stands at p or past it is what stood there
  pub walk_read : (q : ℕ) → p ≤ q → get_or xs q 0 ≡ get_or old q 0
  walk_read q h =
      let e : q ≡ p + (q - p) = omega arith in
      let r = sym (get_or-drop p xs (q - p) 0) ∙ ap (λ (l : List ℕ). get_or l (q - p) 0) w.rest ∙ get_or-drop p old (q - p) 0 in
      rw (← e) at r

  pub walk_pass : (k : ℕ) → Walked xs old done to (p + k)
  walk_pass k = record { front = w.front; rest = later xs old p k w.rest; same = w.same; behind = omega (arith, w.behind) }

  pub walk_put : (v : ℕ) → p < length old → Walked (set xs to v) old (done ++ (v ∷ [])) (to + 1) (p + 1)
  walk_put v h =
      let in-xs : to < length xs = omega (arith, w.behind, w.same) in
      record {
        front = rw (add-one to, take-suc-set xs to v in-xs) (ap (λ (l : List ℕ). l ++ (v ∷ [])) w.front);
        rest = drop-set-lt (p + 1) xs to v (omega (arith, w.behind)) ∙ later xs old p 1 w.rest;
        same = length-set xs to v ∙ w.same;
        behind = omega (arith, w.behind);
      }

  pub walk_count : to ≤ length old → to ≡ length done
  walk_count h = sym (length-take-le to xs (omega (arith, w.same))) ∙ ap length w.front

  pub walk_at : (to' p' : ℕ) → to ≡ to' → p ≡ p' → Walked xs old done to' p'
  walk_at to' p' e f = rw (← e, ← f) w

  pub walk_as : (done' : List ℕ) → done ≡ done' → Walked xs old done' to p
  walk_as done' e = rw (← e) w

module _ {xs old done : List ℕ} {to p : ℕ} (w : Walked xs old done to p) where
  pub walk_two : (a b : ℕ) → p + 1 < length old → Walked (set (set xs to a) (to + 1) b) old (done ++ (a ∷ b ∷ [])) (to + 2) (p + 2)
  walk_two a b h =
      let one = walk_put w a (omega arith) in
      let two = walk_put one b h in
      walk_at (walk_as two (done ++ (a ∷ b ∷ [])) (append_assoc done (a ∷ []) (b ∷ []))) (to + 2) (p + 2) (omega arith) (omega arith)

  pub walk_three : (a b d : ℕ) → p + 2 < length old
      → Walked (set (set (set xs to a) (to + 1) b) (to + 2) d) old (done ++ (a ∷ b ∷ d ∷ [])) (to + 3) (p + 3)
  walk_three a b d h =
      let two = walk_two a b (omega arith) in
      let three = walk_put two d h in
      walk_at (walk_as three (done ++ (a ∷ b ∷ d ∷ [])) (append_assoc done (a ∷ b ∷ []) (d ∷ []))) (to + 3) (p + 3) (omega arith) (omega arith)

-- in place: done, and then the old rest
pub walk_end : {xs old done : List ℕ} {p : ℕ} → Walked xs old done p p → xs ≡ done ++ drop p old
walk_end {xs} {old} {done} {p} w = sym (take-append-drop p xs) ∙ ap (λ (l : List ℕ). l ++ drop p xs) w.front ∙ ap (λ (l : List ℕ). done ++ l) w.rest

-- and all of it is done
pub walk_whole : {xs old done : List ℕ} {p : ℕ} → Walked xs old done p p → length old ≤ p → xs ≡ done
walk_whole {xs} {old} {done} {p} w h = walk_end w ∙ rw (drop_of_length-le old h) (append-nil done)

-- one word a place
module _ (f : ℕ → ℕ) {xs old : List ℕ} {p : ℕ} (w : Walked xs old (each (λ k. f k ∷ []) p) p p) (h : p < length old) where
  pub word_put : (v : ℕ) → v ≡ f p → Walked (set xs p v) old (each (λ k. f k ∷ []) (p + 1)) (p + 1) (p + 1)
  word_put v e = rw (each_more (λ k. f k ∷ []) p, sym e) (walk_put w v h)

-- ---- what is cleared

-- xs was old, and is 0 from a on as far as i
pub record Cleared (xs old : List ℕ) (a i : ℕ) : Type 0 where
  pub walked : Walked xs old (take a old ++ replicate (i - a) 0) i i
  pub from : a ≤ i

pub cleared_none : (old : List ℕ) (a : ℕ) → Cleared old old a a
cleared_none old a =
    record { walked = rw (sub_self a, append-nil) (record { front = refl; rest = refl; same = refl; behind = le_refl a }); from = le_refl a }

zeros_more : (l : List ℕ) (a i : ℕ) → a ≤ i → (l ++ replicate (i - a) 0) ++ (0 ∷ []) ≡ l ++ replicate (i + 1 - a) 0
zeros_more l a i h =
    let e : i + 1 - a ≡ (i - a) + 1 = omega arith in
    append_assoc l (replicate (i - a) 0) (0 ∷ []) ∙ rw e (ap (λ (t : List ℕ). l ++ t) (replicate-append-replicate (i - a) 1 0))

module _ {xs old : List ℕ} {a i : ℕ} (c : Cleared xs old a i) where
  pub cleared_more : i < length xs → Cleared (set xs i 0) old a (i + 1)
  cleared_more h =
      let w = c.walked in
      record {
        walked = walk_as (walk_put w 0 (omega (arith, w.same))) (take a old ++ replicate (i + 1 - a) 0) (zeros_more (take a old) a i c.from);
        from = omega (arith, c.from);
      }

  pub cleared_same : length xs ≡ length old
  cleared_same = c.walked.same
