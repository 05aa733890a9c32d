-- The two loops of `expose`. Assumes nothing.
use mathlib.Core.Path.{◌≡◌, refl, sym, ap, ap₂, ◌∙◌}
use mathlib.Core.Bool.{Bool, true, false, cond, ◌||◌}
use mathlib.Core.List.{List, [], ◌∷◌, ◌++◌, append_assoc}
use Prim.Native.Nat.{ℕ, suc, ◌+◌, ◌≤◌, ◌<◌}
use native.Mathlib.Numerals.{add-one}
use native.Mathlib.Decide.{ℕ_discrete}
use native.Mathlib.Omega.{arith}
use borrow.Author.Tests.{eq-eqb, ne_eqb, lt-ltb, le-ltb}
use lib.Dec.{eqb}
use Rattle.std.specs.List.{list_any}
use lib.ListN.{length, get_or, take, drop, set, length-set, take-append-drop}
use lib.Seq.{drop-cons, drop-length, drop-drop, drop-set-lt, take-suc-set, length-take-le}
use Rattle.laws.specs.Page.{among}
use Rattle.std.specs.declared.result.Result.TheVariants.{Ok, Err}
use Rattle.refusals.specs.declared.Refusal.TheVariants.{Short}
use Rattle.nested.specs.Exposed.{exposed}
use Rattle.exposes.specs.Inner.{Exposes}
use Rattle.exposes.specs.Answers.{ExposedLeft}

past_end : (l : List ℕ) (i : ℕ) → i ≤ length l → length l ≤ i → drop i l ≡ []
past_end l i a b = let e : i ≡ length l = omega arith in ap (λ (x : ℕ). drop x l) e ∙ drop-length l

append_none : (l : List ℕ) → l ++ [] ≡ l
append_none [] = refl
append_none (x ∷ l) = ap (λ (t : List ℕ). x ∷ t) (append_none l)

nothing : (plain : List ℕ) → exposed plain [] ≡ []
unfolding exposed
nothing plain = refl

turned : (a b : ℕ) → eqb a b ≡ eqb b a
turned a b = go (ℕ_discrete a b)
  where
    go : Dec (a ≡ b) → eqb a b ≡ eqb b a
    go (yes e) = eq-eqb a b e ∙ sym (eq-eqb b a (sym e))
    go (no n) = ne_eqb a b n ∙ sym (ne_eqb b a (λ e. n (sym e)))

-- the library asks each register for r, and the law r for each register
pub has_is : (r : ℕ) (l : List ℕ) → list_any (λ y. eqb y r) l ≡ among r l
has_is r [] = refl
has_is r (x ∷ l) = ap₂ ◌||◌ (turned x r) (has_is r l)

-- what is left has r where the whole has
pub record Seeking (l : List ℕ) (r i : ℕ) : Type 0 where
  pub inside : i ≤ length l
  pub same : among r (drop i l) ≡ among r l

module _ (l : List ℕ) (r : ℕ) where
  pub seek_start : Seeking l r 0
  seek_start = record { inside = omega arith; same = refl }

  module _ (i : ℕ) (p : Seeking l r i) where
    seek_next_lem : i < length l → among r (drop i l) ≡ (eqb r (get_or l i 0) || among r (drop (i + 1) l))
    seek_next_lem h = ap (among r) (drop-cons l i 0 h ∙ ap (λ (x : ℕ). get_or l i 0 ∷ drop x l) (sym (add-one i)))

    pub seek_found : i < length l → get_or l i 0 ≡ r → true ≡ among r l
    seek_found h e = sym (sym p.same ∙ seek_next_lem h ∙ ap (λ (t : Bool). t || among r (drop (i + 1) l)) (eq-eqb r (get_or l i 0) (sym e)))

    pub seek_more : i < length l → (get_or l i 0 ≡ r → ⊥) → Seeking l r (i + 1)
    seek_more h n = record {
      inside = omega arith;
      same = sym (seek_next_lem h
          ∙ ap (λ (t : Bool). t || among r (drop (i + 1) l)) (ne_eqb r (get_or l i 0) (λ e. n (sym e)))) ∙ p.same;
    }

    pub seek_end : length l ≤ i → false ≡ among r l
    seek_end h = sym (sym p.same ∙ ap (among r) (past_end l i p.inside h))

-- the first m words are what is exposed of the first i
pub record Exposing (plain list old : List ℕ) (m i : ℕ) (out : List ℕ) : Type 0 where
  pub le : m ≤ i
  pub inside : i ≤ length list
  pub long : length out ≡ length old
  pub whole : exposed plain list ≡ take m out ++ exposed plain (drop i list)
  pub past : drop m out ≡ drop m old

module _ (plain list old : List ℕ) where
  pub expose_start : Exposing plain list old 0 0 old
  expose_start = record { le = omega arith; inside = omega arith; long = refl; whole = refl; past = refl }

  module _ (m i : ℕ) (out : List ℕ) (p : Exposing plain list old m i out) where
    expose_next : (t : Bool) → i < length list → t ≡ among (get_or list i 0) plain
        → exposed plain (drop i list) ≡ cond t (exposed plain (drop (i + 1) list)) (get_or list i 0 ∷ exposed plain (drop (i + 1) list))
    unfolding exposed
    expose_next t h e = ap (exposed plain) (drop-cons list i 0 h ∙ ap (λ (x : ℕ). get_or list i 0 ∷ drop x list) (sym (add-one i)))
        ∙ ap (λ (b : Bool). cond b (exposed plain (drop (i + 1) list)) (get_or list i 0 ∷ exposed plain (drop (i + 1) list))) (sym e)

    pub expose_skip : (t : Bool) → i < length list → t ≡ among (get_or list i 0) plain → t ≡ true → Exposing plain list old m (i + 1) out
    expose_skip t h e q = record {
      le = omega (arith, p.le);
      inside = omega arith;
      long = p.long;
      whole = p.whole ∙ ap (λ (x : List ℕ). take m out ++ x) (expose_next true h (sym q ∙ e));
      past = p.past;
    }

    pub expose_put : (t : Bool) → i < length list → length list ≤ length old → t ≡ among (get_or list i 0) plain → t ≡ false
        → Exposing plain list old (m + 1) (i + 1) (set out m (get_or list i 0))
    expose_put t h fits e q = record {
      le = omega (arith, p.le);
      inside = omega arith;
      long = length-set out m (get_or list i 0) ∙ p.long;
      whole = p.whole ∙ ap (λ (x : List ℕ). take m out ++ x) (expose_next false h (sym q ∙ e))
          ∙ sym (append_assoc (take m out) (get_or list i 0 ∷ []) (exposed plain (drop (i + 1) list)))
          ∙ ap (λ (x : List ℕ). x ++ exposed plain (drop (i + 1) list)) (sym front);
      past = rw (add-one m) (drop-set-lt (suc m) out m (get_or list i 0) (omega arith) ∙ later m out old p.past);
    }
      where
        room : m < length out
        room = omega (arith, p.long, p.le)

        front : take (m + 1) (set out m (get_or list i 0)) ≡ take m out ++ (get_or list i 0 ∷ [])
        front = rw (add-one m) (take-suc-set out m (get_or list i 0) room)

        later : (m : ℕ) (a b : List ℕ) → drop m a ≡ drop m b → drop (suc m) a ≡ drop (suc m) b
        later m a b e' = sym (drop-drop 1 m a ∙ ap (λ (x : ℕ). drop x a) (add-one m)) ∙ ap (drop 1) e'
            ∙ (drop-drop 1 m b ∙ ap (λ (x : ℕ). drop x b) (add-one m))

    pub expose_end : length list ≤ i → length list ≤ length old → Exposes plain list old out m
    expose_end h fits = record {
      many = sym (ap length all ∙ size);
      put = sym (take-append-drop m out)
          ∙ ap₂ ◌++◌ (sym all) (p.past ∙ ap (λ (x : ℕ). drop x old) (sym (ap length all ∙ size)));
    }
      where
        all : exposed plain list ≡ take m out
        all = p.whole ∙ ap (λ (x : List ℕ). take m out ++ x) (ap (exposed plain) (past_end list i p.inside h) ∙ none) ∙ append_none (take m out)
          where
            none : exposed plain [] ≡ []
            none = nothing plain

        size : length (take m out) ≡ m
        size = length-take-le m out (omega (arith, p.long, p.le, p.inside))

-- long enough, or not
module _ (plain list old : List ℕ) where
  pub too_short : length old < length list → ExposedLeft plain list old old (Err (Short 1 (length list)))
  too_short h = let e = lt-ltb (length old) (length list) h in record { answer = rw e; left = rw e }

  pub long_enough : (out : List ℕ) (n : ℕ) → length list ≤ length old → Exposes plain list old out n → ExposedLeft plain list old out (Ok n)
  long_enough out n h x = let e = le-ltb (length old) (length list) h in record { answer = rw e (ap Ok x.many); left = rw e x.put }
