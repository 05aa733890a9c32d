-- Two pools, of which the smaller has no value that the larger lacks: a result is found or pushed in both, and loads the same. Assumes nothing.
use Prim.Native.Nat.{ℕ, zero, suc, ◌+◌, ◌≤◌, ◌<◌}
use native.Mathlib.Nat.{eq-or-lt_of_le}
use native.Mathlib.Omega.{arith}
use mathlib.Core.Path.{◌≡◌, refl, sym, ap, ◌∙◌}
use mathlib.Core.Logic.{◌⊎◌, inl, inr, ⊎_elim}
use mathlib.Core.Bool.{Bool, true, false, ◌||◌, true≢false}
use mathlib.Core.List.{List}
use lib.Dec.{eqb, ltb}
use lib.ListN.{length, get_or, set}
use lib.Seq.{get_or-set_same, get_or-set_other}
use borrow.Author.Tests.{eqb-true, eqb-false, eq-eqb, ne_eqb, ltb-true, ltb-false}
use Rattle.laws.specs.All.{many}
use Rattle.laws.specs.Walk.{first}
use Rattle.laws.proofs.Branch.{and-true}
use Rattle.laws.proofs.Many.{many_few, many_more}
use Rattle.laws.proofs.Walk.{none_passed, first_passes}
use Rattle.pool.specs.Pool.{equals, position, stored, find_or_push}
use Rattle.pool.proofs.Store.{found, pushed}
use Rattle.laws.proofs.Counting.{many_ext}
use Rattle.std.specs.declared.option.Option.TheVariants.{Some}

pub cases : {X : Type 0} (a b : ℕ) → (a ≡ b → X) → ((a ≡ b → ⊥) → X) → X
cases {X} a b y n = go (eqb a b) refl
  where
    go : (t : Bool) → eqb a b ≡ t → X
    go true e = y (eqb-true a b e)
    go false e = n (eqb-false a b e)

-- ---- one pool

-- of n constants one has kind k and word w
pub record Has (kinds words : List ℕ) (n k w : ℕ) : Type 0 where
  pub at : ℕ
  pub inside : at < n
  pub kind : get_or kinds at 0 ≡ k
  pub word : get_or words at 0 ≡ w

-- entries below the count stay
pub record Grew (kinds words : List ℕ) (n : ℕ) (kinds' words' : List ℕ) (n' : ℕ) : Type 0 where
  pub more : n ≤ n'
  pub kind : (v : ℕ) → v < n → get_or kinds' v 0 ≡ get_or kinds v 0
  pub word : (v : ℕ) → v < n → get_or words' v 0 ≡ get_or words v 0

pub grew_none : (kinds words : List ℕ) (n : ℕ) → Grew kinds words n kinds words n
grew_none kinds words n = record { more = omega arith; kind = λ v h. refl; word = λ v h. refl }

grew_push : (kinds words : List ℕ) (n k w : ℕ) → Grew kinds words n (set kinds n k) (set words n w) (n + 1)
grew_push kinds words n k w =
    record {
      more = omega arith;
      kind = λ v h. get_or-set_other kinds n v k 0 (λ e. omega arith);
      word = λ v h. get_or-set_other words n v w 0 (λ e. omega arith);
    }

has_grew : {kinds words : List ℕ} {n : ℕ} {kinds' words' : List ℕ} {n' k w k' w' : ℕ} → Grew kinds words n kinds' words' n' → k ≡ k' → w ≡ w'
    → Has kinds words n k w → Has kinds' words' n' k' w'
has_grew g e f h =
    record {
      at = h.at;
      inside = omega (arith, h.inside, g.more);
      kind = g.kind h.at h.inside ∙ h.kind ∙ e;
      word = g.word h.at h.inside ∙ h.word ∙ f;
    }

module _ (kinds words : List ℕ) (n k w : ℕ) where
  found_is : position kinds words n k w < n → (get_or kinds (position kinds words n k w) 0 ≡ k) × (get_or words (position kinds words n k w) 0 ≡ w)
  found_is h =
      let i = position kinds words n k w in
      let e : equals kinds words k w i ≡ true = first_passes (equals kinds words k w) n 0 (omega arith) in
      let p = and-true (eqb (get_or kinds i 0) k) (eqb (get_or words i 0) w) e in
      (eqb-true (get_or kinds i 0) k p.0, eqb-true (get_or words i 0) w p.1)

  none_has : n ≤ position kinds words n k w → Has kinds words n k w → ⊥
  none_has h x =
      let g : 0 + n ≤ first (equals kinds words k w) 0 n = omega arith in
      let e : equals kinds words k w x.at ≡ false = none_passed (equals kinds words k w) x.at n 0 g (omega arith) (omega (arith, x.inside)) in
      let y : equals kinds words k w x.at ≡ true = rw (eq-eqb (get_or kinds x.at 0) k x.kind, eq-eqb (get_or words x.at 0) w x.word) in
      true≢false (sym y ∙ e)

-- ---- two pools

-- each of the m constants is among the n, and m of the n, those used, are among the m
pub record Pools (ks ws : List ℕ) (n : ℕ) (kt wt : List ℕ) (m : ℕ) : Type 0 where
  pub used : ℕ → Bool
  pub count : m ≡ many used n
  pub forth : (i : ℕ) → i < n → used i ≡ true → Has kt wt m (get_or ks i 0) (get_or ws i 0)
  pub back : (j : ℕ) → j < m → Has ks ws n (get_or kt j 0) (get_or wt j 0)

abbrev with_it : (ℕ → Bool) → ℕ → ℕ → Bool
with_it f i x = eqb x i || f x

with_other : (f : ℕ → Bool) (i x : ℕ) → (x ≡ i → ⊥) → with_it f i x ≡ f x
with_other f i x n = rw (ne_eqb x i n)

below_suc : (i n : ℕ) → i < suc n → i ≤ n
below_suc i n h = omega arith

-- one more is used
many_with : (f : ℕ → Bool) (i n : ℕ) → i < n → f i ≡ false → many (with_it f i) n ≡ many f n + 1
unfolding many
many_with f i zero h e = absurd (omega arith)
many_with f i (suc n) h e =
    ⊎_elim
    (λ q.
    let x : f n ≡ false = rw q at e in
    rw (many_ext (with_it f i) f n (λ j l. with_other f i j (λ z. absurd (omega arith))), eq-eqb n i (sym q), x) (omega arith))
    (λ q. rw (many_with f i n q e, with_other f i n (λ z. absurd (omega arith))) (omega arith))
    (eq-or-lt_of_le (below_suc i n h))

many_new : (f : ℕ → Bool) (n : ℕ) → many (with_it f n) (n + 1) ≡ many f n + 1
many_new f n =
    many_more (with_it f n) n
    ∙ rw (eq-eqb n n refl, many_ext (with_it f n) f n (λ j l. with_other f n j (λ z. absurd (omega arith))))

module _ {ks ws : List ℕ} {n : ℕ} {kt wt : List ℕ} {m : ℕ} (x : Pools ks ws n kt wt m) where
  pub fewer : m ≤ n
  fewer = omega (arith, x.count, many_few x.used n)

  -- a value at i of the n, and new among the m
  pools_more : (ks' ws' : List ℕ) (n' : ℕ) (kt' wt' : List ℕ) (i k w : ℕ) → Grew ks ws n ks' ws' n' → Grew kt wt m kt' wt' (m + 1) → i < n'
      → ((j : ℕ) → j < n' → (j < n) ⊎ (j ≡ i)) → m + 1 ≡ many (with_it x.used i) n' → get_or ks' i 0 ≡ k → get_or ws' i 0 ≡ w → get_or kt' m 0 ≡ k
      → get_or wt' m 0 ≡ w
      → Pools ks' ws' n' kt' wt' (m + 1)
  pools_more ks' ws' n' kt' wt' i k w gs gt h new c a b d e =
      record {
        used = with_it x.used i;
        count = c;
        forth = λ j l u.
            cases j i
            (λ q. record {
              at = m;
              inside = omega arith;
              kind = d ∙ sym a ∙ ap (λ (z : ℕ). get_or ks' z 0) (sym q);
              word = e ∙ sym b ∙ ap (λ (z : ℕ). get_or ws' z 0) (sym q);
            })
            (λ q.
            let v : j < n = ⊎_elim (λ z. z) (λ z. absurd (q z)) (new j l) in
            has_grew gt (sym (gs.kind j v)) (sym (gs.word j v)) (x.forth j v (sym (with_other x.used i j q) ∙ u)));
        back = λ j l.
            cases j m
            (λ q. record {
              at = i;
              inside = h;
              kind = a ∙ sym d ∙ ap (λ (z : ℕ). get_or kt' z 0) (sym q);
              word = b ∙ sym e ∙ ap (λ (z : ℕ). get_or wt' z 0) (sym q);
            })
            (λ q.
            let v : j < m = omega arith in
            has_grew gs (sym (gt.kind j v)) (sym (gt.word j v)) (x.back j v));
      }

-- where a result of kind k and word w is kept in both, and that it loads the same
pub record Stepped (ks ws : List ℕ) (n : ℕ) (kt wt : List ℕ) (m k w : ℕ) : Type 0 where
  pub x : ℕ
  pub y : ℕ
  pub ks' : List ℕ
  pub ws' : List ℕ
  pub n' : ℕ
  pub kt' : List ℕ
  pub wt' : List ℕ
  pub m' : ℕ
  pub in_s : stored (Some (x, n')) ks' ws' ≡ find_or_push ks ws n k w
  pub in_t : stored (Some (y, m')) kt' wt' ≡ find_or_push kt wt m k w
  pub grew_s : Grew ks ws n ks' ws' n'
  pub grew_t : Grew kt wt m kt' wt' m'
  pub there : x < n'
  pub here : y < m'
  pub kind : get_or ks' x 0 ≡ get_or kt' y 0
  pub word : get_or ws' x 0 ≡ get_or wt' y 0
  pub pools : Pools ks' ws' n' kt' wt' m'

module _ (ks ws : List ℕ) (n : ℕ) (kt wt : List ℕ) (m k w : ℕ) (pools : Pools ks ws n kt wt m) (few : n < 65535)
    (rk : n < length ks) (rw' : n < length ws) (rk' : m < length kt) (rw'' : m < length wt) where
  few_t : m < 65535
  few_t = omega (arith, fewer pools)

  both_found : position ks ws n k w < n → position kt wt m k w < m → Stepped ks ws n kt wt m k w
  both_found h l =
      let a = found_is ks ws n k w h in
      let b = found_is kt wt m k w l in
      record {
        x = position ks ws n k w;
        y = position kt wt m k w;
        ks' = ks;
        ws' = ws;
        n' = n;
        kt' = kt;
        wt' = wt;
        m' = m;
        in_s = found ks ws n k w (position ks ws n k w) refl h;
        in_t = found kt wt m k w (position kt wt m k w) refl l;
        grew_s = grew_none ks ws n;
        grew_t = grew_none kt wt m;
        there = h;
        here = l;
        kind = a.0 ∙ sym b.0;
        word = a.1 ∙ sym b.1;
        pools = pools;
      }

  one_found : position ks ws n k w < n → m ≤ position kt wt m k w → Stepped ks ws n kt wt m k w
  one_found h l =
      let a = found_is ks ws n k w h in
      let i = position ks ws n k w in
      let c = get_or-set_same kt m k 0 rk' in
      let d = get_or-set_same wt m w 0 rw'' in
      record {
        x = i;
        y = m;
        ks' = ks;
        ws' = ws;
        n' = n;
        kt' = set kt m k;
        wt' = set wt m w;
        m' = m + 1;
        in_s = found ks ws n k w i refl h;
        in_t = pushed kt wt m k w (position kt wt m k w) refl l few_t;
        grew_s = grew_none ks ws n;
        grew_t = grew_push kt wt m k w;
        there = h;
        here = omega arith;
        kind = a.0 ∙ sym c;
        word = a.1 ∙ sym d;
        pools =
            pools_more pools ks ws n (set kt m k) (set wt m w) i k w (grew_none ks ws n) (grew_push kt wt m k w) h (λ j q. inl q)
            (ap (λ (z : ℕ). z + 1) pools.count ∙ sym (many_with pools.used i n h unused)) a.0 a.1 c d;
      }
    where
      unused : pools.used (position ks ws n k w) ≡ false
      unused = go (pools.used (position ks ws n k w)) refl
        where
          go : (b : Bool) → pools.used (position ks ws n k w) ≡ b → pools.used (position ks ws n k w) ≡ false
          go false e = e
          go true e =
              let a = found_is ks ws n k w h in
              let z = pools.forth (position ks ws n k w) h e in
              absurd (none_has kt wt m k w l (record { at = z.at; inside = z.inside; kind = z.kind ∙ a.0; word = z.word ∙ a.1 }))

  none_found : n ≤ position ks ws n k w → m ≤ position kt wt m k w → Stepped ks ws n kt wt m k w
  none_found h l =
      let a = get_or-set_same ks n k 0 rk in
      let b = get_or-set_same ws n w 0 rw' in
      let c = get_or-set_same kt m k 0 rk' in
      let d = get_or-set_same wt m w 0 rw'' in
      record {
        x = n;
        y = m;
        ks' = set ks n k;
        ws' = set ws n w;
        n' = n + 1;
        kt' = set kt m k;
        wt' = set wt m w;
        m' = m + 1;
        in_s = pushed ks ws n k w (position ks ws n k w) refl h few;
        in_t = pushed kt wt m k w (position kt wt m k w) refl l few_t;
        grew_s = grew_push ks ws n k w;
        grew_t = grew_push kt wt m k w;
        there = omega arith;
        here = omega arith;
        kind = a ∙ sym c;
        word = b ∙ sym d;
        pools =
            pools_more pools (set ks n k) (set ws n w) (n + 1) (set kt m k) (set wt m w) n k w (grew_push ks ws n k w) (grew_push kt wt m k w) (omega arith)
            (λ j q. cases j n (λ e. inr e) (λ e. inl (omega arith))) (ap (λ (z : ℕ). z + 1) pools.count ∙ sym (many_new pools.used n)) a b c d;
      }

  pub stepped : Stepped ks ws n kt wt m k w
  stepped = go (ltb (position ks ws n k w) n) refl (ltb (position kt wt m k w) m) refl
    where
      go : (a : Bool) → ltb (position ks ws n k w) n ≡ a → (b : Bool) → ltb (position kt wt m k w) m ≡ b → Stepped ks ws n kt wt m k w
      go true e true f = both_found (ltb-true (position ks ws n k w) n e) (ltb-true (position kt wt m k w) m f)
      go true e false f = one_found (ltb-true (position ks ws n k w) n e) (ltb-false (position kt wt m k w) m f)
      go false e false f = none_found (ltb-false (position ks ws n k w) n e) (ltb-false (position kt wt m k w) m f)
      go false e true f =
          let l = ltb-true (position kt wt m k w) m f in
          let a = found_is kt wt m k w l in
          let z = pools.back (position kt wt m k w) l in
          absurd (none_has ks ws n k w (ltb-false (position ks ws n k w) n e) (record {
            at = z.at;
            inside = z.inside;
            kind = z.kind ∙ a.0;
            word = z.word ∙ a.1;
          }))
