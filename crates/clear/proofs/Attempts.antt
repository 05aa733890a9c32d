-- An attempt to fold keeps two chunks alike that differ only in where their constants stand. Assumes nothing.
use Prim.Native.Nat.{ℕ, ◌/◌, ◌%◌, ◌≤◌, ◌<◌}
use native.Mathlib.Omega.{arith}
use mathlib.Core.Path.{◌≡◌, refl, sym, ap, ◌∙◌}
use mathlib.Core.Logic.{inl, inr, ⊎_elim}
use mathlib.Core.Bool.{Bool, true, false, cond, false≢true}
use mathlib.Core.List.{List}
use lib.Dec.{eqb}
use lib.ListN.{length, get_or, set}
use mir.Syntax.{w64}
use mir.Val.{of_z}
use lib.Ieee.{binary64, to_bits}
use borrow.Author.Tests.{eqb-true}
use Rattle.ops.specs.Op.{LoadConst, LoadTrue, LoadFalse, Phi}
use Rattle.chunk.specs.Chunk.{chunk_count, operand_at, names}
use Rattle.values.specs.declared.Val.{Val}
use Rattle.values.specs.declared.Val.TheVariants.{Int, Float as Real, Bool as Truth}
use Rattle.pool.specs.Pool.{Stored, stored, find_or_push, find_or_push_const}
use Rattle.fold.specs.Plan.{Chunk, chunk, plan_at}
use Rattle.fold.specs.Pass.{load_of, const_load, mark_of, put, landed, applied, try_fold}
use Rattle.fold.specs.Inner.{OperatorRoom}
use Rattle.fold.proofs.Planned.{planned}
use Rattle.fold.proofs.Put.{put_long, put_other, mark_other, operand_other, put_here, mark_here, operand_here, jump_here, jump_other}
use Rattle.clear.proofs.Alike.{SameLoad, Loads, Alike, plan_same}
use Rattle.clear.proofs.Pools.{cases, Grew, grew_none, Pools, fewer, stepped}
use Rattle.std.specs.declared.option.Option.{Option}
use Rattle.std.specs.declared.option.Option.TheVariants.{Some, None}
use Rattle.fold.specs.declared.Plan.{Plan}
use Rattle.fold.specs.Plan.{to_put}

-- ---- a load that is put at p

names_of : (o : ℕ) → eqb (mark_of o / 2 % 2) 1 ≡ eqb o LoadConst
unfolding mark_of
names_of o = go (eqb o LoadConst)
  where
    go : (b : Bool) → eqb (cond b 2 0 / 2 % 2) 1 ≡ b
    go true = refl
    go false = refl

abbrev name_mark : ℕ → Bool
name_mark x = eqb (x / 2 % 2) 1

abbrev phi_code : ℕ → Bool
phi_code o = eqb o Phi

-- the chunk with it
abbrev wrote : Chunk → (p q i o x : ℕ) → (kinds words : List ℕ) → ℕ → Chunk
wrote s p q i o x kinds words n = chunk (put s.code p o x) (set (set s.dead q 1) i 1) kinds words n

load_grew : {s t : Chunk} {v u : ℕ} {S T : Chunk} → Grew s.kinds s.words s.constants S.kinds S.words S.constants
    → Grew t.kinds t.words t.constants T.kinds T.words T.constants → SameLoad s t v u → SameLoad S T v u
load_grew {v = v} {u = u} gs gt l =
    record {
      there = omega (arith, l.there, gs.more);
      here = omega (arith, l.here, gt.more);
      kind = gs.kind v l.there ∙ l.kind ∙ sym (gt.kind u l.here);
      word = gs.word v l.there ∙ l.word ∙ sym (gt.word u l.here);
    }

loads_grew : {limit : ℕ} {s t : Chunk} {v u : ℕ} {S T : Chunk} → Grew s.kinds s.words s.constants S.kinds S.words S.constants
    → Grew t.kinds t.words t.constants T.kinds T.words T.constants → Loads limit s t v u → Loads limit S T v u
loads_grew {s = s} {t = t} gs gt l = ⊎_elim (λ x. inl (load_grew {s = s} {t = t} gs gt x)) (λ x. inr x) l

module _ {limit : ℕ} {s t : Chunk} (a : Alike limit s t) (p q i o x y : ℕ) (h : p < chunk_count s.code) (ks ws : List ℕ) (n : ℕ) (kt wt : List ℕ) (m : ℕ)
    (gs : Grew s.kinds s.words s.constants ks ws n) (gt : Grew t.kinds t.words t.constants kt wt m)
    (con : eqb o LoadConst ≡ true → SameLoad (wrote s p q i o x ks ws n) (wrote t p q i o y kt wt m) x y) (non : eqb o LoadConst ≡ false → x ≡ y) where
  h' : p < chunk_count t.code
  h' = omega (arith, a.long)

  names_here : names (put s.code p o x) p ≡ eqb o LoadConst
  names_here = ap name_mark (mark_here s.code p o x h) ∙ names_of o

  names_other : (k : ℕ) → (k ≡ p → ⊥) → names (put s.code p o x) k ≡ names s.code k
  names_other k z = ap name_mark (mark_other s.code p o x k z)

  wrote_plain : (k : ℕ) → names (put s.code p o x) k ≡ false → operand_at (put s.code p o x) k ≡ operand_at (put t.code p o y) k
  wrote_plain k e =
      cases k p
      (λ z. rw z (operand_here s.code p o x h ∙ non (sym names_here ∙ (rw z at e)) ∙ sym (operand_here t.code p o y h')))
      (λ z. operand_other s.code p o x k z ∙ a.plain k (sym (names_other k z) ∙ e) ∙ sym (operand_other t.code p o y k z))

  wrote_loads : (k : ℕ) → names (put s.code p o x) k ≡ true
      → Loads limit (wrote s p q i o x ks ws n) (wrote t p q i o y kt wt m) (operand_at (put s.code p o x) k) (operand_at (put t.code p o y) k)
  wrote_loads k e =
      cases k p
      (λ z. rw (z, operand_here s.code p o x h, operand_here t.code p o y h') (inl (con (sym names_here ∙ (rw z at e)))))
      (λ z. rw (operand_other s.code p o x k z, operand_other t.code p o y k z) (loads_grew {s = s} {t = t} gs gt
      (a.loads k (sym (names_other k z) ∙ e))))

  put_alike : Alike limit (wrote s p q i o x ks ws n) (wrote t p q i o y kt wt m)
  put_alike =
      record {
        long = put_long s.code p o x ∙ a.long ∙ sym (put_long t.code p o y);
        dead = ap (λ (d : List ℕ). set (set d q 1) i 1) a.dead;
        ops = λ k.
            cases k p (λ z. rw z (put_here s.code p o x h ∙ sym (put_here t.code p o y h')))
            (λ z. put_other s.code p o x k z ∙ a.ops k ∙ sym (put_other t.code p o y k z));
        marks = λ k.
            cases k p (λ z. rw z (mark_here s.code p o x h ∙ sym (mark_here t.code p o y h')))
            (λ z. mark_other s.code p o x k z ∙ a.marks k ∙ sym (mark_other t.code p o y k z));
        plain = wrote_plain;
        loads = wrote_loads;
        consts = λ k e.
            cases k p
            (λ z. rw z (names_here ∙ sym (ap (λ (u : ℕ). eqb u LoadConst) (put_here s.code p o x h)) ∙ (rw z at e)))
            (λ z. names_other k z ∙ a.consts k (sym (ap (λ (u : ℕ). eqb u LoadConst) (put_other s.code p o x k z)) ∙ e));
        apart = λ k e.
            cases k p
            (λ z. rw z (jump_here s.code p o x h))
            (λ z. jump_other s.code p o x k z ∙ a.apart k (sym (names_other k z) ∙ e));
        free = λ k e.
            cases k p
            (λ z. rw z (ap phi_code (put_here s.code p o x h ∙ eqb-true o LoadConst (sym names_here ∙ (rw z at e)))))
            (λ z. ap phi_code (put_other s.code p o x k z) ∙ a.free k (sym (names_other k z) ∙ e));
      }

-- ---- both chunks, with their pools

pub record Sim (limit : ℕ) (s t : Chunk) : Type 0 where
  pub alike : Alike limit s t
  pub pools : Pools s.kinds s.words s.constants t.kinds t.words t.constants

abbrev pub settled : Stored → (p q i : ℕ) → Chunk → Chunk
settled r p q i s = landed (load_of r.kept) r.kinds r.words p q i s

settled_at : (r : Stored) (x n : ℕ) (ks ws : List ℕ) (p q i : ℕ) (s : Chunk) → stored (Some (x, n)) ks ws ≡ r → settled r p q i s ≡ wrote s p q i LoadConst x ks ws n
unfolding landed
settled_at r x n ks ws p q i s e = rw (← e)

module _ {limit : ℕ} {s t : Chunk} (z : Sim limit s t) (p q i : ℕ) (h : p < chunk_count s.code) where
  module _ (few : s.constants < 65535) (a : s.constants < length s.kinds) (b : s.constants < length s.words) (c : t.constants < length t.kinds)
      (d : t.constants < length t.words) where
    pool_sim : (k w : ℕ) → Sim limit (settled (find_or_push s.kinds s.words s.constants k w) p q i s)
        (settled (find_or_push t.kinds t.words t.constants k w) p q i t)
    pool_sim k w =
        let r = stepped s.kinds s.words s.constants t.kinds t.words t.constants k w z.pools few a b c d in
        rw (settled_at _ r.x r.n' r.ks' r.ws' p q i s r.in_s, settled_at _ r.y r.m' r.kt' r.wt' p q i t r.in_t)
        (record {
          alike =
              put_alike z.alike p q i LoadConst r.x r.y h r.ks' r.ws' r.n' r.kt' r.wt' r.m' r.grew_s r.grew_t
              (λ e. record { there = r.there; here = r.here; kind = r.kind; word = r.word }) (λ e. absurd (false≢true (sym e)));
          pools = r.pools;
        })

  truth_sim : (o : ℕ) → eqb o LoadConst ≡ false → Sim limit (wrote s p q i o 0 s.kinds s.words s.constants)
      (wrote t p q i o 0 t.kinds t.words t.constants)
  truth_sim o e =
      record {
        alike =
            put_alike z.alike p q i o 0 0 h s.kinds s.words s.constants t.kinds t.words t.constants
            (grew_none s.kinds s.words s.constants)
            (grew_none t.kinds t.words t.constants) (λ f. absurd (false≢true (sym e ∙ f))) (λ f. refl);
        pools = z.pools;
      }

  put_sim : (v : Val) → s.constants < 65535 → s.constants < length s.kinds → s.constants < length s.words → t.constants < length t.kinds
      → t.constants < length t.words
      → Sim limit (applied (to_put p q v) i s) (applied (to_put p q v) i t)
  unfolding applied landed const_load find_or_push_const
  put_sim (Int x) few a b c d = pool_sim few a b c d 1 (of_z w64 x)
  put_sim (Real x) few a b c d = pool_sim few a b c d 2 (to_bits binary64 x)
  put_sim (Truth true) few a b c d = truth_sim LoadTrue refl
  put_sim (Truth false) few a b c d = truth_sim LoadFalse refl

-- one attempt
module _ (bars : ℕ → Bool) (i : ℕ) (s : Chunk) where
  pub try_live : (plan : Option Plan) → eqb (get_or s.dead i 0) 0 ≡ true → plan_at bars i s ≡ plan → try_fold bars i s ≡ applied plan i s
  unfolding try_fold
  try_live plan e f = rw e (ap (λ (x : Option Plan). applied x i s) f)

  pub try_dead : eqb (get_or s.dead i 0) 0 ≡ false → try_fold bars i s ≡ s
  unfolding try_fold
  try_dead e = rw e

applied_sim : {limit : ℕ} (bars : ℕ → Bool) (i : ℕ) (s t : Chunk) → Sim limit s t → s.constants < 65535 → OperatorRoom s i → OperatorRoom t i → (plan : Option Plan)
    → plan_at bars i s ≡ plan → plan_at bars i t ≡ plan
    → Sim limit (applied plan i s) (applied plan i t)
unfolding applied
applied_sim bars i s t z few r r' None e f = z
applied_sim bars i s t z few r r' (Some u) e f =
    let x = planned bars i s e in
    let y = planned bars i t f in
    let m = r.room x.operator in
    let m' = r'.room y.operator in
    let w = fewer z.pools in
    put_sim z u.at u.dies i (omega (arith, x.first, r.readable.here)) u.value few (m.kinds_more few) (m.words_more few) (m'.kinds_more (omega arith))
    (m'.words_more (omega arith))

pub try_sim : {limit : ℕ} (bars : ℕ → Bool) (i : ℕ) (s t : Chunk) → Sim limit s t → s.constants ≤ limit → s.constants < 65535 → OperatorRoom s i
    → OperatorRoom t i
    → Sim limit (try_fold bars i s) (try_fold bars i t)
try_sim {limit} bars i s t z low few r r' = go (eqb (get_or s.dead i 0) 0) refl
  where
    go : (b : Bool) → eqb (get_or s.dead i 0) 0 ≡ b → Sim limit (try_fold bars i s) (try_fold bars i t)
    go true e =
        let f : eqb (get_or t.dead i 0) 0 ≡ true = ap (λ (d : List ℕ). eqb (get_or d i 0) 0) (sym z.alike.dead) ∙ e in
        let plan = plan_at bars i t in
        let g = plan_same z.alike bars i low (omega (arith, fewer z.pools)) in
        rw (try_live bars i s plan e g, try_live bars i t plan f refl) (applied_sim bars i s t z few r r' plan g refl)
    go false e =
        let f : eqb (get_or t.dead i 0) 0 ≡ false = ap (λ (d : List ℕ). eqb (get_or d i 0) 0) (sym z.alike.dead) ∙ e in
        rw (try_dead bars i s e, try_dead bars i t f) z
