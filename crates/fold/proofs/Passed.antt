-- What a pass leaves: every Phi, and every mark that it did not set to 1; and where it set none, the whole chunk as it was. Assumes nothing.
use Prim.Native.Nat.{ℕ, zero, suc, ◌≤◌, ◌<◌}
use native.Mathlib.Omega.{arith}
use mathlib.Core.Path.{◌≡◌, refl, ap, ◌∙◌}
use mathlib.Core.Bool.{Bool, true, false, cond}
use mathlib.Core.List.{List, [], ◌∷◌}
use mathlib.Core.Logic.{◌⊎◌, inl, inr, ⊎_elim}
use lib.Dec.{eqb}
use lib.ListN.{length, get_or, set, length-set}
use lib.Seq.{get_or-set_same}
use borrow.Author.Tests.{eqb-true, eqb-false}
use Rattle.ops.specs.Op.{Phi}
use Rattle.chunk.specs.Chunk.{chunk_count, is_phi}
use Rattle.values.specs.declared.Val.{Val}
use Rattle.values.specs.declared.Val.TheVariants.{Int, Float as Real, Bool as Truth}
use Rattle.pool.specs.Pool.{find_or_push_const}
use Rattle.pool.proofs.Store.{full_stays}
use Rattle.fold.specs.Plan.{Chunk, chunk, plan_at}
use Rattle.fold.specs.Pass.{Loading, loading, load_of, from_pool, const_load, put, landed, applied, try_fold, Bars, folded, fold_all}
use Rattle.fold.proofs.Planned.{Planned, planned}
use Rattle.fold.proofs.Put.{put_other, put_here, put_long}
use Rattle.std.specs.declared.option.Option.{Option}
use Rattle.std.specs.declared.option.Option.TheVariants.{Some, None}
use Rattle.fold.specs.declared.Plan.{Plan}
use Rattle.fold.specs.declared.Load.{Load}
use Rattle.fold.specs.Plan.{to_put}

-- a mark stays or becomes 1
abbrev pub Mark : ℕ → ℕ → Type 0
Mark old new = (new ≡ old) ⊎ (new ≡ 1)

-- some mark is 1
pub record Died (t : Chunk) : Type 0 where
  pub place : ℕ
  pub mark : get_or t.dead place 0 ≡ 1

pub record Passed (s t : Chunk) : Type 0 where
  pub phis : (k : ℕ) → is_phi t.code k ≡ is_phi s.code k
  pub marks : (k : ℕ) → Mark (get_or s.dead k 0) (get_or t.dead k 0)
  pub idle : (t ≡ s) ⊎ Died t
  pub code_long : length t.code ≡ length s.code
  pub dead_long : length t.dead ≡ length s.dead

same : (s : Chunk) → Passed s s
same s = record { phis = λ k. refl; marks = λ k. inl refl; idle = inl refl; code_long = refl; dead_long = refl }

mark_twice : {a b c : ℕ} → Mark a b → Mark b c → Mark a c
mark_twice p q = ⊎_elim (λ e. ⊎_elim (λ f. inl (e ∙ f)) (λ f. inr (e ∙ f)) p) (λ e. inr e) q

still : {a b : ℕ} → a ≡ 1 → Mark a b → b ≡ 1
still e m = ⊎_elim (λ f. f ∙ e) (λ f. f) m

both : {s t u : Chunk} → Passed s t → Passed t u → Passed s u
both p q =
    record {
      phis = λ k. q.phis k ∙ p.phis k;
      marks = λ k. mark_twice (p.marks k) (q.marks k);
      idle =
          ⊎_elim
          (λ e. ⊎_elim (λ f. inl (e ∙ f)) (λ d. inr (record { place = d.place; mark = still d.mark (q.marks d.place) })) p.idle)
          (λ d. inr d) q.idle;
      code_long = q.code_long ∙ p.code_long;
      dead_long = q.dead_long ∙ p.dead_long;
    }

-- ---- one attempt

abbrev Bare : Option Load → Type 0
Bare (Some l) = eqb l.opcode Phi ≡ false
Bare None = Unit {0}

kept_bare : (k : Option (ℕ × ℕ)) → Bare (load_of k)
kept_bare (Some k) = refl
kept_bare None = tt

load_bare : (v : Val) (kinds words : List ℕ) (n : ℕ) → Bare (const_load v kinds words n).load
unfolding const_load
load_bare (Int z) kinds words n = kept_bare (find_or_push_const kinds words n (Int z)).kept
load_bare (Real x) kinds words n = kept_bare (find_or_push_const kinds words n (Real x)).kept
load_bare (Truth true) kinds words n = refl
load_bare (Truth false) kinds words n = refl

set_mark : (d : List ℕ) (q k : ℕ) → Mark (get_or d k 0) (get_or (set d q 1) k 0)
set_mark [] q k = inl refl
set_mark (x ∷ xs) zero zero = inr refl
set_mark (x ∷ xs) zero (suc k) = inl refl
set_mark (x ∷ xs) (suc q) zero = inl refl
set_mark (x ∷ xs) (suc q) (suc k) = set_mark xs q k

no_kept : (k : Option (ℕ × ℕ)) → load_of k ≡ None → k ≡ None
no_kept (Some k) e = absurd (let z : ◌≡◌ {A = ℕ} 0 1 = cc in omega arith)
no_kept None e = refl

no_load : (v : Val) (kinds words : List ℕ) (n : ℕ) → (const_load v kinds words n).load ≡ None → const_load v kinds words n ≡ loading None kinds words
unfolding const_load
no_load (Int z) kinds words n e = ap from_pool (full_stays kinds words n (Int z) (no_kept (find_or_push_const kinds words n (Int z)).kept e))
no_load (Real x) kinds words n e = ap from_pool (full_stays kinds words n (Real x) (no_kept (find_or_push_const kinds words n (Real x)).kept e))
no_load (Truth b) kinds words n e = absurd (let z : ◌≡◌ {A = ℕ} 0 1 = cc in omega arith)

module _ (i : ℕ) (s : Chunk) (hc : i < chunk_count s.code) (hd : i < length s.dead) where
  module _ (p q o x : ℕ) (h : Planned s i p q) (b : eqb o Phi ≡ false) where
    phi_put : (k : ℕ) → is_phi (put s.code p o x) k ≡ is_phi s.code k
    phi_put k = go (eqb k p) refl
      where
        go : (t : Bool) → eqb k p ≡ t → is_phi (put s.code p o x) k ≡ is_phi s.code k
        go true e = rw (eqb-true k p e, put_here s.code p o x (omega (arith, h.first)), b, h.load) refl
        go false e = ap (λ (z : ℕ). eqb z Phi) (put_other s.code p o x k (eqb-false k p e))

    wrote : (kinds words : List ℕ) (m : ℕ) → Passed s (chunk (put s.code p o x) (set (set s.dead q 1) i 1) kinds words m)
    wrote kinds words m =
        record {
          phis = phi_put;
          marks = λ k. mark_twice (set_mark s.dead q k) (set_mark (set s.dead q 1) i k);
          idle = inr (record { place = i; mark = get_or-set_same (set s.dead q 1) i 1 0 (rw (length-set s.dead q 1) hd) });
          code_long = put_long s.code p o x;
          dead_long = length-set (set s.dead q 1) i 1 ∙ length-set s.dead q 1;
        }

  put_passed : (p q : ℕ) (v : Val) → Planned s i p q → Passed s (applied (to_put p q v) i s)
  unfolding applied landed
  put_passed p q v h = go (const_load v s.kinds s.words s.constants).load refl
    where
      l : Loading
      l = const_load v s.kinds s.words s.constants

      go : (a : Option Load) → l.load ≡ a → Passed s (landed l.load l.kinds l.words p q i s)
      go (Some k) e = rw e (wrote p q k.opcode k.operand h (rw e at (load_bare v s.kinds s.words s.constants)) l.kinds l.words k.constants)
      go None e = rw (no_load v s.kinds s.words s.constants e) (same s)

  try_passed : (bars : ℕ → Bool) → Passed s (try_fold bars i s)
  unfolding try_fold applied
  try_passed bars = go (eqb (get_or s.dead i 0) 0)
    where
      by : (plan : Option Plan) → plan_at bars i s ≡ plan → Passed s (applied plan i s)
      by None e = same s
      by (Some f) e = put_passed f.at f.dies f.value (planned bars i s e)

      go : (t : Bool) → Passed s (cond t (applied (plan_at bars i s) i s) s)
      go true = by (plan_at bars i s) refl
      go false = same s

-- ---- the pass

module _ (bars : Bars) (s : Chunk) (h : chunk_count s.code ≤ length s.dead) where
  some_passed : (k : ℕ) → k ≤ chunk_count s.code → Passed s (folded bars k s)
  unfolding folded
  some_passed zero l = same s
  some_passed (suc k) l =
      let p = some_passed k (omega arith) in
      both p (try_passed k (folded bars k s) (rw p.code_long l) (omega (arith, p.dead_long)) (bars (folded bars k s).code k))

  pub all_passed : Passed s (fold_all bars s)
  unfolding fold_all
  all_passed = some_passed (chunk_count s.code) (omega arith)
