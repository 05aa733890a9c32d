-- A code cut at its count runs as it ran, for what is cut off is never reached. Assumes nothing.
use Prim.Native.Nat.{ℕ, ◌+◌, ◌*◌, ◌≤◌, ◌<◌, min}
use native.Mathlib.Omega.{arith}
use mathlib.Core.Path.{◌≡◌, refl, sym, ◌∙◌}
use mathlib.Core.List.{List}
use lib.ListN.{length, take, length-take}
use lib.Seq.{get_or-take}
use Rattle.chunk.specs.Chunk.{stride, chunk_count, op_at, mark_at, operand_at}
use Rattle.runs.specs.Machine.{ins, Plain}
use Rattle.runs.specs.Rule.{Ruled, WishRule}
use Rattle.runs.specs.Kept.{Same}
use Rattle.runs.proofs.Pass.{alike}

module _ (w : List ℕ) (r : ℕ) where
  abbrev front : List ℕ
  front = take (stride * r) w

  few : chunk_count front ≤ r
  few = short (length-take (stride * r) w)
    where
      short : length front ≡ min (stride * r) (length w) → chunk_count front ≤ r
      short e = omega arith

  module _ (k : ℕ) (h : k < r) where
    op_cut : op_at front k ≡ op_at w k
    op_cut = get_or-take (stride * r) w (stride * k) 0 (omega arith)

    mark_cut : mark_at front k ≡ mark_at w k
    mark_cut = get_or-take (stride * r) w (stride * k + 1) 0 (omega arith)

    operand_cut : operand_at front k ≡ operand_at w k
    operand_cut = get_or-take (stride * r) w (stride * k + 2) 0 (omega arith)

    ins_cut : (kinds words : List ℕ) → ins front kinds words k ≡ ins w kinds words k
    unfolding ins
    ins_cut kinds words = rw (op_cut, operand_cut) refl

    plain_cut : (m : ℕ) → Plain w m k → Plain front m k
    plain_cut m p =
        record {
          marks = rw (mark_cut, op_cut) p.marks;
          there = λ e. rw operand_cut (p.there (sym op_cut ∙ e));
        }

  pub cut_same : (kinds words : List ℕ) → Same w kinds words r front kinds words r
  cut_same kinds words =
      record {
        ends = λ e run. alike (λ k h. ins_cut k h kinds words) run;
        back = λ e run. alike (λ k h. sym (ins_cut k h kinds words)) run;
      }

  pub cut_rule : (m : ℕ) → Ruled w m r → WishRule front m
  cut_rule m x =
      record {
        only = λ k h. let l : k < r = omega (arith, few) in rw (op_cut k l) (x.only k l);
        plain = λ k h. let l : k < r = omega (arith, few) in plain_cut k l m (x.plain k l);
      }
