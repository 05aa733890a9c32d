-- Clearing keeps what a rule computes, and leaves a rule: a run reads the same values by renamed constants. Assumes nothing.
use Prim.Native.Nat.{ℕ, ◌<◌}
use native.Mathlib.Omega.{arith}
use mathlib.Core.Path.{◌≡◌, refl, sym, ap, ◌∙◌}
use mathlib.Core.Bool.{Bool, true, false, ◌||◌, false≢true}
use mathlib.Core.List.{List}
use lib.Dec.{eqb}
use lib.ListN.{length}
use borrow.Author.Tests.{eq-eqb}
use Rattle.ops.specs.Op.{Jump, JumpIfFalse, LoadConst}
use Rattle.refusals.specs.Stages.{Checked}
use Rattle.std.specs.declared.result.Result.TheVariants.{Ok, Err}
use Rattle.refusals.proofs.Stages.{room_before}
use Rattle.chunk.specs.Chunk.{chunk_count, op_at, mark_at, operand_at, names}
use Rattle.chunk.specs.Tables.{constants_kept, table_of}
use Rattle.chunk.specs.Check.{chunk_check_of}
use Rattle.fold.specs.Plan.{kind_of}
use Rattle.named.specs.Unused.{constant_named, before, pooled, recoded}
use Rattle.clear.specs.Clear as clearing
use Rattle.clear.specs.Clear.{Is, No, clear_ready_of, clear_call}
use Rattle.clear.proofs.Answers.{refused_call, answered}
use Rattle.clear.proofs.Kept.{named_by, in_order, pooled_kept}
use Rattle.clear.proofs.Loads.{recoded_count, recoded_op, recoded_mark, unmarked_stays, near_moves}
use Rattle.clear.proofs.Refold.{accepted_at, rule_const, rule_both}
use Rattle.clear.proofs.Tested.{table_met}
use Rattle.runs.specs.Machine.{ins, Plain}
use Rattle.runs.specs.Rule.{WishRule}
use Rattle.runs.specs.Inner.{RunsAs}
use Rattle.runs.proofs.Pass.{alike}
use Rattle.runs.proofs.Alike.{SameEntry, read_both}

module _ (w kinds words : List ℕ) (m n : ℕ) (ok : chunk_check_of w ≡ Ok n) (rule : WishRule w m) where
  abbrev w' : List ℕ
  w' = recoded (before w) m w

  abbrev kinds' : List ℕ
  kinds' = pooled (constant_named w) m kinds

  abbrev words' : List ℕ
  words' = pooled (constant_named w) m words

  module _ (k : ℕ) (h : k < chunk_count w) where
    -- a jump names no constant, so it goes where it went
    goal_stays : eqb (op_at w k) Jump || eqb (op_at w k) JumpIfFalse ≡ true → operand_at w' k ≡ operand_at w k
    goal_stays j = go (names w k) refl
      where
        go : (t : Bool) → names w k ≡ t → operand_at w' k ≡ operand_at w k
        go true e = absurd (false≢true (sym (rule_both (op_at w k) (mark_at w k) (accepted_at n w ok k h) e).0 ∙ (rule.plain k h).marks ∙ j))
        go false e = unmarked_stays (before w) m w k h e

    module _ (o : op_at w k ≡ LoadConst) where
      -- a LoadConst names a constant that is there
      marked : names w k ≡ true
      marked = rule_const (op_at w k) (mark_at w k) (accepted_at n w ok k h) (eq-eqb (op_at w k) LoadConst o)

      there : operand_at w k < m
      there = (rule.plain k h).there o

      is_named : constant_named w (operand_at w k) ≡ true
      is_named = named_by w (operand_at w k) k h marked refl

      moves : operand_at w' k ≡ before w (operand_at w k)
      moves = near_moves (before w) m w k h marked there

      -- it loads the same kind and word
      loads : SameEntry kinds words (operand_at w k) kinds' words' (operand_at w' k)
      loads =
          rw moves
          (record {
            kind = pooled_kept (constant_named w) m kinds (operand_at w k) there is_named;
            word = pooled_kept (constant_named w) m words (operand_at w k) there is_named;
          })

      inside : operand_at w' k < before w m
      inside = rw moves (in_order (constant_named w) (operand_at w k) m there is_named)

    ins_same : ins w' kinds' words' k ≡ ins w kinds words k
    unfolding ins
    ins_same =
        rw (recoded_op (before w) m w k h)
        (read_both (op_at w k) (operand_at w k) (operand_at w' k) kinds words kinds' words' goal_stays loads (kind_of (op_at w k)))

    plain_same : Plain w' (before w m) k
    plain_same =
        record {
          marks = rw (recoded_mark (before w) m w k h, recoded_op (before w) m w k h) (rule.plain k h).marks;
          there = λ e. inside (sym (recoded_op (before w) m w k h) ∙ e);
        }

  pub cleared_same : RunsAs w kinds words (chunk_count w) w' kinds' words' (before w m) (chunk_count w)
  cleared_same =
      record {
        same = record { ends = λ e run. alike (λ k h. ins_same k h) run; back = λ e run. alike (λ k h. sym (ins_same k h)) run };
        rule = record { only = λ k h. rw (recoded_op (before w) m w k h) (rule.only k h); plain = plain_same };
      }

-- ---- the call

module _ (b : clearing.PoolBuffers) (m : ℕ) where
  -- an answered call was lent a code that passes tests 1 and 2
  tested : (n : ℕ) → clear_ready_of b m ≡ Ok n → chunk_check_of b.code ≡ Ok n
  unfolding clear_ready_of
  tested n e =
      let pool = constants_kept b.kinds b.words m in
      (table_met n (chunk_check_of b.code) 1 pool
      (sym (room_before n (table_of (chunk_check_of b.code) 1 pool) 1 (length b.scratch) m (sym e)))).0

  -- A run ends before clearing exactly when it ends after it, with the same stack or the same stop.
  pub clear_keeps : (r : ℕ) (a : clearing.PoolBuffers) → clear_call b m ≡ clearing.clear_outcome (Is r) a → WishRule b.code m
      → RunsAs b.code b.kinds b.words (chunk_count b.code) a.code a.kinds a.words r (chunk_count b.code)
  clear_keeps r a e rule = go (clear_ready_of b m) refl
    where
      go : (v : Checked) → clear_ready_of b m ≡ v
          → RunsAs b.code b.kinds b.words (chunk_count b.code) a.code a.kinds a.words r (chunk_count b.code)
      go (Err q) f =
          let y : No q ≡ Is r = ap (λ (x : clearing.ClearOutcome). x.answer) (sym (refused_call b m q f) ∙ e) in
          absurd (let z : ◌≡◌ {A = ℕ} 0 1 = cc in omega arith)
      go (Ok n) f =
          let y = answered b m r a e in
          rw (y.code, y.kinds, y.words, y.count) (cleared_same b.code b.kinds b.words m n (tested n f) rule)

  pub clear_rule : (r : ℕ) (a : clearing.PoolBuffers) → clear_call b m ≡ clearing.clear_outcome (Is r) a → WishRule b.code m → WishRule a.code r
  clear_rule r a e rule =
      let same : chunk_count b.code ≡ chunk_count a.code =
      sym (recoded_count (before b.code) m b.code) ∙ ap (λ (w : List ℕ). chunk_count w) (sym (answered b m r a e).code) in
      rw same at (clear_keeps r a e rule).rule
