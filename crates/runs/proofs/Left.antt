-- What compaction leaves is the chunk without its dead instructions, and such a chunk again. Assumes nothing.
use Prim.Native.Nat.{ℕ, suc, ◌<◌}
use native.Mathlib.Numerals.{add-one}
use native.Mathlib.Omega.{arith}
use mathlib.Core.Path.{◌≡◌, refl, sym, ap, ◌∙◌}
use mathlib.Core.Bool.{Bool, true, false, cond, ◌||◌}
use mathlib.Core.List.{List}
use lib.Dec.{eqb}
use lib.ListN.{length, get_or}
use borrow.Author.Tests.{eqb-true, eqb-false}
use Rattle.ops.specs.Op as op
use Rattle.chunk.specs.Chunk.{op_at, operand_at, marks_jump}
use Rattle.values.specs.declared.Val.TheVariants.{Bool as Truth}
use Rattle.std.specs.declared.option.Option.{Option}
use Rattle.values.specs.declared.Val.{Val}
use Rattle.std.specs.declared.option.Option.TheVariants.{Some, None}
use Rattle.pool.specs.Pool.{to_val}
use Rattle.fold.specs.declared.Kind.{Kind}
use Rattle.fold.specs.declared.Kind.TheVariants.{Binop, Not, Minus, Other}
use Rattle.fold.specs.Plan.{kind_of}
use Rattle.positions.specs.Remap.{live, mapped}
use Rattle.compact.specs.Tables.{moved_operand, compacted}
use Rattle.positions.proofs.Moves.{live_on, live_off}
use Rattle.compact.proofs.Left.{live_less, from, op_left, mark_left, operand_left}
use Rattle.positions.proofs.Mapped.{map_in, map_past}
use Rattle.runs.specs.Machine.{Value, Known, Ins, Push, Apply, Jump, JumpIfFalse, push_of, plain, read, ins, Plain}
use Rattle.runs.specs.Rule.{known, Ruled}
use Rattle.runs.proofs.Pack.{turn, Moved, gone, kept as stays, Packed}
use Rattle.runs.proofs.Step.{living, living_on, living_off}

-- ---- read

push_turn : (g : ℕ → ℕ) (o : Option Val) (k w : ℕ) → push_of o k w ≡ turn g (push_of o k w)
unfolding push_of
push_turn g (Some v) k w = refl
push_turn g None k w = refl

plain_turn : (g : ℕ → ℕ) (c x : ℕ) (kinds words : List ℕ)
    → plain c (cond (eqb c op.Jump || eqb c op.JumpIfFalse) (g x) x) kinds words ≡ turn g (plain c x kinds words)
unfolding plain
plain_turn g c x kinds words = go (eqb c op.Jump) (eqb c op.JumpIfFalse) (eqb c op.LoadConst) (eqb c op.LoadTrue) (eqb c op.LoadFalse) (eqb c op.LoadNone)
  where
    rest : (d e f i : Bool) → ℕ → Ins
    rest d e f i y =
        cond d (push_of (to_val (get_or kinds y 0) (get_or words y 0)) (get_or kinds y 0) (get_or words y 0))
        (cond e (Push (Known (Truth true))) (cond f (Push (Known (Truth false))) (cond i (Push Value.None) (Apply Other))))

    go : (a b d e f i : Bool)
        → cond a (Jump (cond (a || b) (g x) x)) (cond b (JumpIfFalse (cond (a || b) (g x) x)) (rest d e f i (cond (a || b) (g x) x)))
        ≡ turn g (cond a (Jump x) (cond b (JumpIfFalse x) (rest d e f i x)))
    go true b d e f i = refl
    go false true d e f i = refl
    go false false true e f i = push_turn g (to_val (get_or kinds x 0) (get_or words x 0)) (get_or kinds x 0) (get_or words x 0)
    go false false false true f i = refl
    go false false false false true i = refl
    go false false false false false true = refl
    go false false false false false false = refl

read_turn : (g : ℕ → ℕ) (kind : Kind) (c x : ℕ) (kinds words : List ℕ)
    → read kind c (cond (eqb c op.Jump || eqb c op.JumpIfFalse) (g x) x) kinds words ≡ turn g (read kind c x kinds words)
unfolding read
read_turn g (Binop b) c x kinds words = refl
read_turn g Not c x kinds words = refl
read_turn g Minus c x kinds words = refl
read_turn g Other c x kinds words = plain_turn g c x kinds words

-- ---- the compacted chunk

module _ (code dead kinds words : List ℕ) (constants : ℕ) (plains : (k : ℕ) → k < length dead → Plain code constants k) where
  ins_left : (k : ℕ) → k < length dead → get_or dead k 0 ≡ 0 → ins (compacted dead code) kinds words (live dead k) ≡ turn (mapped dead) (ins code kinds words k)
  unfolding ins moved_operand
  ins_left k h d =
      rw (op_left dead code k h d, operand_left dead code k h d, (plains k h).marks)
      (read_turn (mapped dead) (kind_of (op_at code k)) (op_at code k) (operand_at code k) kinds words)

  pub packed : Packed (living code dead kinds words) (ins (compacted dead code) kinds words) (length dead) (live dead (length dead)) (mapped dead)
  packed = record { each = λ k h. go k h (eqb (get_or dead k 0) 0) refl; past = map_past dead }
    where
      go : (k : ℕ) → k < length dead → (t : Bool) → eqb (get_or dead k 0) 0 ≡ t
          → Moved (living code dead kinds words) (ins (compacted dead code) kinds words) (live dead (length dead)) (mapped dead) k
      go k h true e =
          let d = eqb-true (get_or dead k 0) 0 e in
          let here = map_in dead k (omega arith) in
          stays
          (omega (arith, live_less dead (length dead) k h d, here))
          (rw here (ins_left k h d ∙ ap (turn (mapped dead)) (sym (living_on code dead kinds words k d))))
          (rw (map_in dead (suc k) h, here, ← (add-one k)) (omega (arith, live_on dead k d)))
      go k h false e =
          let d = eqb-false (get_or dead k 0) 0 e in
          gone (living_off code dead kinds words k d) (rw (map_in dead (suc k) h, map_in dead k (omega arith), ← (add-one k)) (live_off dead k d))

  -- ---- a LoadConst is no jump, so its operand stays

  load_still : (k : ℕ) → k < length dead → op_at code k ≡ op.LoadConst → marks_jump code k ≡ false
  load_still k h e = (plains k h).marks ∙ rw e refl

  plain_left : (k : ℕ) → k < length dead → get_or dead k 0 ≡ 0 → Plain (compacted dead code) constants (live dead k)
  unfolding moved_operand
  plain_left k h d =
      record {
        marks = rw (mark_left dead code k h d, op_left dead code k h d) (plains k h).marks;
        there = λ e.
            let o = sym (op_left dead code k h d) ∙ e in
            rw (operand_left dead code k h d, load_still k h o) ((plains k h).there o);
      }

  pub ruled_left : ((k : ℕ) → k < length dead → known (op_at code k) ≡ true) → Ruled (compacted dead code) constants (live dead (length dead))
  ruled_left only =
      record {
        only = λ j h.
            let f = from dead (length dead) j h in
            rw (← f.is, op_left dead code f.place f.below f.lives) (only f.place f.below);
        plain = λ j h.
            let f = from dead (length dead) j h in
            rw (← f.is) (plain_left f.place f.below f.lives);
      }
