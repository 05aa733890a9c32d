-- Whether a register is needed at a position: one result, what the truth says, and the bit of the rows from start 0. Assumes nothing.
use mathlib.Core.Path.{◌≡◌, refl, sym, ◌∙◌, subst}
use mathlib.Core.Logic.{inl, inr}
use mathlib.Core.Bool.{Bool, true, false, cond}
use mathlib.Core.List.{List}
use Prim.Native.Nat.{ℕ, ◌<◌}
use native.Mathlib.Decide.{dec_lt}
use native.Mathlib.Omega.{arith}
use lib.Dec.{ltb}
use Rattle.code.specs.Check.{check_of}
use Rattle.refusals.specs.Stages.{registers_of}
use Rattle.refusals.specs.declared.Answer.{Answer}
use Rattle.flow.specs.Set.{bit}
use Rattle.flow.specs.Flow.{Least}
use Rattle.flow.specs.Sweep.{strays}
use Rattle.flow.proofs.Bits.{bit_lt}
use Rattle.steps.specs.Code.{flow}
use Rattle.rows.specs.Route.{route_start}
use Rattle.needed.specs.Path.{Needs}
use Rattle.needed.specs.Answers.{upto_of}
use Rattle.needed.proofs.Rows.{needs_row, row_needs}
use Rattle.answers.proofs.Alone.{one_needed}
use Rattle.exported.specs.Settles.{Settles}
use Rattle.exported.specs.Calls.{Marks, NeededCall, MarksBeyond, Lists, KeptCall}
use Rattle.exported.specs.Told.{Truth, start_at, row_left}
use Rattle.exported.proofs.Writing.{both, told_refusal, told_beyond, told_truth}
use Rattle.exported.proofs.Kept.{kept_holds}

pub needed_settles : (w : List ℕ) (regs k q : ℕ) → Settles (NeededCall w regs k q) (MarksBeyond w)
needed_settles w regs k q =
    record {
      one = λ b r r' a a' x y. let (e, f, g) = one_needed w regs k q b.seen b.todo r r' a.seen a'.seen a.todo a'.todo x y in (e, both f g);
      refusal = λ b r a x h. told_refusal w (upto_of (registers_of (check_of w) regs) k) (Needs (flow regs w) q k) b r a x h;
      beyond = λ b r a x. told_beyond w (upto_of (registers_of (check_of w) regs) k) (Needs (flow regs w) q k) b r a x;
    }

pub needed_truth : (w : List ℕ) (regs k q : ℕ) (b : Marks) (r : Answer) (a : Marks) → NeededCall w regs k q b r a → r.refusal ≡ 0
    → Truth (Needs (flow regs w) q k) r
needed_truth w regs k q b r a x z = told_truth w (upto_of (registers_of (check_of w) regs) k) (Needs (flow regs w) q k) b r a x z

-- the forced wide route begins at 0, and stays there
pub wide_zero : (bits regs : ℕ) (w : List ℕ) → start_at bits true regs w ≡ 0
unfolding route_start
wide_zero bits regs w = go (ltb 0 (strays (flow regs w) 0))
  where
    go : (t : Bool) → cond {A = ℕ} t 0 0 ≡ 0
    go true = refl
    go false = refl

pub needed_bit : (bits : ℕ) (w : List ℕ) (regs : ℕ) (tries : List ℕ) (wide : Bool) (b : Lists) (r : Answer) (a : Lists) → KeptCall bits w regs tries wide b r a
    → r.refusal ≡ 0 → start_at bits wide regs w ≡ 0
    → (k q : ℕ) (m : Marks) (s : Answer) (m' : Marks) → NeededCall w regs k q m s m' → s.refusal ≡ 0 → bit (row_left bits regs w a k) q ≡ s.first
needed_bit bits w regs tries wide b r a x z h k q m s m' y z' = go (needed_truth w regs k q m s m' y z')
  where
    least : Least (flow regs w) 0 (row_left bits regs w a)
    least = subst (λ (n : ℕ). Least (flow regs w) n (row_left bits regs w a)) h (kept_holds bits w regs tries wide b r a x z).least

    none : (Needs (flow regs w) q k → ⊥) → Dec (0 < bit (row_left bits regs w a k) q) → bit (row_left bits regs w a k) q ≡ 0
    none n (yes l) = absurd (n (row_needs (flow regs w) q (row_left bits regs w a) least (λ k. refl) k l))
    none n (no l) = omega arith

    go : Truth (Needs (flow regs w) q k) s → bit (row_left bits regs w a k) q ≡ s.first
    go (inl (e, n)) = omega (arith, e, needs_row (flow regs w) q (row_left bits regs w a) least n, bit_lt (row_left bits regs w a k) q)
    go (inr (e, n)) = none n (dec_lt 0 (bit (row_left bits regs w a k) q)) ∙ sym e
