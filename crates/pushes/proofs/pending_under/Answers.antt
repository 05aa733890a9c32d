-- `pushes::pending_under` meets its contract: its code is the rule. Assumes nothing.
use mathlib.Core.Path.{◌≡◌, refl, sym}
use mathlib.Core.Logic.{◌⊎◌, inl, inr}
use mathlib.Core.Bool.{Bool, true, false, ◌&&◌, ◌||◌}
use mathlib.Core.List.{[], ◌∷◌}
use Prim.Native.Nat.{ℕ, zero, suc, ◌≤◌}
use native.Mathlib.Omega.{arith}
use borrow.Author.Tests.{le-leb, ne_eqb}
use lib.Dec.{eqb, leb}
use lib.ListN.{take}
use lib.Seq.{take_all}
use Rattle.laws.specs.Page.{among}
use Rattle.ops.specs.Op.{CallR, CallGlobalR, CallMethodR, PushRegs}
use Rattle.code.specs.declared.Ins.{Ins}
use Rattle.pushes.specs.Pushes.{pending}
use Rattle.pushes.proofs.pending_under.Goals as goal
use Rattle.pushes.proofs.pending_under.Goals.{in-159, in_default}

or_no : (b : Bool) → b || false ≡ b
or_no true = refl
or_no false = refl

in_turn : (p q s : Bool) → p || q || s ≡ p || (q || (s || false))
in_turn true q s = refl
in_turn false true s = refl
in_turn false false s = sym (or_no s)

all_three : (n r a b c : ℕ) → 3 ≤ n → leb 1 n && eqb r a || leb 2 n && eqb r b || leb 3 n && eqb r c ≡ among r (take n (a ∷ b ∷ c ∷ []))
all_three n r a b c h =
    rw (take_all n (a ∷ b ∷ c ∷ []) h, le-leb 1 n (omega arith), le-leb 2 n (omega arith), le-leb 3 n h)
    (in_turn (eqb r a) (eqb r b) (eqb r c))

-- r is one of the first x of three registers
among_first : (x r a b c : ℕ) → leb 1 x && eqb r a || leb 2 x && eqb r b || leb 3 x && eqb r c ≡ among r (take x (a ∷ b ∷ c ∷ []))
among_first zero r a b c = refl
among_first (suc zero) r a b c = or_no (eqb r a || false)
among_first (suc (suc zero)) r a b c = in_turn (eqb r a) (eqb r b) false
among_first (suc (suc (suc x))) r a b c = all_three (suc (suc (suc x))) r a b c (omega arith)

module _ (o : ℕ) (b : Bool) where
  any_is : b ≡ true → (o ≡ CallR) ⊎ ((o ≡ CallMethodR) ⊎ (o ≡ CallGlobalR)) → b ≡ eqb o CallR || eqb o CallGlobalR || eqb o CallMethodR
  any_is e h = grind (arith, h, e)

  none_is : b ≡ false → ((o ≡ CallR) ⊎ ((o ≡ CallMethodR) ⊎ (o ≡ CallGlobalR)) → ⊥) → b ≡ eqb o CallR || eqb o CallGlobalR || eqb o CallMethodR
  none_is e h = rw (ne_eqb o CallR (λ x. h (inl x)), ne_eqb o CallGlobalR (λ x. h (inr (inr x))), ne_eqb o CallMethodR (λ x. h (inr (inl x)))) e

is : (c p : Ins) (n r : ℕ) (b : Bool) → b ≡ eqb c.op CallR || eqb c.op CallGlobalR || eqb c.op CallMethodR
    → b && (eqb p.op PushRegs && eqb p.x n)
    && (leb 1 p.x && eqb r p.a || leb 2 p.x && eqb r p.b || leb 3 p.x && eqb r p.c)
    ≡ pending c p n r
unfolding pending
is c p n r b e = rw (e, among_first p.x r p.a p.b p.c)

pub returns : goal.returns
returns c = elim c.match-matches.branch [
  | in-159 w ↦ is _ _ _ _ _ (any_is _ _ w.matches-is w.in-159.is)
  | in_default w ↦ is _ _ _ _ _ (none_is _ _ w.matches-is w.in_default.in_default-own.rest.1)
]
