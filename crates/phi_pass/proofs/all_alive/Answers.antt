-- `phi_pass::all_alive` meets its contract. Assumes nothing.
use Rattle.std.proofs.Common.{rules, ◌≡◌, ◌<◌, ◌↔◌, ℕ, zero, suc, Bool, true, false, length, arith, refl, sym}
use Rattle.std.proofs.iter.runs.Made.{chains}
use Rattle.laws.specs.All.{every}
use Rattle.laws.proofs.Counting.{every_at}
use Rattle.positions.specs.Remap.{alive}
use Rattle.phi_pass.proofs.all_alive.Goals as goal

module _ (f : ℕ → Bool) where
  every_true : (n : ℕ) → ((k : ℕ) → k < n → f k ≡ true) → every f n ≡ true
  unfolding every
  every_true zero h = refl
  every_true (suc n) h = rw (every_true n (λ k l. h k (omega arith)), h n (omega arith))

  every_when : (n : ℕ) (r : Bool) → (r ≡ true) ↔ ((k : ℕ) → k < n → f k ≡ true) → r ≡ every f n
  every_when n r h = same r (every f n) (λ e. every_true n (h.0 e)) (λ e. h.1 (λ k l. every_at f n k e l))
    where
      same : (a b : Bool) → (a ≡ true → b ≡ true) → (b ≡ true → a ≡ true) → a ≡ b
      same true b p q = sym (p refl)
      same false true p q = q refl
      same false false p q = refl

pub returns : goal.returns
returns c = every_when (alive c.args.dead.now) (length c.args.dead.now) c.all.result (search (rules, chains))
