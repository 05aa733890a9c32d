-- The sweeps of the word route, step by step. Assumes nothing.
use mathlib.Core.Path.{◌≡◌, refl, sym, ap, ◌∙◌, subst}
use mathlib.Core.Bool.{Bool, true, false, cond, ◌||◌}
use mathlib.Core.List.{List, [], ◌++◌}
use Prim.Native.Nat.{ℕ, suc, ◌+◌, ◌-◌, ◌^◌, ◌≤◌, ◌<◌, max}
use native.Mathlib.Omega.{arith}
use lib.Bits.{bit_or}
use lib.ListN.{length, replicate}
use Rattle.laws.proofs.Branch.{or_assoc}
use Rattle.code.specs.Ins.{ins_at, count}
use Rattle.code.specs.Inner.{Valid}
use Rattle.roles.specs.Sets.{only}
use Rattle.flow.specs.Set.{minus}
use Rattle.flow.specs.Flow.{joined, row_at}
use Rattle.flow.specs.Sweep.{row, below}
use Rattle.flow.specs.Inner.{Put}
use Rattle.flow.specs.Kept.{handlers_of}
use Rattle.flow.proofs.Loop.{going_start, lost_first, lost_again, lost_less}
use Rattle.steps.specs.Level.{first_level}
use Rattle.steps.specs.Code.{set_of, used_at, given_at, after_at}
use Rattle.sets.proofs.Sets.{joined_append}
use Rattle.rows.proofs.Sweeps.{level_le}
use Rattle.nested.specs.Raising.{stranded, raises_at, raising, mays}
use Rattle.std.specs.declared.option.Option.{Option}
use Rattle.std.specs.declared.option.Option.TheVariants.{Some, None}
use Rattle.near.specs.declared.Went.{Went}
use Rattle.near.specs.Inner.{more_of, more_flow, WentAt, Down, here, on, Stretch, Covered}
use Rattle.near.proofs.Near.{or_swap, Covers, covers_next}
use Rattle.sweeps.proofs.Sweeps.{onto_is, below_same, Between, Turn, to_go, hi, near_long, go_on}

-- ---- the word route's step

module _ (all : Bool) (regs : ℕ) (w tries : List ℕ) (out k : ℕ) (rows : List ℕ) (e : out ≡ joined (row rows) (handlers_of (count w) k tries)) where
  -- what is joined whole are the rows of where k may leave for
  more_is : more_of all out (ins_at w k) rows k ≡ joined (row rows) (raises_at (mays all w) w tries k)
  unfolding joined more_of raises_at
  more_is = ap (bit_or (joined (row rows) (only (stranded (ins_at w k)) (k + 1)))) (go (mays all w k))
      ∙ sym (joined_append (row rows) (only (stranded (ins_at w k)) (k + 1)) (cond (mays all w k) (handlers_of (count w) k tries) []))
    where
      go : (t : Bool) → cond t out 0 ≡ joined (row rows) (cond t (handlers_of (count w) k tries) [])
      go true = e
      go false = refl

  row_more : row_at (more_flow (more_of all out (ins_at w k) rows k) regs w) (row rows) k ≡ row_at (raising (mays all w) regs w tries) (row rows) k
  unfolding row_at
  row_more = or_swap u m r ∙ ap (bit_or (bit_or u r)) more_is ∙ sym (onto_is (row rows) (raises_at (mays all w) w tries k) (bit_or u r))
    where
      u : ℕ
      u = set_of regs (used_at w k)

      m : ℕ
      m = more_of all out (ins_at w k) rows k

      r : ℕ
      r = minus (joined (row rows) (after_at w k)) (set_of regs (given_at w k))

  put_more : (new : List ℕ) (changed : Bool) → Put (more_flow (more_of all out (ins_at w k) rows k) regs w) rows k new changed
      → Put (raising (mays all w) regs w tries) rows k new changed
  put_more new changed p = record { stored = rw row_more at p.stored; told = rw row_more at p.told }

-- ---- the sweep

pub near_starts : (all : Bool) (w : List ℕ) (regs : ℕ) (tries : List ℕ) (start len : ℕ) (rows : List ℕ) → Valid w → start ≡ first_level w
    → rows ≡ replicate len 0 → len ≡ suc (count w) → Between all w regs tries (first_level w) start 0 0 rows
near_starts all w regs tries start len rows v e h l =
    record { few = v.few; going = rw (e, h, l) (going_start (raising (mays all w) regs w tries) (first_level w) (level_le w)) }

module _ {all : Bool} {w : List ℕ} {regs : ℕ} {tries : List ℕ} {from start full lost lost₀ : ℕ} {rows₀ : List ℕ} where
  pub near_reach : {rows : List ℕ} {changed back : Bool} {k : ℕ} → Turn all w regs tries from start full lost lost₀ rows₀ rows changed back k
      → count w < length rows
  near_reach p = omega (arith, near_long p)

  -- a step of the word route
  module _ {rows : List ℕ} {changed back : Bool} {k : ℕ} (p : Turn all w regs tries from start full lost lost₀ rows₀ rows changed back k) (l : start < k) where
    strayed : {u : Bool} → below start (after_at w (k - 1)) ≡ u → below start (raises_at (mays all w) w tries (k - 1) ++ after_at w (k - 1)) ≡ u
    strayed z = below_same all w tries (k - 1) start (omega (arith, hi p)) (omega arith) ∙ z

    module _ {out low : ℕ} (c : Covered (count w) tries rows out low (k - 1)) {new : List ℕ} {changed' back' : Bool}
        (went : WentAt all out regs w start (k - 1) rows new changed' back') where
      near_step : Turn all w regs tries from start full lost lost₀ rows₀ new (changed' || changed) (back' || back) (k - 1)
      near_step = go_on p l (strayed went.inside) (put_more all regs w tries out (k - 1) rows c.is new changed' went.put)
          (went.turns ∙ ap (λ (x : ℕ). below x (after_at w (k - 1))) one)
        where
          one : suc (k - 1) ≡ k
          one = omega arith

      near_covers : Covers (count w) tries new out low (k - 1)
      near_covers = subst (λ (r : List ℕ). Covers (count w) tries r out low (k - 1)) (sym went.put.stored)
          (covers_next (count w) tries rows out low k (omega arith) (hi p) _ c)

    -- left from inside
    module _ (z : below start (after_at w (k - 1)) ≡ true) where
      few : lost + 1 < 2 ^ 32
      few = omega (arith, lost_first (raising (mays all w) regs w tries) from start full lost rows₀ p.going rows changed back k p.part l (strayed z))

      again : {cleared : List ℕ} {len : ℕ} → cleared ≡ replicate len 0 → len ≡ suc (count w) → Between all w regs tries from 0 full (lost + 1) cleared
      again e n = record {
        few = p.few;
        going = rw (e, n) (lost_again (raising (mays all w) regs w tries) from start full lost rows₀ p.going rows changed back k p.part l (strayed z));
      }

      less : to_go all w regs tries from full (lost + 1) < to_go all w regs tries from full lost₀
      unfolding to_go
      less = rw (← p.same) (lost_less (raising (mays all w) regs w tries) from start full lost rows₀ p.going rows changed back k p.part l (strayed z))

  -- ---- a stretch of positions with the same tries around them

  module _ {rows : List ℕ} {changed back : Bool} {k : ℕ} (p : Turn all w regs tries from start full lost lost₀ rows₀ rows changed back k) (l : start < k)
      {out low : ℕ} (c : Covered (count w) tries rows out low (k - 1)) where
    next : {i : ℕ} {old new : List ℕ} (c₁ b₁ c₂ b₂ : Bool)
        → Turn all w regs tries from start full lost lost₀ rows₀ old (c₁ || changed) (b₁ || back) i × Covers (count w) tries old out low i → low < i → start < i
        → WentAt all out regs w start (i - 1) old new c₂ b₂
        → Turn all w regs tries from start full lost lost₀ rows₀ new ((c₂ || c₁) || changed) ((b₂ || b₁) || back) (i - 1)
        × Covers (count w) tries new out low (i - 1)
    next c₁ b₁ c₂ b₂ q x y went =
        (rw (or_assoc c₂ c₁ changed, or_assoc b₂ b₁ back) (near_step q.0 y (q.1.at x) went), near_covers q.0 y (q.1.at x) went)

    turned : {j : ℕ} {new : List ℕ} {c' b' : Bool} → Down all out regs w start k rows j new c' b' → low ≤ j → start ≤ j
        → Turn all w regs tries from start full lost lost₀ rows₀ new (c' || changed) (b' || back) j × Covers (count w) tries new out low j
    turned here x y = (p, record { at = λ _. c })
    turned (on {changed = c₁} {back = b₁} {changed' = c₂} {back' = b₂} d pos went) x y =
        next c₁ b₁ c₂ b₂ (turned d (omega arith) (omega arith)) (omega arith) (omega arith) went

    module _ {bottom : ℕ} (e : bottom ≡ max start low) where
      pub stretch_needs : (start ≤ bottom) × (bottom ≤ k) × (k ≤ count w)
      stretch_needs = (omega (arith, e), omega (arith, e, c.le), hi p)

      pub stretch_less : bottom - start < k - start
      stretch_less = omega (arith, e, c.le)

      module _ {new : List ℕ} {r : Option Went} (s : Stretch all out regs w start k bottom rows new r) where
        pub stretch_on : {q : Went} → r ≡ Some q → Turn all w regs tries from start full lost lost₀ rows₀ new (q.changed || changed) (q.back || back) bottom
        stretch_on {q} z = (turned (s.through q z) (omega (arith, e)) (omega (arith, e))).0

        module _ (z : r ≡ None) where
          above : bottom < (s.strays z).k
          above = (s.strays z).above

          q : Turn all w regs tries from start full lost lost₀ rows₀ (s.strays z).old ((s.strays z).changed || changed) ((s.strays z).back || back)
              (s.strays z).k
          q = (turned (s.strays z).down (omega (arith, e, above)) (omega (arith, e, above))).0

          pub left_few : lost + 1 < 2 ^ 32
          left_few = few q (omega (arith, e, above)) (s.strays z).met

          pub left_again : {cleared : List ℕ} → cleared ≡ replicate (length new) 0 → length new ≡ length rows
              → Between all w regs tries from 0 full (lost + 1) cleared
          left_again h n = again q (omega (arith, e, above)) (s.strays z).met h (n ∙ near_long p)

          pub left_less : to_go all w regs tries from full (lost + 1) < to_go all w regs tries from full lost₀
          left_less = less q (omega (arith, e, above)) (s.strays z).met
