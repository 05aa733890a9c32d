-- The word route's step, and the tries around the positions that it comes down through. Assumes nothing.
use mathlib.Core.Path.{◌≡◌, refl, sym, ap, ap₂, ◌∙◌, subst}
use mathlib.Core.Bool.{Bool, true, false, cond, ◌&&◌, ◌||◌, true≢false}
use mathlib.Core.List.{List, [], ◌∷◌}
use Prim.Native.Nat.{ℕ, suc, ◌+◌, ◌-◌, ◌*◌, ◌/◌, ◌%◌, ◌≤◌, ◌<◌, min, max}
use native.Mathlib.Decide.{dec_lt}
use native.Mathlib.Numerals.{add-one}
use native.Mathlib.Omega.{arith}
use borrow.Author.Tests.{lt-ltb, le-ltb, ne_eqb}
use lib.Bits.{bit_or, or_zero_l, or_zero_r}
use lib.Dec.{ltb, eqb}
use lib.ListN.{length, get_or, drop, set, length-set, length-drop}
use lib.Seq.{drop-cons, get_or-set_other}
use Rattle.ops.specs.Op.{ReturnR, Jump, UnpackR, WithEnter, WithExit, CallGlobalR, CallR, CallMethodR, CallSpreadR, JumpIfFalseR, GetAttrR, Call}
use Rattle.code.specs.Ins.{ins_at, count, dunder}
use Rattle.code.specs.Inner.{Valid}
use Rattle.code.proofs.Rules.{op_known_lem}
use Rattle.code.specs.declared.Ins.{Ins}
use Rattle.roles.specs.Kinds.{page, rule_of}
use Rattle.roles.specs.Sets.{only, cases, case_of}
use Rattle.flow.specs.Set.{minus}
use Rattle.flow.specs.Flow.{joined, row_at}
use Rattle.flow.specs.Sweep.{row, below}
use Rattle.flow.specs.Inner.{Put}
use Rattle.flow.specs.Kept.{handlers_of}
use Rattle.flow.proofs.Bits.{bit_ext, or_bit}
use Rattle.flow.proofs.Rows.{joined_cong}
use Rattle.flow.proofs.Tries.{handlers_past}
use Rattle.steps.specs.Level.{is_level}
use Rattle.steps.specs.Code.{set_of, after_at}
use Rattle.steps.specs.Inner.{used_of, given_of, after_of, StepAt, goes_before, calm_of, calm_step, step_flow}
use Rattle.steps.specs.declared.Step.{Step}
use Rattle.steps.proofs.Follows.{below_step}
use Rattle.steps.proofs.Told.{calm_step_lem}
use Rattle.sets.proofs.Sets.{or_assoc}
use Rattle.nested.specs.Raising.{stranded}
use Rattle.std.specs.declared.option.Option.{Option}
use Rattle.std.specs.declared.option.Option.TheVariants.{Some, None}
use Rattle.near.specs.declared.Went.{Went}
use Rattle.sweeps.proofs.Sweeps.{unmarked}
use Rattle.near.specs.Inner.{more_of, more_step, more_flow, WentAt, Down, here, on, Stretch, edge_of, lowest_of, Covered}

-- ---- a row in one word

pub or_swap : (a b c : ℕ) → bit_or (bit_or a b) c ≡ bit_or (bit_or a c) b
or_swap a b c = bit_ext (bit_or (bit_or a b) c) (bit_or (bit_or a c) b)
    (λ r. omega (arith, or_bit (bit_or a b) c r, or_bit a b r, or_bit (bit_or a c) b r, or_bit a c r))

-- the step's row with the registers `more` besides
pub row_with : (regs k : ℕ) (s : Step) (rows : List ℕ) (more x : ℕ) → x ≡ row_at (step_flow regs s) (row rows) k
    → bit_or x more ≡ row_at (more_step more regs s) (row rows) k
unfolding row_at
row_with regs k s rows more x e = ap (λ (y : ℕ). bit_or y more) e
    ∙ or_swap (set_of regs (used_of s)) (minus (joined (row rows) (after_of s k)) (set_of regs (given_of s))) more

-- ---- what is joined whole

module _ (all : Bool) (out : ℕ) (i : Ins) where
  module _ (rows : List ℕ) (k more : ℕ) (m : more ≡ cond (all || is_level i) out 0) where
    -- without the dunder mark nothing is stranded
    pub leaves_plain : i.marks / 2 % 2 ≡ 0 → more ≡ more_of all out i rows k
    unfolding joined more_of
    leaves_plain l = m ∙ sym (or_zero_l (cond (all || is_level i) out 0))
        ∙ ap (λ (t : Bool). bit_or (joined (row rows) (only t (k + 1))) (cond (all || is_level i) out 0)) (sym tidy)
      where
        tidy : stranded i ≡ false
        tidy = unmarked i (λ e. omega arith)

    pub leaves_past : (past : Bool) (next : ℕ) → past ≡ stranded i → next ≡ joined (row rows) (only past (k + 1)) → bit_or next more ≡ more_of all out i rows k
    unfolding more_of
    leaves_past past next e h = ap₂ bit_or (h ∙ ap (λ (t : Bool). joined (row rows) (only t (k + 1))) e) m

-- ---- what an opcode tells of levels

and_no : (t : Bool) → (t && false) ≡ false
and_no true = refl
and_no false = refl

-- an opcode that tells something else is another
other : (o c m : ℕ) → calm_of c ≡ m → (calm_of o ≡ m → ⊥) → eqb o c ≡ false
other o c m h n = ne_eqb o c (λ e. n (ap calm_of e ∙ h))

-- what writes a and reads b and c is a level by its mark alone
marked : (i : Ins) → calm_of i.op ≡ 13 → is_level i ≡ dunder i
unfolding is_level calm_of rule_of page case_of cases
marked i e = rw (
  other i.op CallGlobalR 64 refl (λ x. omega (arith, x, e)),
  other i.op CallR 64 refl (λ x. omega (arith, x, e)),
  other i.op CallMethodR 64 refl (λ x. omega (arith, x, e)),
  other i.op CallSpreadR 6 refl (λ x. omega (arith, x, e)),
  other i.op JumpIfFalseR 20 refl (λ x. omega (arith, x, e)),
  other i.op GetAttrR 5 refl (λ x. omega (arith, x, e)),
  other i.op Call 0 refl (λ x. omega (arith, x, e)),
)

-- an instruction of which the opcode tells all, and that goes on, is not stranded
tidy : (i : Ins) → calm_of i.op < 16 → stranded i ≡ false
unfolding calm_of rule_of page case_of cases
tidy i l = ap (λ (t : Bool). dunder i && t) rest ∙ and_no (dunder i)
  where
    rest : (let o = i.op in eqb o ReturnR || eqb o Jump || eqb o UnpackR || eqb o WithEnter || eqb o WithExit) ≡ false
    rest = rw (
      other i.op ReturnR 36 refl (λ x. omega (arith, x, l)),
      other i.op Jump 48 refl (λ x. omega (arith, x, l)),
      other i.op UnpackR 64 refl (λ x. omega (arith, x, l)),
      other i.op WithEnter 64 refl (λ x. omega (arith, x, l)),
      other i.op WithExit 64 refl (λ x. omega (arith, x, l)),
    )

pub by_mark : (i : Ins) (m : ℕ) (all : Bool) (out more : ℕ) → m ≡ calm_of i.op → m ≡ 13 → more ≡ cond (all || dunder i) out 0
    → more ≡ cond (all || is_level i) out 0
by_mark i m all out more e h x = x ∙ ap (λ (t : Bool). cond (all || t) out 0) (sym (marked i (sym e ∙ h)))

calm_more : (all : Bool) (out : ℕ) (i : Ins) (rows : List ℕ) (k : ℕ) → calm_of i.op < 16 → cond (all || is_level i) out 0 ≡ more_of all out i rows k
unfolding joined more_of
calm_more all out i rows k l = sym (or_zero_l (cond (all || is_level i) out 0))
    ∙ ap (λ (t : Bool). bit_or (joined (row rows) (only t (k + 1))) (cond (all || is_level i) out 0)) (sym (tidy i l))

-- ---- a step of the sweep

module _ (regs : ℕ) (w : List ℕ) (k : ℕ) (s : Step) (h : StepAt w k s) where
  row_same : (more : ℕ) (R : ℕ → ℕ) → row_at (more_step more regs s) R k ≡ row_at (more_flow more regs w) R k
  unfolding row_at
  row_same more R = rw (h.used, h.given, h.after)

  put_same : (more : ℕ) (rows new : List ℕ) (changed : Bool) → Put (more_step more regs s) rows k new changed → Put (more_flow more regs w) rows k new changed
  put_same more rows new changed p = record {
    stored = rw (row_same more (row rows)) at p.stored;
    told = rw (row_same more (row rows)) at p.told;
  }

  stray : (start : ℕ) → start ≤ k → (t : Bool) → t ≡ goes_before s start → t ≡ below start (after_at w k)
  stray start l t e = e ∙ below_step w k s start h (omega arith)

  -- found and stored
  went_on : (all : Bool) (out start : ℕ) (rows new : List ℕ) → start ≤ k → (t : Bool) → t ≡ goes_before s start → t ≡ false → (i : Ins) (more : ℕ)
      → i ≡ ins_at w k
      → more ≡ more_of all out i rows k → (changed back : Bool) → Put (more_step more regs s) rows k new changed → back ≡ goes_before s (suc k)
      → WentAt all out regs w start k rows new changed back
  went_on all out start rows new l t e z i more place m changed back p b = record {
    inside = sym (stray start l t e) ∙ z;
    put = subst (λ (y : ℕ). Put (more_flow y regs w) rows k new changed) (m ∙ ap (λ (j : Ins). more_of all out j rows k) place)
        (put_same more rows new changed p);
    turns = b ∙ below_step w k s (suc k) h (omega arith);
  }

none : Option Went → Bool
none None = true
none (Some p) = false

told : Went → Option Went → Went
told q None = q
told q (Some p) = p

-- ---- a sweep that has come down from `from` to k, and goes on to `low`

pub record Coming (all : Bool) (out regs : ℕ) (w : List ℕ) (start from low : ℕ) (rows₀ rows : List ℕ) (changed back : Bool) (k : ℕ) : Type 0 where
  pub down : Down all out regs w start from rows₀ k rows changed back
  pub lo : low ≤ k
  pub hi : k ≤ from
  pub long : length rows ≡ suc (count w)

module _ (all : Bool) (out regs : ℕ) (w : List ℕ) (start from low : ℕ) (rows₀ : List ℕ) where
  pub coming_start : low ≤ from → length rows₀ ≡ suc (count w) → Coming all out regs w start from low rows₀ rows₀ false false from
  coming_start l e = record { down = here; lo = l; hi = omega arith; long = e }

  module _ (rows : List ℕ) (changed back : Bool) (k : ℕ) (p : Coming all out regs w start from low rows₀ rows changed back k) where
    one : low < k → suc (k - 1) ≡ k
    one l = omega arith

    coming_on : low < k → (new : List ℕ) (changed' back' : Bool) → WentAt all out regs w start (k - 1) rows new changed' back'
        → Coming all out regs w start from low rows₀ new (changed' || changed) (back' || back) (k - 1)
    coming_on l new changed' back' went = record {
      down = on p.down (omega arith) went;
      lo = omega arith;
      hi = omega (arith, p.hi);
      long = ap length went.put.stored ∙ length-set rows (k - 1) _ ∙ p.long;
    }

    -- the opcode of accepted code is known
    pub known : low < k → from ≤ count w → Valid w → (i : Ins) → i ≡ ins_at w (k - 1) → i.op ≤ 190
    known l f v i e = rw e (op_known_lem (ins_at w (k - 1)) (k - 1) (ins_at w (k - 1 + 1)).op (v.kept (k - 1) (omega (arith, p.hi))))

    -- the opcode tells all, and that it goes on
    pub coming_calm : low < k → start ≤ low → (i : Ins) (m : ℕ) → i ≡ ins_at w (k - 1) → m ≡ calm_of i.op → m < 16 → (new : List ℕ) (changed' : Bool)
        → Put (more_step (cond (all || is_level i) out 0) regs (calm_step i m)) rows (k - 1) new changed'
        → Coming all out regs w start from low rows₀ new (changed' || changed) back (k - 1)
    coming_calm l b i m place told few new changed' put = coming_on l new changed' false
        (went_on regs w (k - 1) (calm_step i m) (calm_step_lem w (k - 1) m i place told few) all out start rows new (omega arith) false refl refl i _ place
        (calm_more all out i rows (k - 1) (omega (arith, told))) changed' false put refl)

    module _ (l : low < k) (b : start ≤ low) (s : Step) (h : StepAt w (k - 1) s) (t : Bool) (e : t ≡ goes_before s start) where
      pub coming_step : t ≡ false → (i : Ins) (more : ℕ) → i ≡ ins_at w (k - 1) → more ≡ more_of all out i rows (k - 1) → (new : List ℕ) (changed' back' : Bool)
          → Put (more_step more regs s) rows (k - 1) new changed' → back' ≡ goes_before s (k - 1 + 1)
          → Coming all out regs w start from low rows₀ new (changed' || changed) (back' || back) (k - 1)
      coming_step z i more place m new changed' back' put eb = coming_on l new changed' back'
          (went_on regs w (k - 1) s h all out start rows new (omega arith) t e z i more place m changed' back' put (eb ∙ ap (goes_before s) (add-one (k - 1))))

      -- left
      pub coming_left : t ≡ true → (new : List ℕ) → Stretch all out regs w start from low rows₀ new None
      unfolding none
      coming_left z new = record {
        strays = λ _. record {
          k = k;
          old = rows;
          changed = changed;
          back = back;
          down = p.down;
          above = l;
          met = sym (stray regs w (k - 1) s h start (omega arith) t e) ∙ z;
        };
        through = λ q y. absurd (true≢false (ap none y));
      }

    -- through
    pub coming_through : k ≤ low → Stretch all out regs w start from low rows₀ rows (Some (record { changed = changed; back = back }))
    unfolding none told
    coming_through l = record {
      strays = λ y. absurd (true≢false (sym (ap none y)));
      through = λ q y. subst (λ (x : Went). Down all out regs w start from rows₀ low rows x.changed x.back) (ap (told (record { changed = changed; back = back })) y)
          (rw (sym low_is) p.down);
    }
      where
        low_is : k ≡ low
        low_is = omega (arith, p.lo)

-- ---- a pass over the tries

split : (tries : List ℕ) (i : ℕ) → 2 * i + 1 < length tries
    → drop (2 * i) tries ≡ get_or tries (2 * i) 0 ∷ (get_or tries (2 * i + 1) 0 ∷ drop (2 * (i + 1)) tries)
split tries i l =
    drop-cons tries (2 * i) 0 (omega arith)
    ∙ ap (λ (x : ℕ). get_or tries (2 * i) 0 ∷ drop x tries) (sym (add-one (2 * i)))
    ∙ ap (λ (x : List ℕ). get_or tries (2 * i) 0 ∷ x)
    (drop-cons tries (2 * i + 1) 0 l ∙ ap (λ (x : ℕ). get_or tries (2 * i + 1) 0 ∷ drop x tries) two)
  where
    two : suc (2 * i + 1) ≡ 2 * (i + 1)
    two = omega arith

short : (tries : List ℕ) (i : ℕ) → length tries / 2 ≤ i → length (drop (2 * i) tries) ≤ 1
short tries i l = omega (arith, length-drop (2 * i) tries)

-- what is joined so far, with what the rest of the tries joins, is what all join
pub record Joining (n k : ℕ) (rows tries : List ℕ) (out i : ℕ) : Type 0 where
  pub is : bit_or out (joined (row rows) (handlers_of n k (drop (2 * i) tries))) ≡ joined (row rows) (handlers_of n k tries)

module _ (n k : ℕ) (rows tries : List ℕ) where
  pub joining_start : Joining n k rows tries 0 0
  joining_start = record { is = or_zero_l (joined (row rows) (handlers_of n k tries)) }

  module _ (out i : ℕ) (p : Joining n k rows tries out i) where
    pub joining_more : i < length tries / 2 → (b : Bool) → b ≡ ltb (get_or tries (2 * i) 0) k && ltb k (get_or tries (2 * i + 1) 0)
        → (t : ℕ) → t ≡ min (get_or tries (2 * i + 1) 0) n → (x : ℕ) → x ≡ joined (row rows) (only b t) → Joining n k rows tries (bit_or out x) (i + 1)
    unfolding joined handlers_of
    joining_more l b eb t et x ex = record {
      is = or_assoc out x (joined (row rows) rest)
          ∙ ap (bit_or out) (ap (λ (y : ℕ). bit_or y (joined (row rows) rest)) ex ∙ sym one)
          ∙ p.is;
    }
      where
        rest : List ℕ
        rest = handlers_of n k (drop (2 * (i + 1)) tries)

        with : (c : Bool) → joined (row rows) (cond c (t ∷ rest) rest) ≡ bit_or (joined (row rows) (only c t)) (joined (row rows) rest)
        with true = ap (λ (y : ℕ). bit_or y (joined (row rows) rest)) (sym (or_zero_r (row rows t)))
        with false = sym (or_zero_l (joined (row rows) rest))

        next : handlers_of n k (drop (2 * i) tries) ≡ cond b (t ∷ rest) rest
        next = ap (handlers_of n k) (split tries i (omega arith)) ∙ rw (← eb, ← et)

        one : joined (row rows) (handlers_of n k (drop (2 * i) tries)) ≡ bit_or (joined (row rows) (only b t)) (joined (row rows) rest)
        one = ap (joined (row rows)) next ∙ with b

    pub joining_end : length tries / 2 ≤ i → out ≡ joined (row rows) (handlers_of n k tries)
    unfolding joined handlers_of
    joining_end l = sym (or_zero_r out) ∙ ap (bit_or out) (sym (none_left (drop (2 * i) tries) (short tries i l))) ∙ p.is
      where
        none_left : (l : List ℕ) → length l ≤ 1 → joined (row rows) (handlers_of n k l) ≡ 0
        none_left [] h = refl
        none_left (x ∷ []) h = refl
        none_left (x ∷ (y ∷ l)) h = absurd (omega arith)

-- the highest edge so far, or of the rest of the tries, is that of all
pub record Lowering (k : ℕ) (tries : List ℕ) (low i : ℕ) : Type 0 where
  pub is : max low (lowest_of k (drop (2 * i) tries)) ≡ lowest_of k tries

module _ (k : ℕ) (tries : List ℕ) where
  pub lowering_start : Lowering k tries 0 0
  lowering_start = record { is = zero (lowest_of k tries) }
    where
      zero : (x : ℕ) → max 0 x ≡ x
      zero x = omega arith

  module _ (low i : ℕ) (p : Lowering k tries low i) where
    pub lowering_more : i < length tries / 2 → (e : ℕ) → e ≡ edge_of k (get_or tries (2 * i) 0) (get_or tries (2 * i + 1) 0) → (m : ℕ) → m ≡ max low e
        → Lowering k tries m (i + 1)
    unfolding lowest_of
    lowering_more l e ee m em = record { is = swap (lowest_of k (drop (2 * (i + 1)) tries)) ∙ ap (max low) (sym next) ∙ p.is }
      where
        next : lowest_of k (drop (2 * i) tries) ≡ max e (lowest_of k (drop (2 * (i + 1)) tries))
        next = ap (lowest_of k) (split tries i (omega arith)) ∙ rw (← ee)

        swap : (x : ℕ) → max m x ≡ max low (max e x)
        swap x = omega (arith, em)

    pub lowering_end : length tries / 2 ≤ i → low ≡ lowest_of k tries
    unfolding lowest_of
    lowering_end l = sym (ap (max low) (none_left (drop (2 * i) tries) (short tries i l)) ∙ nil low) ∙ p.is
      where
        none_left : (l : List ℕ) → length l ≤ 1 → lowest_of k l ≡ 0
        none_left [] h = refl
        none_left (x ∷ []) h = refl
        none_left (x ∷ (y ∷ l)) h = absurd (omega arith)

        nil : (x : ℕ) → max x 0 ≡ x
        nil x = omega arith

-- the edge of one try
module _ (k s h : ℕ) where
  pub edge_inside : k < h → s < k → s + 1 ≡ edge_of k s h
  edge_inside a b = sym (ap₂ (λ (x y : Bool). cond x (cond y (s + 1) 0) h) (lt-ltb k h a) (lt-ltb s k b))

  pub edge_before : k < h → k ≤ s → 0 ≡ edge_of k s h
  edge_before a b = sym (ap₂ (λ (x y : Bool). cond x (cond y (s + 1) 0) h) (lt-ltb k h a) (le-ltb s k b))

  pub edge_after : h ≤ k → h ≡ edge_of k s h
  edge_after a = sym (ap (λ (x : Bool). cond x (cond (ltb s k) (s + 1) 0) h) (le-ltb k h a))

-- ---- positions with the same tries around them

lowest_le : (k : ℕ) (tries : List ℕ) → lowest_of k tries ≤ k
unfolding lowest_of
lowest_le k [] = omega arith
lowest_le k (s ∷ []) = omega arith
lowest_le k (s ∷ (h ∷ tries)) = omega (arith, lowest_le k tries, go (dec_lt k h) (dec_lt s k))
  where
    go : Dec (k < h) → Dec (s < k) → edge_of k s h ≤ k
    go (yes a) (yes b) = subst (λ (x : ℕ). x ≤ k) (edge_inside k s h a b) (omega arith)
    go (yes a) (no b) = subst (λ (x : ℕ). x ≤ k) (edge_before k s h a (omega arith)) (omega arith)
    go (no a) d = subst (λ (x : ℕ). x ≤ k) (edge_after k s h (omega arith)) (omega arith)

lowest_same : (n k : ℕ) (tries : List ℕ) (j : ℕ) → lowest_of k tries ≤ j → j ≤ k → handlers_of n j tries ≡ handlers_of n k tries
unfolding lowest_of handlers_of
lowest_same n k [] j l m = refl
lowest_same n k (s ∷ []) j l m = refl
lowest_same n k (s ∷ (h ∷ tries)) j l m =
    ap₂ (λ (t : Bool) (r : List ℕ). cond t (min h n ∷ r) r) (go (dec_lt k h) (dec_lt s k)) (lowest_same n k tries j (omega arith) m)
  where
    go : Dec (k < h) → Dec (s < k) → (ltb s j && ltb j h) ≡ (ltb s k && ltb k h)
    go (yes a) (yes b) = ap₂ ◌&&◌ (lt-ltb s j (omega (arith, edge_inside k s h a b)) ∙ sym (lt-ltb s k b)) (lt-ltb j h (omega arith) ∙ sym (lt-ltb k h a))
    go (yes a) (no b) = ap (λ (t : Bool). t && ltb j h) (le-ltb s j (omega arith)) ∙ sym (ap (λ (t : Bool). t && ltb k h) (le-ltb s k (omega arith)))
    go (no a) d = ap (λ (t : Bool). ltb s j && t) (le-ltb j h (omega (arith, edge_after k s h (omega arith)))) ∙ and_no (ltb s j)
        ∙ sym (ap (λ (t : Bool). ltb s k && t) (le-ltb k h (omega arith)) ∙ and_no (ltb s k))

-- what covers k; so it is for k - 1, unless that is below `low`
pub record Covers (n : ℕ) (tries rows : List ℕ) (out low k : ℕ) : Type 0 where
  pub at : low < k → Covered n tries rows out low (k - 1)

module _ (n : ℕ) (tries rows : List ℕ) (out low k : ℕ) where
  pub covered_new : out ≡ joined (row rows) (handlers_of n k tries) → low ≡ lowest_of k tries → Covered n tries rows out low k
  covered_new e l = record {
    le = omega (arith, lowest_le k tries);
    same = λ j a b. lowest_same n k tries j (omega arith) b;
    is = e;
  }

  -- a row below the handlers is stored, and they stay as they were
  pub covers_next : 0 < k → k ≤ n → (v : ℕ) → Covered n tries rows out low (k - 1) → Covers n tries (set rows (k - 1) v) out low (k - 1)
  covers_next pos hi v c = record {
    at = λ l. record {
      le = omega arith;
      same = λ j a b. c.same j a (omega arith) ∙ sym (c.same (k - 1 - 1) (omega arith) (omega arith));
      is = c.is
          ∙ joined_cong (row rows) (row (set rows (k - 1) v)) (handlers_of n (k - 1) tries)
          (λ s m. sym (get_or-set_other rows (k - 1) s v 0 (λ e. omega (arith, (handlers_past n (k - 1) (omega arith) tries s m).0))))
          ∙ ap (joined (row (set rows (k - 1) v))) (sym (c.same (k - 1 - 1) (omega arith) (omega arith)));
    };
  }
