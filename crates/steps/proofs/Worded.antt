-- `kinds` by the word of an opcode: each byte is what the rule says. Assumes nothing.
use mathlib.Core.Path.{◌≡◌, refl, sym, ap, ◌∙◌}
use mathlib.Core.Bool.{Bool, true, false, not, cond, ◌&&◌}
use mathlib.Core.List.{List, [], ◌∷◌}
use Prim.Native.Nat.{ℕ, zero, suc, ◌*◌, ◌/◌, ◌%◌, ◌^◌, ◌≤◌, ◌<◌, min}
use native.Mathlib.Omega.{arith}
use types.Run.{OneOf}
use borrow.Author.Tests.{eqb-true, ltb-true, ltb-false}
use lib.Dec.{eqb, ltb}
use Rattle.laws.specs.Page.{Row, among, look}
use Rattle.laws.proofs.Branch.{and-true}
use Rattle.laws.proofs.Keys.{sorted, row, apart, named, unnamed, Rest}
use Rattle.ops.specs.Op.{Raise}
use Rattle.code.specs.declared.Ins.{Ins}
use Rattle.roles.specs.Kinds.{none, Rule, Bits, says, page, rule_of, kinds_of}
use Rattle.roles.specs.Roles.{role_table}
use Rattle.roles.specs.Inner.{EntrySays}
use Rattle.roles.proofs.ByTable.{read, past, raised, other}
use Rattle.steps.specs.Inner.{packed, word_of}

-- ---- the arms of `word_of` are the page's rows

pages_apart : apart (Bits none) page ≡ true
unfolding page
pages_apart = refl

pub word_arm : (j o : ℕ) → OneOf (sorted (row (Bits none) page j).ops) o → packed (row (Bits none) page j).rule ≡ word_of o
unfolding word_of rule_of
word_arm j o e = ap packed (named (Bits none) page pages_apart j o e)

pub word_rest : (o : ℕ) → Rest (Bits none) o (Unit {0}) page → packed (Bits none) ≡ word_of o
unfolding word_of rule_of
word_rest o e = ap packed (unnamed (Bits none) page o e)

-- ---- every rule of the page fits five bytes

abbrev byte : Rule → ℕ → ℕ
byte r m = packed r / 2 ^ (8 * m) % 256

says_byte : Rule → ℕ → Bool
says_byte r m = eqb (byte r m) (says r m 0)

fits : Rule → Bool
fits r = says_byte r 0 && (says_byte r 1 && (says_byte r 2 && (says_byte r 3 && says_byte r 4)))

all : (Rule → Bool) → List (Row Rule) → Bool
all f [] = true
all f (r ∷ rs) = f r.rule && all f rs

looked : (f : Rule → Bool) (d : Rule) (o : ℕ) (rs : List (Row Rule)) → f d ≡ true → all f rs ≡ true → f (look d o rs) ≡ true
unfolding all
looked f d o [] h t = h
looked f d o (r ∷ rs) h t = let p = and-true (f r.rule) (all f rs) t in pick (among o r.ops) p.0 (looked f d o rs h p.1)
  where
    pick : (b : Bool) → f r.rule ≡ true → f (look d o rs) ≡ true → f (cond b r.rule (look d o rs)) ≡ true
    pick true p q = p
    pick false p q = q

rule_fits : (o : ℕ) → fits (rule_of o) ≡ true
unfolding rule_of page all fits says_byte packed
rule_fits o = looked fits (Bits none) o page refl refl

byte_of : (r : Rule) (m : ℕ) → fits r ≡ true → m < 5 → says_byte r m ≡ true
unfolding fits
byte_of r zero t h = (and-true (says_byte r 0) _ t).0
byte_of r (suc zero) t h = (and-true (says_byte r 1) _ (and-true (says_byte r 0) _ t).1).0
byte_of r (suc (suc zero)) t h = (and-true (says_byte r 2) _ (and-true (says_byte r 1) _ (and-true (says_byte r 0) _ t).1).1).0
byte_of r (suc (suc (suc zero))) t h = (and-true (says_byte r 3) _ (and-true (says_byte r 2) _ (and-true (says_byte r 1) _ (and-true (says_byte r 0) _ t).1).1
    ).1).0
byte_of r (suc (suc (suc (suc zero)))) t h = (and-true (says_byte r 3) _
    (and-true (says_byte r 2) _ (and-true (says_byte r 1) _ (and-true (says_byte r 0) _ t).1).1).1).1
byte_of r (suc (suc (suc (suc (suc m))))) t h = absurd (omega arith)

-- ---- the byte at x is `kinds`, but for Raise with an a

module _ (i : Ins) (m w k : ℕ) (clips : m ≡ 8 * min i.x 4) (e : w ≡ word_of i.op) (is : k ≡ w / 2 ^ m % 256) where
  x : ℕ
  x = min i.x 4

  said : k ≡ says (rule_of i.op) x 0
  unfolding word_of says_byte x
  said = is ∙ rw (e, clips) (eqb-true _ _ (byte_of (rule_of i.op) (min i.x 4) (rule_fits i.op) (omega arith)))

  entry : i.op < 256 → EntrySays i.op x k
  unfolding x
  entry h = let r = read role_table refl i.op (min i.x 4) h (omega arith) in rw (said ∙ sym r.zero) r

  far : 256 ≤ i.op → k ≡ none
  unfolding kinds_of
  far h = said ∙ sym (past (record { op = i.op; marks = i.marks; a = 0; b = i.b; c = i.c; x = x }) h)

  raises : (t : Bool) → ltb i.op 256 ≡ t → eqb i.op Raise && not (eqb i.a 0) ≡ true → none ≡ kinds_of i
  unfolding x
  raises true l h = raised i (min i.x 4) k refl (entry (ltb-true _ _ l)) h
  raises false l h = past i (ltb-false _ _ l)

  others : (t : Bool) → ltb i.op 256 ≡ t → eqb i.op Raise && not (eqb i.a 0) ≡ false → k ≡ kinds_of i
  unfolding x
  others true l h = other i (min i.x 4) k refl (entry (ltb-true _ _ l)) h
  others false l h = far (ltb-false _ _ l) ∙ past i (ltb-false _ _ l)

  pub word_other : eqb i.op Raise && not (eqb i.a 0) ≡ false → k ≡ kinds_of i
  word_other h = others (ltb i.op 256) refl h

pub word_raised : (i : Ins) → eqb i.op Raise && not (eqb i.a 0) ≡ true → none ≡ kinds_of i
word_raised i h = raises i (8 * min i.x 4) (word_of i.op) (word_of i.op / 2 ^ (8 * min i.x 4) % 256) refl refl refl (ltb i.op 256) refl h
