-- `lists::list_set` meets its contract. Assumes nothing.
use borrow.Author.Rules.{rules}
use mathlib.Core.Path.{◌≡◌}
use mathlib.Core.List.{List}
use Prim.Native.Nat.{ℕ, ◌+◌, ◌*◌, ◌^◌, ◌≤◌, ◌<◌}
use native.Mathlib.Omega.{arith}
use lib.ListN.{length}
use Rattle.flow.specs.Listed.{listed}
use Rattle.flow.specs.Inner.{Listing}
use Rattle.sets.proofs.Nums.{within_base}
use Rattle.lists.proofs.Walks.{listings, listings_room, listings_more}
use Rattle.lists.proofs.list_set.Goals as goal

-- what a word asks at its base is asked at x × j, where x is the count of bits
asked_at : (bits j x word n len : ℕ) → x ≡ bits → (bits * j ≤ 1024) × (word < 2 ^ bits) × (n + length (listed bits (bits * j) word) ≤ len)
    → (x * j ≤ 1024) × (word < 2 ^ bits) × (n + length (listed bits (x * j) word) ≤ len)
asked_at bits j x word n len e h = rw e h

-- what is listed at x × j is listed at a word's base, where x is the count of bits
listed_at : (bits j x word : ℕ) (old : List ℕ) (m : ℕ) (out : List ℕ) (n : ℕ) → Listing (listed bits (x * j) word) old m out n → x ≡ bits
    → Listing (listed bits (bits * j) word) old m out n
listed_at bits j x word old m out n h e = rw e at h

pub loop-j-init : goal.loop-j-init
loop-j-init g c = search (rules, listings)

pub list_word-n-requires : goal.list_word-n-requires
list_word-n-requires g c = asked_at _ _ _ _ _ _ (omega arith) (rw c.word.ensures (
  within_base _ _ _ g.met.W.Word.width (omega (arith, c.loop-j-test.true, c.requires.0)),
  c.sized.ensures.1 c.loop-j.j,
  listings_room _ _ _ _ _ _ _ _ c.loop-j.invariant _ c.loop-j-test.true c.requires.0 c.sized.ensures.0 c.sized.ensures.1,
))

pub loop-j-preserved : goal.loop-j-preserved
loop-j-preserved g c =
    listings_more _ _ _ _ _ _ _ _ c.loop-j.invariant _ c.loop-j-test.true c.requires.0 c.sized.ensures.0 c.sized.ensures.1 _ _
    (rw c.word.ensures at (listed_at g.W.Word.BITS c.loop-j.j _ _ _ _ _ _ c.list_word-n.ensures (omega arith)))

pub shape_of-out : goal.shape_of-out
shape_of-out g c = search (rules, listings)

pub returns : goal.returns
returns g c = search (rules, listings)
