-- The figures of a group of bodies, told from the list of all levels, and two groups joined (document 02, wish 12). Assumes nothing.
use Rattle.std.specs.Prelude.{ℕ, ◌+◌, ◌-◌, max, Bool, true, false, cond, not, ◌&&◌, ◌||◌, List, [], ◌∷◌, eqb, ltb, length}
use Rattle.groups.specs.declared.Figures.{Figures}
use Rattle.std.specs.declared.result.Result.{Result}
use Rattle.std.specs.declared.result.Result.TheVariants.{Ok, Err}
use Rattle.groups.specs.declared.FiguresRefusal.{FiguresRefusal}
use Rattle.groups.specs.declared.FiguresRefusal.TheVariants.{Over}
use Rattle.groups.specs.declared.Total.TheVariants.{Bodies, Levels, Kept, Body}

-- the figures after a call, or why it is refused
abbrev pub FiguresAnswer : Type 0
FiguresAnswer = Result Figures FiguresRefusal

-- a level that was met: its body, its position, and how long its list is
pub record Met : Type 0 where
  pub body : ℕ
  pub at : ℕ
  pub len : ℕ

-- the level of body b at k, whose list has n registers
abbrev pub met : ℕ → ℕ → ℕ → Met
met b k n = record { body = b; at = k; len = n }

-- kept registers: the sum of the list lengths
unfoldable pub sum_of : List Met → ℕ
sum_of [] = 0
sum_of (m ∷ ms) = m.len + sum_of ms

-- the length of the longest list, 0 where there is no level
unfoldable pub longest_of : List Met → ℕ
longest_of [] = 0
longest_of (m ∷ ms) = max m.len (longest_of ms)

-- the first with a list of n
unfoldable pub first_at : ℕ → List Met → Met
first_at n [] = met 0 0 0
first_at n (m ∷ ms) = cond (eqb m.len n) m (first_at n ms)

-- some level was met
abbrev pub any : List Met → Bool
any [] = false
any (m ∷ ms) = true

-- the figures of b bodies with these levels, in order; the mean list length is the pair of kept and levels
unfoldable pub figures_of : ℕ → List Met → Figures
figures_of b ms = record {
  bodies = b;
  levels = length ms;
  kept = sum_of ms;
  longest = longest_of ms;
  found = any ms;
  body = (first_at (longest_of ms) ms).body;
  at = (first_at (longest_of ms) ms).at;
}

-- whether the later group's longest list is reported: the earlier has no level, or none so long
unfoldable pub better_of : Figures → Figures → Bool
better_of f g = g.found && (not f.found || ltb f.longest g.longest)

-- the figures of two groups as those of one, f the earlier; a body of the later moves up by the earlier's bodies
unfoldable pub join_of : Figures → Figures → Figures
join_of f g =
    let t = better_of f g in
    record {
      bodies = f.bodies + g.bodies;
      levels = f.levels + g.levels;
      kept = f.kept + g.kept;
      longest = cond t g.longest f.longest;
      found = f.found || g.found;
      body = cond t (f.bodies + g.body) f.body;
      at = cond t g.at f.at;
    }

-- the largest number of 64 bits
abbrev pub most : ℕ
most = 18446744073709551615

-- two groups joined, or 13 and the first total that would pass 64 bits: 1 bodies, 2 levels, 3 kept registers; 4 the body's number, moved up
unfoldable pub sums_of : Figures → Figures → FiguresAnswer
sums_of f g =
    cond (ltb (most - f.bodies) g.bodies) (Err (Over Bodies))
    (cond (ltb (most - f.levels) g.levels) (Err (Over Levels))
    (cond (ltb (most - f.kept) g.kept) (Err (Over Kept))
    (cond (ltb (most - f.bodies) g.body) (Err (Over Body))
    (Ok (join_of f g)))))

-- body numbers moved up
unfoldable pub moved : ℕ → List Met → List Met
moved n [] = []
moved n (m ∷ ms) = met (n + m.body) m.at m.len ∷ moved n ms
