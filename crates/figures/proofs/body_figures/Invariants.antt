-- `figures::body_figures` meets its contract. Assumes nothing.
use mathlib.Core.Path.{◌≡◌}
use Rattle.groups.specs.Groups.{figures_of}
use Rattle.figures.specs.Figures.{levels_to}
use Rattle.figures.proofs.body_figures.Given as goal

abbrev pub invariant-loop-k : goal.invariant-loop-k
invariant-loop-k l = l.f ≡ figures_of 0 (levels_to l.code l.offsets l.k)
