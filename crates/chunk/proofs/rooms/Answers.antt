-- `chunk::rooms` meets its contract: where there is room for any chunk, there is room for this one. Assumes nothing.
use Rattle.std.proofs.Common.{◌≡◌, ◌∙◌, ℕ, true, arith, refl, sym, List}
use Rattle.std.proofs.lemmas.Bool.Decides.{nat_tests}
use Rattle.refusals.specs.Stages.{Checked}
use Rattle.std.specs.declared.result.Result.TheVariants.{Ok, Err}
use Rattle.laws.proofs.Many.{many_few}
use Rattle.chunk.specs.Chunk.{chunk_count}
use Rattle.chunk.specs.Check.{tally_of, rooms_of}
use Rattle.chunk.specs.Inner.{ample}
use Rattle.chunk.specs.declared.Counts.{Counts}
use Rattle.chunk.specs.declared.Lens.{Lens}
use Rattle.chunk.proofs.rooms.Goals as goal

at_ease : (v : Checked) (w : List ℕ) (c : Counts) (l : Lens) → ample (chunk_count w) c l ≡ true → v ≡ rooms_of v w c l
unfolding ample rooms_of tally_of
at_ease (Err r) w c l e = refl
at_ease (Ok n) w c l e = grind (arith, nat_tests, many_few)

pub returns-then-is_ample : goal.returns-then-is_ample
returns-then-is_ample c = at_ease _ _ _ _ (sym c.is_ample.ensures ∙ c.if-is_ample.true)
