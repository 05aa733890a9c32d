-- What the exported call answers, by the refusals of document 02. Assumes nothing.
use Rattle.refusals.specs.Answers.{answer_of, refusal_of, refused_of}
use Rattle.refusals.specs.declared.Answer.{Answer}
use Rattle.std.specs.declared.result.Result.TheVariants.{Ok, Err}
use Rattle.trace.specs.declared.Wrong.TheVariants.{Check, Filler, Move}
use Rattle.day.specs.declared.DayRefusal.{DayRefusal}
use Rattle.day.specs.declared.DayRefusal.TheVariants.{Call, Trace}
use Rattle.day.specs.Day.{DayAnswer}

-- the refusal of what was lent, 10 and 11 with the block, 12 with the step
abbrev pub day_refused : DayRefusal → Answer
day_refused (Call r) = refused_of r
day_refused (Trace (Check b)) = refusal_of 10 b 0
day_refused (Trace (Filler b)) = refusal_of 11 b 0
day_refused (Trace (Move s)) = refusal_of 12 s 0

-- steps and levels met, or a refusal
abbrev pub day_told : DayAnswer → Answer
day_told (Ok x) = answer_of x.0 x.1 0 0
day_told (Err r) = day_refused r
