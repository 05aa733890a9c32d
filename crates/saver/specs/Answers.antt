-- What the exported saver calls answer, by the refusals of document 02. Assumes nothing.
use Rattle.refusals.specs.Answers.{answer_of, refusal_of}
use Rattle.refusals.specs.declared.Answer.{Answer}
use Rattle.std.specs.declared.result.Result.TheVariants.{Ok, Err}
use Rattle.saver.specs.declared.SaverRefusal.{SaverRefusal}
use Rattle.saver.specs.declared.SaverRefusal.TheVariants.{Registers, Listed, Full, Nothing}
use Rattle.saver.specs.Saver.{SaverAnswer}

-- 3 and the registers, 14 and the place in the list, 8 and the free words, 9
abbrev pub saver_refused : SaverRefusal → Answer
saver_refused (Registers n) = refusal_of 3 n 0
saver_refused (Listed i) = refusal_of 14 i 0
saver_refused (Full n) = refusal_of 8 n 0
saver_refused Nothing = refusal_of 9 0 0

-- the words in use, or a refusal
abbrev pub saver_told : SaverAnswer → Answer
saver_told (Ok n) = answer_of n 0 0 0
saver_told (Err r) = saver_refused r
