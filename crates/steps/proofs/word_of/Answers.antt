-- `steps::word_of` meets its contract: its arms are the page's rows. Assumes nothing.
use Rattle.roles.specs.Kinds.{page}
use Rattle.steps.specs.Inner.{packed}
use Rattle.steps.proofs.Worded.{word_arm, word_rest}
use Rattle.steps.proofs.word_of.Goals as goal

pub returns-in-98 : goal.returns-in-98
unfolding page packed
returns-in-98 c = word_arm 0 _ c.in-98.is

pub returns-in-105 : goal.returns-in-105
unfolding page packed
returns-in-105 c = word_arm 1 _ c.in-105.is

pub returns-in-151 : goal.returns-in-151
unfolding page packed
returns-in-151 c = word_arm 2 _ c.in-151.is

pub returns-in-107 : goal.returns-in-107
unfolding page packed
returns-in-107 c = word_arm 3 _ c.in-107.is

pub returns-in-10 : goal.returns-in-10
unfolding page packed
returns-in-10 c = word_arm 4 _ c.in-10.is

pub returns-in-59 : goal.returns-in-59
unfolding page packed
returns-in-59 c = word_arm 5 _ c.in-59.is

pub returns-in-143 : goal.returns-in-143
unfolding page packed
returns-in-143 c = word_arm 6 _ c.in-143.is

pub returns-in-117 : goal.returns-in-117
unfolding page packed
returns-in-117 c = word_arm 7 _ c.in-117.is

pub returns-in-183 : goal.returns-in-183
unfolding page packed
returns-in-183 c = word_arm 8 _ c.in-183.is

pub returns-in-57 : goal.returns-in-57
unfolding page packed
returns-in-57 c = word_arm 9 _ c.in-57.is

pub returns-in-61 : goal.returns-in-61
unfolding page packed
returns-in-61 c = word_arm 10 _ c.in-61.is

pub returns-in-123 : goal.returns-in-123
unfolding page packed
returns-in-123 c = word_arm 11 _ c.in-123.is

pub returns-in-111 : goal.returns-in-111
unfolding page packed
returns-in-111 c = word_arm 12 _ c.in-111.is

pub returns-in-169 : goal.returns-in-169
unfolding page packed
returns-in-169 c = word_arm 13 _ c.in-169.is

pub returns-in-159 : goal.returns-in-159
unfolding page packed
returns-in-159 c = word_arm 14 _ c.in-159.is

pub returns-in-161 : goal.returns-in-161
unfolding page packed
returns-in-161 c = word_arm 15 _ c.in-161.is

pub returns-in-128 : goal.returns-in-128
unfolding page packed
returns-in-128 c = word_arm 16 _ c.in-128.is

pub returns-in-165 : goal.returns-in-165
unfolding page packed
returns-in-165 c = word_arm 17 _ c.in-165.is

pub returns-in-167 : goal.returns-in-167
unfolding page packed
returns-in-167 c = word_arm 18 _ c.in-167.is

pub returns-in-135 : goal.returns-in-135
unfolding page packed
returns-in-135 c = word_arm 19 _ c.in-135.is

pub returns-in-145 : goal.returns-in-145
unfolding page packed
returns-in-145 c = word_arm 20 _ c.in-145.is

pub returns-in-166 : goal.returns-in-166
unfolding page packed
returns-in-166 c = word_arm 21 _ c.in-166.is

pub returns-in_default : goal.returns-in_default
unfolding page packed
returns-in_default c = word_rest _ c.in_default.in_default-own.rest
