-- Each number that is answered is a width.
use Rattle.line.specs.Width.{four, six, eight, sixteen}
use Rattle.replay_line.proofs.width.Goals as goal

pub returns-in-4 : goal.returns-in-4
returns-in-4 c = four

pub returns-in-6 : goal.returns-in-6
returns-in-6 c = six

pub returns-in-8 : goal.returns-in-8
returns-in-8 c = eight

pub returns-in_default : goal.returns-in_default
returns-in_default c = sixteen
