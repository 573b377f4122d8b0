-- `put_number` meets its contract: a number of several digits is its tenth and one digit more; the measure is the number.
use Rattle.list_decimal.proofs.+put_number.Given as goal

abbrev pub decreases-put_number : goal.decreases-put_number
decreases-put_number l = l.n
