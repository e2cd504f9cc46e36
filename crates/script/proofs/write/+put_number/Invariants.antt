-- The measure is the number: a tenth is less. Assumes nothing.
use Rattle.script.proofs.write.+put_number.Given as goal

abbrev pub decreases-put_number : goal.decreases-put_number
decreases-put_number l = l.n
