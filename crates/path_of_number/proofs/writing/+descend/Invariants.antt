-- `path_of_number::writing::descend` meets its contract: its measure is the net, and each call is at a lower one.
use Rattle.path_of_number.proofs.writing.+descend.Given as goal

abbrev pub decreases-descend : goal.decreases-descend
decreases-descend l = l.net
