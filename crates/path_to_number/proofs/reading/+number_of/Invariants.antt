-- `path_to_number::reading::number_of` meets its contract: its measure is the net, and each call is at a lower one.
use Rattle.path_to_number.proofs.reading.+number_of.Given as goal

abbrev pub decreases-number_of : goal.decreases-number_of
decreases-number_of l = l.net
