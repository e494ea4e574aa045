-- `exhaust::pairs::apply_all_pairs` meets its contract. The invariant, `TakingPairs`: the pairs of the V1 that are left, from the store so far, give the whole.
use Rattle.exhaust.proofs.PairCases.{TakingPairs}
use Rattle.exhaust.proofs.pairs.apply_all_pairs.Given as goal

abbrev pub invariant-loop-first : goal.invariant-loop-first
invariant-loop-first l =
    TakingPairs l.table l.offsets l.numbers l.initial.rising_lists l.initial.falling_lists l.initial.store l.initial.work l.rising_lists l.falling_lists l.store l.work l.first
