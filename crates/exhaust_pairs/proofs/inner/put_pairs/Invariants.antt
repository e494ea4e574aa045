-- `exhaust_pairs::inner::put_pairs` meets its contract. The invariant: the words hold the pairs with the V2 counted so far.
use Rattle.model.proofs.Prelude.{◌-◌}
use Rattle.exhaust_pairs.proofs.HeldPairLaws.{HeldSoFar}
use Rattle.exhaust_pairs.proofs.inner.put_pairs.Given as goal

abbrev pub invariant-loop-second : goal.invariant-loop-second
invariant-loop-second l =
    HeldSoFar l.first l.count l.vectors l.pairs l.second
