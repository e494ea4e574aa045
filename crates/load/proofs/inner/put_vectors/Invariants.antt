-- `load::inner::put_vectors` meets its contract. The invariant: what is written, and the records of the vectors that are left, drawn and written from
-- here on, give the whole.
use Rattle.model.proofs.Prelude.{◌-◌, ◌*◌}
use Rattle.load.proofs.LoadCallCases.{Gathering}
use Rattle.load.proofs.inner.put_vectors.Given as goal

abbrev pub invariant-loop-k : goal.invariant-loop-k
invariant-loop-k l =
    Gathering l.inputs l.state l.vectors l.size l.initial.records l.records l.last (l.k * l.size) (l.vectors - l.k)
