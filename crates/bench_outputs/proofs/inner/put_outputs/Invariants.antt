-- `bench_outputs::inner::put_outputs` meets its contract: the names that are left, written from here on, give the whole.
use Rattle.model.proofs.Prelude.{◌+◌, ◌-◌, ◌*◌}
use Rattle.bench_outputs.proofs.OutputFileLaws.{OutputsLeft}
use Rattle.bench_outputs.proofs.inner.put_outputs.Given as goal

abbrev pub invariant-loop-k : goal.invariant-loop-k
invariant-loop-k l =
    OutputsLeft l.initial.out l.to_place l.words l.n l.first l.outputs l.output_count l.out l.write (l.n - l.k) (2 * l.k) (l.first + l.k)
