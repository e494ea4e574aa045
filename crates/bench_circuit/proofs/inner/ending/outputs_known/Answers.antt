-- `bench_circuit::inner::ending::outputs_known` meets its contract: the outputs that are left decide.
use Rattle.model.proofs.Prelude.{◌≤◌, ◌<◌, ◌+◌, ◌-◌, ◌*◌, ◌≡◌, arith, rules}
use Rattle.std.proofs.Math.Nat.{sub-add-eq}
use Rattle.bench_circuit.proofs.EndLaws.{outs-again, outs-stop, outs-end}
use Rattle.bench_circuit.proofs.inner.ending.outputs_known.Goals as goal

pub returns-then-nets-net : goal.returns-then-nets-net
returns-then-nets-net c =
    let more : 0 < c.args.output_count - c.loop-k.k = omega arith in
    search (outs-stop, rules)

pub loop-k-preserved : goal.loop-k-preserved
loop-k-preserved c =
    let k = c.loop-k.k in
    let more : 0 < c.args.output_count - k = omega arith in
    let at : 2 * (k + 1) ≡ 2 * k + 2 = omega arith in
    rw (sub-add-eq c.args.output_count k 1, at) (search (outs-again, rules))

pub returns : goal.returns
returns c =
    let none : c.args.output_count - c.loop-k.k ≤ 0 = omega arith in
    search (outs-end, rules)
