-- `bench_outputs::inner::put_outputs` meets its contract: the names that are left, written from here on, give the whole.
use Rattle.model.proofs.Prelude.{◌≤◌, ◌<◌, ◌+◌, ◌-◌, ◌*◌, ◌≡◌, add-zero, arith, rules}
use Rattle.std.proofs.Math.Nat.{sub-zero, sub-add-eq}
use Rattle.bench_outputs.proofs.OutputFileLaws.{outputs-start, outputs-same, outputs-end, outputs-room, outputs-again}
use Rattle.bench_outputs.proofs.inner.put_outputs.Goals as goal

pub loop-k-init : goal.loop-k-init
loop-k-init c = rw (sub-zero c.args.n, add-zero c.args.first) (search (outputs-start, rules))

pub put_output-write-requires : goal.put_output-write-requires
put_output-write-requires c =
    let more : 0 < c.args.n - c.loop-k.k = omega arith in
    search (outputs-room, rules)

pub shape_of-out : goal.shape_of-out
shape_of-out c = search (outputs-same, rules)

pub loop-k-preserved : goal.loop-k-preserved
loop-k-preserved c =
    let k = c.loop-k.k in
    let more : 0 < c.args.n - k = omega arith in
    let at : 2 * (k + 1) ≡ 2 * k + 2 = omega arith in
    let net : c.args.first + (k + 1) ≡ c.args.first + k + 1 = omega arith in
    rw (sub-add-eq c.args.n k 1, at, net) (search (outputs-again, rules))

pub returns : goal.returns
returns c =
    let none : c.args.n - c.loop-k.k ≤ 0 = omega arith in
    search (outputs-end, rules)
