-- `block_intervals::inner::listed_spans` meets its contract: the runs of the listed nets, counted with those of the inputs.
use Rattle.model.proofs.Prelude.{length-set, arith}
use Rattle.block_intervals.proofs.ListedLaws.{listed-spans, listed-full, listed-over, listed-fits, listed-cases}
use Rattle.block_intervals.proofs.inner.listed_spans.Goals as goal

pub bounds-words-1 : goal.bounds-words-1
bounds-words-1 c =
    omega (arith, length-set c.args.words.now 0 1, c.requires.at-list.room)

pub net_spans-requires : goal.net_spans-requires
net_spans-requires c = search listed-cases

pub over_working-requires : goal.over_working-requires
over_working-requires c = search (c.in_ok-total.was, listed-cases)

pub shape_of-words-then-over_working : goal.shape_of-words-then-over_working
shape_of-words-then-over_working c = search listed-cases

pub returns-then-over_working : goal.returns-then-over_working
returns-then-over_working c =
    let made = c.net_spans.ensures in
    (listed-spans made c.requires, λ K outs a. listed-over made a c.in_ok-total.was c.over_working.ensures c.if-over_working.true)

pub returns-in_err-total : goal.returns-in_err-total
returns-in_err-total c =
    let made = c.net_spans.ensures in
    rw c.from_residual.ensures (listed-spans made c.requires, λ K outs a. listed-full made a c.in_err-total.was)

pub shape_of-words : goal.shape_of-words
shape_of-words c = search listed-cases

pub returns : goal.returns
returns c =
    let made = c.net_spans.ensures in
    (listed-spans made c.requires, λ K outs a. listed-fits made a c.in_ok-total.was c.over_working.ensures c.if-over_working.false)
