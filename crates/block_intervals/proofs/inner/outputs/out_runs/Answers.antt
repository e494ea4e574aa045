-- `block_intervals::inner::outputs::out_runs` meets its contract. The loop's invariant: the runs so far, with those of the outputs left, make the whole.
use Rattle.block_intervals.proofs.LiveOutputCases.{output-cases}
use Rattle.block_intervals.proofs.inner.outputs.out_runs.Goals as goal

pub loop-left-init : goal.loop-left-init
loop-left-init c = search output-cases

pub overflow_cast-output : goal.overflow_cast-output
overflow_cast-output c = search output-cases

pub overflow_add-net : goal.overflow_add-net
overflow_add-net c = search output-cases

pub offset_bounds-offsets-output : goal.offset_bounds-offsets-output
offset_bounds-offsets-output c = search output-cases

pub bounds-offsets-output : goal.bounds-offsets-output
bounds-offsets-output c = search output-cases

pub offset_bounds-spans-net : goal.offset_bounds-spans-net
offset_bounds-spans-net c = search output-cases

pub bounds-spans-net : goal.bounds-spans-net
bounds-spans-net c = search output-cases

pub overflow_add-net-in-loop-left : goal.overflow_add-net-in-loop-left
overflow_add-net-in-loop-left c = search output-cases

pub offset_bounds-spans-net-in-loop-left : goal.offset_bounds-spans-net-in-loop-left
offset_bounds-spans-net-in-loop-left c = search output-cases

pub bounds-spans-net-in-loop-left : goal.bounds-spans-net-in-loop-left
bounds-spans-net-in-loop-left c = search output-cases

pub overflow_add-net-in-loop-left-2 : goal.overflow_add-net-in-loop-left-2
overflow_add-net-in-loop-left-2 c = search output-cases

pub offset_bounds-spans-net-in-loop-left-2 : goal.offset_bounds-spans-net-in-loop-left-2
offset_bounds-spans-net-in-loop-left-2 c = search output-cases

pub bounds-spans-net-in-loop-left-2 : goal.bounds-spans-net-in-loop-left-2
bounds-spans-net-in-loop-left-2 c = search output-cases

pub overflow_add-output : goal.overflow_add-output
overflow_add-output c = search output-cases

pub offset_bounds-offsets-output-in-loop-left : goal.offset_bounds-offsets-output-in-loop-left
offset_bounds-offsets-output-in-loop-left c = search output-cases

pub bounds-offsets-output-in-loop-left : goal.bounds-offsets-output-in-loop-left
bounds-offsets-output-in-loop-left c = search output-cases

pub overflow_add-spans : goal.overflow_add-spans
overflow_add-spans c = search output-cases

pub append_shifted-requires : goal.append_shifted-requires
append_shifted-requires c = record {
  room = search output-cases;
  from_le_to = (search output-cases, search output-cases, search output-cases);
  sound = search output-cases;
}

pub returns-in_err-count : goal.returns-in_err-count
returns-in_err-count c = rw c.from_residual.ensures (search (c.in_err-count.was, output-cases))

pub overflow_sub-left : goal.overflow_sub-left
overflow_sub-left c = search output-cases

pub loop-left-smaller : goal.loop-left-smaller
loop-left-smaller c = search output-cases

pub loop-left-preserved : goal.loop-left-preserved
loop-left-preserved c = search (c.in_ok-count.was, output-cases)

pub shape_of-words : goal.shape_of-words
shape_of-words c = search output-cases

pub returns : goal.returns
returns c = search output-cases
