-- `block_intervals::inner::sections::past_whole` meets its contract: all live outputs are left to ask, or those that the first held run need not hold wholly.
use Rattle.model.proofs.Prelude.{◌-◌, ◌^◌}
use lib.Count.{count_trailing_zeros}
use Rattle.block_intervals.proofs.WholeOutputLaws.{asked-rest, asked-cases}
use Rattle.block_intervals.proofs.inner.sections.past_whole.Goals as goal

pub returns-then-first-gt63 : goal.returns-then-first-gt63
returns-then-first-gt63 c = search asked-cases

pub overflow_cast-first : goal.overflow_cast-first
overflow_cast-first c = search asked-cases

pub overflow_shr-whole : goal.overflow_shr-whole
overflow_shr-whole c = search asked-cases

pub returns-then-whole-first-ne0 : goal.returns-then-whole-first-ne0
returns-then-whole-first-ne0 c = search asked-cases

pub overflow_cast-first-2 : goal.overflow_cast-first-2
overflow_cast-first-2 c = search asked-cases

pub overflow_shr-outs : goal.overflow_shr-outs
overflow_shr-outs c = search asked-cases

pub returns-then-outs-first-eq0 : goal.returns-then-outs-first-eq0
returns-then-outs-first-eq0 c = search asked-cases

pub returns-then-held-lt2 : goal.returns-then-held-lt2
returns-then-held-lt2 c = search asked-cases

pub bounds-held-0 : goal.bounds-held-0
bounds-held-0 c = search asked-cases

pub returns-then-held-gt1 : goal.returns-then-held-gt1
returns-then-held-gt1 c = search asked-cases

pub bounds-held-1 : goal.bounds-held-1
bounds-held-1 c = search asked-cases

pub overflow_cast-first-3 : goal.overflow_cast-first-3
overflow_cast-first-3 c = search asked-cases

pub overflow_add-first : goal.overflow_add-first
overflow_add-first c = search asked-cases

pub offset_bounds-offsets-first : goal.offset_bounds-offsets-first
offset_bounds-offsets-first c = search asked-cases

pub bounds-offsets-first : goal.bounds-offsets-first
bounds-offsets-first c = search asked-cases

pub returns-then-held-offsets : goal.returns-then-held-offsets
returns-then-held-offsets c = search asked-cases

pub returns : goal.returns
returns c =
    let reached = c.if-held-offsets.false in
    let from_one = c.if-held-gt1.false in
    let some-held = c.if-held-lt2.false in
    asked-rest c.args.whole (count_trailing_zeros 64 ((2 ^ 64 - 1) - c.args.whole)) c.well_formed.1.0.1 c.well_formed.1.1.0.1 c.if-whole-first-ne0.false c.if-outs-first-eq0.false
    some-held from_one reached
