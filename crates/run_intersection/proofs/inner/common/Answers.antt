-- `run_intersection::inner::common` meets its contract: what is put so far, then what the runs that are left have in common, is what the lists have in common.
use Rattle.run_intersection.proofs.MeetCases.{meet-cases}
use Rattle.run_intersection.proofs.inner.common.Goals as goal

pub loop-i-init : goal.loop-i-init
loop-i-init c = search meet-cases

pub shape_of-words-then-n-j : goal.shape_of-words-then-n-j
shape_of-words-then-n-j c = search meet-cases

pub returns-then-n-j : goal.returns-then-n-j
returns-then-n-j c = search meet-cases

pub overflow_mul-a_high : goal.overflow_mul-a_high
overflow_mul-a_high c = search meet-cases

pub overflow_add-a_high : goal.overflow_add-a_high
overflow_add-a_high c = search meet-cases

pub offset_bounds-a-i : goal.offset_bounds-a-i
offset_bounds-a-i c = search meet-cases

pub bounds-a-i : goal.bounds-a-i
bounds-a-i c = search meet-cases

pub overflow_mul-b_high : goal.overflow_mul-b_high
overflow_mul-b_high c = search meet-cases

pub overflow_add-b_high : goal.overflow_add-b_high
overflow_add-b_high c = search meet-cases

pub offset_bounds-b-j : goal.offset_bounds-b-j
offset_bounds-b-j c = search meet-cases

pub bounds-b-j : goal.bounds-b-j
bounds-b-j c = search meet-cases

pub overflow_mul-i : goal.overflow_mul-i
overflow_mul-i c = search meet-cases

pub offset_bounds-a-i-in-loop-i : goal.offset_bounds-a-i-in-loop-i
offset_bounds-a-i-in-loop-i c = search meet-cases

pub bounds-a-i-in-loop-i : goal.bounds-a-i-in-loop-i
bounds-a-i-in-loop-i c = search meet-cases

pub overflow_mul-j : goal.overflow_mul-j
overflow_mul-j c = search meet-cases

pub offset_bounds-b-j-in-loop-i : goal.offset_bounds-b-j-in-loop-i
offset_bounds-b-j-in-loop-i c = search meet-cases

pub bounds-b-j-in-loop-i : goal.bounds-b-j-in-loop-i
bounds-b-j-in-loop-i c = search meet-cases

pub put_overlap-k-requires : goal.put_overlap-k-requires
put_overlap-k-requires c = search meet-cases

pub overflow_add-i : goal.overflow_add-i
overflow_add-i c = search meet-cases

pub loop-i-smaller-then-a_high-b_high : goal.loop-i-smaller-then-a_high-b_high
loop-i-smaller-then-a_high-b_high c = search meet-cases

pub loop-i-preserved-then-a_high-b_high : goal.loop-i-preserved-then-a_high-b_high
loop-i-preserved-then-a_high-b_high c = search meet-cases

pub overflow_add-j : goal.overflow_add-j
overflow_add-j c = search meet-cases

pub loop-i-smaller : goal.loop-i-smaller
loop-i-smaller c = search meet-cases

pub loop-i-preserved : goal.loop-i-preserved
loop-i-preserved c = search meet-cases

pub shape_of-words : goal.shape_of-words
shape_of-words c = search meet-cases

pub returns : goal.returns
returns c = search meet-cases
