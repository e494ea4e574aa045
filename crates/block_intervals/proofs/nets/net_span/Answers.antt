-- `block_intervals::nets::net_span` meets its contract.
use Rattle.block_intervals.proofs.SpanCases.{low-place, low-ready, low-before, span-cases}
use Rattle.block_intervals.proofs.nets.net_span.Goals as goal

pub overflow_cast-pin : goal.overflow_cast-pin
overflow_cast-pin c = search span-cases

pub overflow_add-first : goal.overflow_add-first
overflow_add-first c = search span-cases

pub one_pin-count-requires : goal.one_pin-count-requires
one_pin-count-requires c =
    let r = c.requires in
    let pin = low-ready r in
    record {
      net_bound = (r.is_net, low-place r, pin.is_net, pin.fits);
      at_bound = (pin.ordered, low-before r);
    }

pub returns-then-byte-eq0 : goal.returns-then-byte-eq0
returns-then-byte-eq0 c = search span-cases

pub overflow_add-after : goal.overflow_add-after
overflow_add-after c = search span-cases

pub returns : goal.returns
returns c = search (c.in_ok-count.was, span-cases)

pub returns-in_err-count : goal.returns-in_err-count
returns-in_err-count c = rw c.from_residual.ensures (search (c.in_err-count.was, span-cases))
