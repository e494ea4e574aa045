-- `run_union::inner::append_shifted` meets its contract: the first run is added, then the rest.
use Rattle.model.proofs.Prelude.{rules}
use Rattle.run_union.proofs.ShiftedCases.{nothing-more, first_run, first-full, rest-room, rest-sound, all-added}
use Rattle.run_union.proofs.inner.append_shifted.Goals as goal

pub returns-then-to-from : goal.returns-then-to-from
returns-then-to-from c = search (nothing-more, rules)

pub returns : goal.returns
returns c = search (c.in_ok-n.was, all-added, rules)

pub returns-in_err-n : goal.returns-in_err-n
returns-in_err-n c = rw c.from_residual.ensures (search (c.in_err-n.was, first-full, rules))

pub append_rest-requires-clause-sound : goal.append_rest-requires-clause-sound
append_rest-requires-clause-sound c = search (c.in_ok-n.was, nothing-more, first_run, first-full, rest-room, rest-sound, all-added, rules)
