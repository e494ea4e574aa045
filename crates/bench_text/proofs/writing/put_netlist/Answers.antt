-- `bench_text::writing::put_netlist` meets its contract: part by part.
use Rattle.model.proofs.Prelude.{rules}
use Rattle.bench_text.proofs.NetlistFileCases.{file-room, file-inputs, file-gates, file-outputs, file-first, file-second, file-few, room-lines, room-inputs, room-gates, file-written}
use Rattle.bench_text.proofs.writing.put_netlist.Goals as goal

pub put_lines-after-requires : goal.put_lines-after-requires
put_lines-after-requires c = search (file-room, file-few, room-lines, rules)

pub put_outputs-next-requires : goal.put_outputs-next-requires
put_outputs-next-requires c = search (file-inputs, file-outputs, file-first, room-inputs, rules)

pub returns : goal.returns
returns c = search (file-written, rules)

pub put_outputs-requires-clause-n_in_bounds : goal.put_outputs-requires-clause-n_in_bounds
put_outputs-requires-clause-n_in_bounds c = search (file-room, file-inputs, file-gates, file-outputs, file-first, file-second, file-few, room-lines, room-inputs, room-gates, file-written, rules)

pub put_outputs-requires-clause-room_for : goal.put_outputs-requires-clause-room_for
put_outputs-requires-clause-room_for c = search (file-room, file-inputs, file-gates, file-outputs, file-first, file-second, file-few, room-lines, room-inputs, room-gates, file-written, rules)
