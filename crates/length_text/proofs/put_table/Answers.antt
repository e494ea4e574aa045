-- `length_text::put_table` meets its contract: the head, a line for each length that has a path, the sums; nothing where the buffer is too short.
use Rattle.model.proofs.Prelude.{rules}
use Rattle.text_buffer.proofs.WrittenLaws.{first-bytes, no_room}
use Rattle.length_text.proofs.TableCases.{name-short, table-written}
use Rattle.length_text.proofs.put_table.Goals as goal

pub returns-then-out-lt-TABLE_BYTES-clause-written : goal.returns-then-out-lt-TABLE_BYTES-clause-written
returns-then-out-lt-TABLE_BYTES-clause-written c = search (no_room, rules)

pub returns-then-out-lt-TABLE_BYTES-clause-out_after : goal.returns-then-out-lt-TABLE_BYTES-clause-out_after
returns-then-out-lt-TABLE_BYTES-clause-out_after c =
    first-bytes {out = c.args.out.now} {out' = c.args.out.now} {r = 0} (search (no_room, rules))

pub put_row-requires : goal.put_row-requires
put_row-requires c = (search rules, search (name-short, rules))

pub returns-clause-written : goal.returns-clause-written
returns-clause-written c = search (table-written, rules)

pub returns-clause-out_after : goal.returns-clause-out_after
returns-clause-out_after c = first-bytes {out = c.args.out.now} (search (table-written, rules))
