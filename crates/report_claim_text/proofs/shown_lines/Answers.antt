-- `report_claim_text::shown_lines` meets its contract: all lines, or as many as there is room for.
use Rattle.report_claim_text.proofs.ShownCases.{shown-all, shown-fewer, shown-room}
use Rattle.report_claim_text.proofs.shown_lines.Goals as goal

pub returns-then-all : goal.returns-then-all
returns-then-all c = shown-all c.args.lines c.args.others c.args.all c.if-all.true

pub returns-then-lines-room : goal.returns-then-lines-room
returns-then-lines-room c =
    shown-fewer c.args.lines c.args.others c.args.all c.room_beside-room.result c.room_beside-room.ensures c.if-all.false c.if-lines-room.true

pub returns : goal.returns
returns c =
    shown-room c.args.lines c.args.others c.args.all c.room_beside-room.result c.room_beside-room.ensures c.if-all.false c.if-lines-room.false
