-- `report_claim_text::room_beside` meets its contract: ten lines at the least.
use native.Mathlib.Omega.{arith}
use Rattle.report_claim_text.proofs.ShownCases.{room-left, room-least}
use Rattle.report_claim_text.proofs.room_beside.Goals as goal

pub returns-then-others-lt10 : goal.returns-then-others-lt10
returns-then-others-lt10 c = room-left c.args.others (omega arith)

pub returns : goal.returns
returns c = room-least c.args.others (omega arith)
