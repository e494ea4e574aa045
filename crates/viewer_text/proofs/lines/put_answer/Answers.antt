-- `viewer_text::lines::put_answer` meets its contract: nothing in a buffer that is too short, else the line of the refusal or those of the store.
use Rattle.viewer_text.specs.ViewText.{answer_text}
use Rattle.viewer_text.proofs.ShownViewCases.{none-shown, refusal-put, store-put}
use Rattle.viewer_text.proofs.lines.put_answer.Goals as goal

pub returns-then-out-lt-OUT_BYTES-clause-shown : goal.returns-then-out-lt-OUT_BYTES-clause-shown
returns-then-out-lt-OUT_BYTES-clause-shown c =
    (none-shown c.args.out.now (answer_text c.args.answer c.args.second.now) c.if-out-lt-OUT_BYTES.true).0

pub returns-in-Err-clause-shown : goal.returns-in-Err-clause-shown
returns-in-Err-clause-shown c =
    (refusal-put _ _ c.args.second.now _ c.args.answer c.if-out-lt-OUT_BYTES.false _ c.in-Err.is c.put_refusal.ensures).0

pub returns-in-Ok-clause-shown : goal.returns-in-Ok-clause-shown
returns-in-Ok-clause-shown c =
    (store-put _ _ c.args.second.now _ c.args.answer c.if-out-lt-OUT_BYTES.false c.in-Ok.is c.put_store.ensures).0
