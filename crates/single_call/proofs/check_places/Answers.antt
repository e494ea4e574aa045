-- `single_call::check_places` meets its contract: the record's rules, then the store's.
use Rattle.model.proofs.AnswerLaws.{exit}
use Rattle.single_call.proofs.CallPlaceLaws.{place-test, place-checked}
use Rattle.single_call.proofs.check_places.Goals as goal

pub returns-in_err-check_record : goal.returns-in_err-check_record
returns-in_err-check_record c =
    let refused = c.in_err-check_record.was in
    let args = c.args in
    rw (exit _ _ c.from_residual.ensures.1) (place-test args.inputs args.paths args.test.now args.store.now c.check_record.ensures _ refused)

pub returns : goal.returns
returns c =
    let legal = c.in_ok-check_record.was in
    let args = c.args in
    place-checked args.inputs args.paths args.test.now args.store.now c.check_record.ensures legal _ c.check_words.ensures
