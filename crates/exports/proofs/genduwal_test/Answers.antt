-- `exports::genduwal_test` meets its contract: code and words are those of the answer of the call beneath.
use Rattle.c_answer_words.proofs.CodeLaws.{answered-by}
use Rattle.exports.proofs.genduwal_test.Goals as goal

pub returns : goal.returns
returns c =
    record { answered = answered-by c.apply_test-tested.ensures.answer c.test_code.ensures; store_after = c.apply_test-tested.ensures.store; work_after = c.apply_test-tested.ensures.memory }
