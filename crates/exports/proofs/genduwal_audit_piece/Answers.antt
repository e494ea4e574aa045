-- `exports::genduwal_audit_piece` meets its contract: code and words are those of the answer of the call beneath.
use Rattle.model.proofs.Prelude.{ap}
use Rattle.c_calls.specs.Answers.{all_taken}
use Rattle.c_answer_words.proofs.CodeLaws.{answered-by}
use Rattle.exports.proofs.genduwal_audit_piece.Goals as goal

pub returns : goal.returns
returns c =
    record {
      answered = answered-by (ap all_taken c.audit_piece-taken.ensures.answer) c.piece_code.ensures;
      store_after = c.audit_piece-taken.ensures.store;
      piece_work = c.audit_piece-taken.ensures.memory;
    }
