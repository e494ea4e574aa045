-- `audit_pieces::piece_on` meets its contract: each return is one case of a piece on a legal netlist.
use Rattle.model.proofs.Prelude.{rules}
use Rattle.audit_pieces.proofs.PieceCases.{on-cases}
use Rattle.audit_pieces.proofs.piece_on.Goals as goal

pub returns-in-Err : goal.returns-in-Err
returns-in-Err c = search on-cases

pub returns-in-Ok-answer : goal.returns-in-Ok-answer
returns-in-Ok-answer c = search on-cases

pub returns-in-Err-answer : goal.returns-in-Err-answer
returns-in-Err-answer c = search on-cases

pub check_words-checked-requires-clause-paths_bound : goal.check_words-checked-requires-clause-paths_bound
check_words-checked-requires-clause-paths_bound c = search (on-cases, rules)
