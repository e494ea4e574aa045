-- `c_calls::piece_code` meets its contract.
use Rattle.c_calls.proofs.AnswerCases.{piece-cases}
use Rattle.c_calls.proofs.piece_code.Goals as goal

pub returns-in-Refused : goal.returns-in-Refused
returns-in-Refused c = search piece-cases

pub returns-in-RecordRefused : goal.returns-in-RecordRefused
returns-in-RecordRefused c = search piece-cases

pub returns-in-Taken : goal.returns-in-Taken
returns-in-Taken c = search piece-cases
