-- `audit_piece_steps::inner::begin_loaded` meets its contract: each return is one case of the beginning.
use Rattle.audit_piece_steps.proofs.StepCases.{begin-cases}
use Rattle.audit_piece_steps.proofs.inner.begin_loaded.Goals as goal

pub returns-then-store-ne-STORE_WORDS : goal.returns-then-store-ne-STORE_WORDS
returns-then-store-ne-STORE_WORDS c = λ netlist t. search begin-cases

pub returns-then-work-lt-WORK_WORDS : goal.returns-then-work-lt-WORK_WORDS
returns-then-work-lt-WORK_WORDS c = λ netlist t. search begin-cases

pub returns-in-Err : goal.returns-in-Err
returns-in-Err c = λ netlist t. search begin-cases

pub returns-then-not-known : goal.returns-then-not-known
returns-then-not-known c = λ netlist t. search begin-cases

pub returns-else-not-known : goal.returns-else-not-known
returns-else-not-known c = λ netlist t. search begin-cases
