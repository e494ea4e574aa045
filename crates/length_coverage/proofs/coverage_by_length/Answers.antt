-- `length_coverage::coverage_by_length` meets its contract: each return is a case of the store's length, the netlist and the store's words.
use Rattle.model.proofs.AnswerLaws.{exit}
use Rattle.length_coverage.proofs.LengthCallCases.{call-cases, call-netlist, call-store}
use Rattle.length_coverage.proofs.coverage_by_length.Goals as goal

pub returns-then-store-ne-STORE_WORDS : goal.returns-then-store-ne-STORE_WORDS
returns-then-store-ne-STORE_WORDS c = search call-cases

pub load-requires : goal.load-requires
load-requires c = search call-cases

pub check_words-requires : goal.check_words-requires
check_words-requires c = search (c.in_ok-legal.was, call-cases)

pub count_rows-requires : goal.count_rows-requires
count_rows-requires c = search (c.in_ok-legal.was, c.in_ok-check_words.was, call-cases)

pub returns-in_err-legal : goal.returns-in_err-legal
returns-in_err-legal c =
    rw (exit _ _ c.from_residual.ensures.1)
    (call-netlist _ _ c.if-store-ne-STORE_WORDS.false _ _ _ c.load.ensures _ c.in_err-legal.was)

pub returns-in_err-check_words : goal.returns-in_err-check_words
returns-in_err-check_words c =
    rw (exit _ _ c.from_residual-in_err-check_words.ensures.1)
    (call-store _ _ c.if-store-ne-STORE_WORDS.false _ _ _ c.load.ensures _ c.in_ok-legal.was _ c.check_words.ensures _ c.in_err-check_words.was)

pub returns : goal.returns
returns c = search (c.in_ok-legal.was, c.in_ok-check_words.was, call-cases)
