-- `report_bytes::inner::comparing::same_words` meets its contract. The invariant: the words that are left, compared from here on, decide the whole.
use Rattle.model.proofs.Prelude.{rules}
use Rattle.report_bytes.proofs.WordSteps.{same_cases}
use Rattle.report_bytes.proofs.inner.comparing.same_words.Goals as goal

pub loop-i-init : goal.loop-i-init
loop-i-init c = (search rules, search same_cases)

pub returns-then-not-same : goal.returns-then-not-same
returns-then-not-same c = search same_cases

pub loop-i-preserved : goal.loop-i-preserved
loop-i-preserved c = (search rules, search same_cases)

pub returns : goal.returns
returns c = search same_cases
