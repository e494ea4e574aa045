-- `store_words::inner::check_words` meets its contract: each rule is one test of the code, and they are made in the order of the rules.
use Rattle.model.proofs.Prelude.{rules}
use Rattle.store_words.proofs.CheckSteps.{few-known, many-runs, many-tests, bad-run, runs-of_none, word-left, all_sound}
use Rattle.store_words.proofs.inner.check_words.Goals as goal

pub returns-then-not-few_runs : goal.returns-then-not-few_runs
returns-then-not-few_runs c = search (many-runs, rules)

pub returns-then-not-few_tests : goal.returns-then-not-few_tests
returns-then-not-few_tests c = search (many-tests, rules)

pub separated_runs-requires : goal.separated_runs-requires
separated_runs-requires c = search (few-known, rules)

pub returns-then-not-separated_runs : goal.returns-then-not-separated_runs
returns-then-not-separated_runs c = search (bad-run, rules)

pub returns-then-not-runs_of_tests : goal.returns-then-not-runs_of_tests
returns-then-not-runs_of_tests c = search (runs-of_none, rules)

pub zeros_after-requires : goal.zeros_after-requires
zeros_after-requires c = search (few-known, rules)

pub returns-then-not-zeros_after : goal.returns-then-not-zeros_after
returns-then-not-zeros_after c = search (word-left, rules)

pub returns : goal.returns
returns c = search (all_sound, rules)
