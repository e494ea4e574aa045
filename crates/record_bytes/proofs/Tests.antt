-- Goals that go by tests, from the facts of the branches that led there: `search tests`.
use Rattle.model.proofs.Prelude.{rules, le-leb, lt-leb, ne_eqb, eq-eqb, lt-ltb, le-ltb}

pub ruleset tests = (le-leb, lt-leb, lt-ltb, le-ltb, eq-eqb, ne_eqb, rules)
