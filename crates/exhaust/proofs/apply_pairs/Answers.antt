-- `exhaust::apply_pairs` meets its contract: the tables of the netlist are made, then all pairs applied on them.
use Rattle.model.proofs.Prelude.{refl, rules}
use Rattle.model.proofs.AnswerLaws.{exit}
use Rattle.exhaust.proofs.ExhaustCases.{pairs-tables, pairs-blocks, pairs-sound, pairs-refused, pairs-taken}
use Rattle.exhaust.proofs.apply_pairs.Goals as goal

pub fill_tables-numbers-requires : goal.fill_tables-numbers-requires
fill_tables-numbers-requires c =
    (pairs-tables _ _ _ _ c.requires.ready c.requires.store_value, refl, refl)

pub apply_all_pairs-requires-clause-blocks_ready : goal.apply_all_pairs-requires-clause-blocks_ready
apply_all_pairs-requires-clause-blocks_ready c =
    (pairs-blocks _ _ _ _ c.requires.ready c.requires.store_value c.fill_tables-numbers.ensures refl refl).0

pub totals_of-held-requires : goal.totals_of-held-requires
totals_of-held-requires c =
    pairs-sound _ _ _ _ c.requires.ready c.requires.store_value c.fill_tables-numbers.ensures c.apply_all_pairs.ensures c.in_ok-apply_all_pairs.was

pub returns-in_err-apply_all_pairs : goal.returns-in_err-apply_all_pairs
returns-in_err-apply_all_pairs c =
    rw (exit _ _ c.from_residual.ensures.1)
    (pairs-refused _ _ _ _ c.requires.ready c.requires.store_value c.fill_tables-numbers.ensures c.apply_all_pairs.ensures _ c.in_err-apply_all_pairs.was)

pub returns : goal.returns
returns c =
    pairs-taken _ _ _ _ c.requires.ready c.requires.store_value c.fill_tables-numbers.ensures c.apply_all_pairs.ensures c.in_ok-apply_all_pairs.was _ c.totals_of-held.ensures
