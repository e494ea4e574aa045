-- `single_call::count_new` meets its contract: the stage's faults are counted, from the totals of the sound store before it.
use Rattle.model.proofs.Prelude.{rules}
use Rattle.single_call.proofs.CallPlaceLaws.{before-sound, legal-counting, legal-counted}
use Rattle.single_call.proofs.count_new.Goals as goal

pub totals_of-before-requires : goal.totals_of-before-requires
totals_of-before-requires c = search (before-sound, rules)

pub count_answer-requires : goal.count_answer-requires
count_answer-requires c =
    legal-counting c.requires c.args.class c.totals_of-before.ensures c.apply_legal-answer.ensures

pub returns : goal.returns
returns c =
    legal-counted c.requires c.args.class c.totals_of-before.ensures c.apply_legal-answer.ensures c.count_answer.ensures
