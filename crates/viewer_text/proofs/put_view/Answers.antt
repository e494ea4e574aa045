-- `viewer_text::put_view` meets its contract: the lines of the viewer's answer and of the second store are his text.
use Rattle.model.proofs.Prelude.{rules}
use Rattle.viewer_text.proofs.ShownViewCases.{answer-sound, view-put, view-answer}
use Rattle.viewer_text.proofs.put_view.Goals as goal

pub put_answer-length-requires : goal.put_answer-length-requires
put_answer-length-requires c =
    answer-sound c.args.netlist.now c.args.store.now c.args.places.now c.no_words-view.result c.viewer_runs-answer.new.view c.no_words-view.ensures
    c.viewer_runs-answer.result c.viewer_runs-answer.ensures

pub returns-clause-answer_value : goal.returns-clause-answer_value
returns-clause-answer_value c = search (answer-sound, view-put, view-answer, rules)

pub returns-clause-shown : goal.returns-clause-shown
returns-clause-shown c = search (answer-sound, view-put, view-answer, rules)
