-- `block_activity::inner::marks::fill_block` meets its contract: it has no loop of its own.
use Rattle.model.proofs.Prelude.{◌∙◌, arith}
use Rattle.block_words.proofs.GateTableLaws.{few-inputs}
use Rattle.block_activity.proofs.EdgeListLaws.{no-entries}
use Rattle.block_activity.proofs.LentWorkLaws.{work-kept}
use Rattle.block_activity.proofs.RecordMarkLaws.{marks_true}
use Rattle.block_activity.proofs.inner.marks.fill_block.Goals as goal

pub transpose-firsts-requires : goal.transpose-firsts-requires
transpose-firsts-requires c =
    let given = c.requires in
    (omega arith, given.0.few_records, few-inputs given.0.circuit)

pub transpose-lasts-requires : goal.transpose-lasts-requires
transpose-lasts-requires c =
    let given = c.requires in
    (omega arith, given.0.few_records, few-inputs given.0.circuit)

pub input_words-requires : goal.input_words-requires
input_words-requires c =
    let given = c.requires in
    (few-inputs given.0.circuit, given.0.few_records, omega (arith, given.4))

pub gate_lists-requires : goal.gate_lists-requires
gate_lists-requires c =
    let given = c.requires in
    (given.0.circuit, omega (arith, c.input_words.ensures.kept.same_length_of, given.4), no-entries _ given.1, no-entries _ given.2)

pub live_outputs-rises-requires : goal.live_outputs-rises-requires
live_outputs-rises-requires c =
    let given = c.requires in (
      given.0.few_outputs,
      given.0.out_nets,
      omega arith,
      omega (arith, c.gate_lists.ensures.kept.same_length_of, c.input_words.ensures.kept.same_length_of, given.4),
    )

pub write_marks-requires : goal.write_marks-requires
write_marks-requires c =
    let given = c.requires in
    (given.0.few_records, omega arith, given.3, c.gate_lists.ensures.up_counts)

pub live_outputs-falls-requires : goal.live_outputs-falls-requires
live_outputs-falls-requires c =
    let given = c.requires in (
      given.0.few_outputs,
      given.0.out_nets,
      omega arith,
      omega (arith, c.gate_lists.ensures.kept.same_length_of, c.input_words.ensures.kept.same_length_of, given.4),
    )

pub write_marks-requires-2 : goal.write_marks-requires-2
write_marks-requires-2 c =
    let given = c.requires in
    (given.0.few_records, omega arith, c.write_marks.ensures.same_length_of ∙ given.3, c.gate_lists.ensures.down_counts)

pub shape_of-work : goal.shape_of-work
shape_of-work c =
    c.gate_lists.ensures.kept.same_length_of ∙ c.input_words.ensures.kept.same_length_of

pub returns : goal.returns
returns c =
    let given = c.requires in
    let inputs = c.input_words.ensures in
    let listed = c.gate_lists.ensures in
    let written₁ = c.write_marks.ensures in
    let written₂ = c.write_marks-2.ensures in (
      listed.up_places,
      listed.down_places,
      written₂.same_length_of ∙ written₁.same_length_of ∙ given.3,
      marks_true given.0 c.transpose-firsts.ensures c.transpose-lasts.ensures inputs listed given.1 given.2
          c.live_outputs-rises.ensures written₁ c.live_outputs-falls.ensures written₂,
      work-kept inputs.kept listed.kept,
    )
