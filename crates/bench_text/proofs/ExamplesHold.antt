-- Every row of the table of texts holds, computed from the definitions.
use Rattle.model.proofs.Prelude.{ℕ, ◌<◌, ◌≡◌, Bool, ◌&&◌, [], length, get_or, T, eqb, eqb→eq}
use Rattle.model.specs.Base.{refused, all_of}
use Rattle.model.specs.Encode.{header_bytes, net_bytes, gate_bytes, output_bytes}
use Rattle.model.proofs.BoolLaws.{and_left, and_right}
use Rattle.model.proofs.ListLaws.{all_of_at}
use Rattle.model.proofs.SameAnswers.{same, same_answer}
use Rattle.bench_lines.specs.Text.{without_return, last_line_of, lines_from, lines_of, name_byte, word, word_then, sign_then, tokens_from, tokens_of, place, is_in, kind_names, io_names, ending, pins_from}
use Rattle.bench_lines.specs.Text.{gate_from, io_of, io_from, statement_of}
use Rattle.bench_circuit.specs.Circuit.{net_names, input_fits, gate_fits, output_fits, gate_named, line_rules, added, line_by_line, end_rules, circuit_of, bad_from, output_defined, undefined_from}
use Rattle.bench_circuit.specs.Circuit.{end_line, line_in, refused_line_of}
use Rattle.bench_text.specs.NetlistFile.{gate_records, output_nets, output_records, netlist_bytes, converted}
use Rattle.bench_text.specs.Examples.{Row, row, table, input_lines, c17, late_input, keywords, one_pin, dff_line, empty_brackets, no_pins_of, small_kind, long_name, after_statement, tab}
use Rattle.bench_text.specs.Examples.{last_comma, lone_return, twice, unknown, itself, output_twice, two_pin_not, lowest, nine_pins, first_line, never_defined, empty_text, no_output_of, many_inputs}

right : Row → Bool
right r = same (converted r.text) r.answer && eqb (refused_line_of r.text) r.line

all_right : T (all_of right table)
unfolding table right same row input_lines c17 late_input keywords one_pin dff_line empty_brackets no_pins_of small_kind long_name after_statement tab last_comma
    lone_return twice unknown itself output_twice two_pin_not lowest nine_pins first_line never_defined empty_text no_output_of many_inputs
    without_return last_line_of lines_from lines_of name_byte word word_then sign_then tokens_from
    tokens_of place is_in kind_names io_names ending pins_from gate_from io_of io_from statement_of
    net_names input_fits gate_fits output_fits gate_named line_rules added line_by_line end_rules circuit_of
    bad_from output_defined undefined_from end_line line_in refused_line_of gate_records output_nets output_records netlist_bytes converted
    header_bytes net_bytes gate_bytes output_bytes
all_right = tt

abbrev no_row : Row
no_row = record { text = []; answer = refused 82; line = 0 }

-- Each text of the table has its answer, and its line
module _ (i : ℕ) (h : i < length table) where
  abbrev the : Row
  the = get_or table i no_row

  both : T (same (converted the.text) the.answer && eqb (refused_line_of the.text) the.line)
  unfolding right
  both = all_of_at right table no_row all_right i h

  pub table-holds : converted (get_or table i no_row).text ≡ (get_or table i no_row).answer
  table-holds =
      same_answer _ _ (and_left (same (converted the.text) the.answer) (eqb (refused_line_of the.text) the.line) both)

  pub lines-hold : refused_line_of (get_or table i no_row).text ≡ (get_or table i no_row).line
  lines-hold =
      eqb→eq _ _ (and_right (same (converted the.text) the.answer) (eqb (refused_line_of the.text) the.line) both)
