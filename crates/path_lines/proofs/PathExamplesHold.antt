-- The texts of the examples are computed.
use Rattle.model.proofs.Prelude.{ℕ, ◌&&◌, List, [], T}
use Rattle.model.specs.Base.{Answer, refused, value}
use Rattle.model.specs.Encode.{header_bytes, net_bytes, gate_bytes, output_bytes}
use Rattle.model.specs.Netlist.{counts, output_count, path_total}
use Rattle.model.specs.Path.{split, path_at, path_of}
use Rattle.model.specs.Read.{read_gates, read_outputs_of, read_netlist}
use Rattle.model.specs.Report.{same_bytes}
use Rattle.bench_lines.specs.Text.{without_return, last_line_of, lines_from, lines_of, name_byte, word, word_then, sign_then, tokens_from, tokens_of, place, is_in, kind_names, io_names}
use Rattle.bench_lines.specs.Text.{ending, pins_from, gate_from, io_of, io_from, statement_of}
use Rattle.bench_circuit.specs.Circuit.{net_names, input_fits, gate_fits, output_fits, gate_named, line_rules, added, line_by_line, end_rules, circuit_of}
use Rattle.bench_text.specs.NetlistFile.{gate_records, output_nets, output_records, netlist_bytes, converted}
use Rattle.bench_text.specs.Examples.{row, c17}
use Rattle.text_line.specs.Decimal.{digits_of, decimal_text, refused_text}
use Rattle.listing_lines.specs.ListingLines.{refused_line_of}
use Rattle.bench_net_names.specs.NetNames.{names_of, name_of}
use Rattle.path_lines.specs.PathText.{net_text, kind_text, gate_start, gate_end, input_line, output_line, gate_lines, path_lines, path_call, path_text, bench_path_text}
use Rattle.path_lines.specs.PathExamples.{first_path, first_unnamed, no_path}

-- the netlist file of c17
abbrev file : Answer (List ℕ) → List ℕ
file (refused n) = []
file (value bs) = bs

right : T (same_bytes (bench_path_text c17.text 1) first_path
    && same_bytes (path_text (file c17.answer) (λ net. []) 1) first_unnamed
    && same_bytes (bench_path_text c17.text 0) no_path
    && same_bytes (bench_path_text c17.text 12) no_path)
unfolding row c17 first_path first_unnamed no_path
    without_return last_line_of lines_from lines_of name_byte word word_then sign_then tokens_from
    tokens_of place is_in kind_names io_names ending pins_from gate_from io_of io_from statement_of
    net_names input_fits gate_fits output_fits gate_named line_rules added line_by_line end_rules circuit_of
    gate_records output_nets output_records netlist_bytes converted header_bytes net_bytes gate_bytes output_bytes
    counts output_count path_total split path_at path_of read_gates read_outputs_of read_netlist
    digits_of decimal_text refused_text refused_line_of names_of name_of
    net_text kind_text gate_start gate_end input_line output_line gate_lines path_lines path_call path_text bench_path_text
right = tt
