-- Document 01's listing for Q and its three tests, one with two refused records, one in class 2, one in another class and one with a pair that
-- changes nothing, computed from the definitions.
use Rattle.model.proofs.Prelude.{◌≡◌, ◌&&◌, T}
use Rattle.model.specs.Netlist.{counts, output_count, path_total}
use Rattle.model.specs.Detect.{in_net_set, detects, all_open, has_edge, open_pin, evaluate, detects_number}
use Rattle.model.specs.Path.{path_of, path_at, split}
use Rattle.model.specs.Runs.{runs_among, runs_from, add_number, working_runs, in_runs, size, how_many, how_many_from, separated_runs_of}
use Rattle.model.specs.Read.{read_netlist, read_gates, read_outputs_of, test_of}
use Rattle.model.specs.Store.{store_runs, store_of}
use Rattle.model.specs.Calls.{test_stage, tested}
use Rattle.model.specs.Report.{same_bytes}
use Rattle.model.specs.Examples.{Q, detects_none, detects_falling, detects_rising, hazard, rise_and_fall, equal_pair}
use Rattle.model.specs.Encode.{header_bytes, gate_bytes, net_bytes, output_bytes, test_bytes}
use Rattle.model.proofs.AnswerLaws.{same→}
use Rattle.model.proofs.BoolLaws.{and_left, and_right}
use Rattle.store_coverage.specs.Stage.{store_after}
use Rattle.store_coverage.specs.TestCall.{returned_by}
use Rattle.text_line.specs.Decimal.{digits_of, decimal_text, refused_text}
use Rattle.listing_lines.specs.ListingLines.{paths_line, refused_line_of, record_line}
use Rattle.listing_text.specs.Listing.{record_lines, store_after_all, listed_records, run_lines, totals_lines, store_lines, listing_of, listing_text}
use Rattle.listing_text.specs.Example.{three_tests, eight_lines, two_refused, refused_lines, robust_lines, other_class_line, one_padded, padded_lines}

both : T (same_bytes (listing_text Q 1 three_tests) eight_lines && same_bytes (listing_text Q 1 two_refused) refused_lines)
unfolding three_tests eight_lines two_refused refused_lines Q detects_none detects_falling detects_rising
    listing_text listing_of store_lines totals_lines run_lines listed_records store_after_all record_lines record_line refused_line_of paths_line
    digits_of decimal_text refused_text store_after returned_by test_stage tested store_runs store_of
    read_netlist read_gates read_outputs_of test_of counts output_count path_total path_of path_at split detects_number detects all_open has_edge open_pin evaluate
    working_runs in_net_set runs_among runs_from add_number separated_runs_of in_runs how_many how_many_from size
both = tt

classes : T (same_bytes (listing_text hazard 2 rise_and_fall) robust_lines && same_bytes (listing_text Q 3 three_tests) other_class_line)
unfolding three_tests robust_lines other_class_line hazard rise_and_fall header_bytes gate_bytes net_bytes output_bytes test_bytes Q detects_none detects_falling detects_rising
    listing_text listing_of store_lines totals_lines run_lines listed_records store_after_all record_lines record_line refused_line_of paths_line
    digits_of decimal_text refused_text store_after returned_by test_stage tested store_runs store_of
    read_netlist read_gates read_outputs_of test_of counts output_count path_total path_of path_at split detects_number detects all_open has_edge open_pin evaluate
    working_runs in_net_set runs_among runs_from add_number separated_runs_of in_runs how_many how_many_from size
classes = tt

padded : T (same_bytes (listing_text Q 1 one_padded) padded_lines)
unfolding one_padded padded_lines equal_pair test_bytes Q detects_none detects_falling
    listing_text listing_of store_lines totals_lines run_lines listed_records store_after_all record_lines record_line refused_line_of paths_line
    digits_of decimal_text refused_text store_after returned_by test_stage tested store_runs store_of
    read_netlist read_gates read_outputs_of test_of counts output_count path_total path_of path_at split detects_number detects all_open has_edge open_pin evaluate
    working_runs in_net_set runs_among runs_from add_number separated_runs_of in_runs how_many how_many_from size
padded = tt

-- document 01's eight lines
pub eight-lines-hold : listing_text Q 1 three_tests ≡ eight_lines
eight-lines-hold =
    same→ (listing_text Q 1 three_tests) eight_lines
    (and_left (same_bytes (listing_text Q 1 three_tests) eight_lines) (same_bytes (listing_text Q 1 two_refused) refused_lines) both)

pub refused-lines-hold : listing_text Q 1 two_refused ≡ refused_lines
refused-lines-hold =
    same→ (listing_text Q 1 two_refused) refused_lines
    (and_right (same_bytes (listing_text Q 1 three_tests) eight_lines) (same_bytes (listing_text Q 1 two_refused) refused_lines) both)

-- in class 2, and in a class that there is not
pub robust_lines-hold : listing_text hazard 2 rise_and_fall ≡ robust_lines
robust_lines-hold =
    same→ (listing_text hazard 2 rise_and_fall) robust_lines
    (and_left (same_bytes (listing_text hazard 2 rise_and_fall) robust_lines) (same_bytes (listing_text Q 3 three_tests) other_class_line) classes)

pub other-class-holds : listing_text Q 3 three_tests ≡ other_class_line
other-class-holds =
    same→ (listing_text Q 3 three_tests) other_class_line
    (and_right (same_bytes (listing_text hazard 2 rise_and_fall) robust_lines) (same_bytes (listing_text Q 3 three_tests) other_class_line) classes)

-- a pair that changes nothing is refused, and the listing goes on
pub padded-lines-hold : listing_text Q 1 one_padded ≡ padded_lines
padded-lines-hold = same→ (listing_text Q 1 one_padded) padded_lines padded
