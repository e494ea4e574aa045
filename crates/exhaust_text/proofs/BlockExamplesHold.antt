-- The examples of what all pairs of a block show, computed from the definitions.
use Rattle.model.proofs.Prelude.{◌≡◌, T}
use Rattle.model.specs.Netlist.{counts, output_count, path_total}
use Rattle.model.specs.Path.{path_of, path_at, split}
use Rattle.model.specs.Detect.{in_net_set, detects, all_open, has_edge, open_pin, evaluate, detects_number}
use Rattle.model.specs.Runs.{runs_among, runs_from, add_number, working_runs, in_runs, size, how_many, how_many_from, separated_runs_of}
use Rattle.model.specs.Read.{read_netlist, read_gates, read_outputs_of, test_of}
use Rattle.model.specs.Store.{store_runs, store_of}
use Rattle.model.specs.Calls.{test_stage, tested}
use Rattle.model.specs.Report.{same_bytes, test_all}
use Rattle.model.specs.Encode.{header_bytes, net_bytes, gate_bytes, output_bytes, test_bytes}
use Rattle.model.specs.Examples.{Q}
use Rattle.model.proofs.AnswerLaws.{same→}
use Rattle.text_line.specs.Decimal.{digits_of, decimal_text, refused_text}
use Rattle.exhaust_pairs.specs.AllPairs.{pairs_with, pairs_from, all_pairs}
use Rattle.exhaust_pairs.specs.Exhaust.{pairs_on, exhaust_call}
use Rattle.exhaust_pairs.specs.ExhaustExamples.{seven}
use Rattle.exhaust_undetected.specs.Undetected.{not_held_from, undetected, listed}
use Rattle.listing_lines.specs.ListingLines.{refused_line_of}
use Rattle.listing_text.specs.Listing.{run_lines, totals_lines, store_lines}
use Rattle.exhaust_undetected_text.specs.UndetectedText.{count_text}
use Rattle.exhaust_text.specs.BlockText.{block_lines, block_text, block_faults}
use Rattle.exhaust_text.specs.BlockExamples.{lines_of_q, faults_of_q, line_of_seven}

same : T (same_bytes (block_text Q 2) lines_of_q) × T (same_bytes (block_faults Q 2) faults_of_q) × T (same_bytes (block_text seven 2) line_of_seven)
unfolding lines_of_q faults_of_q line_of_seven Q seven header_bytes net_bytes gate_bytes output_bytes test_bytes
    read_netlist read_gates read_outputs_of counts output_count path_total path_of path_at split
    pairs_with pairs_from all_pairs pairs_on exhaust_call test_all test_stage tested test_of
    detects_number detects all_open has_edge open_pin evaluate working_runs in_net_set
    runs_among runs_from add_number in_runs size how_many how_many_from separated_runs_of store_runs store_of not_held_from undetected listed
    digits_of decimal_text refused_text refused_line_of run_lines totals_lines store_lines count_text block_lines block_text block_faults
same = (tt, tt, tt)

pub block-examples-hold : (block_text Q 2 ≡ lines_of_q) × (block_faults Q 2 ≡ faults_of_q) × (block_text seven 2 ≡ line_of_seven)
block-examples-hold =
    (same→ (block_text Q 2) lines_of_q same.0, same→ (block_faults Q 2) faults_of_q same.1, same→ (block_text seven 2) line_of_seven same.2)
