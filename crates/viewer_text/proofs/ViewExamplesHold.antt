-- The examples of what a viewer is shown, computed from the definitions.
use Rattle.model.proofs.Prelude.{◌≡◌, ◌&&◌, [], ◌∷◌, T}
use Rattle.model.specs.Netlist.{counts, output_count, path_total}
use Rattle.model.specs.Path.{path_of, path_at, split}
use Rattle.model.specs.Runs.{runs_among, runs_from, add_number, in_runs, how_many, how_many_from, separated_runs_of}
use Rattle.model.specs.Examples.{holding}
use Rattle.model.specs.Read.{read_netlist, read_gates, read_outputs_of}
use Rattle.model.specs.Store.{store_runs, store_of}
use Rattle.model.specs.Encode.{header_bytes, net_bytes, gate_bytes, output_bytes}
use Rattle.model.specs.Report.{same_bytes}
use Rattle.model.proofs.AnswerLaws.{same→}
use Rattle.model.proofs.BoolLaws.{and_left, and_right}
use Rattle.text_line.specs.Decimal.{digits_of, decimal_text, refused_text}
use Rattle.viewer_places.specs.Viewer.{seen, seen_held, viewer_totals_call, viewer_runs_call}
use Rattle.viewer_places.specs.ViewerExamples.{three, spanning}
use Rattle.listing_lines.specs.ListingLines.{refused_line_of}
use Rattle.listing_text.specs.Listing.{run_lines}
use Rattle.viewer_text.specs.ViewText.{view_lines, shown, view_text}
use Rattle.viewer_text.specs.ViewExamples.{cut_lines, none_line}

both : T (same_bytes (view_text three spanning (0 ∷ 2 ∷ [])) cut_lines && same_bytes (view_text three spanning (2 ∷ 0 ∷ [])) none_line)
unfolding cut_lines none_line three spanning holding header_bytes net_bytes gate_bytes output_bytes
    read_netlist read_gates read_outputs_of counts output_count path_total path_of path_at split
    runs_among runs_from add_number in_runs how_many how_many_from separated_runs_of store_runs store_of seen seen_held viewer_totals_call viewer_runs_call
    digits_of decimal_text refused_text refused_line_of run_lines view_lines shown view_text
both = tt

pub cut-lines-hold : view_text three spanning (0 ∷ 2 ∷ []) ≡ cut_lines
cut-lines-hold =
    same→ (view_text three spanning (0 ∷ 2 ∷ [])) cut_lines
    (and_left (same_bytes (view_text three spanning (0 ∷ 2 ∷ [])) cut_lines) (same_bytes (view_text three spanning (2 ∷ 0 ∷ [])) none_line) both)

pub none-line-holds : view_text three spanning (2 ∷ 0 ∷ []) ≡ none_line
none-line-holds =
    same→ (view_text three spanning (2 ∷ 0 ∷ [])) none_line
    (and_right (same_bytes (view_text three spanning (0 ∷ 2 ∷ [])) cut_lines) (same_bytes (view_text three spanning (2 ∷ 0 ∷ [])) none_line) both)
