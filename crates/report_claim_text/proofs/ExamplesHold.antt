-- Lines on refused reports, computed from the definitions: a false claim, a missed path, fields, a run out of order, lines left out.
use mathlib.Core.Path.{◌≡◌, refl}
use mathlib.Core.Bool.{true, false}
use Rattle.path_faults.specs.declared.Edge.TheVariants as edge
use Rattle.text_line.specs.Decimal.{digits_of, decimal_text}
use Rattle.text_line.specs.Lines.{ascii}
use Rattle.text_percent.specs.Shares.{count_text, percent_text, claimed_share, true_share}
use Rattle.report_claim_words.specs.ClaimWords.{paths_text, plural_text}
use Rattle.report_claim_words.specs.declared.Kind.TheVariants as kind
use Rattle.report_claim_words.specs.declared.Field.TheVariants as field
use Rattle.report_claim_text.specs.Claims.{claim_text, more_text, field_text, faults_text, order_text, room_beside_of, shown_of}

pub lines-hold :
    (claim_text kind.FalseClaim edge.Rising 2 3 ≡ ascii "false claim, rising, paths 2 to 3")
    × (claim_text kind.Missed edge.Falling 7 7 ≡ ascii "missed, falling, path 7")
    × (field_text field.Tests 4 3 ≡ ascii "tests: claimed 4, true 3")
    × (faults_text edge.Rising 2 1 3 ≡ ascii "rising faults: claimed 2 (66.6 % of 3 paths), true 1 (33.3 %)")
    × (faults_text edge.Falling 9 1 1 ≡ ascii "falling faults: claimed 9 (of 1 path), true 1 (100.0 %)")
    × (order_text edge.Rising 5 9 3 ≡ ascii "rising run 5 of the report (9 to 3) is out of order")
    × (more_text kind.FalseClaim 1 ≡ ascii "and 1 more false claim")
    × (more_text kind.Missed 5 ≡ ascii "and 5 more missed")
unfolding digits_of decimal_text paths_text claim_text plural_text more_text field_text count_text percent_text claimed_share true_share faults_text order_text
lines-hold = (refl, refl, refl, refl, refl, refl, refl, refl)

-- the share of a number near the most paths that a netlist has, 2^62
pub large_share_holds : percent_text 4611686018427387903 4611686018427387904 ≡ ascii "99.9 %"
unfolding digits_of decimal_text percent_text
large_share_holds = refl

-- of 25 false claims and 3 missed, 17 and 3 are shown; of 25 and 30, ten and ten; all where all are asked for
pub shown-holds :
    (shown_of 25 3 false ≡ 17) × (shown_of 3 25 false ≡ 3) × (shown_of 25 30 false ≡ 10) × (shown_of 30 25 false ≡ 10) × (shown_of 25 30 true ≡ 25)
unfolding room_beside_of shown_of
shown-holds = (refl, refl, refl, refl, refl)
