-- `report_bytes::inner::comparing::same_words` meets its contract. The invariant: the words that are left, compared from here on, decide the whole.
use Rattle.model.proofs.Prelude.{◌≤◌, ◌*◌, ◌≡◌, length, drop, take}
use Rattle.model.specs.Report.{same_bytes}
use Rattle.report_bytes.specs.Layout.{word_bytes}
use Rattle.report_bytes.proofs.WordSteps.{rest_same}
use Rattle.report_bytes.proofs.inner.comparing.same_words.Given as goal

abbrev pub invariant-loop-i : goal.invariant-loop-i
invariant-loop-i l =
    (l.i ≤ length l.words) × (rest_same l.report l.at l.words l.i ≡ same_bytes (take (8 * length l.words) (drop l.at l.report)) (word_bytes l.words))
