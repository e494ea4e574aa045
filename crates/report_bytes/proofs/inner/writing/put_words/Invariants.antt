-- `report_bytes::inner::writing::put_words` meets its contract. The invariant: the words that are left, written from here on, give the whole.
use Rattle.model.proofs.Prelude.{◌≤◌, ◌+◌, ◌*◌, ◌≡◌, length, drop, sets}
use Rattle.report_bytes.specs.Layout.{word_bytes}
use Rattle.report_bytes.proofs.inner.writing.put_words.Given as goal

abbrev pub invariant-loop-i : goal.invariant-loop-i
invariant-loop-i l =
    (length l.report ≡ length l.initial.report) × (l.i ≤ length l.words)
    × (sets l.report (l.at + 8 * l.i) (word_bytes (drop l.i l.words)) ≡ sets l.initial.report l.at (word_bytes l.words))
