-- The lines of a store and of what it does not hold: they fit in the buffer, one part after the other; and the faults that are listed.
use Rattle.model.proofs.Prelude.{ℕ, ◌≤◌, ◌+◌, ◌*◌, ◌≡◌, ◌∙◌, ap, List, [], ◌∷◌, length, take, length-append, arith, rules}
use Rattle.io.specs.Counts.{IsPrefixLen}
use Rattle.model.specs.Path.{Edge, rising, falling}
use Rattle.model.specs.Runs.{Run, size}
use Rattle.model.specs.Store.{max_runs, run_count, first_word, store_runs}
use Rattle.model.proofs.StoreLaws.{length-runs_at}
use Rattle.store_words.specs.Sound.{SoundWords}
use Rattle.exhaust_undetected.specs.Undetected.{undetected, listed, ListWritten}
use Rattle.exhaust_undetected.proofs.ListedCases.{listed-few, count-sound}
use Rattle.text_line.proofs.DecimalLaws.{at-most-20}
use Rattle.text_buffer.specs.Written.{Written, plain_line}
use Rattle.text_buffer.proofs.WrittenLaws.{then-written, written_as, written-length, first-bytes, counts-bytes}
use Rattle.listing_text.specs.Listing.{rising_letter, falling_letter, run_lines, totals_lines, store_lines}
use Rattle.listing_text.specs.StoreText.{out_bytes, edge_bytes}
use Rattle.exhaust_undetected_text.specs.UndetectedText.{count_text}
use Rattle.exhaust_text.specs.BlockText.{block_lines}

-- the line of a run has at most 44 bytes
runs-short : (letter : List ℕ) → length letter ≡ 2 → (rs : List Run) → length (run_lines letter rs) ≤ 44 * length rs
unfolding run_lines
runs-short letter l [] = omega arith
runs-short letter l (r ∷ rs) = simp length-append (omega (arith, l, at-most-20 r.low, at-most-20 r.high, runs-short letter l rs))

module _ (ws : List ℕ) (paths : ℕ) (s : SoundWords paths ws) where
  few : (e : Edge) → run_count ws e ≤ max_runs
  few rising = s.few.few_rising
  few falling = s.few.few_falling

  edge-short : (letter : List ℕ) → length letter ≡ 2 → (e : Edge) → length (run_lines letter (store_runs ws e)) ≤ edge_bytes
  unfolding store_runs
  edge-short letter l e = omega (arith, runs-short letter l (store_runs ws e), length-runs_at (run_count ws e) ws (first_word e), few e)

  totals-short : length (totals_lines ws) ≤ 57
  unfolding totals_lines
  totals-short = simp length-append (omega (arith, at-most-20 (size (store_runs ws rising)), at-most-20 (size (store_runs ws falling))))

  store-short : length (store_lines ws) ≤ 2 * edge_bytes + 57
  unfolding store_lines
  store-short = simp length-append (omega (arith, edge-short rising_letter (omega arith) rising, edge-short falling_letter (omega arith) falling, totals-short))

  pub count_room : (out o1 : List ℕ) (end : ℕ) → out_bytes ≤ length out → Written out o1 0 (store_lines ws) end → end + 129 ≤ length o1
  count_room out o1 end h p = omega (arith, p.place, store-short, written-length p)

pub lines-put : (ws : List ℕ) (paths : ℕ) (out o1 o2 line : List ℕ) (end r n : ℕ) → Written out o1 0 (store_lines ws) end → n ≡ length (undetected ws paths)
    → line ≡ count_text n → Written o1 o2 end (plain_line line) r → Written out o2 0 (block_lines ws paths) r
unfolding block_lines
lines-put ws paths out o1 o2 line end r n p many is q = then-written p (written_as (ap plain_line (is ∙ ap count_text many)) q)

-- the faults stand at the start of the words lent for them
module _ (r paths : ℕ) (found left ws : List ℕ) (w : ListWritten r found left ws paths) (same : length left ≡ length found) (room : 20 ≤ length found) where
  put : Written found left 0 (listed ws paths) r
  put = record { bytes = w.words; place = omega (arith, w.many); inside = omega (arith, w.many, listed-few ws paths) }

  pub faults-listed : take r left ≡ listed ws paths
  faults-listed = first-bytes put

  pub faults-counted : IsPrefixLen r left
  faults-counted = counts-bytes put

pub ruleset line-cases = (count_room, count-sound, lines-put, faults-listed, faults-counted, rules)
