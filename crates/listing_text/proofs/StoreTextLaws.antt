-- The lines of a store put one after the other: the totals of each edge; the runs of each edge and the totals.
use Rattle.model.proofs.Prelude.{ℕ, ◌≡◌, ap, ap₂, List, ◌++◌}
use Rattle.model.specs.Path.{rising, falling}
use Rattle.model.specs.Runs.{size}
use Rattle.model.specs.Store.{ByEdge, store_runs}
use Rattle.store_words.specs.WordAnswers.{totals_in, totals_both}
use Rattle.store_words.specs.declared.inner.StoreTotals.{StoreTotals}
use Rattle.text_buffer.specs.Written.{Written}
use Rattle.text_buffer.proofs.WrittenLaws.{then-written, written_as}
use Rattle.listing_lines.specs.ListingLines.{numbered}
use Rattle.listing_text.specs.Listing.{rising_word, falling_word, rising_letter, falling_letter, run_lines, totals_lines, store_lines}

pub totals-put : (out o1 o2 words : List ℕ) (at m r : ℕ) (held : StoreTotals) → totals_in held ≡ totals_both words
    → Written out o1 at (numbered rising_word held.rising) m → Written o1 o2 m (numbered falling_word held.falling) r → Written out o2 at (totals_lines words) r
unfolding totals_lines
totals-put out o1 o2 words at m r held e p q =
    let a : held.rising ≡ size (store_runs words rising) = ap (λ (b : ByEdge ℕ). b.on_rising) e in
    let b : held.falling ≡ size (store_runs words falling) = ap (λ (b : ByEdge ℕ). b.on_falling) e in
    written_as (ap₂ (λ (x y : ℕ). numbered rising_word x ++ numbered falling_word y) a b) (then-written p q)

pub store-put : (out o1 o2 o3 words : List ℕ) (m n r : ℕ) → Written out o1 0 (run_lines rising_letter (store_runs words rising)) m
    → Written o1 o2 m (run_lines falling_letter (store_runs words falling)) n → Written o2 o3 n (totals_lines words) r → Written out o3 0 (store_lines words) r
unfolding store_lines
store-put out o1 o2 o3 words m n r p q t = then-written (then-written p q) t
