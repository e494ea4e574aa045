-- Document 01's answer for what is asked of a store's words.
use Rattle.std.specs.Prelude.{Bool, List, ℕ, eqb, take, drop}
use Rattle.model.specs.Base.{Answer, all_of}
use Rattle.model.specs.Runs.{size}
use Rattle.model.specs.Store.{ByEdge, by_edge, store_runs}
use Rattle.model.specs.Returned.{answer_by}
use Rattle.store_words.specs.declared.inner.StoreTotals.{StoreTotals}
use Rattle.std.specs.Prelude.{Result}
use Rattle.model.specs.declared.Refusal.{Refusal}

-- the numbers of faults held, edge by edge
abbrev pub totals_in : StoreTotals → ByEdge ℕ
totals_in t = record { on_rising = t.rising; on_falling = t.falling }

abbrev pub totals_both : List ℕ → ByEdge ℕ
totals_both ws = by_edge (λ e. size (store_runs ws e))

-- Totals: the number of a refusal, or for each edge the number of faults
abbrev pub totals_among : Result StoreTotals Refusal → Answer (ByEdge ℕ)
totals_among = answer_by totals_in

-- the n words from word `at` on are all zero
abbrev pub zero_words_of : List ℕ → ℕ → ℕ → Bool
zero_words_of ws at n = all_of (λ w. eqb w 0) (take n (drop at ws))

-- so many words are read in a row
abbrev pub row_words : ℕ
row_words = 32
