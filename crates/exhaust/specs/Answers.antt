-- What the call with all pairs promises: its answer, the lent memory afterwards, and what its parts do.
use Rattle.std.specs.Prelude.{◌≡◌, List, ℕ, length, drop}
use Rattle.model.specs.Base.{value, ◌into◌}
use Rattle.model.specs.Netlist.{Netlist}
use Rattle.model.specs.Read.{read_netlist, class_of}
use Rattle.model.specs.Store.{empty_store}
use Rattle.model.specs.Calls.{work_words_count}
use Rattle.model.specs.Report.{test_all}
use Rattle.store_words.specs.WordAnswers.{totals_both}
pub use Rattle.store_words.specs.WordAnswers.{totals_among}
use Rattle.audit_block.specs.RecordsTaken.{left_store}
use Rattle.exhaust_pairs.specs.AllPairs.{all_pairs}
use Rattle.exhaust_pairs.specs.Exhaust.{exhaust_answer, exhaust_store, PairsWork}
use Rattle.std.specs.Prelude.{Result}
use Rattle.model.specs.declared.Refusal.{Refusal}
use Rattle.store_words.specs.declared.inner.StoreTotals.{StoreTotals}

-- All pairs: the answer, the store afterwards, and what holds of the working memory
pub record ExhaustTrue (r : Result StoreTotals Refusal) (netlist : List ℕ) (class : ℕ) (ws ws' found left : List ℕ) : Type 0 where
  pub answer : totals_among r ≡ exhaust_answer netlist class ws found
  pub store : ws' ≡ exhaust_store netlist class ws found
  pub work : PairsWork netlist class ws found left

-- the same on a legal netlist of few inputs, from an empty store
pub record PairsApplied (r : Result StoreTotals Refusal) (netlist : List ℕ) (class : ℕ) (ws' work work' : List ℕ) : Type 0 where
  pub answer : (N : Netlist) → read_netlist netlist ≡ value N
      → totals_among r ≡ (test_all N (class_of class) (all_pairs N.inputs) empty_store into λ ws. value (totals_both ws))
  pub store : (N : Netlist) → read_netlist netlist ≡ value N → ws' ≡ left_store (test_all N (class_of class) (all_pairs N.inputs) empty_store)
  pub same_length_of : length work' ≡ length work
  pub past_work : drop work_words_count work' ≡ drop work_words_count work
