-- Everything a small block can show, of the value that the call returns and the memory that it leaves.
use Rattle.std.specs.Prelude.{◌≡◌, not, List, ℕ, T}
use Rattle.model.specs.Base.{value}
use Rattle.model.specs.Netlist.{Netlist}
use Rattle.model.specs.Read.{read_netlist}
use Rattle.model.specs.Refusals.{refusal_number_of}
use Rattle.model.specs.Store.{empty_store}
use Rattle.model.specs.declared.Refusal.{Refusal}
use Rattle.exhaust_pairs.specs.Exhaust.{of_work, Exhausted}
use Rattle.exhaust.specs.Answers.{ExhaustTrue}
use Rattle.std.specs.Prelude.{Result, Ok, Err}
use Rattle.store_words.specs.declared.inner.StoreTotals.{StoreTotals}

pub record ReturnedShows (r : Result StoreTotals Refusal) (netlist : List ℕ) (class : ℕ) (ws ws' found left : List ℕ) : Type 0 where
  -- not refused: the store holds exactly what legal tests of the class detect, and the totals are its
  pub whole : (N : Netlist) → read_netlist netlist ≡ value N → (a b : ℕ) → r ≡ Ok (record { rising = a; falling = b })
      → Exhausted netlist N class ws' (record { on_rising = a; on_falling = b })
  -- a 50 or 51 leaves the store empty, another refusal store and working memory as found
  pub emptied : (w : Refusal) → r ≡ Err w → T (of_work (refusal_number_of w)) → ws' ≡ empty_store
  pub store_found : (w : Refusal) → r ≡ Err w → T (not (of_work (refusal_number_of w))) → ws' ≡ ws
  pub work_found : (w : Refusal) → r ≡ Err w → T (not (of_work (refusal_number_of w))) → left ≡ found

pub record ExhaustShows : Type 0 where
  pub returned : (r : Result StoreTotals Refusal) (netlist : List ℕ) (class : ℕ) (ws ws' found left : List ℕ)
      → ExhaustTrue r netlist class ws ws' found left → ReturnedShows r netlist class ws ws' found left
