-- The code and the answer words of the calls on a store, by the cases of their answers.
use mir.Val.{bool_byte}
use Rattle.model.proofs.Prelude.{ℕ, ◌+◌, ◌≡◌, ap, Bool, List, [], ◌∷◌, ◌++◌, length, get_or, sets, arith, rules}
use Rattle.model.specs.Base.{value}
use Rattle.model.specs.Refusals.{refusal_number_of}
use Rattle.model.specs.declared.Refusal.{Refusal}
use Rattle.store.specs.Answers.{totals_among}
use Rattle.store_coverage.specs.TestCall.{tested_of}
use Rattle.length_coverage.specs.declared.LengthRows.{LengthRows}
use Rattle.c_answer_words.specs.Codes.{Answered, edge_words, count_words, bool_word}
use Rattle.length_rows.specs.Lengths.{row_words, length_words}
use Rattle.c_answer_words.proofs.CodeLaws.{answered-refused, answered-value, bit_is}
use Rattle.record_bytes.proofs.ByteLaws.{sets_append}
use Rattle.length_coverage.specs.LengthAnswers.{rows_in, lengths_of}
use Rattle.std.specs.Prelude.{Result, Ok, Err}
use Rattle.store_coverage.specs.declared.TestCounts.{TestCounts}
use Rattle.store_words.specs.declared.inner.StoreTotals.{StoreTotals}
use Rattle.model.specs.Returned.{answer_of}

-- ---- Answers with words: a call that was refused leaves them as they were

module _ (code : ℕ) (w : Refusal) (q : code ≡ refusal_number_of w) (found : List ℕ) where
  pub test-refused : (r : Result TestCounts Refusal) → r ≡ Err w → Answered (tested_of r) count_words code found found
  test-refused r p = answered-refused (tested_of r) count_words found w code q (ap tested_of p)

  pub totals-refused : (r : Result StoreTotals Refusal) → r ≡ Err w → Answered (totals_among r) edge_words code found found
  totals-refused r p = answered-refused (totals_among r) edge_words found w code q (ap totals_among p)

  pub held-refused : (r : Result Bool Refusal) → r ≡ Err w → Answered (answer_of r) bool_word code found found
  held-refused r p = answered-refused (answer_of r) bool_word found w code q (ap answer_of p)

  pub lengths-refused : (r : Result LengthRows Refusal) → r ≡ Err w → Answered (lengths_of r) length_words code found found
  lengths-refused r p = answered-refused (lengths_of r) length_words found w code q (ap lengths_of p)

-- ---- and one that was taken writes them

module _ (code : ℕ) (q : code ≡ 0) (found left : List ℕ) where
  pub test-taken : (r : Result TestCounts Refusal) (n : TestCounts) → r ≡ Ok n → left ≡ sets found 0 (n.new_rising ∷ n.new_falling ∷ n.held_rising ∷ n.held_falling ∷ [])
      → Answered (tested_of r) count_words code found left
  test-taken r n p l = rw (q, l) (answered-value (tested_of r) count_words found _ (ap tested_of p))

  pub totals-taken : (r : Result StoreTotals Refusal) (n : StoreTotals) → r ≡ Ok n → left ≡ sets found 0 (n.rising ∷ n.falling ∷ [])
      → Answered (totals_among r) edge_words code found left
  totals-taken r n p l = rw (q, l) (answered-value (totals_among r) edge_words found _ (ap totals_among p))

  pub held-taken : (r : Result Bool Refusal) (b : Bool) → r ≡ Ok b → left ≡ sets found 0 (bool_byte b ∷ []) → Answered (answer_of r) bool_word code found left
  held-taken r b p l = rw (q, l, bit_is b) (answered-value (answer_of r) bool_word found b (ap answer_of p))

module _ (found : List ℕ) where
  pub lengths-taken : (r : Result LengthRows Refusal) (n : LengthRows) (rising falling : List (List ℕ)) (first left : List ℕ) → r ≡ Ok n → rising ≡ n.rising
      → falling ≡ n.falling → first ≡ sets found 0 (get_or rising 0 [] ++ get_or rising 1 []) → length (get_or rising 0 [] ++ get_or rising 1 []) ≡ 128
      → left ≡ sets first 128 (get_or falling 0 [] ++ get_or falling 1 []) → Answered (lengths_of r) length_words 0 found left
  lengths-taken r n rising falling first left p g h e many f =
      let up : List ℕ = row_words (rows_in rising) in
      let down : List ℕ = row_words (rows_in falling) in
      let taken : lengths_of r ≡ value (record { on_rising = rows_in rising; on_falling = rows_in falling }) = rw (g, h) (ap lengths_of p) in
      rw (f, e, sets_append up down found 0 128 (omega (arith, many))) (answered-value (lengths_of r) length_words found _ taken)

pub ruleset test-cases = (test-refused, test-taken, rules)

pub ruleset totals-cases = (totals-refused, totals-taken, rules)

pub ruleset held-cases = (held-refused, held-taken, rules)

pub ruleset lengths-cases = (lengths-refused, lengths-taken, rules)
