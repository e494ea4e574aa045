-- The code and the answer words of each other call, by the cases of its answer.
use Rattle.model.proofs.Prelude.{ℕ, ◌≡◌, ap, List, [], ◌∷◌, sets, rules}
use Rattle.model.specs.Refusals.{refusal_number_of}
use Rattle.model.specs.declared.Refusal.{Refusal}
use Rattle.netlist.specs.Answers.{surveyed_of}
use Rattle.netlist.specs.declared.NetlistSurvey.{NetlistSurvey}
use Rattle.path_faults.specs.Answers.{fault_answer}
use Rattle.path_faults.specs.declared.PathNo.{PathNo}
use Rattle.path_faults.specs.declared.FaultNo.{FaultNo}
use Rattle.path_to_number.specs.PathNumbers.{number_answer}
use Rattle.audit_pieces.specs.Calls.{piece_of}
use Rattle.audit_pieces.specs.declared.PieceAnswer.{PieceAnswer}
use Rattle.audit_pieces.specs.declared.PieceAnswer.TheVariants as piece
use Rattle.bench_text.specs.Calls.{bench_of}
use Rattle.load.specs.Answers.{loaded_of}
use Rattle.c_answer_words.specs.Codes.{Answered, survey_words, number_word}
use Rattle.c_answer_words.proofs.CodeLaws.{answered-refused, answered-value}
use Rattle.c_calls.specs.Answers.{all_taken, load_words}
use Rattle.std.specs.Prelude.{Result, Ok, Err}
use Rattle.bench_circuit.specs.declared.inner.judging.LineRefusal.{LineRefusal}
use Rattle.load.specs.declared.LoadWritten.{LoadWritten}

-- ---- A call that was refused leaves the answer words as they were

module _ (code : ℕ) (w : Refusal) (q : code ≡ refusal_number_of w) (found : List ℕ) where
  pub survey-refused : (r : Result NetlistSurvey Refusal) → r ≡ Err w → Answered (surveyed_of r) survey_words code found found
  survey-refused r p = answered-refused (surveyed_of r) survey_words found w code q (ap surveyed_of p)

  pub number-refused : (r : Result PathNo Refusal) → r ≡ Err w → Answered (number_answer r) number_word code found found
  number-refused r p = answered-refused (number_answer r) number_word found w code q (ap number_answer p)

  pub fault-refused : (r : Result FaultNo Refusal) → r ≡ Err w → Answered (fault_answer r) number_word code found found
  fault-refused r p = answered-refused (fault_answer r) number_word found w code q (ap fault_answer p)

  pub piece-refused : (r : PieceAnswer) → r ≡ piece.Refused w → Answered (all_taken (piece_of r)) number_word code found found
  piece-refused r p = answered-refused (all_taken (piece_of r)) number_word found w code q (ap (λ a. all_taken (piece_of a)) p)

  pub record_refused : (r : PieceAnswer) (k : ℕ) → r ≡ piece.RecordRefused k w → Answered (all_taken (piece_of r)) number_word code found found
  record_refused r k p = answered-refused (all_taken (piece_of r)) number_word found w code q (ap (λ a. all_taken (piece_of a)) p)

  pub load-refused : (r : Result LoadWritten Refusal) → r ≡ Err w → Answered (loaded_of r) load_words code found found
  load-refused r p = answered-refused (loaded_of r) load_words found w code q (ap loaded_of p)

pub bench_refused : (r : Result ℕ LineRefusal) (l : LineRefusal) (code : ℕ) (found : List ℕ) → code ≡ refusal_number_of l.why → r ≡ Err l
    → Answered (bench_of r) number_word code found found
bench_refused r l code found q p = answered-refused (bench_of r) number_word found l.why code q (ap bench_of p)

-- ---- and one that was taken writes them

module _ (found : List ℕ) where
  pub survey-taken : (r : Result NetlistSurvey Refusal) (d : NetlistSurvey) (left : List ℕ) → r ≡ Ok d
      → left ≡ sets found 0 (d.inputs ∷ d.gates ∷ d.outputs ∷ d.total ∷ d.counts)
      → Answered (surveyed_of r) survey_words 0 found left
  survey-taken r d left p e =
      rw e (answered-value (surveyed_of r) survey_words found _ (ap surveyed_of p))

module _ (code : ℕ) (q : code ≡ 0) (found left : List ℕ) where
  pub number-taken : (r : Result PathNo Refusal) (n : PathNo) → r ≡ Ok n → left ≡ sets found 0 (number_word n.0) → Answered (number_answer r) number_word code found left
  number-taken r n p l = rw (q, l) (answered-value (number_answer r) number_word found n.0 (ap number_answer p))

  pub fault-taken : (r : Result FaultNo Refusal) (f : FaultNo) → r ≡ Ok f → left ≡ sets found 0 (number_word f.0) → Answered (fault_answer r) number_word code found left
  fault-taken r f p l = rw (q, l) (answered-value (fault_answer r) number_word found f.0 (ap fault_answer p))

  pub load-taken : (r : Result LoadWritten Refusal) (n : LoadWritten) → r ≡ Ok n → left ≡ sets found 0 (n.state ∷ n.length ∷ []) → Answered (loaded_of r) load_words code found left
  load-taken r n p l = rw (q, l) (answered-value (loaded_of r) load_words found _ (ap loaded_of p))

  module _ (n : ℕ) (l : left ≡ sets found 0 (number_word n)) where
    pub piece-taken : (r : PieceAnswer) → r ≡ piece.Taken n → Answered (all_taken (piece_of r)) number_word code found left
    piece-taken r p = rw (q, l) (answered-value (all_taken (piece_of r)) number_word found n (ap (λ a. all_taken (piece_of a)) p))

    pub bench_taken : (r : Result ℕ LineRefusal) → r ≡ Ok n → Answered (bench_of r) number_word code found left
    bench_taken r p = rw (q, l) (answered-value (bench_of r) number_word found n (ap bench_of p))

pub ruleset survey-cases = (survey-refused, survey-taken, rules)

pub ruleset number-cases = (number-refused, number-taken, rules)

pub ruleset fault-cases = (fault-refused, fault-taken, rules)

pub ruleset piece-cases = (piece-refused, record_refused, piece-taken, rules)

pub ruleset bench-cases = (bench_refused, bench_taken, rules)

pub ruleset load-cases = (load-refused, load-taken, rules)
