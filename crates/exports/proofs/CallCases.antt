-- The end of an audit in pieces: the answer that is turned into a code is that of the definition.
use Rattle.model.proofs.Prelude.{ℕ, ◌≡◌, ◌∙◌, ap, sym, List}
use Rattle.model.specs.Base.{refused}
use Rattle.audit_judging.specs.FileJudging.{ended_of}
use Rattle.audit_pieces.specs.Calls.{end_answer, EndTrue}
use Rattle.c_answer_words.specs.Codes.{code_answer}
use Rattle.c_answer_words.proofs.CodeLaws.{code_zero}
use Rattle.exports.proofs.NumberedLaws.{code_numbered, end-numbered}
use Rattle.std.specs.Prelude.{Result, Ok, Err}

-- the end of an audit in pieces answers a number, which is its code: by its promise it is never 0
module _ {r : Result (Unit {0}) ℕ} {netlist : List ℕ} {total first : ℕ} {report ws ws' : List ℕ} (t : EndTrue r netlist total first report ws ws') where
  pub end_refused : (n : ℕ) → r ≡ Err n → code_answer n ≡ end_answer netlist total first report ws
  end_refused n p =
      let e : refused n ≡ end_answer netlist total first report ws = ap ended_of (sym p) ∙ t.answer in
      code_numbered (end_answer netlist total first report ws) (end-numbered netlist total first report ws) n (sym e) ∙ e

  pub end-accepted : r ≡ Ok tt → code_answer 0 ≡ end_answer netlist total first report ws
  end-accepted p = code_zero ∙ ap ended_of (sym p) ∙ t.answer
