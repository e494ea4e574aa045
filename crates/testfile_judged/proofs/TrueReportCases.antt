-- The true report: none after a refusal, else the writer's, whose bytes lie in the buffer.
use Rattle.model.proofs.Prelude.{ℕ, ◌≤◌, ◌≡◌, ◌∙◌, ap, refl, sym, subst, List, length, drop, length-append, arith, rules}
use Rattle.model.specs.Base.{Answer, refused, value, ◌into◌}
use Rattle.model.specs.Report.{writer_answer, writer_buffer}
use Rattle.model.specs.declared.Refusal.{Refusal}
use Rattle.testfile_reading.proofs.ReadPieceLaws.{part_length}
use Rattle.report.specs.Answers.{WriteTrue}
use Rattle.audit_block.specs.RecordsTaken.{file_of}
use Rattle.testfile_judged.specs.declared.writing.Written.{Written}
use Rattle.testfile_judged.specs.TrueReport.{Wrote, length_in, with_report, writer_after}
use Rattle.std.specs.Prelude.{Result, Ok, Err}
use Rattle.model.specs.Returned.{answer_of}

-- an answer with its length
module _ (a : Result ℕ Refusal) where
  pub same-refused : (w : Refusal) → a ≡ Err w → Err w ≡ a
  same-refused w q = sym q

  pub length-refused : (w : Refusal) → a ≡ Err w → 0 ≡ length_in (answer_of a)
  length-refused w q = sym (ap (λ (x : Result ℕ Refusal). length_in (answer_of x)) q)

  pub same-written : (n : ℕ) → a ≡ Ok n → Ok n ≡ a
  same-written n q = sym q

  pub length-written : (n : ℕ) → a ≡ Ok n → n ≡ length_in (answer_of a)
  length-written n q = sym (ap (λ (x : Result ℕ Refusal). length_in (answer_of x)) q)

pub ruleset answer-cases = (same-refused, length-refused, same-written, length-written, rules)

-- the report lies in the buffer
within : (x : Answer (List ℕ)) (found : List ℕ) → length_in (x into λ w. value (length w)) ≤ length (with_report x found)
within (refused n) found = omega arith
within (value w) found = omega (arith, length-append w (drop (length w) found))

wrote-within : (r : Written) (x : Answer (List ℕ)) (found left : List ℕ) → Wrote r x found left → r.length ≤ length left
wrote-within r x found left t = subst (λ (l : List ℕ). r.length ≤ length l) (sym t.bytes) (omega (arith, t.size, within x found))

module _ (netlist ws : List ℕ) (answer : Result (Unit {0}) Refusal) (r : Written) (truth : List ℕ) where
  pub wrote_none : (w : Refusal) → answer ≡ Err w → r.answer ≡ Err w → r.length ≡ length_in (answer_of (Err w))
      → Wrote r (writer_after netlist (file_of answer ws) truth) truth truth
  unfolding writer_after
  wrote_none w q a l = record {
    answer = rw q (ap answer_of a);
    size = rw q l;
    bytes = rw q refl;
  }

  pub wrote-some : (truth' : List ℕ) (a : Result ℕ Refusal) → answer ≡ Ok tt → WriteTrue a netlist ws truth truth' → r.answer ≡ a
      → r.length ≡ length_in (answer_of a) → Wrote r (writer_after netlist (file_of answer ws) truth) truth truth'
  unfolding writer_after writer_answer writer_buffer
  wrote-some truth' a q t s l = record {
    answer = rw q (ap answer_of s ∙ t.answer);
    size = rw q (l ∙ ap length_in t.answer);
    bytes = rw q t.buffer;
  }

  pub none_within : (w : Refusal) → answer ≡ Err w → r.answer ≡ Err w → r.length ≡ length_in (answer_of (Err w))
      → r.length ≤ length truth
  none_within w q a l = wrote-within r (writer_after netlist (file_of answer ws) truth) truth truth (wrote_none w q a l)

  pub some-within : (truth' : List ℕ) (a : Result ℕ Refusal) → answer ≡ Ok tt → WriteTrue a netlist ws truth truth' → r.answer ≡ a
      → r.length ≡ length_in (answer_of a) → r.length ≤ length truth'
  some-within truth' a q t s l = wrote-within r (writer_after netlist (file_of answer ws) truth) truth truth' (wrote-some truth' a q t s l)

pub ruleset wrote-cases = (wrote_none, wrote-some, none_within, some-within, part_length, rules)
