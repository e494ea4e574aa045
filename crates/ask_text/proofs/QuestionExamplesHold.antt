-- Small examples of answers, written out by hand and computed from the definitions.
use Rattle.model.proofs.Prelude.{ℕ, ◌≡◌, refl, [], ◌∷◌, ◌++◌}
use Rattle.model.specs.Base.{Answer, value, ◌then◌, checks}
use Rattle.model.specs.Path.{path_of_fault}
use Rattle.model.specs.Read.{within}
use Rattle.model.specs.Runs.{in_runs}
use Rattle.text_line.specs.Decimal.{digits_of, decimal_text}
use Rattle.text_line.specs.Lines.{ascii}
use Rattle.text_buffer.specs.Written.{plain_line}
use Rattle.tree_words.specs.Calls.{Asked, run_of}
use Rattle.ask_text.specs.Questions.{with_digit_of, byte_after_of, stated_by, asked_line, answer_line, lines_from, answers_to, answers_text}

-- five paths, of which 1 to 3 and 5 are held on either edge, by a tree of two levels
abbrev example : ℕ → Answer Asked
example fault = checks ((60, within 1 10 fault) ∷ []) then value (record { held = in_runs (run_of 1 3 ∷ run_of 5 5 ∷ []) (path_of_fault fault); visited = 2 })

-- faults 6 and 7 are of paths 3 and 4; then 0, an empty line, 11, a sign, a zero in front; the last line has no end
pub answers-hold :
    answers_text example (plain_line (ascii "6") ++ plain_line (ascii "7") ++ plain_line (ascii "0") ++ plain_line [] ++ plain_line (ascii "11") ++ plain_line (ascii "+1") ++ ascii "010")
    ≡ (plain_line (ascii "6 held, nodes visited: 2")
    ++ plain_line (ascii "7 not held, nodes visited: 2")
    ++ plain_line (ascii "0 refused 60")
    ++ plain_line (ascii "line 4: no fault number")
    ++ plain_line (ascii "11 refused 60")
    ++ plain_line (ascii "line 6: no fault number")
    ++ plain_line (ascii "10 held, nodes visited: 2"))
unfolding digits_of decimal_text in_runs with_digit_of byte_after_of stated_by asked_line answer_line lines_from answers_to answers_text
answers-hold = refl

-- the largest number of 64 bits, and one more
pub largest_holds :
    answers_text example (plain_line (ascii "18446744073709551615") ++ plain_line (ascii "18446744073709551616"))
    ≡ plain_line (ascii "18446744073709551615 refused 60") ++ plain_line (ascii "line 2: no fault number")
unfolding digits_of decimal_text in_runs with_digit_of byte_after_of stated_by asked_line answer_line lines_from answers_to answers_text
largest_holds = refl
