-- `block_counting::inner::answer_words` meets its contract, case by case.
use Rattle.model.proofs.Prelude.{ℕ, ◌∙◌, ap, sym}
use Rattle.block_counting.specs.Counts.{words_of}
use Rattle.block_counting.proofs.inner.answer_words.Goals as goal

pub returns-in-Ok : goal.returns-in-Ok
returns-in-Ok c = sym (ap words_of c.in-Ok.is)

pub returns-in-Err : goal.returns-in-Err
returns-in-Err c =
    ap (λ (n : ℕ). record { rising = 0; falling = 0; refusal = n }) c.refusal_number.ensures ∙ sym (ap words_of c.in-Err.is)
