-- What a function of the library returns, as the papers' answers: the value of its `Ok`, or the number of its refusal.
use Rattle.std.specs.Prelude.{Result, Ok, Err}
use Rattle.model.specs.Base.{Answer, refused, value}
use Rattle.model.specs.Refusals.{refusal_number_of}
use Rattle.model.specs.declared.Refusal.{Refusal}

abbrev pub answer_of : {A : Type 0} → Result A Refusal → Answer A
answer_of (Ok a) = value a
answer_of (Err why) = refused (refusal_number_of why)

-- the same of a function of the value
abbrev pub answer_by : {A B : Type 0} → (A → B) → Result A Refusal → Answer B
answer_by f (Ok a) = value (f a)
answer_by f (Err why) = refused (refusal_number_of why)
