-- Codes and answer words: what a refusal and what a value leave.
use mir.Val.{bool_byte}
use Rattle.model.proofs.Prelude.{ℕ, Bool, true, false, ◌≡◌, ap, refl, subst, List, sets, rules}
use Rattle.model.specs.Base.{Answer, refused, value}
use Rattle.model.specs.Refusals.{refusal_number_of}
use Rattle.model.specs.declared.Refusal.{Refusal}
use Rattle.model.specs.declared.Refusal.TheVariants as why
use Rattle.model.specs.Returned.{answer_of}
use Rattle.c_answer_words.specs.Codes.{code_answer, Answered, number_word}
use Rattle.std.specs.Prelude.{cond, Result, Ok, Err}

-- no refusal has the number 0: each is a code of its own
pub code_refused : (w : Refusal) → code_answer (refusal_number_of w) ≡ refused (refusal_number_of w)
unfolding code_answer
code_refused why.StoreLength = refl
code_refused why.WorkLength = refl
code_refused why.PathBufferLength = refl
code_refused why.ReportBufferLength = refl
code_refused why.Header = refl
code_refused why.HeaderRange = refl
code_refused why.GateCut = refl
code_refused why.GateKind = refl
code_refused why.PinCount = refl
code_refused why.PinNotLower = refl
code_refused why.CountOverLimit = refl
code_refused why.OutputCut = refl
code_refused why.OutputNet = refl
code_refused why.BytesLeftOver = refl
code_refused why.TotalOverLimit = refl
code_refused why.RecordLength = refl
code_refused why.RecordMark = refl
code_refused why.SpareBit = refl
code_refused why.TestFileLength = refl
code_refused why.RunCount = refl
code_refused why.RunRange = refl
code_refused why.WordPastRuns = refl
code_refused why.WorkingRuns = refl
code_refused why.StoreRuns = refl
code_refused why.NoSuchNumber = refl
code_refused why.NotAPath = refl
code_refused why.ReportMark = refl
code_refused why.ReportLength = refl
code_refused why.ReportBytes = refl
code_refused why.NetlistBufferLength = refl
code_refused why.BenchLine = refl
code_refused why.BenchName = refl
code_refused why.BenchCount = refl
code_refused why.UnknownClass = refl
code_refused why.PathTooLong = refl
code_refused why.UnchangedPair = refl
code_refused why.TestsFull = refl
code_refused why.TreeLength = refl
code_refused why.TreeWords = refl
code_refused why.ViewerPlaces = refl
code_refused why.ForeignFault = refl
code_refused why.TooManyInputs = refl

pub code_zero : code_answer 0 ≡ value tt
unfolding code_answer
code_zero = refl

module _ {A : Type 0} (call : Answer A) (words : A → List ℕ) (found : List ℕ) where
  pub answered-refused : (w : Refusal) (code : ℕ) → code ≡ refusal_number_of w → call ≡ refused (refusal_number_of w) → Answered call words code found found
  answered-refused w code q e = record { code_is = rw (q, e) (code_refused w); answer_is = rw e refl }

  pub answered-value : (a : A) → call ≡ value a → Answered call words 0 found (sets found 0 (words a))
  answered-value a e = record { code_is = rw e code_zero; answer_is = rw e refl }

-- code and words of an answer that is the call's
pub answered-by : {A : Type 0} {x call : Answer A} {words : A → List ℕ} {code : ℕ} {found left : List ℕ}
    → x ≡ call → Answered x words code found left → Answered call words code found left
answered-by {words = words} {code = code} {found = found} {left = left} e a = subst (λ y. Answered y words code found left) e a

-- ---- What a function of the library returned, by its cases

module _ (code : ℕ) (w : Refusal) (q : code ≡ refusal_number_of w) where
  pub told-refused : (r : Result (Unit {0}) Refusal) → r ≡ Err w → code_answer code ≡ answer_of r
  told-refused r p = rw (q, p) (code_refused w)

  pub number-refused : (r : Result ℕ Refusal) (found : List ℕ) → r ≡ Err w → Answered (answer_of r) number_word code found found
  number-refused r found p = answered-refused (answer_of r) number_word found w code q (ap answer_of p)

pub told-done : (r : Result (Unit {0}) Refusal) → r ≡ Ok tt → code_answer 0 ≡ answer_of r
told-done r p = rw p code_zero

pub number-taken : (r : Result ℕ Refusal) (n code : ℕ) (found left : List ℕ) → code ≡ 0 → left ≡ sets found 0 (number_word n) → r ≡ Ok n
    → Answered (answer_of r) number_word code found left
number-taken r n code found left q l p = rw (q, l) (answered-value (answer_of r) number_word found n (ap answer_of p))

-- a truth value as the number that a cast makes of it
pub bit_is : (b : Bool) → bool_byte b ≡ cond b 1 0
bit_is true = refl
bit_is false = refl

pub ruleset code-cases = (told-refused, told-done, rules)

pub ruleset number-cases = (number-refused, number-taken, rules)
