-- The lines of a listing that tell of the paths, of a refusal and of test records: document 01, "The listing program".
-- Names: 32 is a space, 10 the end of a line.
use Rattle.std.specs.Prelude.{List, [], ◌∷◌, ◌++◌, ℕ, zero, suc, ◌+◌, get_or}
use Rattle.model.specs.Base.{Answer, refused, value}
use Rattle.model.specs.Calls.{FaultCounts}
use Rattle.text_line.specs.Decimal.{decimal_text, refused_text}

-- the word `paths `
abbrev pub paths_word : List ℕ
paths_word = 0x70 ∷ 0x61 ∷ 0x74 ∷ 0x68 ∷ 0x73 ∷ 0x20 ∷ []

-- a line of a word and a number
abbrev pub numbered : List ℕ → ℕ → List ℕ
numbered word n = word ++ decimal_text n ++ 10 ∷ []

-- two numbers and the end of their line
abbrev pub pair_text : ℕ → ℕ → List ℕ
pair_text first second = decimal_text first ++ 32 ∷ decimal_text second ++ 10 ∷ []

-- `paths T`
unfoldable pub paths_line : ℕ → List ℕ
paths_line paths = numbered paths_word paths

-- A refused netlist prints `refused` and the number alone, and so does a class that is refused
unfoldable pub refused_line_of : ℕ → List ℕ
refused_line_of number = refused_text number ++ 10 ∷ []

-- the line of a test record: its place and the new rising and falling faults, or its place, `refused` and the number
unfoldable pub record_line : ℕ → Answer FaultCounts → List ℕ
record_line place (refused number) = decimal_text place ++ 32 ∷ refused_text number ++ 10 ∷ []
record_line place (value r) = decimal_text place ++ 32 ∷ decimal_text r.new_faults.on_rising ++ 32 ∷ decimal_text r.new_faults.on_falling ++ 10 ∷ []

-- the answer that three words have: the new faults of each edge and 0, or the number of a refusal. No line tells the faults then held.
abbrev pub answer_in : ℕ → ℕ → ℕ → Answer FaultCounts
answer_in r f zero = value (record { new_faults = record { on_rising = r; on_falling = f }; held_faults = record { on_rising = 0; on_falling = 0 } })
answer_in r f (suc n) = refused (suc n)

-- those of record t of a block: of up to 64 records the new rising faults, then the new falling ones, then the refusals
abbrev pub answer_at : List ℕ → ℕ → Answer FaultCounts
answer_at answers t = answer_in (get_or answers t 0) (get_or answers (64 + t) 0) (get_or answers (128 + t) 0)

-- the lines of the first n answers
unfoldable pub answer_lines : ℕ → List ℕ → ℕ → List ℕ
answer_lines place answers zero = []
answer_lines place answers (suc n) = answer_lines place answers n ++ record_line (place + n) (answer_at answers n)
