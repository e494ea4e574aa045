-- The text of an audit's verdict, and of the class that it judged by.
use Rattle.std.specs.Prelude.{Bool, true, false, ◌||◌, List, [], ◌∷◌, ◌++◌, ℕ, eqb}
use Rattle.model.specs.Base.{Answer, refused, value}
use Rattle.text_line.specs.Decimal.{refused_text}

-- the text `accepted`
abbrev pub accepted_text : List ℕ
accepted_text = 0x61 ∷ 0x63 ∷ 0x63 ∷ 0x65 ∷ 0x70 ∷ 0x74 ∷ 0x65 ∷ 0x64 ∷ []

-- `accepted`, or `refused` and the number of the refusal
abbrev pub verdict_text : Answer (Unit {0}) → List ℕ
verdict_text (value u) = accepted_text
verdict_text (refused number) = refused_text number

-- the numbers that one record of a test file can be refused with in an audit, which asked for 33 before: its mark, a spare bit, a pair
-- without a changed input, 50 and 51
abbrev pub of_record : ℕ → Bool
of_record number = eqb number 31 || eqb number 32 || eqb number 85 || eqb number 50 || eqb number 51

-- the texts `judged in class `, `1 (non-robust)` and `2 (robust)`
abbrev pub judged_text : List ℕ
judged_text = 0x6A ∷ 0x75 ∷ 0x64 ∷ 0x67 ∷ 0x65 ∷ 0x64 ∷ 0x20 ∷ 0x69 ∷ 0x6E ∷ 0x20 ∷ 0x63 ∷ 0x6C ∷ 0x61 ∷ 0x73 ∷ 0x73 ∷ 0x20 ∷ []

abbrev pub non_robust_text : List ℕ
non_robust_text = 0x31 ∷ 0x20 ∷ 0x28 ∷ 0x6E ∷ 0x6F ∷ 0x6E ∷ 0x2D ∷ 0x72 ∷ 0x6F ∷ 0x62 ∷ 0x75 ∷ 0x73 ∷ 0x74 ∷ 0x29 ∷ []

abbrev pub robust_text : List ℕ
robust_text = 0x32 ∷ 0x20 ∷ 0x28 ∷ 0x72 ∷ 0x6F ∷ 0x62 ∷ 0x75 ∷ 0x73 ∷ 0x74 ∷ 0x29 ∷ []

-- `judged in class 1 (non-robust)` or `judged in class 2 (robust)`; class is a number that the audit did not refuse
unfoldable pub class_text : ℕ → List ℕ
class_text class = judged_text ++ elim (eqb class 2) [ true ↦ robust_text | false ↦ non_robust_text ]
