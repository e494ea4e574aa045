-- What is told of files by name, and of arguments. No contract says which bytes or numbers the system gives: there are such, and the answer is this of them.
use Rattle.std.specs.Prelude.{◌≡◌, Bool, true, false, ◌&&◌, ◌||◌, List, [], ℕ, ◌≤◌, leb, eqb, ℤ, pos, negsuc, length}
use Rattle.std.proofs.lemmas.List.Edits.{sets}
use Rattle.std.specs.Int.Signed.{le_z}
use Rattle.model.specs.Report.{same_bytes}
use Rattle.program_files.specs.declared.files.Content.{Content}

-- Whether an argument is a word: there is a text, of at most 4,096 bytes, and the answer is whether it is the word
pub record ArgumentTold (answer : Bool) (word : List ℕ) : Type 0 where
  pub text : List ℕ
  pub short : length text ≤ 4096
  pub is_word : answer ≡ same_bytes text word

-- the usual name, where the space holds it; else none
abbrev pub usual_in : List ℕ → List ℕ → List ℕ
usual_in usual space = elim (leb (length usual) (length space)) [ true ↦ usual | false ↦ [] ]

-- The file name that an argument gives: there is a number of arguments, and where the place is not below it, the usual name stands at the start of the space
-- and nothing else is changed
pub record NameTold (place n : ℕ) (usual space space' : List ℕ) : Type 0 where
  pub arguments : ℕ
  pub length_is : arguments ≤ place → n ≡ length (usual_in usual space)
  pub usual_is : arguments ≤ place → space' ≡ sets space 0 (usual_in usual space)

-- whether two numbers that may be negative are the same
abbrev pub eq_z : ℤ → ℤ → Bool
eq_z (pos a) (pos b) = eqb a b
eq_z (pos a) (negsuc b) = false
eq_z (negsuc a) (pos b) = false
eq_z (negsuc a) (negsuc b) = eqb a b

-- whether a file is at its end: one more read gives nothing, and no error, and the system told no size before, or the reads have come to it
abbrev pub ended_by : ℤ → ℤ → ℤ → Bool
ended_by got size place = eq_z got (pos 0) && (le_z size (pos 0) || eq_z place size)

pub record EndTold (answer : Bool) (size : ℤ) : Type 0 where
  pub got : ℤ
  pub place : ℤ
  pub end_is_of : answer ≡ ended_by got size place

-- whether a program may judge by a file: it is missing, and counts as empty; or it was opened, and read whole
abbrev pub may_judge : Bool → Bool → Bool → Bool
may_judge missing opened whole = missing || (opened && whole)

-- what is said of it where so many bytes were read to a space of such a length: as far as the space goes, or to the end
abbrev pub whole_told : Content → ℕ → Bool
whole_told content room = may_judge content.missing content.opened (leb room content.bytes || content.ended)
