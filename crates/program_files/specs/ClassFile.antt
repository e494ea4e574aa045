-- The class that a class file names: document 02, tickets 6 and 10, on class.txt.
use Rattle.std.specs.Prelude.{◌≡◌, Bool, true, false, List, [], ◌∷◌, ℕ, ◌≤◌, eqb, length, take}
use Rattle.program_files.specs.Files.{whole_told}
use Rattle.program_files.specs.declared.class_file.ClassRead.{ClassRead}

-- the character 1 or 2; 0 for another, which is no class
abbrev pub character_class : ℕ → ℕ
character_class c = elim (eqb c 0x31) [ true ↦ 1 | false ↦ elim (eqb c 0x32) [ true ↦ 2 | false ↦ 0 ] ]

-- The class that a class file chooses: where it is missing, the one that is usual; the class of its one character; else 0, which is no class: also
-- for an empty file and for a line end after the character
abbrev pub class_chosen_of : ℕ → Bool → List ℕ → ℕ
class_chosen_of usual true bytes = usual
class_chosen_of usual false [] = 0
class_chosen_of usual false (c ∷ []) = character_class c
class_chosen_of usual false (c ∷ d ∷ bytes) = 0

-- for a report, the usual class is 1: an audited report is non-robust unless the audit is handed class 2
abbrev pub class_in : Bool → List ℕ → ℕ
class_in missing bytes = class_chosen_of 1 missing bytes

-- for the listing it is 2: robust when nothing is said
abbrev pub class_listed : Bool → List ℕ → ℕ
class_listed missing bytes = class_chosen_of 2 missing bytes

-- The class in a class file: there is a space of two bytes, which tell a longer file from one character; the class is that of the bytes that were read to its
-- start
pub record ClassTold (class_of : Bool → List ℕ → ℕ) (r : ClassRead) : Type 0 where
  pub space : List ℕ
  pub two : length space ≡ 2
  pub within : r.content.bytes ≤ length space
  pub class_is : r.class ≡ class_of r.content.missing (take r.content.bytes space)
  pub whole_is_of : r.whole ≡ whole_told r.content (length space)
