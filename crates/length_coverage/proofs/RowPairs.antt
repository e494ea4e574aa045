-- Rows of 64 numbers, two of them, as a value of the machine: for the walks by hand of the functions that make and read a struct that holds them.
use Rattle.model.proofs.Prelude.{ℕ, ◌≡◌, ◌∙◌, List, map}
use mathlib.Core.List.{map-id}
use seplogic.Ra.Ura.{Ura}
use mir.Syntax.{w64}
use types.Logic.{Logic}
use denote.RattleType.{RattleType}
use denote.Laws.{Is, Makes}
use denote.Array.{Array, Array-Makes}
use denote.Plain.{uint_Makes}
use denote.Builtin.{u64}
use denote.Struct.Field.{u64-field, array_field}
use denote.Struct.Laws.{FLaws, u64-laws, array_laws}

abbrev pub Pair : RattleType
Pair = Array (Array u64 64) 2

abbrev pub pair-laws : FLaws (array_field (array_field u64-field 64) 2)
pair-laws = array_laws (array_field u64-field 64) (array_laws u64-field u64-laws 64) 2

-- the rows as a field has them
abbrev pub in_field : List (List ℕ) → List (List ℕ)
in_field = map (map (λ v. v))

pub field-same : (xs : List (List ℕ)) → in_field xs ≡ xs
field-same xs = (λ i. map (λ r. map-id r i) xs) ∙ map-id xs

pub pair-makes : {M : Type 1} {𝓤 : Ura M} (𝓛 : Logic 𝓤) → Makes 𝓛 Pair (Is Pair)
pair-makes 𝓛 = Array-Makes 𝓛 (Array u64 64) (Array-Makes 𝓛 u64 (uint_Makes 𝓛 w64) 64) 2
