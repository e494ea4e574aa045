-- What is told of a name where there is such an argument: nothing, as the number of arguments is above its place.
use Rattle.model.proofs.Prelude.{ℕ, ◌<◌, List, arith}
use Rattle.program_files.specs.Files.{NameTold}

pub name-given : (place n : ℕ) (usual space space' : List ℕ) (arguments : ℕ) → place < arguments → NameTold place n usual space space'
name-given place n usual space space' arguments h =
    record { arguments = arguments; length_is = λ a. absurd (omega (arith, h, a)); usual_is = λ a. absurd (omega (arith, h, a)) }
