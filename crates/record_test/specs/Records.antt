-- What the checks of a test record answer, and its vectors and edges as words with a bit for each input.
use Rattle.std.specs.Prelude.{◌≡◌, false, ◌&&◌, not, List, ℕ, ◌<◌, get_or}
use Rattle.model.specs.Base.{checks, bit}
use Rattle.model.specs.Netlist.{Netlist}
use Rattle.model.specs.Detect.{Class}
use Rattle.model.specs.Read.{test_rules, test_of}
use Rattle.record_test.specs.declared.inner.Vectors.{Vectors}
use Rattle.record_test.specs.declared.inner.InputEdges.{InputEdges}
use Rattle.std.specs.Prelude.{Result}
use Rattle.model.specs.declared.Refusal.{Refusal}
use Rattle.model.specs.Returned.{answer_of}

-- the answer is that of the place Test, for a netlist with so many inputs
pub record RecordTrue (r : Result (Unit {0}) Refusal) (inputs : ℕ) (rec : List ℕ) : Type 0 where
  pub answer : (N : Netlist) → N.inputs ≡ inputs → answer_of r ≡ checks (test_rules N rec)

-- bit j of each word is the value of input j in V1, and in V2
pub record VectorsTrue (r : Vectors) (inputs : ℕ) (rec : List ℕ) : Type 0 where
  pub first : (N : Netlist) (c : Class) → N.inputs ≡ inputs → (j : ℕ) → j < inputs → bit r.v1 j ≡ get_or (test_of N c rec).v1 j false
  pub second : (N : Netlist) (c : Class) → N.inputs ≡ inputs → (j : ℕ) → j < inputs → bit r.v2 j ≡ get_or (test_of N c rec).v2 j false

-- an input rises when V1 has 0 and V2 has 1, and falls in the opposite case
pub record EdgesTrue (t : Vectors) (r : InputEdges) : Type 0 where
  pub rise : (j : ℕ) → bit r.rises j ≡ (not (bit t.v1 j) && bit t.v2 j)
  pub fall : (j : ℕ) → bit r.falls j ≡ (bit t.v1 j && not (bit t.v2 j))
