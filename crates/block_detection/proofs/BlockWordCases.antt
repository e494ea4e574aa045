-- The records of a block that detect a fault: vectors transposed, words of the inputs, of all nets, of the fault.
use Rattle.model.proofs.Prelude.{ℕ, ◌≤◌, ◌≡◌, ◌∙◌, sym, subst, List, length, arith}
use Rattle.model.specs.Netlist.{Netlist}
use Rattle.model.specs.Path.{Edge}
use Rattle.model.proofs.AnswerLaws.{value_inj}
use Rattle.model.proofs.ReadLaws.{limits}
use Rattle.netlist.specs.declared.inner.Shape.{Shape}
use Rattle.block_words.specs.Table.{CircuitTable, SomeTable}
use Rattle.block_words.specs.NetStates.{InputWords}
use Rattle.block_words.proofs.InputStateLaws.{inputs-stated}
use Rattle.block_transpose.specs.Vectors.{Transposed}
use Rattle.block_activity.proofs.EdgeListLaws.{input-bits}
use Rattle.block_detection.specs.PathWords.{FaultReady, FaultWord, GatesStated, BlockWord}

module _ {file ps cs : List ℕ} {shape : Shape} {table work : List ℕ} {k : ℕ} (r : FaultReady file ps cs shape table work k) where
  pub block-inputs : shape.inputs ≤ 64
  block-inputs = omega (arith, r.wanted.tables.inputs_are, (limits file r.wanted.circuit r.wanted.tables.legal).few_inputs)

  pub block-table : SomeTable table shape.inputs shape.nets
  block-table = record { circuit = r.wanted.circuit; is_in = r.gates }

  -- the same of other memory that is as long
  pub block-ready : {words : List ℕ} → length words ≡ length work → FaultReady file ps cs shape table words k
  block-ready e = record { wanted = r.wanted; gates = r.gates; room = omega (arith, r.room) }

  module _ {n class : ℕ} (few : n ≤ 64) {vectors firsts lasts : List ℕ} (s₁ : Transposed vectors 0 n shape.inputs firsts)
      (s₂ : Transposed vectors 64 n shape.inputs lasts) {words₁ words₂ : List ℕ} (i : InputWords firsts lasts shape.inputs n work words₁)
      (g : GatesStated table shape class words₁ words₂) where
    pub block-word : (e : Edge) (word : ℕ) → FaultWord file ps cs shape words₂ class e k word → BlockWord file ps cs shape vectors class n e k word
    block-word e word f = record {
      right = λ N tests u b v.
          let same : r.wanted.circuit ≡ N = value_inj (sym r.wanted.tables.legal ∙ u.legal) in
          let c : CircuitTable N table shape.inputs shape.nets =
          subst (λ (M : Netlist). CircuitTable M table shape.inputs shape.nets) same r.gates in
          f.right N tests n u b (g.right N tests n c b (inputs-stated few c (input-bits u.inputs_are v s₁ s₂) i));
    }
