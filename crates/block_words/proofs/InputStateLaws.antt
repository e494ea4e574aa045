-- The words of the inputs say what evaluating the inputs yields, and where they are live for each edge.
use Rattle.model.proofs.Prelude.{ℕ, ◌≤◌, ◌<◌, ◌*◌, ◌≡◌, ◌∙◌, ap, sym, ap₂, ◌&&◌, not, Bool·beq, and_comm, List, get_or, add-zero, arith}
use Rattle.model.specs.Base.{bit}
use Rattle.model.specs.Netlist.{Netlist}
use Rattle.model.specs.Path.{rising, falling}
use Rattle.model.specs.Detect.{Test, Evaluation, input_evaluation, has_edge}
use Rattle.model.proofs.NetLaws.{evaluate-input}
use Rattle.block_words.specs.Words.{WordIs}
use Rattle.block_words.specs.Table.{CircuitTable}
use Rattle.detection.specs.Cases.{case_of}
use Rattle.block_words.specs.Block.{InputBits, evaluated, live_net}
use Rattle.block_words.specs.NetStates.{plane, InputWords, NetsStated}
use Rattle.block_words.proofs.PlaneLaws.{plane-at}
use Rattle.block_words.proofs.LiveLaws.{live-input}
use Rattle.block_words.proofs.GateTableLaws.{few-inputs, well}

module _ {N : Netlist} {tests : ℕ → Test} {n netCount inputs : ℕ} {table firsts lasts before after : List ℕ} (few : n ≤ 64) (c : CircuitTable N table inputs netCount)
    (b : InputBits tests n inputs firsts lasts) (x : InputWords firsts lasts inputs n before after) where
  input-low : (j : ℕ) → j < inputs → j < 512
  input-low j h = omega (arith, few-inputs (record { circuit = N; is_in = c }))

  input-is : (t j : ℕ) → j < inputs → evaluated N (tests t) j ≡ input_evaluation (tests t).v1 (tests t).v2 j
  input-is t j h = evaluate-input N (tests t).v1 (tests t).v2 j (omega (arith, c.inputs_are))

  first-right : (j : ℕ) → j < inputs → WordIs (get_or (plane 0 after) j 0) (λ t. (evaluated N (tests t) j).under_v1) n
  first-right j h t l =
      ap (λ w. bit w t) (plane-at 0 j after (input-low j h) ∙ ap (λ k. get_or after k 0) (add-zero (8 * j)) ∙ x.first j h) ∙ b.first j t h l
      ∙ sym (ap (λ (e : Evaluation). e.under_v1) (input-is t j h))

  last-right : (j : ℕ) → j < inputs → WordIs (get_or (plane 1 after) j 0) (λ t. (evaluated N (tests t) j).under_v2) n
  last-right j h t l =
      ap (λ w. bit w t) (plane-at 1 j after (input-low j h) ∙ x.last j h) ∙ b.last j t h l ∙ sym (ap (λ (e : Evaluation). e.under_v2) (input-is t j h))

  steady-right : (j : ℕ) → j < inputs → WordIs (get_or (plane 2 after) j 0) (λ t. (evaluated N (tests t) j).steady) n
  steady-right j h t l =
      ap (λ w. bit w t) (plane-at 2 j after (input-low j h)) ∙ x.steady j h t (omega arith) ∙ ap₂ Bool·beq (b.first j t h l) (b.last j t h l)
      ∙ sym (ap (λ (e : Evaluation). e.steady) (input-is t j h))

  rises-right : (j : ℕ) → j < inputs → WordIs (get_or (plane 3 after) j 0) (λ t. live_net (case_of N (tests t) rising) j) n
  unfolding has_edge
  rises-right j h t l =
      ap (λ w. bit w t) (plane-at 3 j after (input-low j h)) ∙ x.rises j h t l ∙ ap₂ (λ y z. not y && z) (b.first j t h l) (b.last j t h l)
      ∙ sym (live-input (case_of N (tests t) rising) (well c) j (omega (arith, c.inputs_are)))

  falls-right : (j : ℕ) → j < inputs → WordIs (get_or (plane 4 after) j 0) (λ t. live_net (case_of N (tests t) falling) j) n
  unfolding has_edge
  falls-right j h t l =
      ap (λ w. bit w t) (plane-at 4 j after (input-low j h)) ∙ x.falls j h t l ∙ and_comm (not (bit (get_or lasts j 0) t)) (bit (get_or firsts j 0) t)
      ∙ ap₂ (λ y z. y && not z) (b.first j t h l) (b.last j t h l) ∙ sym (live-input (case_of N (tests t) falling) (well c) j (omega (arith, c.inputs_are)))

  pub inputs-stated : NetsStated N tests n inputs after
  inputs-stated = record {
    states = record { first = record { words = first-right }; last = record { words = last-right }; steady = record { words = steady-right } };
    rises = record { words = rises-right };
    falls = record { words = falls-right };
  }
