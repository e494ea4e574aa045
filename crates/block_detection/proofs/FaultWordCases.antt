-- The word of a path number, by its output.
use Rattle.model.proofs.Prelude.{ℕ, ◌≤◌, ◌-◌, ◌*◌, ◌≡◌, ◌∙◌, ap, sym, subst, ap₂, List, length, drop, rules}
use Rattle.model.specs.Netlist.{Netlist, output_net, output_counts, path_total}
use Rattle.model.specs.Path.{Edge, split, path_at, path_of}
use Rattle.model.specs.Detect.{Test, all_open, open_pin, has_edge, in_net_set, detects, detects_number}
use Rattle.model.proofs.AnswerLaws.{value_inj}
use Rattle.netlist.specs.Tables.{CircuitTables}
use Rattle.netlist.specs.declared.inner.Shape.{Shape}
use Rattle.path_step.specs.Picks.{pick_output_of}
use Rattle.path_step.specs.declared.inner.pins.Pick.{Pick}
use Rattle.path_of_number.specs.Tasks.{Wanted}
use Rattle.path_of_number.proofs.WritingCases.{wanted-some, wanted-few, wanted_room, wanted-outputs, wanted-small, picked_net, picked_low, picked_high, pin-is, number_is, net-is}
use Rattle.block_detection.specs.PathWords.{WalkReady, PathWord, FaultReady, FaultWord}

module _ (file ps cs : List ℕ) (shape : Shape) (table words : List ℕ) (k : ℕ) (r : FaultReady file ps cs shape table words k) where
  pub fault-wanted : Wanted file ps cs shape k
  fault-wanted = r.wanted

  module _ (outs : List ℕ) (eo : outs ≡ drop (length file - 4 * shape.outputs) file) (o : Pick)
      (ep : o ≡ pick_output_of outs shape.outputs shape.inputs cs k) where
    pub fault-walk : WalkReady file ps cs shape table words o.net o.number
    fault-walk = record {
      circuit = r.wanted.circuit;
      tables = r.wanted.tables;
      gates = r.gates;
      high = picked_net file ps cs shape k r.wanted outs eo o ep;
      some = picked_low file ps cs shape k r.wanted outs eo o ep;
      small = picked_high file ps cs shape k r.wanted outs eo o ep;
      room = r.room;
    }

    same-path : (N : Netlist) → CircuitTables N file ps cs shape → (t : Test) (e : Edge) → in_net_set N t e o.net o.number ≡ detects_number N t e k
    unfolding in_net_set detects_number detects path_of
    same-path N u t e =
        let same : r.wanted.circuit ≡ N = value_inj (sym r.wanted.tables.legal ∙ u.legal) in
        let high : k ≤ path_total N = subst (λ (M : Netlist). k ≤ path_total M) same r.wanted.high in
        let net : o.net ≡ output_net N (split (output_counts N) k).0 =
        net-is file ps cs shape k r.wanted outs eo o ep N u high ∙ ap (output_net N) (pin-is file ps cs shape k r.wanted outs eo o ep N u high) in
        ap₂ (λ n j. all_open N (open_pin N t) (has_edge t e) n (path_at N n n j)) net (number_is file ps cs shape k r.wanted outs eo o ep N u high)

    pub fault-word : (class : ℕ) (e : Edge) (word : ℕ) → PathWord file ps cs shape words class e o.net o.number word
        → FaultWord file ps cs shape words class e k word
    fault-word class e word p = record { right = λ N tests n u b y v h. p.right N tests n u b y v h ∙ same-path N u (tests v) e }

pub ruleset fault-cases = (
  wanted-some,
  wanted-few,
  wanted_room,
  wanted-outputs,
  wanted-small,
  fault-wanted,
  fault-walk,
  fault-word,
  rules,
)
