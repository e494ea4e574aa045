-- A fault number leads back to its path number and its edge.
use Rattle.model.proofs.Prelude.{ℕ, ◌≤◌, ◌≡◌, ◌∙◌, sym, ap₂, List, [], ◌∷◌, leb, leb→le, arith}
use Rattle.model.specs.Base.{Answer, value, Rule, checks}
use Rattle.model.specs.Netlist.{max_count}
use Rattle.model.specs.Path.{Edge, rising, falling, fault_number}
use Rattle.model.specs.Read.{within}
use Rattle.model.proofs.AnswerLaws.{value_inj, then-first, then-second, steps, checks→}
use Rattle.model.proofs.BoolLaws.{and_left}
use Rattle.model.proofs.FaultCallLaws.{path-of_fault, edge-of_fault}
use Rattle.path_faults.specs.Answers.{fault_call_of}
use Rattle.c_answer_words.specs.Codes.{edge_in}
use Rattle.c_calls.specs.FaultNumbers.{PathAndEdge, fault_of_call, path_of_call, LeadsBack}
use Rattle.c_calls.proofs.FaultNumberCases.{side_of}

fault-from-one : (e : Edge) (i : ℕ) → 1 ≤ i → 1 ≤ fault_number e i
unfolding fault_number
fault-from-one rising i h = omega arith
fault-from-one falling i h = omega arith

back : (e : Edge) (i f : ℕ) → fault_call_of e i ≡ value f → path_of_call f ≡ value (record { path = i; edge = e })
unfolding fault_call_of
back e i f p =
    let rules : List Rule = (60, within 1 max_count i) ∷ [] in
    let range = (checks→ rules (then-first (checks rules) (value (fault_number e i)) p)).0 in
    let h : 1 ≤ i = leb→le 1 i (and_left (leb 1 i) (leb i max_count) range) in
    let is : f ≡ fault_number e i = sym (value_inj (then-second (checks rules) (value (fault_number e i)) p)) in
    let told : ℕ → Edge → Answer PathAndEdge = λ k d. value (record { path = k; edge = d }) in
    rw is (side_of (fault_number e i) (fault-from-one e i h) ∙ ap₂ told (path-of_fault e i h) (edge-of_fault e i h))

pub leads_back : LeadsBack
unfolding fault_of_call
leads_back i n f p =
    let s = steps (edge_in n) (λ e. fault_call_of e i) p in
    rw s.first (back s.got i f s.second)
