-- Gates with a single pin (specs/SinglePin): each kind's value and its open pin by cases, and a looser pin rule reads every netlist that a
-- stricter one takes as the stricter one does.
use Rattle.model.proofs.Prelude.{ℕ, ◌+◌, suc, zero, ◌≡◌, ◌∙◌, ap, refl, ⊎_elim, true, Bool, false, ◌&&◌, Bool·beq, and-true, List, [], ◌∷◌}
use Rattle.model.proofs.Prelude.{length, get_or, drop, leb, T, eqb, leb→le, le→leb, arith}
use Rattle.model.specs.Base.{Answer, value, ◌into◌, ◌then◌, checks}
use Rattle.model.specs.Netlist.{Netlist, Gate, Kind, buffer, inverter, and, nand, or, nor, xor, xnor, gate_count, net_by_net}
use Rattle.model.specs.Detect.{nonRobust, robust, Evaluation, gate_value, differs, robust_among, is_open}
use Rattle.model.specs.Read.{within, pins_fit, gate_in, read_gates, read_outputs_of, inputs_in, gates_in, outputs_in, header_rules, input_counts, read_netlist}
use Rattle.model.specs.Calls.{survey_of, survey_call}
use Rattle.model.specs.SinglePin.{one_pin_acts, pins_fit_before, gate_rules_by, read_gates_by, read_netlist_by, SinglePin}
use Rattle.model.proofs.BoolLaws.{and_left, and_right, both, or_cases, or_left, or_right}
use Rattle.model.proofs.AnswerLaws.{steps, then-first, then-second, checks→, →checks, AllPass}
use Rattle.model.proofs.ReadLaws.{next_counts, next_bytes}

pub one-pin-value : (kind : Kind) (v : Bool) → gate_value kind (v ∷ []) ≡ gate_value (one_pin_acts kind) (v ∷ [])
one-pin-value buffer v = refl
one-pin-value inverter v = refl
one-pin-value and true = refl
one-pin-value and false = refl
one-pin-value nand true = refl
one-pin-value nand false = refl
one-pin-value or true = refl
one-pin-value or false = refl
one-pin-value nor true = refl
one-pin-value nor false = refl
one-pin-value xor true = refl
one-pin-value xor false = refl
one-pin-value xnor true = refl
one-pin-value xnor false = refl

pub one-pin-open : (kind : Kind) (n : Evaluation) → is_open nonRobust kind (n ∷ []) 0 ≡ true
one-pin-open buffer n = refl
one-pin-open inverter n = refl
one-pin-open and n = refl
one-pin-open nand n = refl
one-pin-open or n = refl
one-pin-open nor n = refl
one-pin-open xor n = refl
one-pin-open xnor n = refl

-- robustly open: there is no other pin, so that only the pin's net decides
no_sides : (b v : Bool) → elim (Bool·beq b v) [ true ↦ true | false ↦ true ] ≡ true
no_sides true true = refl
no_sides true false = refl
no_sides false true = refl
no_sides false false = refl

alone-robust : (kind : Kind) (n : Evaluation) → robust_among kind (n ∷ []) 0 ≡ true
alone-robust buffer n = refl
alone-robust inverter n = refl
alone-robust and n = no_sides true n.under_v2
alone-robust nand n = no_sides true n.under_v2
alone-robust or n = no_sides false n.under_v2
alone-robust nor n = no_sides false n.under_v2
alone-robust xor n = refl
alone-robust xnor n = refl

pub one-pin-robust : (kind : Kind) (n : Evaluation) → is_open robust kind (n ∷ []) 0 ≡ differs n
one-pin-robust kind n = ap (λ b. differs n && b) (alone-robust kind n) ∙ and-true (differs n)

-- what fitted before fits now
pub still_fits : (kind n : ℕ) → T (pins_fit_before kind n) → T (pins_fit kind n)
still_fits kind n t =
    let few = leb kind 2 && eqb n 1 in
    let more = leb 3 kind && within 1 8 n in
    ⊎_elim (λ u. or_left few more u)
    (λ u.
    let v = and_right (leb 3 kind) (within 2 8 n) u in
    let least = leb→le 2 n (and_left (leb 2 n) (leb n 8) v) in
    or_right few more
    (both (leb 3 kind) (within 1 8 n) (and_left (leb 3 kind) (within 2 8 n) u)
    (both (leb 1 n) (leb n 8) (le→leb 1 n (omega arith)) (and_right (leb 2 n) (leb n 8) v))))
    (or_cases few (leb 3 kind && within 2 8 n) t)

-- one pin rule looser than another
module _ (strict loose : ℕ → ℕ → Bool) (looser : (kind n : ℕ) → T (strict kind n) → T (loose kind n)) where
  rules-too : (net : ℕ) (cs bs : List ℕ) → AllPass (gate_rules_by strict net cs bs) → AllPass (gate_rules_by loose net cs bs)
  rules-too net cs bs p = (p.0, (p.1.0, (looser (get_or bs 2 0) (get_or bs 3 0) p.1.1.0, p.1.1.1)))

  gates-too : (n : ℕ) (cs bs : List ℕ) (r : List Gate × List ℕ) → read_gates_by strict n cs bs ≡ value r → read_gates_by loose n cs bs ≡ value r
  unfolding read_gates_by
  gates-too zero cs bs r e = e
  gates-too (suc n) cs bs r e =
      let rules = checks (gate_rules_by strict (length cs) cs bs) in
      let others = read_gates_by strict n (next_counts cs bs) (next_bytes bs) in
      let s = steps (rules then others) (λ r. value (gate_in bs ∷ r.0, r.1)) e in
      let now : checks (gate_rules_by loose (length cs) cs bs) ≡ value tt =
      →checks (gate_rules_by loose (length cs) cs bs)
      (rules-too (length cs) cs bs (checks→ (gate_rules_by strict (length cs) cs bs) (then-first rules others s.first))) in
      let rest = gates-too n (next_counts cs bs) (next_bytes bs) s.got (then-second rules others s.first) in
      rw (now, rest) s.second

  pub netlist-too : (bs : List ℕ) (N : Netlist) → read_netlist_by strict bs ≡ value N → read_netlist_by loose bs ≡ value N
  unfolding read_netlist_by
  netlist-too bs N e =
      let gs = read_gates_by strict (gates_in bs) (input_counts bs) (drop 8 bs) in
      let end : List Gate × List ℕ → Answer Netlist =
      λ g. read_outputs_of (outputs_in bs) (inputs_in bs) (inputs_in bs + gates_in bs) (net_by_net gate_count 0 (input_counts bs) g.0) 0 0 g.1
      into λ o. checks ((20, eqb (length o.1) 0) ∷ []) then value (record { inputs = inputs_in bs; gates = g.0; outputs = o.0 }) in
      let s = steps (checks (header_rules bs) then gs) end e in
      let head : checks (header_rules bs) ≡ value tt =
      →checks (header_rules bs) (checks→ (header_rules bs) (then-first (checks (header_rules bs)) gs s.first)) in
      let rest = gates-too (gates_in bs) (input_counts bs) (drop 8 bs) s.got (then-second (checks (header_rules bs)) gs s.first) in
      rw (head, rest) s.second

gates-now : (n : ℕ) (cs bs : List ℕ) → read_gates_by pins_fit n cs bs ≡ read_gates n cs bs
unfolding read_gates_by read_gates
gates-now zero cs bs = refl
gates-now (suc n) cs bs = rw (gates-now n (next_counts cs bs) (next_bytes bs)) refl

pub reader_now : (bs : List ℕ) → read_netlist_by pins_fit bs ≡ read_netlist bs
unfolding read_netlist_by read_netlist
reader_now bs = rw (gates-now (gates_in bs) (input_counts bs) (drop 8 bs)) refl

pub legal-before : (bs : List ℕ) (N : Netlist) → read_netlist_by pins_fit_before bs ≡ value N → read_netlist bs ≡ value N
legal-before bs N e = mathlib.Core.Path.sym (reader_now bs) ∙ netlist-too pins_fit_before pins_fit still_fits bs N e

survey-before : (bs : List ℕ) (N : Netlist) → read_netlist_by pins_fit_before bs ≡ value N → survey_call bs ≡ value (survey_of N)
unfolding survey_call
survey-before bs N e = rw (legal-before bs N e) refl

pub single-pin : SinglePin
single-pin = record {
  one_pin_value = one-pin-value;
  one_pin_open = one-pin-open;
  one_pin_robust = one-pin-robust;
  same_reader = reader_now;
  same_netlist = legal-before;
  same_survey = survey-before;
}
