-- What a legal netlist has, and the test of a record.
use Rattle.model.proofs.Prelude.{ℕ, ◌≤◌, ◌+◌, ◌*◌, suc, zero, ◌≡◌, ◌∙◌, ap, refl, sym, subst, ap₂, ⊎_elim, Bool, ◌&&◌, List, [], ◌∷◌, ◌++◌}
use Rattle.model.proofs.Prelude.{map, length, get_or, drop, length-append, replicate, length-map, length-replicate, leb, T, eqb, leb→le, ltb, eqb→eq, le→leb}
use Rattle.model.proofs.Prelude.{add-one, arith}
use Rattle.model.specs.Base.{Answer, value, ◌into◌, ◌then◌, checks, all_of, field, sum_of, numbers_from}
use Rattle.model.specs.Netlist.{Netlist, Gate, nets, net_by_net, gate_count, counts, output_count, path_total, max_count}
use Rattle.model.specs.Detect.{Class}
use Rattle.model.specs.Read.{read_gates, read_outputs_of, read_netlist, gate_rules, output_rules, header_rules, gate_in, count_in, within, pins_fit, net_fields, inputs_in, gates_in, outputs_in}
use Rattle.model.specs.Read.{input_counts, test_of, input_bit, v1_part, v2_part}
use Rattle.model.proofs.ListLaws.{all_of_head, all_of_tail, all_of_append, length-numbers_from}
use Rattle.model.proofs.WellFormed.{WellFormed, lower, ascending_nets}
use Rattle.model.proofs.BoolLaws.{and_left, and_right, both, all3, and4, or_cases}
use Rattle.model.proofs.AnswerLaws.{steps, then-first, then-second, checks→, value_inj, AllPass}

pub gates-lower : (n : ℕ) (cs bs : List ℕ) (r : List Gate × List ℕ) → read_gates n cs bs ≡ value r → T (lower (length cs) r.0)
unfolding read_gates lower
gates-lower zero cs bs r e = subst (λ (x : List Gate × List ℕ). T (lower (length cs) x.0)) (value_inj e) tt
gates-lower (suc n) cs bs r e =
    let cs' = cs ++ (count_in cs bs ∷ []) in
    let bs' = drop (4 + 2 * get_or bs 3 0) bs in
    let s = steps (checks (gate_rules (length cs) cs bs) then read_gates n cs' bs') (λ r. value (gate_in bs ∷ r.0, r.1)) e in
    let ih = gates-lower n cs' bs' s.got (then-second (checks (gate_rules (length cs) cs bs)) (read_gates n cs' bs') s.first) in
    let q : length cs' ≡ suc (length cs) = simp (length-append, add-one) in
    subst (λ (x : List Gate × List ℕ). T (lower (length cs) x.0)) (value_inj s.second)
    (both (all_of (λ p. ltb p (length cs)) (gate_in bs).pins) (lower (suc (length cs)) s.got.0)
    (checks→ (gate_rules (length cs) cs bs) (then-first (checks (gate_rules (length cs) cs bs)) (read_gates n cs' bs') s.first)).1.1.1.1.0
    (rw q at ih))

pub outputs-ok : (n inputs nets : ℕ) (cs : List ℕ) (least s : ℕ) (bs : List ℕ) (r : List ℕ × List ℕ) → read_outputs_of n inputs nets cs least s bs ≡ value r
    → T (ascending_nets nets least r.0)
unfolding read_outputs_of ascending_nets
outputs-ok zero inputs nets cs least s bs r e = subst (λ (x : List ℕ × List ℕ). T (ascending_nets nets least x.0)) (value_inj e) tt
outputs-ok (suc n) inputs nets cs least s bs r e =
    let o = field 2 2 bs in
    let rules = output_rules inputs nets cs least s bs in
    let m = read_outputs_of n inputs nets cs (suc o) (s + output_count inputs cs o) (drop 4 bs) in
    let p = steps (checks rules then m) (λ r. value (field 2 2 bs ∷ r.0, r.1)) e in
    let ih = outputs-ok n inputs nets cs (suc o) (s + output_count inputs cs o) (drop 4 bs) p.got (then-second (checks rules) m p.first) in
    let q = (checks→ rules (then-first (checks rules) m p.first)).1.0 in
    subst (λ (x : List ℕ × List ℕ). T (ascending_nets nets least x.0)) (value_inj p.second)
    (all3 (leb least o) (ltb o nets) (ascending_nets nets (suc o) p.got.0)
    (and_right (ltb o nets) (leb least o) q) (and_left (ltb o nets) (leb least o) q) ih)

-- the counts and the bytes after one gate
abbrev pub next_counts : List ℕ → List ℕ → List ℕ
next_counts cs bs = cs ++ (count_in cs bs ∷ [])

abbrev pub next_bytes : List ℕ → List ℕ
next_bytes bs = drop (4 + 2 * get_or bs 3 0) bs

module _ (n : ℕ) (cs bs : List ℕ) (r : List Gate × List ℕ) (e : read_gates (suc n) cs bs ≡ value r) where
  -- the first gate, and the others
  pub record First : Type 0 where
    pub rest : List Gate × List ℕ
    pub others : read_gates n (next_counts cs bs) (next_bytes bs) ≡ value rest
    pub passes : AllPass (gate_rules (length cs) cs bs)
    pub is : (gate_in bs ∷ rest.0, rest.1) ≡ r

  pub first : First
  unfolding read_gates
  first =
      let s = steps (checks (gate_rules (length cs) cs bs) then read_gates n (next_counts cs bs) (next_bytes bs)) (λ r. value (gate_in bs ∷ r.0, r.1)) e in
      record {
        rest = s.got;
        others = then-second (checks (gate_rules (length cs) cs bs)) (read_gates n (next_counts cs bs) (next_bytes bs)) s.first;
        passes = checks→ (gate_rules (length cs) cs bs) (then-first (checks (gate_rules (length cs) cs bs)) (read_gates n (next_counts cs bs) (next_bytes bs)) s.first);
        is = value_inj s.second;
      }

pub gates-length : (n : ℕ) (cs bs : List ℕ) (r : List Gate × List ℕ) → read_gates n cs bs ≡ value r → length r.0 ≡ n
unfolding read_gates
gates-length zero cs bs r e = ap (λ (x : List Gate × List ℕ). length x.0) (sym (value_inj e))
gates-length (suc n) cs bs r e =
    let f = first n cs bs r e in
    ap (λ (x : List Gate × List ℕ). length x.0) (sym f.is) ∙ ap suc (gates-length n _ _ f.rest f.others)

-- What reading a legal netlist took, part by part
pub record Parts (file : List ℕ) (N : Netlist) : Type 0 where
  pub header : AllPass (header_rules file)
  pub inputs_are : N.inputs ≡ inputs_in file
  pub after_gates : List ℕ
  pub gates_read : read_gates (gates_in file) (input_counts file) (drop 8 file) ≡ value (N.gates, after_gates)
  pub after_outputs : List ℕ
  pub outputs_read : read_outputs_of (outputs_in file) (inputs_in file) (inputs_in file + gates_in file) (net_by_net gate_count 0 (input_counts file) N.gates) 0 0 after_gates
      ≡ value (N.outputs, after_outputs)
  pub no_more : length after_outputs ≡ 0

pub parts : (file : List ℕ) (N : Netlist) → read_netlist file ≡ value N → Parts file N
unfolding read_netlist
parts bs N e =
    let gs = read_gates (gates_in bs) (input_counts bs) (drop 8 bs) in
    let os : List Gate × List ℕ → Answer (List ℕ × List ℕ) =
    λ g. read_outputs_of (outputs_in bs) (inputs_in bs) (inputs_in bs + gates_in bs) (net_by_net gate_count 0 (input_counts bs) g.0) 0 0 g.1 in
    let end : List Gate × List ℕ → List ℕ × List ℕ → Answer Netlist =
    λ g o. checks ((20, eqb (length o.1) 0) ∷ []) then value (record { inputs = inputs_in bs; gates = g.0; outputs = o.0 }) in
    let p = steps (checks (header_rules bs) then gs) (λ g. os g into end g) e in
    let q = steps (os p.got) (end p.got) p.second in
    let last = checks ((20, eqb (length q.got.1) 0) ∷ []) in
    subst (Parts bs) (value_inj (then-second last _ q.second))
    (record {
      header = checks→ (header_rules bs) (then-first (checks (header_rules bs)) gs p.first);
      inputs_are = refl;
      after_gates = p.got.1;
      gates_read = then-second (checks (header_rules bs)) gs p.first;
      after_outputs = q.got.1;
      outputs_read = q.first;
      no_more = eqb→eq (length q.got.1) 0 (checks→ ((20, eqb (length q.got.1) 0) ∷ []) (then-first last _ q.second)).0;
    })

module _ (file : List ℕ) (N : Netlist) (p : Parts file N) where
  pub ranges : T (within 1 64 (inputs_in file)) × T (leb (gates_in file) 511) × T (leb (inputs_in file + gates_in file) 512) × T (within 1 64 (outputs_in file))
  ranges = and4 (within 1 64 (inputs_in file)) (leb (gates_in file) 511) (leb (inputs_in file + gates_in file) 512) (within 1 64 (outputs_in file)) p.header.1.0

  pub gates-many : length N.gates ≡ gates_in file
  gates-many = gates-length (gates_in file) (input_counts file) (drop 8 file) (N.gates, p.after_gates) p.gates_read

-- A legal netlist is well formed
pub legal : (bs : List ℕ) (N : Netlist) → read_netlist bs ≡ value N → WellFormed N
legal bs N e =
    let p = parts bs N e in
    let l = gates-lower (gates_in bs) (input_counts bs) (drop 8 bs) (N.gates, p.after_gates) p.gates_read in
    let cs = net_by_net gate_count 0 (input_counts bs) N.gates in
    let o = outputs-ok (outputs_in bs) (inputs_in bs) (inputs_in bs + gates_in bs) cs 0 0 p.after_gates (N.outputs, p.after_outputs) p.outputs_read in
    record {
      some_input = rw p.inputs_are (and_left (leb 1 (inputs_in bs)) (leb (inputs_in bs) 64) (ranges bs N p).0);
      lower_pins = subst (λ (k : ℕ). T (lower k N.gates)) (length-replicate {A = ℕ} (inputs_in bs) 1 ∙ sym p.inputs_are) l;
      outputs_ok = subst (λ (k : ℕ). T (ascending_nets k 0 N.outputs)) (ap₂ (λ i g. i + g) (sym p.inputs_are) (sym (gates-many bs N p))) o;
    }

-- Bounds of a legal netlist
abbrev pub fits : ℕ → Bool
fits c = leb c max_count

pub gates-fit : (n : ℕ) (cs bs : List ℕ) (r : List Gate × List ℕ) → read_gates n cs bs ≡ value r → T (all_of fits cs)
    → T (all_of fits (net_by_net gate_count 0 cs r.0))
unfolding read_gates
gates-fit zero cs bs r e t = subst (λ (x : List Gate × List ℕ). T (all_of fits (net_by_net gate_count 0 cs x.0))) (value_inj e) t
gates-fit (suc n) cs bs r e t =
    let f = first n cs bs r e in
    subst (λ (x : List Gate × List ℕ). T (all_of fits (net_by_net gate_count 0 cs x.0))) f.is
    (gates-fit n (next_counts cs bs) (next_bytes bs) f.rest f.others (all_of_append fits cs (count_in cs bs) t f.passes.1.1.1.1.1.0))

pub outputs-fit : (n inputs nets : ℕ) (cs : List ℕ) (least s : ℕ) (bs : List ℕ) (r : List ℕ × List ℕ) → read_outputs_of n inputs nets cs least s bs ≡ value r
    → s ≤ max_count → (length r.0 ≡ n) × (s + sum_of (map (output_count inputs cs) r.0) ≤ max_count)
unfolding read_outputs_of
outputs-fit zero inputs nets cs least s bs r e h =
    subst (λ (x : List ℕ × List ℕ). (length x.0 ≡ 0) × (s + sum_of (map (output_count inputs cs) x.0) ≤ max_count)) (value_inj e) (refl, omega arith)
outputs-fit (suc n) inputs nets cs least s bs r e h =
    let o = field 2 2 bs in
    let next = s + output_count inputs cs o in
    let rules = output_rules inputs nets cs least s bs in
    let m = read_outputs_of n inputs nets cs (suc o) next (drop 4 bs) in
    let p = steps (checks rules then m) (λ r. value (field 2 2 bs ∷ r.0, r.1)) e in
    let q = (checks→ rules (then-first (checks rules) m p.first)).1.1.0 in
    let ih = outputs-fit n inputs nets cs (suc o) next (drop 4 bs) p.got (then-second (checks rules) m p.first) (leb→le next max_count q) in
    subst (λ (x : List ℕ × List ℕ). (length x.0 ≡ suc n) × (s + sum_of (map (output_count inputs cs) x.0) ≤ max_count)) (value_inj p.second)
    (ap suc ih.0, omega (arith, ih.1))

-- What the code may rely on
pub record Limits (N : Netlist) : Type 0 where
  pub some_input : 1 ≤ N.inputs
  pub few_inputs : N.inputs ≤ 64
  pub few_nets : nets N ≤ 512
  pub some_output : 1 ≤ length N.outputs
  pub few_outputs : length N.outputs ≤ 64
  pub counts_fit : (net : ℕ) → get_or (counts N) net 0 ≤ max_count
  pub total_fits : path_total N ≤ max_count

all_fit : (xs : List ℕ) → T (all_of fits xs) → (i : ℕ) → get_or xs i 0 ≤ max_count
all_fit [] t i = omega arith
all_fit (x ∷ xs) t zero = leb→le x max_count (all_of_head fits x xs t)
all_fit (x ∷ xs) t (suc i) = all_fit xs (all_of_tail fits x xs t) i

pub ones-fit : (n : ℕ) → T (all_of fits (replicate n 1))
ones-fit zero = tt
ones-fit (suc n) = ones-fit n

pub limits : (bs : List ℕ) (N : Netlist) → read_netlist bs ≡ value N → Limits N
unfolding counts path_total
limits bs N e =
    let p = parts bs N e in
    let h = ranges bs N p in
    let l = gates-many bs N p in
    let f = gates-fit (gates_in bs) (input_counts bs) (drop 8 bs) (N.gates, p.after_gates) p.gates_read (ones-fit (inputs_in bs)) in
    let cs = net_by_net gate_count 0 (input_counts bs) N.gates in
    let o =
    outputs-fit (outputs_in bs) (inputs_in bs) (inputs_in bs + gates_in bs) cs 0 0 p.after_gates (N.outputs, p.after_outputs) p.outputs_read (omega arith) in
    record {
      some_input = omega (arith, p.inputs_are, leb→le 1 (inputs_in bs) (and_left (leb 1 (inputs_in bs)) (leb (inputs_in bs) 64) h.0));
      few_inputs = omega (arith, p.inputs_are, leb→le (inputs_in bs) 64 (and_right (leb 1 (inputs_in bs)) (leb (inputs_in bs) 64) h.0));
      few_nets = omega (arith, p.inputs_are, l, leb→le (inputs_in bs + gates_in bs) 512 h.2);
      some_output = omega (arith, o.0, leb→le 1 (outputs_in bs) (and_left (leb 1 (outputs_in bs)) (leb (outputs_in bs) 64) h.3));
      few_outputs = omega (arith, o.0, leb→le (outputs_in bs) 64 (and_right (leb 1 (outputs_in bs)) (leb (outputs_in bs) 64) h.3));
      counts_fit = rw p.inputs_are (all_fit cs f);
      total_fits = rw p.inputs_are (omega (arith, o.1));
    }

-- The gates of a legal netlist are those that its bytes give one after the other, so a reader needs no check again
unfoldable pub gates_from : ℕ → List ℕ → List Gate
gates_from zero bs = []
gates_from (suc n) bs = gate_in bs ∷ gates_from n (drop (4 + 2 * get_or bs 3 0) bs)

pub gates-are : (n : ℕ) (cs bs : List ℕ) (r : List Gate × List ℕ) → read_gates n cs bs ≡ value r → r.0 ≡ gates_from n bs
unfolding read_gates gates_from
gates-are zero cs bs r e = ap (λ (x : List Gate × List ℕ). x.0) (sym (value_inj e))
gates-are (suc n) cs bs r e =
    let f = first n cs bs r e in
    ap (λ (x : List Gate × List ℕ). x.0) (sym f.is) ∙ ap (λ gs. gate_in bs ∷ gs) (gates-are n (next_counts cs bs) (next_bytes bs) f.rest f.others)

-- A gate has 1 to 8 pins
abbrev pub few_pins : Gate → Bool
few_pins g = within 1 8 (length g.pins)

pub length-net_fields : (n : ℕ) (bs : List ℕ) → length (net_fields n bs) ≡ n
length-net_fields zero bs = refl
length-net_fields (suc n) bs = ap suc (length-net_fields n (drop 2 bs))

pub pins-fit : (kind n : ℕ) → T (pins_fit kind n) → T (within 1 8 n)
pins-fit kind n t =
    ⊎_elim
    (λ u. let q = eqb→eq n 1 (and_right (leb kind 2) (eqb n 1) u) in both (leb 1 n) (leb n 8) (le→leb 1 n (omega arith)) (le→leb n 8 (omega arith)))
    (λ u. and_right (leb 3 kind) (within 1 8 n) u)
    (or_cases (leb kind 2 && eqb n 1) (leb 3 kind && within 1 8 n) t)

pub gates-pins : (n : ℕ) (cs bs : List ℕ) (r : List Gate × List ℕ) → read_gates n cs bs ≡ value r → T (all_of few_pins r.0)
unfolding read_gates
gates-pins zero cs bs r e = subst (λ (x : List Gate × List ℕ). T (all_of few_pins x.0)) (value_inj e) tt
gates-pins (suc n) cs bs r e =
    let f = first n cs bs r e in
    subst (λ (x : List Gate × List ℕ). T (all_of few_pins x.0)) f.is
    (both (few_pins (gate_in bs)) (all_of few_pins f.rest.0)
    (subst (λ k. T (within 1 8 k)) (sym (length-net_fields (get_or bs 3 0) (drop 4 bs))) (pins-fit (get_or bs 2 0) (get_or bs 3 0) f.passes.1.1.0))
    (gates-pins n (next_counts cs bs) (next_bytes bs) f.rest f.others))

-- a record's test: of the class of its call, two vectors with a value for each input
pub in_class_lem : (N : Netlist) (c : Class) (rec : List ℕ) → (test_of N c rec).class ≡ c
unfolding test_of
in_class_lem N c rec = refl

pub vector-first : (N : Netlist) (c : Class) (rec : List ℕ) → length (test_of N c rec).v1 ≡ N.inputs
unfolding test_of
vector-first N c rec = length-map (numbers_from 0 N.inputs) (input_bit (v1_part N rec)) ∙ length-numbers_from 0 N.inputs

pub vector-last : (N : Netlist) (c : Class) (rec : List ℕ) → length (test_of N c rec).v2 ≡ N.inputs
unfolding test_of
vector-last N c rec = length-map (numbers_from 0 N.inputs) (input_bit (v2_part N rec)) ∙ length-numbers_from 0 N.inputs
