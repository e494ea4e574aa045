-- The survey takes every result, unless its counts pass 2^62: the netlist read from it is the circuit's.
use Rattle.model.proofs.Prelude.{ℕ, ◌≤◌, ◌<◌, ◌+◌, suc, ◌≡◌, ◌∙◌, ap, refl, subst, ⊎_elim, true, Bool, false, ◌&&◌, List, [], ◌∷◌, ◌++◌, map}
use Rattle.model.proofs.Prelude.{length, drop, length-append, replicate, length-map, length-replicate, leb, T, eqb, leb→le, ltb, ltb→lt, le→leb}
use Rattle.model.proofs.Prelude.{lt→ltb, arith, le-leb, lt-leb}
use Rattle.model.specs.Base.{Answer, refused, value, ◌into◌, ◌then◌, check, checks, all_of, field, sum_of}
use Rattle.model.specs.Netlist.{Netlist, Gate, net_by_net, gate_count, counts, path_total, max_count, output_count}
use Rattle.model.specs.Read.{marked, read_gates, output_rules, read_outputs_of, inputs_in, gates_in, outputs_in, header_rules, read_netlist}
use Rattle.model.specs.Encode.{header_bytes, output_bytes}
use Rattle.model.proofs.BoolLaws.{both, and3, le_or_lt, and_left, and_right}
use Rattle.model.proofs.ReadLaws.{fits, ones-fit}
use Rattle.model.proofs.AnswerLaws.{AllPass, →checks, checks→, steps, then-first, then-second, value_inj}
use Rattle.model.proofs.WellFormed.{ascending_nets}
use Rattle.bench_lines.specs.Text.{lines_of}
use Rattle.bench_circuit.specs.Circuit.{GateLine, Circuit, empty_circuit, net_names, line_by_line, end_rules, circuit_of}
use Rattle.bench_text.specs.NetlistFile.{gate_records, output_nets, output_records, netlist_bytes, converted}
use Rattle.bench_text.specs.Taken.{gate_for, netlist_of, surveyed, TakenUnlessOver}
use Rattle.bench_circuit.proofs.RoomLaws.{header}
use Rattle.bench_circuit.proofs.CircuitLaws.{gate_names, Legal, legal-empty, lines-leave}
use Rattle.bench_text.proofs.BytesLaws.{outputs-ascend, outputs-count}
use Rattle.bench_text.proofs.ReadBack.{LowerPins, lower-pins, but_last, back, gates_to, gates-read}

-- ---- outputs

output-refused : (n ins nets : ℕ) (cs : List ℕ) (least s : ℕ) (bs : List ℕ)
    → checks (output_rules ins nets cs least s bs) ≡ refused 21 → read_outputs_of (suc n) ins nets cs least s bs ≡ refused 21
unfolding read_outputs_of
output-refused n ins nets cs least s bs e = rw (e, read_outputs_of) refl

output-taken : (n ins nets : ℕ) (cs : List ℕ) (least s : ℕ) (bs : List ℕ)
    → checks (output_rules ins nets cs least s bs) ≡ value tt → read_outputs_of (suc n) ins nets cs least s bs
    ≡ (read_outputs_of n ins nets cs (suc (field 2 2 bs)) (s + output_count ins cs (field 2 2 bs)) (drop 4 bs)
    into λ r. value (field 2 2 bs ∷ r.0, r.1))
unfolding read_outputs_of
output-taken n ins nets cs least s bs e = rw (e, read_outputs_of) refl

output-rules : (o ins nets : ℕ) (cs : List ℕ) (least s : ℕ) (rest : List ℕ) → least ≤ o → o < nets → nets ≤ 512
    → checks (output_rules ins nets cs least s (output_bytes o ++ rest))
    ≡ (check 21 (leb (s + output_count ins cs (field 2 2 (output_bytes o ++ rest))) max_count) then value tt)
unfolding output_bytes
output-rules o ins nets cs least s rest l h f =
    let b = output_bytes o ++ rest in
    let e : field 2 2 b ≡ o = back o (omega arith) in
    let n = field 2 2 b in
    let mark = both (leb 4 (length b)) (marked 0x4F 0x55 b) (le→leb 4 (length b) (omega arith)) tt in
    let order = both (ltb n nets) (leb least n) (lt→ltb n nets (omega arith)) (le→leb least n (omega arith)) in
    but_last ((18, leb 4 (length b) && marked 0x4F 0x55 b) ∷ (19, ltb n nets && leb least n) ∷ [])
    21 (leb (s + output_count ins cs n) max_count) (mark, (order, tt))

abbrev outputs_to : Bool → List ℕ → Answer (List ℕ × List ℕ)
outputs_to b os = check 21 b then value (os, [])

outputs-cons : (b : Bool) (o : ℕ) (os : List ℕ) → (outputs_to b os into λ r. value (o ∷ r.0, r.1)) ≡ outputs_to b (o ∷ os)
outputs-cons true o os = refl
outputs-cons false o os = refl

module _ (n o : ℕ) (os : List ℕ) (ins nets : ℕ) (cs : List ℕ) (least s : ℕ) (rest : List ℕ) (l : least ≤ o) (h : o < nets) (f : nets ≤ 512) where
  abbrev file : List ℕ
  file = output_bytes o ++ rest

  abbrev sum : ℕ
  sum = s + output_count ins cs o

  abbrev later : ℕ
  later = sum_of (map (output_count ins cs) os)

  net-is : field 2 2 file ≡ o
  unfolding output_bytes
  net-is = back o (omega arith)

  rules-are : checks (output_rules ins nets cs least s file) ≡ (check 21 (fits sum) then value tt)
  rules-are = output-rules o ins nets cs least s rest l h f ∙ ap (λ (m : ℕ). check 21 (fits (s + output_count ins cs m)) then value tt) net-is

  outputs-over : max_count < sum → read_outputs_of (suc n) ins nets cs least s file ≡ outputs_to (fits (s + sum_of (map (output_count ins cs) (o ∷ os)))) (o ∷ os)
  outputs-over q =
      let e : fits sum ≡ false = lt-leb sum max_count q in
      let w : fits (s + (output_count ins cs o + later)) ≡ false = lt-leb (s + (output_count ins cs o + later)) max_count (omega arith) in
      output-refused n ins nets cs least s file (rules-are ∙ rw e refl) ∙ rw w refl

  outputs-more : sum ≤ max_count → read_outputs_of n ins nets cs (suc o) sum rest ≡ outputs_to (fits (sum + later)) os
      → read_outputs_of (suc n) ins nets cs least s file ≡ outputs_to (fits (s + sum_of (map (output_count ins cs) (o ∷ os)))) (o ∷ os)
  unfolding output_bytes
  outputs-more q ih =
      let e : fits sum ≡ true = le-leb sum max_count q in
      let z : sum + later ≡ s + (output_count ins cs o + later) = omega arith in
      let go : ℕ → Answer (List ℕ × List ℕ) = λ m. read_outputs_of n ins nets cs (suc m) (s + output_count ins cs m) rest into λ r. value (m ∷ r.0, r.1) in
      output-taken n ins nets cs least s file (rules-are ∙ rw e refl)
      ∙ ap go net-is
      ∙ ap (λ (y : Answer (List ℕ × List ℕ)). y into λ r. value (o ∷ r.0, r.1)) ih
      ∙ outputs-cons (fits (sum + later)) o os
      ∙ ap (λ (m : ℕ). outputs_to (fits m) (o ∷ os)) z

outputs-read : (os : List ℕ) (ins nets : ℕ) (cs : List ℕ) (least s : ℕ) → nets ≤ 512 → T (ascending_nets nets least os) → s ≤ max_count
    → read_outputs_of (length os) ins nets cs least s (output_records os) ≡ outputs_to (fits (s + sum_of (map (output_count ins cs) os))) os
unfolding ascending_nets output_records read_outputs_of
outputs-read [] ins nets cs least s h t q = let e : fits (s + 0) ≡ true = le-leb (s + 0) max_count (omega arith) in rw e refl
outputs-read (o ∷ os) ins nets cs least s h t q =
    let a = and3 (leb least o) (ltb o nets) (ascending_nets nets (suc o) os) t in
    let l = leb→le least o a.0 in
    let b = ltb→lt o nets a.1 in
    let sum = s + output_count ins cs o in
    ⊎_elim
    (λ (p : sum ≤ max_count).
    outputs-more (length os) o os ins nets cs least s (output_records os) l b h p (outputs-read os ins nets cs (suc o) sum h a.2 p))
    (λ (p : max_count < sum). outputs-over (length os) o os ins nets cs least s (output_records os) l b h p)
    (le_or_lt sum max_count)

-- ---- the file

body : Answer (Unit {0}) → ℕ → ℕ → ℕ → List ℕ → Answer Netlist
body h i g u rest =
    h then read_gates g (replicate i 1) rest
    into λ gs. read_outputs_of u i (i + g) (net_by_net gate_count 0 (replicate i 1) gs.0) 0 0 gs.1
    into λ o. checks ((20, eqb (length o.1) 0) ∷ [])
    then value (record { inputs = i; gates = gs.0; outputs = o.0 })

module _ (i g u : ℕ) (rest : List ℕ) (i1 : 1 ≤ i) (i64 : i ≤ 64) (g511 : g ≤ 511) (n512 : i + g ≤ 512) (u1 : 1 ≤ u)
    (u64 : u ≤ 64) where
  header-pass : checks (header_rules (header_bytes i g u ++ rest)) ≡ value tt
  unfolding header_bytes
  header-pass =
      let b = header_bytes i g u ++ rest in
      let a : inputs_in b ≡ i = back i (omega arith) in
      let c : gates_in b ≡ g = back g (omega arith) in
      let d : outputs_in b ≡ u = back u (omega arith) in
      let mark = both (leb 8 (length b)) (marked 0x4E 0x4C b) (le→leb 8 (length b) (omega arith)) tt in
      let numbers =
      header (inputs_in b) (gates_in b) (outputs_in b) (omega arith) (omega arith) (omega arith) (omega arith) (omega arith) (omega arith) in
      →checks (header_rules b) (mark, (numbers, tt))

  header_read : read_netlist (header_bytes i g u ++ rest) ≡ body (value tt) i g u rest
  unfolding read_netlist header_bytes body
  header_read =
      let b = header_bytes i g u ++ rest in
      ap (λ (h : Answer (Unit {0})). body h (inputs_in b) (gates_in b) (outputs_in b) rest) header-pass
      ∙ ap (λ (n : ℕ). body (value tt) n (gates_in b) (outputs_in b) rest) (back i (omega arith))
      ∙ ap (λ (n : ℕ). body (value tt) i n (outputs_in b) rest) (back g (omega arith))
      ∙ ap (λ (n : ℕ). body (value tt) i g n rest) (back u (omega arith))

module _ (i g u : ℕ) (rest : List ℕ) where
  body_is : (gs : List Gate) (rest' os : List ℕ) (b d : Bool) → read_gates g (replicate i 1) rest ≡ gates_to b gs rest'
      → read_outputs_of u i (i + g) (net_by_net gate_count 0 (replicate i 1) gs) 0 0 rest' ≡ outputs_to d os
      → body (value tt) i g u rest ≡ (checks ((17, b) ∷ (21, d) ∷ []) then value (record { inputs = i; gates = gs; outputs = os }))
  unfolding body
  body_is gs rest' os true true e q = rw (e, q) refl
  body_is gs rest' os true false e q = rw (e, q) refl
  body_is gs rest' os false d e q = rw e refl

names-fit : (c : Circuit) → 0 + length (net_names c) ≤ length c.inputs + length c.gates
unfolding net_names
names-fit c =
    omega (arith, length-append c.inputs (gate_names c.gates), length-map c.gates (λ (g : GateLine). g.name))

lower : (c : Circuit) → Legal c → LowerPins (net_names c) (length c.inputs) c.gates
unfolding net_names
lower c l =
    let z : length c.inputs + 0 ≡ length c.inputs = omega arith in
    subst (λ (n : ℕ). LowerPins (net_names c) n c.gates) z
    (lower-pins c.inputs [] c.gates (net_names c) refl l.earlier)

-- a circuit that passes the rules at the end
pub circuit-taken : (c : Circuit) → Legal c → AllPass (end_rules c) → TakenUnlessOver (netlist_bytes c) c
unfolding end_rules netlist_bytes netlist_of surveyed counts path_total
circuit-taken c l a =
    let I = length c.inputs in
    let G = length c.gates in
    let U = length c.outputs in
    let names = net_names c in
    let os = output_nets 0 (net_names c) c.outputs in
    let gs = map (gate_for (net_names c)) c.gates in
    let cs = net_by_net gate_count 0 (replicate I 1) gs in
    let rest = gate_records (net_names c) c.gates ++ output_records os in
    let i1 : 1 ≤ length c.inputs =
    leb→le 1 (length c.inputs) (and_left (leb 1 (length c.inputs)) (leb 1 (length c.outputs)) a.1.0) in
    let u1 : 1 ≤ length c.outputs =
    leb→le 1 (length c.outputs) (and_right (leb 1 (length c.inputs)) (leb 1 (length c.outputs)) a.1.0) in
    let h : read_netlist (netlist_bytes c) ≡ body (value tt) I G U rest =
    header_read I G U rest i1 l.few_inputs l.few_gates l.few_nets u1 l.few_outputs in
    let ones : length {A = ℕ} (replicate I 1) ≡ I = length-replicate {A = ℕ} I 1 in
    let count : length os ≡ U = outputs-count 0 (net_names c) c.outputs l.distinct l.distinct_outputs a.0 in
    let b = all_of fits cs in
    let read = gates-read (net_names c) c.gates I (replicate I 1) (output_records os) ones l.few_nets (lower c l) l.fits (ones-fit I) in
    let outs : read_outputs_of U I (I + G) cs 0 0 (output_records os) ≡ outputs_to (fits (0 + sum_of (map (output_count I cs) os))) os =
    subst (λ (n : ℕ). read_outputs_of n I (I + G) cs 0 0 (output_records os) ≡ outputs_to (fits (0 + sum_of (map (output_count I cs) os))) os) count
    (outputs-read os I (I + G) cs 0 0 l.few_nets (outputs-ascend (I + G) 0 (net_names c) c.outputs (names-fit c)) (omega arith)) in
    let z : 0 + sum_of (map (output_count I cs) os) ≡ sum_of (map (output_count I cs) os) = omega arith in
    h ∙ body_is I G U rest gs (output_records os) os b (fits (sum_of (map (output_count I cs) os))) read (outs ∙ ap (λ (m : ℕ). outputs_to (fits m) os) z)

-- The survey takes every result, unless its counts pass 2^62
pub survey-takes : (text : List ℕ) (c : Circuit) → circuit_of text ≡ value c
    → (converted text ≡ value (netlist_bytes c)) × TakenUnlessOver (netlist_bytes c) c
unfolding converted circuit_of
survey-takes text c e =
    let s = steps (line_by_line empty_circuit (lines_of text)) (λ r. checks (end_rules r) then value r) e in
    let p = then-first (checks (end_rules s.got)) (value s.got) s.second in
    let q : s.got ≡ c = value_inj (then-second (checks (end_rules s.got)) (value s.got) s.second) in
    let l = lines-leave (lines_of text) empty_circuit s.got legal-empty s.first in
    let taken = circuit-taken s.got l.legal (checks→ (end_rules s.got) p) in
    (rw e refl, subst (λ (r : Circuit). TakenUnlessOver (netlist_bytes r) r) q taken)
