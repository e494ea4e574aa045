-- What the lines that are taken leave of a circuit: numbers in their ranges, different names, pins on earlier lines.
use Rattle.model.proofs.Prelude.{ℕ, ◌≤◌, ◌<◌, ◌+◌, suc, ◌≡◌, ◌∙◌, ap, refl, sym, subst, ⊎_elim, inl, inr, ◌⊎◌, true, ◌&&◌, not, List, [], ◌∷◌, ◌++◌}
use Rattle.model.proofs.Prelude.{map, append_assoc, append-nil, length, length-append, leb, T, leb→le, T_not, arith}
use Rattle.model.specs.Base.{value, checks, all_of}
use Rattle.model.specs.Netlist.{max_nets}
use Rattle.model.specs.Read.{pins_fit, header_range}
use Rattle.model.proofs.BoolLaws.{and_left, and_right, T→true, not→false, le_or_lt}
use Rattle.model.proofs.AnswerLaws.{checks→, then-first, then-second, value_inj}
use Rattle.bench_lines.specs.Text.{Token, Statement, blank, input, output, gate, other, place, is_in, tokens_of, statement_of}
use Rattle.bench_circuit.specs.Circuit.{GateLine, Circuit, empty_circuit, net_names, input_fits, gate_fits, output_fits, gate_named, line_rules, added, line_by_line}
use Rattle.bench_circuit.proofs.RoomLaws.{header-inputs, header-gates, header-nets, header-outputs}
use Rattle.bench_lines.proofs.KindLaws.{gate-kind}
use Rattle.bench_lines.proofs.NamePlaceLaws.{in_lt, not_in, NotIn, Distinct, distinct-insert, place-left, place-right}

-- ---- pins on earlier lines

abbrev pub gate_names : List GateLine → List (List ℕ)
gate_names gs = map (λ (g : GateLine). g.name) gs

-- each name is among the inputs or among the names of gates
unfoldable pub PinsKnown : List (List ℕ) → List (List ℕ) → List (List ℕ) → Type 0
PinsKnown ins ns [] = Unit {0}
PinsKnown ins ns (y ∷ ys) = ((place y ins < length ins) ⊎ (place y ns < length ns)) × PinsKnown ins ns ys

-- the pins of each gate are among the inputs or the gates before it, which have the names `ns` and those in front
unfoldable pub Earlier : List (List ℕ) → List (List ℕ) → List GateLine → Type 0
Earlier ins ns [] = Unit {0}
Earlier ins ns (g ∷ gs) = PinsKnown ins ns g.pins × Earlier ins (ns ++ (g.name ∷ [])) gs

known_more : (x : List ℕ) (ins ns ys : List (List ℕ)) → PinsKnown ins ns ys → PinsKnown (ins ++ (x ∷ [])) ns ys
unfolding PinsKnown
known_more x ins ns [] k = tt
known_more x ins ns (y ∷ ys) k = (
  ⊎_elim (λ h. inl (omega (arith, place-left y ins (x ∷ []) h, length-append ins (x ∷ [])))) (λ h. inr h) k.0,
  known_more x ins ns ys k.1,
)

earlier-input : (x : List ℕ) (ins ns : List (List ℕ)) (gs : List GateLine) → Earlier ins ns gs
    → Earlier (ins ++ (x ∷ [])) ns gs
unfolding Earlier
earlier-input x ins ns [] e = tt
earlier-input x ins ns (g ∷ gs) e =
    (known_more x ins ns g.pins e.0, earlier-input x ins (ns ++ (g.name ∷ [])) gs e.1)

earlier-gate : (g : GateLine) (ins ns : List (List ℕ)) (gs : List GateLine) → Earlier ins ns gs
    → PinsKnown ins (ns ++ gate_names gs) g.pins → Earlier ins ns (gs ++ (g ∷ []))
unfolding Earlier
earlier-gate g ins ns [] e k = (rw (append-nil ns) at k, tt)
earlier-gate g ins ns (h ∷ gs) e k =
    let q = sym (append_assoc ns (h.name ∷ []) (gate_names gs)) in
    (e.0, earlier-gate g ins (ns ++ (h.name ∷ [])) gs e.1 (subst (λ (l : List (List ℕ)). PinsKnown ins l g.pins) q k))

pins-known : (ins ns ys : List (List ℕ)) → T (all_of (λ y. is_in y (ins ++ ns)) ys) → PinsKnown ins ns ys
unfolding PinsKnown
pins-known ins ns [] t = tt
pins-known ins ns (y ∷ ys) t =
    let here = is_in y (ins ++ ns) in
    let later = all_of (λ z. is_in z (ins ++ ns)) ys in
    (one (in_lt y (ins ++ ns) (T→true here (and_left here later t))), pins-known ins ns ys (and_right here later t))
  where
    one : place y (ins ++ ns) < length (ins ++ ns) → (place y ins < length ins) ⊎ (place y ns < length ns)
    one h =
        ⊎_elim (λ l. inr (omega (arith, place-right y ins ns l, length-append ins ns))) (λ l. inl l)
        (le_or_lt (length ins) (place y ins))

-- kinds and pin counts
abbrev pub GateFits : GateLine → Type 0
GateFits g = (1 ≤ g.kind) × (g.kind ≤ 8) × (pins_fit g.kind (length g.pins) ≡ true)

unfoldable pub GatesFit : List GateLine → Type 0
GatesFit [] = Unit {0}
GatesFit (g ∷ gs) = GateFits g × GatesFit gs

fit-more : (g : GateLine) (gs : List GateLine) → GatesFit gs → GateFits g → GatesFit (gs ++ (g ∷ []))
unfolding GatesFit
fit-more g [] f h = (h, tt)
fit-more g (h' ∷ gs) f h = (f.0, fit-more g gs f.1 h)

pub record Legal (c : Circuit) : Type 0 where
  pub few_inputs : length c.inputs ≤ 64
  pub few_gates : length c.gates ≤ 511
  pub few_nets : length c.inputs + length c.gates ≤ 512
  pub few_outputs : length c.outputs ≤ 64
  pub distinct : Distinct (net_names c)
  pub distinct_outputs : Distinct c.outputs
  pub earlier : Earlier c.inputs [] c.gates
  pub fits : GatesFit c.gates

pub legal-empty : Legal empty_circuit
unfolding Distinct Earlier GatesFit net_names
legal-empty = record {
  few_inputs = omega arith;
  few_gates = omega arith;
  few_nets = omega arith;
  few_outputs = omega arith;
  distinct = tt;
  distinct_outputs = tt;
  earlier = tt;
  fits = tt;
}

pub names-snoc : (gs : List GateLine) (g : GateLine) → gate_names (gs ++ (g ∷ [])) ≡ gate_names gs ++ (g.name ∷ [])
names-snoc [] g = refl
names-snoc (h ∷ gs) g = ap (λ (m : List (List ℕ)). h.name ∷ m) (names-snoc gs g)

module _ (c : Circuit) (l : Legal c) where
  abbrev nets : ℕ
  nets = length c.inputs + length c.gates

  fresh : (x : List ℕ) → T (not (is_in x (net_names c))) → NotIn x (net_names c)
  fresh x n = not_in x (net_names c) (not→false (is_in x (net_names c)) (T_not (is_in x (net_names c)) n))

  input-legal : (x : List ℕ) → T (not (is_in x (net_names c))) → T (input_fits c) → Legal (added c (input x))
  unfolding added input_fits net_names
  input-legal x n f =
      let a = header-inputs (suc (length c.inputs)) (length c.gates) 1 f in
      let b = header-nets (suc (length c.inputs)) (length c.gates) 1 f in
      let len = length-append c.inputs (x ∷ []) in
      record {
        few_inputs = omega arith;
        few_gates = l.few_gates;
        few_nets = omega arith;
        few_outputs = l.few_outputs;
        distinct = subst Distinct (sym (append_assoc c.inputs (x ∷ []) (gate_names c.gates)))
            (distinct-insert x c.inputs (gate_names c.gates) l.distinct (fresh x n));
        distinct_outputs = l.distinct_outputs;
        earlier = earlier-input x c.inputs [] c.gates l.earlier;
        fits = l.fits;
      }

  output-legal : (x : List ℕ) → T (not (is_in x c.outputs)) → T (output_fits c) → Legal (added c (output x))
  unfolding added output_fits net_names
  output-legal x n f =
      let a = header-outputs 1 0 (suc (length c.outputs)) f in
      let len = length-append c.outputs (x ∷ []) in
      record {
        few_inputs = l.few_inputs;
        few_gates = l.few_gates;
        few_nets = l.few_nets;
        few_outputs = omega arith;
        distinct = l.distinct;
        distinct_outputs = distinct-insert x c.outputs [] (rw (append-nil c.outputs) l.distinct_outputs)
            (rw (append-nil c.outputs) (not_in x c.outputs (not→false (is_in x c.outputs) (T_not (is_in x c.outputs) n))));
        earlier = l.earlier;
        fits = l.fits;
      }

  gate-legal : (x : List ℕ) (k : ℕ) (ys : List (List ℕ)) → (1 ≤ k) × (k ≤ 8) → T (gate_named c x ys)
      → T (gate_fits c && pins_fit k (length ys)) → Legal (added c (gate x k ys))
  unfolding added gate_fits gate_named net_names
  gate-legal x k ys r n f =
      let g : GateLine = record { name = x; kind = k; pins = ys } in
      let more = suc (length c.gates) in
      let fc = and_left (header_range 1 more 1 && leb (length c.inputs + more) max_nets) (pins_fit k (length ys)) f in
      let fp = and_right (header_range 1 more 1 && leb (length c.inputs + more) max_nets) (pins_fit k (length ys)) f in
      let a = header-gates 1 more 1 (and_left (header_range 1 more 1) (leb (length c.inputs + more) max_nets) fc) in
      let b : length c.inputs + more ≤ 512 =
      leb→le (length c.inputs + more) 512 (and_right (header_range 1 more 1) (leb (length c.inputs + more) max_nets) fc) in
      let unused = not (is_in x (net_names c)) in
      let defined = all_of (λ y. is_in y (net_names c)) ys in
      let len = length-append c.gates (g ∷ []) in
      let new = fresh x (and_left unused defined n) in
      record {
        few_inputs = l.few_inputs;
        few_gates = omega arith;
        few_nets = omega arith;
        few_outputs = l.few_outputs;
        distinct = names-distinct x k ys new;
        distinct_outputs = l.distinct_outputs;
        earlier = earlier-gate g c.inputs [] c.gates l.earlier
            (pins-known c.inputs (gate_names c.gates) ys (and_right unused defined n));
        fits = fit-more g c.gates l.fits (r.0, r.1, T→true (pins_fit k (length ys)) fp);
      }
    where
      names-distinct : (x : List ℕ) (k : ℕ) (ys : List (List ℕ)) → NotIn x (c.inputs ++ gate_names c.gates)
          → Distinct (c.inputs ++ gate_names (c.gates ++ (record { name = x; kind = k; pins = ys } ∷ [])))
      names-distinct x k ys new =
          let g : GateLine = record { name = x; kind = k; pins = ys } in
          let names = c.inputs ++ gate_names c.gates in
          let e : c.inputs ++ gate_names (c.gates ++ (g ∷ [])) ≡ names ++ (x ∷ []) =
          ap (λ (m : List (List ℕ)). c.inputs ++ m) (names-snoc c.gates g)
          ∙ sym (append_assoc c.inputs (gate_names c.gates) (x ∷ [])) in
          let q = sym (append-nil names) in
          subst Distinct (sym e) (distinct-insert x names [] (subst Distinct q l.distinct) (subst (NotIn x) q new))

-- a line that is taken
pub step-legal : (c : Circuit) (ts : List Token) → Legal c → checks (line_rules c (statement_of ts)) ≡ value tt
    → Legal (added c (statement_of ts))
unfolding added line_rules
step-legal c ts l p = go (statement_of ts) refl p
  where
    go : (s : Statement) → statement_of ts ≡ s → checks (line_rules c s) ≡ value tt → Legal (added c s)
    go blank e p = l
    go other e p = l
    go (input x) e p =
        let a = checks→ (line_rules c (input x)) (record { got = tt; is = p }) in input-legal c l x a.0 a.1.0
    go (output x) e p =
        let a = checks→ (line_rules c (output x)) (record { got = tt; is = p }) in output-legal c l x a.0 a.1.0
    go (gate x k ys) e p =
        let a = checks→ (line_rules c (gate x k ys)) (record { got = tt; is = p }) in
        gate-legal c l x k ys (gate-kind ts x k ys e) a.0 a.1.0

-- the gates of the lines
unfoldable pub gate_of_line : Statement → List GateLine
gate_of_line blank = []
gate_of_line other = []
gate_of_line (input x) = []
gate_of_line (output x) = []
gate_of_line (gate x k ys) = record { name = x; kind = k; pins = ys } ∷ []

unfoldable pub gates_of_lines : List (List ℕ) → List GateLine
gates_of_lines [] = []
gates_of_lines (l ∷ ls) = gate_of_line (statement_of (tokens_of l)) ++ gates_of_lines ls

added-gates : (c : Circuit) (s : Statement) → (added c s).gates ≡ c.gates ++ gate_of_line s
unfolding added gate_of_line
added-gates c blank = sym (append-nil c.gates)
added-gates c other = sym (append-nil c.gates)
added-gates c (input x) = sym (append-nil c.gates)
added-gates c (output x) = sym (append-nil c.gates)
added-gates c (gate x k ys) = refl

-- what lines that are all taken leave
pub record LinesLeave (c : Circuit) (ls : List (List ℕ)) (r : Circuit) : Type 0 where
  pub legal : Legal r
  pub gates : r.gates ≡ c.gates ++ gates_of_lines ls

pub lines-leave : (ls : List (List ℕ)) (c r : Circuit) → Legal c → line_by_line c ls ≡ value r → LinesLeave c ls r
unfolding line_by_line gates_of_lines
lines-leave [] c r l e = record {
  legal = subst Legal (value_inj e) l;
  gates = ap (λ (x : Circuit). x.gates) (sym (value_inj e)) ∙ sym (append-nil c.gates);
}
lines-leave (t ∷ ls) c r l e =
    let s = statement_of (tokens_of t) in
    let rest = line_by_line (added c (statement_of (tokens_of t))) ls in
    let p = then-first (checks (line_rules c (statement_of (tokens_of t)))) rest e in
    let q = then-second (checks (line_rules c (statement_of (tokens_of t)))) rest e in
    let ih = lines-leave ls (added c (statement_of (tokens_of t))) r (step-legal c (tokens_of t) l p.is) q in
    record {
      legal = ih.legal;
      gates = ih.gates ∙ ap (λ (gs : List GateLine). gs ++ gates_of_lines ls) (added-gates c (statement_of (tokens_of t)))
          ∙ append_assoc c.gates (gate_of_line (statement_of (tokens_of t))) (gates_of_lines ls);
    }
