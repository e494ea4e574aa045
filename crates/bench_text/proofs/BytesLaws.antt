-- The netlist file of a circuit: its outputs by net, and its length.
use Rattle.model.proofs.Prelude.{ℕ, ◌≤◌, ◌<◌, ◌+◌, ◌*◌, suc, ◌≡◌, ◌∙◌, ap, refl, sym, subst, ⊎_elim, true, false, List, [], ◌∷◌, ◌++◌, length}
use Rattle.model.proofs.Prelude.{length-append, length-map, leb, T, leb→le, ltb, le→leb, lt→ltb, arith}
use Rattle.model.specs.Base.{all_of}
use Rattle.model.specs.Read.{pins_fit}
use Rattle.model.specs.Encode.{header_bytes, net_bytes, gate_bytes, output_bytes}
use Rattle.model.proofs.BoolLaws.{and_left, and_right, all3, and3, T→true, true→T, bool_cases}
use Rattle.model.proofs.WellFormed.{ascending_nets}
use Rattle.model.proofs.ReadLaws.{pins-fit}
use Rattle.bench_lines.specs.Text.{place, is_in}
use Rattle.bench_circuit.specs.Circuit.{GateLine, Circuit, net_names}
use Rattle.bench_text.specs.NetlistFile.{pin_nets, gate_records, output_nets, output_records, netlist_bytes}
use Rattle.bench_lines.proofs.NamePlaceLaws.{by-same, in_lt, lt_in, out-le, le_out, in_not, NotIn, Distinct, place-first, place-next}
use Rattle.bench_circuit.proofs.CircuitLaws.{GatesFit, Legal}

-- ---- outputs by net

module _ (net : ℕ) (x : List ℕ) (xs outs : List (List ℕ)) where
  pub out-yes : is_in x outs ≡ true → output_nets net (x ∷ xs) outs ≡ net ∷ output_nets (suc net) xs outs
  unfolding output_nets
  out-yes e = rw (e, output_nets) refl

  pub out-no : is_in x outs ≡ false → output_nets net (x ∷ xs) outs ≡ output_nets (suc net) xs outs
  unfolding output_nets
  out-no e = rw (e, output_nets) refl

ascending-less : (bound least : ℕ) (ns : List ℕ) → T (ascending_nets bound (suc least) ns)
    → T (ascending_nets bound least ns)
unfolding ascending_nets
ascending-less bound least [] t = tt
ascending-less bound least (o ∷ os) t =
    let a = and3 (leb (suc least) o) (ltb o bound) (ascending_nets bound (suc o) os) t in
    all3 (leb least o) (ltb o bound) (ascending_nets bound (suc o) os) (le→leb least o (omega (arith, leb→le (suc least) o a.0))) a.1 a.2

pub outputs-ascend : (bound net : ℕ) (xs outs : List (List ℕ)) → net + length xs ≤ bound
    → T (ascending_nets bound net (output_nets net xs outs))
unfolding ascending_nets output_nets
outputs-ascend bound net [] outs h = tt
outputs-ascend bound net (x ∷ xs) outs h =
    let ih = outputs-ascend bound (suc net) xs outs (omega arith) in
    ⊎_elim
    (λ e.
    subst (λ (l : List ℕ). T (ascending_nets bound net l)) (sym (out-yes net x xs outs e))
    (all3 (leb net net) (ltb net bound) (ascending_nets bound (suc net) (output_nets (suc net) xs outs)) (le→leb net net (omega arith)) (lt→ltb net bound (omega arith)) ih))
    (λ e. subst (λ (l : List ℕ). T (ascending_nets bound net l)) (sym (out-no net x xs outs e)) (ascending-less bound net (output_nets (suc net) xs outs) ih))
    (bool_cases (is_in x outs))

-- how often a name stands in a list
unfoldable times : List ℕ → List (List ℕ) → ℕ
times x [] = 0
times x (y ∷ ys) = elim (Rattle.model.specs.Report.same_bytes y x) [ true ↦ suc (times x ys) | false ↦ times x ys ]

times-here : (x y : List ℕ) (ys : List (List ℕ)) → y ≡ x → times x (y ∷ ys) ≡ suc (times x ys)
unfolding times
times-here x y ys e = rw (Rattle.bench_lines.proofs.NamePlaceLaws.same-yes y x e, times) refl

times-other : (x y : List ℕ) (ys : List (List ℕ)) → (y ≡ x → ⊥) → times x (y ∷ ys) ≡ times x ys
unfolding times
times-other x y ys d = rw (Rattle.bench_lines.proofs.NamePlaceLaws.same-no y x d, times) refl

times_none : (x : List ℕ) (ys : List (List ℕ)) → NotIn x ys → times x ys ≡ 0
unfolding NotIn times
times_none x [] n = refl
times_none x (y ∷ ys) n = times-other x y ys (λ e. n.0 (sym e)) ∙ times_none x ys n.1

times-one : (x : List ℕ) (ys : List (List ℕ)) → Distinct ys → place x ys < length ys → times x ys ≡ 1
unfolding Distinct place
times-one x [] d h = absurd (omega arith)
times-one x (y ∷ ys) d h = by-same x y
    (λ e. times-here x y ys (sym e) ∙ ap suc (times_none x ys (subst (λ (w : List ℕ). NotIn w ys) (sym e) d.0)))
    (λ q. times-other x y ys (λ e. q (sym e)) ∙ times-one x ys d.1 (omega (arith, place-next x y ys q)))

in_first : (y x : List ℕ) (outs : List (List ℕ)) → y ≡ x → is_in y (x ∷ outs) ≡ true
in_first y x outs e = lt_in y (x ∷ outs) (omega (arith, place-first y x outs e))

in_rest : (y x : List ℕ) (outs : List (List ℕ)) → (y ≡ x → ⊥) → is_in y (x ∷ outs) ≡ is_in y outs
in_rest y x outs d =
    ⊎_elim
    (λ e. lt_in y (x ∷ outs) (omega (arith, place-next y x outs d, in_lt y outs e)) ∙ sym e)
    (λ e. le_out y (x ∷ outs) (omega (arith, place-next y x outs d, out-le y outs e)) ∙ sym e)
    (bool_cases (is_in y outs))

-- a further output adds as many nets as have its name
outputs-more : (net : ℕ) (x : List ℕ) (names outs : List (List ℕ)) → NotIn x outs
    → length (output_nets net names (x ∷ outs)) ≡ times x names + length (output_nets net names outs)
unfolding output_nets times
outputs-more net x [] outs n = refl
outputs-more net x (y ∷ ys) outs n =
    let ih = outputs-more (suc net) x ys outs n in
    by-same y x
    (λ e.
    let a : is_in y outs ≡ false = subst (λ (w : List ℕ). is_in w outs ≡ false) (sym e) (in_not x outs n) in
    omega (arith, ap length (out-yes net y ys (x ∷ outs) (in_first y x outs e)), ap length (out-no net y ys outs a), times-here x y ys e))
    (λ d.
    ⊎_elim
    (λ e. omega (arith, ap length (out-yes net y ys (x ∷ outs) (in_rest y x outs d ∙ e)), ap length (out-yes net y ys outs e), times-other x y ys d))
    (λ e. omega (arith, ap length (out-no net y ys (x ∷ outs) (in_rest y x outs d ∙ e)), ap length (out-no net y ys outs e), times-other x y ys d))
    (bool_cases (is_in y outs)))

outputs-none : (net : ℕ) (names : List (List ℕ)) → output_nets net names [] ≡ []
unfolding output_nets NotIn
outputs-none net [] = refl
outputs-none net (y ∷ ys) = out-no net y ys [] (in_not y [] tt) ∙ outputs-none (suc net) ys

-- each output has one net
pub outputs-count : (net : ℕ) (names outs : List (List ℕ)) → Distinct names → Distinct outs
    → T (all_of (λ x. is_in x names) outs) → length (output_nets net names outs) ≡ length outs
unfolding Distinct
outputs-count net names [] d e t = ap length (outputs-none net names)
outputs-count net names (x ∷ outs) d e t =
    let a =
    times-one x names d (in_lt x names (T→true (is_in x names) (and_left (is_in x names) (all_of (λ y. is_in y names) outs) t))) in
    let ih = outputs-count net names outs d e.1 (and_right (is_in x names) (all_of (λ y. is_in y names) outs) t) in
    omega (arith, outputs-more net x names outs e.0)

-- ---- lengths

pub length-nets : (ns : List ℕ) → length (net_bytes ns) ≡ 2 * length ns
unfolding net_bytes
length-nets [] = refl
length-nets (n ∷ ns) = omega (arith, length-nets ns)

pub length-gate : (k : ℕ) (ns : List ℕ) → length (gate_bytes k ns) ≡ 4 + 2 * length ns
unfolding gate_bytes
length-gate k ns = omega (arith, length-nets ns)

pub length-outputs : (ns : List ℕ) → length (output_records ns) ≡ 4 * length ns
unfolding output_records output_bytes
length-outputs [] = refl
length-outputs (n ∷ ns) = omega (arith, length-outputs ns)

pub few-pins : (k n : ℕ) → pins_fit k n ≡ true → n ≤ 8
few-pins k n e = leb→le n 8 (and_right (leb 1 n) (leb n 8) (pins-fit k n (true→T (pins_fit k n) e)))

gates-short : (names : List (List ℕ)) (gs : List GateLine) → GatesFit gs
    → length (gate_records names gs) ≤ 20 * length gs
unfolding gate_records GatesFit
gates-short names [] f = omega arith
gates-short names (g ∷ gs) f =
    let p : length (pin_nets names g) ≡ length g.pins = length-map g.pins (λ y. place y names) in
    omega (
      arith,
      length-append (gate_bytes g.kind (pin_nets names g)) (gate_records names gs),
      length-gate g.kind (pin_nets names g),
      p,
      few-pins
          g.kind (length g.pins) f.0.2,
      gates-short names gs f.1,
    )

-- a circuit whose outputs are all defined fits the least buffer
pub bytes_fit : (c : Circuit) → Legal c → T (all_of (λ x. is_in x (net_names c)) c.outputs)
    → length (netlist_bytes c) ≤ 10484
unfolding netlist_bytes header_bytes
bytes_fit c l t =
    let os = output_nets 0 (net_names c) c.outputs in
    let rest = gate_records (net_names c) c.gates ++ output_records os in
    omega (
      arith,
      length-append (header_bytes (length c.inputs) (length c.gates) (length c.outputs)) rest,
      length-append (gate_records (net_names c) c.gates) (output_records os),
      gates-short (net_names c) c.gates l.fits,
      length-outputs os,
      outputs-count 0 (net_names c) c.outputs l.distinct l.distinct_outputs t,
      l.few_gates,
      l.few_outputs,
    )
