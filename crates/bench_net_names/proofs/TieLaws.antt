-- The names of a text's nets are tied to its netlist: names are different, and the converter looks each pin up by its name.
use Rattle.model.proofs.Prelude.{ℕ, ◌<◌, ◌+◌, ◌-◌, suc, zero, ◌≡◌, ◌∙◌, ap, refl, sym, subst, List, [], ◌∷◌, ◌++◌, map, length, get_or, length-append}
use Rattle.model.proofs.Prelude.{length-map, arith}
use lib.Seq.{get_or-append-add}
use Rattle.model.specs.Base.{value, checks, ◌then◌}
use Rattle.model.specs.Netlist.{Gate, nets, pin_net, no_gate}
use Rattle.model.proofs.AnswerLaws.{steps, then-second, value_inj}
use Rattle.bench_lines.specs.Text.{place, lines_of}
use Rattle.bench_lines.proofs.NamePlaceLaws.{NotIn, Distinct, by-same, place-first, place-next}
use Rattle.bench_circuit.specs.Circuit.{GateLine, Circuit, empty_circuit, net_names, line_by_line, end_rules, circuit_of}
use Rattle.bench_circuit.proofs.CircuitLaws.{Legal, legal-empty, lines-leave, gate_names}
use Rattle.bench_text.specs.NetlistFile.{pin_nets}
use Rattle.bench_text.specs.Taken.{gate_for, netlist_of}
use Rattle.bench_text.proofs.ReadBack.{Below, LowerPins, lower-pins}
use Rattle.bench_net_names.specs.NetNames.{names_in_of, names_of, name_of}
use Rattle.bench_net_names.specs.Tie.{no_line_of, line_at, NamesTie}

-- ---- places

not_at : (x : List ℕ) (xs : List (List ℕ)) (net : ℕ) → NotIn x xs → net < length xs → get_or xs net [] ≡ x → ⊥
unfolding NotIn
not_at x [] net n h e = absurd (omega arith)
not_at x (y ∷ ys) zero n h e = n.0 (sym e)
not_at x (y ∷ ys) (suc net) n h e = not_at x ys net n.1 (omega arith) e

own-place : (xs : List (List ℕ)) (net : ℕ) → Distinct xs → net < length xs → place (get_or xs net []) xs ≡ net
unfolding Distinct
own-place [] net d h = absurd (omega arith)
own-place (x ∷ xs) zero d h = place-first x x xs refl
own-place (x ∷ xs) (suc net) d h =
    place-next (get_or xs net []) x xs (not_at x xs net d.0 (omega arith)) ∙ ap suc (own-place xs net d.1 (omega arith))

place-back : (x : List ℕ) (xs : List (List ℕ)) → place x xs < length xs → get_or xs (place x xs) [] ≡ x
place-back x [] h = absurd (omega arith)
place-back x (y ∷ ys) h = by-same x y
    (λ q. ap (λ (k : ℕ). get_or (y ∷ ys) k []) (place-first x y ys q) ∙ sym q)
    (λ d. ap (λ (k : ℕ). get_or (y ∷ ys) k []) (place-next x y ys d) ∙ place-back x ys (omega (arith, place-next x y ys d)))

-- ---- gates of the netlist

gate-at : (names : List (List ℕ)) (gs : List GateLine) (g : ℕ) → g < length gs
    → get_or (map (gate_for names) gs) g no_gate ≡ gate_for names (get_or gs g no_line_of)
gate-at names [] g h = absurd (omega arith)
gate-at names (x ∷ xs) zero h = refl
gate-at names (x ∷ xs) (suc g) h = gate-at names xs g (omega arith)

name-at : (gs : List GateLine) (g : ℕ) → g < length gs → get_or (gate_names gs) g [] ≡ (get_or gs g no_line_of).name
name-at [] g h = absurd (omega arith)
name-at (x ∷ xs) zero h = refl
name-at (x ∷ xs) (suc g) h = name-at xs g (omega arith)

pin_at : (names ys : List (List ℕ)) (p : ℕ) → p < length ys → get_or (map (λ y. place y names) ys) p 0 ≡ place (get_or ys p []) names
pin_at names [] p h = absurd (omega arith)
pin_at names (y ∷ ys) zero h = refl
pin_at names (y ∷ ys) (suc p) h = pin_at names ys p (omega arith)

below_at : (b : ℕ) (ns : List ℕ) (p : ℕ) → Below b ns → p < length ns → get_or ns p 0 < b
unfolding Below
below_at b [] p t h = absurd (omega arith)
below_at b (n ∷ ns) zero t h = t.0
below_at b (n ∷ ns) (suc p) t h = below_at b ns p t.1 (omega arith)

low-at : (names : List (List ℕ)) (net : ℕ) (gs : List GateLine) (g : ℕ) → LowerPins names net gs → g < length gs
    → Below (net + g) (pin_nets names (get_or gs g no_line_of))
unfolding LowerPins
low-at names net [] g l h = absurd (omega arith)
low-at names net (x ∷ xs) zero l h =
    let z : net ≡ net + 0 = omega arith in subst (λ (n : ℕ). Below n (pin_nets names x)) z l.0
low-at names net (x ∷ xs) (suc g) l h =
    let z : suc net + g ≡ net + suc g = omega arith in
    subst (λ (n : ℕ). Below n (pin_nets names (get_or xs g no_line_of))) z (low-at names (suc net) xs g l.1 (omega arith))

first-at : (us vs : List (List ℕ)) (i : ℕ) → i < length us → get_or (us ++ vs) i [] ≡ get_or us i []
first-at [] vs i h = absurd (omega arith)
first-at (u ∷ us) vs zero h = refl
first-at (u ∷ us) vs (suc i) h = first-at us vs i (omega arith)

-- ---- the tie

module _ (c : Circuit) (l : Legal c) where
  abbrev I : ℕ
  I = length c.inputs

  abbrev names : List (List ℕ)
  names = c.inputs ++ gate_names c.gates

  many : length names ≡ I + length c.gates
  many = omega (arith, length-append c.inputs (gate_names c.gates), length-map c.gates (λ (g : GateLine). g.name))

  nets-are : nets (netlist_of c) ≡ I + length c.gates
  unfolding netlist_of net_names
  nets-are = ap (λ (n : ℕ). I + n) (length-map c.gates (gate_for names))

  module _ (g : ℕ) (h : g < length c.gates) where
    driven : get_or names (I + g) [] ≡ (line_at c g).name
    driven = get_or-append-add c.inputs (gate_names c.gates) g [] ∙ name-at c.gates g h

    module _ (p : ℕ) (k : p < length (line_at c g).pins) where
      net-is : pin_net (netlist_of c) (I + g) p ≡ place (get_or (line_at c g).pins p []) names
      unfolding netlist_of net_names gate_for
      net-is =
          let z : I + g - I ≡ g = omega arith in
          ap (λ (n : ℕ). get_or (get_or (map (gate_for names) c.gates) n no_gate).pins p 0) z
          ∙ ap (λ (x : Gate). get_or x.pins p 0) (gate-at names c.gates g h)
          ∙ pin_at names (line_at c g).pins p k

      pin-lower : place (get_or (line_at c g).pins p []) names < I + g
      pin-lower =
          let z : I + 0 ≡ I = omega arith in
          let low : LowerPins names I c.gates =
          subst (λ (n : ℕ). LowerPins names n c.gates) z (lower-pins c.inputs [] c.gates names refl l.earlier) in
          let few : p < length (pin_nets names (line_at c g)) = omega (arith, length-map (line_at c g).pins (λ y. place y names)) in
          subst (λ (n : ℕ). n < I + g) (pin_at names (line_at c g).pins p k)
          (below_at (I + g) (pin_nets names (line_at c g)) p (low-at names I c.gates g low h) few)

      pin-named : get_or names (pin_net (netlist_of c) (I + g) p) [] ≡ get_or (line_at c g).pins p []
      pin-named = ap (λ (n : ℕ). get_or names n []) net-is ∙ place-back (get_or (line_at c g).pins p []) names (omega (arith, pin-lower, many))

  module _ (text : List ℕ) (e : circuit_of text ≡ value c) where
    names-are : names_of text ≡ names
    unfolding names_of net_names
    names-are = ap names_in_of e

    name-is : (net : ℕ) → name_of text net ≡ get_or names net []
    unfolding name_of
    name-is net = ap (λ (xs : List (List ℕ)). get_or xs net []) names-are

    alone : Distinct names
    unfolding net_names
    alone = l.distinct

    stands : (net : ℕ) → net < nets (netlist_of c) → place (name_of text net) names ≡ net
    stands net h = ap (λ (x : List ℕ). place x names) (name-is net) ∙ own-place names net alone (omega (arith, nets-are, many))

    tie : NamesTie text c
    unfolding net_names
    tie = record {
      count = nets-are ∙ sym (ap (length {A = List ℕ}) names-are ∙ many);
      stands = stands;
      differ = λ a b h k q. sym (stands a h) ∙ ap (λ (x : List ℕ). place x names) q ∙ stands b k;
      input_name = λ i h. name-is i ∙ first-at c.inputs (gate_names c.gates) i h;
      gate_name = λ g h. name-is (I + g) ∙ driven g h;
      pin_name = λ g p h k. name-is (pin_net (netlist_of c) (I + g) p) ∙ pin-named g h p k;
    }

-- For every text that has a circuit
pub names-tie : (text : List ℕ) (c : Circuit) → circuit_of text ≡ value c → NamesTie text c
unfolding circuit_of
names-tie text c e =
    let s = steps (line_by_line empty_circuit (lines_of text)) (λ r. checks (end_rules r) then value r) e in
    let q : s.got ≡ c = value_inj (then-second (checks (end_rules s.got)) (value s.got) s.second) in
    let l = lines-leave (lines_of text) empty_circuit s.got legal-empty s.first in
    tie c (subst Legal q l.legal) text e
