-- The gates of a netlist file as they are read back: each the circuit's, unless a count passes 2^62, and then 17.
use Rattle.model.proofs.Prelude.{ℕ, ◌≤◌, ◌<◌, ◌+◌, ◌*◌, suc, ◌/◌, ◌%◌, ◌≡◌, ◌∙◌, ap, refl, sym, subst, ⊎_elim, true, Bool, false, ◌&&◌, List, [], ◌∷◌}
use Rattle.model.proofs.Prelude.{◌++◌, map, append_assoc, length, get_or, drop, length-append, length-map, drop-drop, leb, T, ltb, le→leb, lt→ltb}
use Rattle.model.proofs.Prelude.{arith}
use Rattle.model.specs.Base.{Answer, refused, value, ◌into◌, ◌then◌, check, Rule, checks, all_of}
use Rattle.model.specs.Netlist.{Gate, max_count, gate_count, net_by_net, at_nets}
use Rattle.model.specs.Read.{marked, within, kind_of, pins_fit, net_fields, gate_in, count_in, gate_rules, read_gates}
use Rattle.model.specs.Encode.{net_bytes, gate_bytes}
use Rattle.model.proofs.BoolLaws.{both, and_left, and_right, T→true, true→T, not→false, bool_cases, le_or_lt}
use Rattle.model.proofs.ListLaws.{all_of_append}
use Rattle.model.proofs.ReadLaws.{fits}
use Rattle.model.proofs.AnswerLaws.{AllPass, →checks, checks-both}
use Rattle.bench_lines.specs.Text.{place}
use Rattle.bench_circuit.specs.Circuit.{GateLine}
use Rattle.bench_text.specs.NetlistFile.{pin_nets, gate_records}
use Rattle.bench_text.specs.Taken.{gate_for}
use Rattle.bench_lines.proofs.NamePlaceLaws.{place-left, place-right}
use Rattle.bench_circuit.proofs.CircuitLaws.{gate_names, PinsKnown, Earlier, GateFits, GatesFit}
use Rattle.bench_text.proofs.BytesLaws.{length-gate}

-- ---- fields as they were written

pub back : (n : ℕ) → n < 65536 → n % 256 + 256 * (n / 256 % 256 + 256 * 0) ≡ n
back n h = omega arith

unfoldable pub Below : ℕ → List ℕ → Type 0
Below b [] = Unit {0}
Below b (n ∷ ns) = (n < b) × Below b ns

fields_back : (ns rest : List ℕ) → Below 65536 ns → net_fields (length ns) (net_bytes ns ++ rest) ≡ ns
unfolding net_bytes Below
fields_back [] rest b = refl
fields_back (n ∷ ns) rest b =
    ap (λ (m : ℕ). m ∷ net_fields (length ns) (net_bytes ns ++ rest)) (back n b.0)
    ∙ ap (λ (l : List ℕ). n ∷ l) (fields_back ns rest b.1)

nets-after : (ns rest : List ℕ) → drop (2 * length ns) (net_bytes ns ++ rest) ≡ rest
unfolding net_bytes
nets-after [] rest = refl
nets-after (n ∷ ns) rest =
    let z : 2 * length (n ∷ ns) ≡ 2 + 2 * length ns = omega arith in
    ap (λ (m : ℕ). drop m (net_bytes (n ∷ ns) ++ rest)) z ∙ sym (drop-drop (2 * length ns) 2 (net_bytes (n ∷ ns) ++ rest))
    ∙ nets-after ns rest

-- all rules but the last pass
pub but_last : (rs : List Rule) (n : ℕ) (b : Bool) → AllPass rs → checks (rs ++ ((n, b) ∷ [])) ≡ (check n b then value tt)
but_last rs n b a = checks-both rs ((n, b) ∷ []) ∙ rw (→checks rs a) refl

-- ---- pins lower than their gate

unfoldable pub LowerPins : List (List ℕ) → ℕ → List GateLine → Type 0
LowerPins names net [] = Unit {0}
LowerPins names net (g ∷ gs) = Below net (pin_nets names g) × LowerPins names (suc net) gs

known-below : (ins ns more ys : List (List ℕ)) → PinsKnown ins ns ys
    → Below (length ins + length ns) (map (λ y. place y (ins ++ (ns ++ more))) ys)
unfolding PinsKnown Below
known-below ins ns more [] k = tt
known-below ins ns more (y ∷ ys) k =
    let here = ⊎_elim first (λ h. ⊎_elim (second h) first (le_or_lt (length ins) (place y ins))) k.0 in
    (here, known-below ins ns more ys k.1)
  where
    first : place y ins < length ins → place y (ins ++ (ns ++ more)) < length ins + length ns
    first h = omega (arith, place-left y ins (ns ++ more) h)

    second : place y ns < length ns → length ins ≤ place y ins → place y (ins ++ (ns ++ more)) < length ins + length ns
    second h l = omega (arith, place-right y ins (ns ++ more) l, place-left y ns more h)

pub lower-pins : (ins ns : List (List ℕ)) (gs : List GateLine) (names : List (List ℕ))
    → names ≡ ins ++ (ns ++ gate_names gs) → Earlier ins ns gs → LowerPins names (length ins + length ns) gs
unfolding Earlier LowerPins
lower-pins ins ns [] names e k = tt
lower-pins ins ns (g ∷ gs) names e k =
    let z : length ins + length (ns ++ (g.name ∷ [])) ≡ suc (length ins + length ns) =
    omega (arith, length-append ns (g.name ∷ [])) in
    let q = e ∙ ap (λ (l : List (List ℕ)). ins ++ l) (sym (append_assoc ns (g.name ∷ []) (gate_names gs))) in
    let known = known-below ins ns (gate_names (g ∷ gs)) g.pins k.0 in (
      subst (λ (l : List (List ℕ)). Below (length ins + length ns) (pin_nets l g)) (sym e) known,
      subst (λ (n : ℕ). LowerPins names n gs) z (lower-pins ins (ns ++ (g.name ∷ [])) gs names q k.1),
    )

below_all : (b : ℕ) (ns : List ℕ) → Below b ns → T (all_of (λ p. ltb p b) ns)
unfolding Below
below_all b [] t = tt
below_all b (n ∷ ns) t = both (ltb n b) (all_of (λ p. ltb p b) ns) (lt→ltb n b t.0) (below_all b ns t.1)

below_more : (b d : ℕ) (ns : List ℕ) → b ≤ d → Below b ns → Below d ns
unfolding Below
below_more b d [] h t = tt
below_more b d (n ∷ ns) h t = (omega (arith, t.0), below_more b d ns h t.1)

-- ---- gates

module _ (names : List (List ℕ)) (g : GateLine) (cs rest : List ℕ) (low : Below (length cs) (pin_nets names g))
    (few : length cs ≤ 512) (fit : GateFits g) where
  abbrev ns : List ℕ
  ns = pin_nets names g

  abbrev bs : List ℕ
  bs = gate_bytes g.kind ns ++ rest

  gate-length : length bs ≡ 4 + 2 * length ns + length rest
  gate-length = omega (arith, length-append (gate_bytes g.kind ns) rest, length-gate g.kind ns)

  gate-pins : (gate_in bs).pins ≡ ns
  unfolding gate_bytes
  gate-pins = fields_back ns rest (below_more (length cs) 65536 ns (omega arith) low)

  gate-is : gate_in bs ≡ gate_for names g
  unfolding gate_bytes gate_for
  gate-is = ap (λ (p : List ℕ). record { kind = kind_of g.kind; pins = p }) gate-pins

  gate-after : drop (4 + 2 * get_or bs 3 0) bs ≡ rest
  unfolding gate_bytes
  gate-after = sym (drop-drop (2 * length ns) 4 bs) ∙ nets-after ns rest

  gate-rules : checks (gate_rules (length cs) cs bs) ≡ (check 17 (leb (count_in cs bs) max_count) then value tt)
  unfolding gate_bytes
  gate-rules =
      let n : length ns ≡ length g.pins = length-map g.pins (λ y. place y names) in
      let b = bs in
      let mark = both (leb 4 (length b)) (marked 0x47 0x54 b) (le→leb 4 (length b) (omega (arith, gate-length))) tt in
      let kind = both (leb 1 g.kind) (leb g.kind 8) (le→leb 1 g.kind fit.0) (le→leb g.kind 8 fit.1) in
      let pins = true→T (pins_fit g.kind (length ns)) (ap (λ (m : ℕ). pins_fit g.kind m) n ∙ fit.2) in
      let whole = le→leb (4 + 2 * length ns) (length b) (omega (arith, gate-length)) in
      let lower =
      subst (λ (l : List ℕ). T (all_of (λ p. ltb p (length cs)) l)) (sym gate-pins) (below_all (length cs) ns low) in
      but_last
      ((12, leb 4 (length b) && marked 0x47 0x54 b) ∷ (13, within 1 8 (get_or b 2 0)) ∷ (14, pins_fit (get_or b 2 0) (get_or b 3 0))
      ∷ (12, leb (4 + 2 * get_or b 3 0) (length b)) ∷ (15, all_of (λ p. ltb p (length cs)) (gate_in b).pins) ∷ [])
      17 (leb (count_in cs b) max_count) (mark, (kind, (pins, (whole, (lower, tt)))))

-- one gate, as the reader goes on
gate-refused : (n : ℕ) (cs bs : List ℕ) → checks (gate_rules (length cs) cs bs) ≡ refused 17
    → read_gates (suc n) cs bs ≡ refused 17
unfolding read_gates
gate-refused n cs bs e = rw (e, read_gates) refl

gate-taken : (n : ℕ) (cs bs : List ℕ) → checks (gate_rules (length cs) cs bs) ≡ value tt → read_gates (suc n) cs bs
    ≡ (read_gates n (cs ++ (count_in cs bs ∷ [])) (drop (4 + 2 * get_or bs 3 0) bs) into λ r. value (gate_in bs ∷ r.0, r.1))
unfolding read_gates
gate-taken n cs bs e = rw (e, read_gates) refl

-- ---- counts: the number of a refusal where one passes 2^62

fit-left : (cs : List ℕ) (k : ℕ) → T (all_of fits (cs ++ (k ∷ []))) → T (all_of fits cs) × T (fits k)
fit-left [] k t = (tt, and_left (fits k) true t)
fit-left (c ∷ cs) k t =
    let more = all_of fits (cs ++ (k ∷ [])) in
    let r = fit-left cs k (and_right (fits c) more t) in
    (both (fits c) (all_of fits cs) (and_left (fits c) more t) r.0, r.1)

before-fit : (gs : List Gate) (cs : List ℕ) → T (all_of fits (net_by_net gate_count 0 cs gs)) → T (all_of fits cs)
before-fit [] cs t = t
before-fit (g ∷ gs) cs t =
    let k = gate_count g (at_nets cs 0 g.pins) in
    (fit-left cs k (before-fit gs (cs ++ (k ∷ [])) t)).0

abbrev pub gates_to : Bool → List Gate → List ℕ → Answer (List Gate × List ℕ)
gates_to b gs rest = check 17 b then value (gs, rest)

gates-cons : (b : Bool) (g : Gate) (gs : List Gate) (rest : List ℕ) → (gates_to b gs rest into λ r. value (g ∷ r.0, r.1)) ≡ gates_to b (g ∷ gs) rest
gates-cons true g gs rest = refl
gates-cons false g gs rest = refl

-- the next gate in front of those that are read after it
module _ (n : ℕ) (names : List (List ℕ)) (g : GateLine) (gs : List Gate) (cs tail rest : List ℕ) (low : Below (length cs) (pin_nets names g))
    (few : length cs ≤ 512) (fit : GateFits g) (t : T (all_of fits cs)) where
  abbrev one : Gate
  one = gate_for names g

  abbrev file : List ℕ
  file = gate_bytes g.kind (pin_nets names g) ++ tail

  abbrev count : ℕ
  count = gate_count one (at_nets cs 0 one.pins)

  abbrev all : Bool
  all = all_of fits (net_by_net gate_count 0 (cs ++ (count ∷ [])) gs)

  count-is : count_in cs file ≡ count
  count-is = ap (λ (x : Gate). gate_count x (at_nets cs 0 x.pins)) (gate-is names g cs tail low few fit)

  rules-are : checks (gate_rules (length cs) cs file) ≡ (check 17 (fits count) then value tt)
  rules-are = gate-rules names g cs tail low few fit ∙ ap (λ (m : ℕ). check 17 (fits m) then value tt) count-is

  gates-over : fits count ≡ false → read_gates (suc n) cs file ≡ gates_to all (one ∷ gs) rest
  gates-over e =
      let over : all ≡ false = not→false all (λ u. subst T e (fit-left cs count (before-fit gs (cs ++ (count ∷ [])) u)).1) in
      gate-refused n cs file (rules-are ∙ rw e refl) ∙ rw over refl

  gates-more : fits count ≡ true → (T (all_of fits (cs ++ (count ∷ []))) → read_gates n (cs ++ (count ∷ [])) tail ≡ gates_to all gs rest)
      → read_gates (suc n) cs file ≡ gates_to all (one ∷ gs) rest
  gates-more e ih =
      let go : List ℕ → ℕ → Gate → Answer (List Gate × List ℕ) = λ l k x. read_gates n (cs ++ (k ∷ [])) l into λ r. value (x ∷ r.0, r.1) in
      gate-taken n cs file (rules-are ∙ rw e refl)
      ∙ ap (λ (l : List ℕ). go l (count_in cs file) (gate_in file)) (gate-after names g cs tail low few fit)
      ∙ ap (λ (k : ℕ). go tail k (gate_in file)) count-is
      ∙ ap (λ (x : Gate). go tail count x) (gate-is names g cs tail low few fit)
      ∙ ap (λ (y : Answer (List Gate × List ℕ)). y into λ r. value (one ∷ r.0, r.1)) (ih (all_of_append fits cs count t (true→T (fits count) e)))
      ∙ gates-cons all one gs rest

-- The gates are the circuit's, unless the count of a net passes 2^62
pub gates-read : (names : List (List ℕ)) (gs : List GateLine) (net : ℕ) (cs rest : List ℕ) → length cs ≡ net
    → net + length gs ≤ 512 → LowerPins names net gs → GatesFit gs → T (all_of fits cs)
    → read_gates (length gs) cs (gate_records names gs ++ rest)
    ≡ gates_to (all_of fits (net_by_net gate_count 0 cs (map (gate_for names) gs))) (map (gate_for names) gs) rest
unfolding LowerPins GatesFit gate_records read_gates
gates-read names [] net cs rest e h l f t = rw (T→true (all_of fits cs) t) refl
gates-read names (g ∷ gs) net cs rest e h l f t =
    let tail = gate_records names gs ++ rest in
    let read = map (gate_for names) gs in
    let low = subst (λ (n : ℕ). Below n (pin_nets names g)) (sym e) l.0 in
    let few : length cs ≤ 512 = omega arith in
    let k = gate_count (gate_for names g) (at_nets cs 0 (gate_for names g).pins) in
    ap (λ (z : List ℕ). read_gates (suc (length gs)) cs z) (append_assoc (gate_bytes g.kind (pin_nets names g)) (gate_records names gs) rest)
    ∙ ⊎_elim
    (λ (q : fits k ≡ true).
    gates-more (length gs) names g read cs tail rest low few f.0 t q
    (λ u. gates-read names gs (suc net) (cs ++ (k ∷ [])) rest (omega (arith, length-append cs (k ∷ []))) (omega arith) l.1 f.1 u))
    (λ (q : fits k ≡ false). gates-over (length gs) names g read cs tail rest low few f.0 t q)
    (bool_cases (fits k))
