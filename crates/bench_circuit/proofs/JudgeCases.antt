-- A line judged, case by case: first by the keys in lent words, then of the circuit that they hold.
use Rattle.model.proofs.Prelude.{ℕ, ◌≤◌, ◌<◌, ◌+◌, ◌*◌, ◌≡◌, ◌∙◌, ap, refl, sym, subst, ap₂, ⊎_elim, true, Bool, false, ◌&&◌, not, List, [], ◌∷◌}
use Rattle.model.proofs.Prelude.{◌++◌, map, length, length-append, set, length-set, length-map, ltb, arith, lt-ltb, le-ltb}
use Rattle.model.specs.Base.{refused, value, checks, all_of}
use Rattle.model.specs.Read.{pins_fit}
use Rattle.model.proofs.BoolLaws.{le_or_lt}
use Rattle.bench_lines.specs.Text.{input, output, gate, pins_from, place, is_in}
use Rattle.bench_lines.specs.LineReading.{part, Named, rest_at}
use Rattle.bench_lines.specs.Keys.{key_low, key_high, key_of, key_place, Holds, AllNamed}
use Rattle.bench_circuit.specs.Circuit.{GateLine, Circuit, net_names, input_fits, gate_fits, output_fits, gate_named, line_rules}
use Rattle.bench_names.specs.NameNets.{name_place, key_net, key_known, PinsJudged}
use Rattle.bench_circuit.specs.Judging.{input_rules, InputJudged, output_rules, OutputJudged, gate_rules, GateJudged, NamesHeld, Held}
use Rattle.model.specs.declared.Refusal.TheVariants as why
use Rattle.bench_lines.specs.declared.inner.keys.NameKey.{NameKey}
use Rattle.bench_lines.specs.declared.inner.statements.GateParts.{GateParts}
use Rattle.bench_circuit.specs.declared.inner.judging.NameCounts.{NameCounts}
use Rattle.bench_circuit.proofs.RoomLaws.{room-input, room-gate, room-output}
use Rattle.bench_lines.proofs.NamePlaceLaws.{place-left, place-right}
use Rattle.bench_lines.proofs.KeyLaws.{place_of, put_holds, named-snoc}
use Rattle.bench_names.proofs.NameNetLaws.{net-first, net-second}
use Rattle.std.specs.Prelude.{Ok, Err}

-- ---- two rules

rules-first : (a b : Bool) → a ≡ false → checks ((81, a) ∷ (82, b) ∷ []) ≡ refused 81
rules-first a b e = rw e refl

rules-second : (a b : Bool) → a ≡ true → b ≡ false → checks ((81, a) ∷ (82, b) ∷ []) ≡ refused 82
rules-second a b e f = rw (e, f) refl

rules-pass : (a b : Bool) → a ≡ true → b ≡ true → checks ((81, a) ∷ (82, b) ∷ []) ≡ value tt
rules-pass a b e f = rw (e, f) refl

and_first : (a b : Bool) → a ≡ false → (a && b) ≡ false
and_first a b e = rw e refl

and_second : (a b : Bool) → a ≡ true → b ≡ false → (a && b) ≡ false
and_second a b e f = rw (e, f) refl

and_both : (a b : Bool) → a ≡ true → b ≡ true → (a && b) ≡ true
and_both a b e f = rw (e, f) refl

module _ (is : List ℕ) (i : ℕ) (gs : List ℕ) (g : ℕ) (x : List ℕ) {net : ℕ} (e : net ≡ key_net is i gs g x) where
  known-yes : net < i + g → not (key_known is i gs g x) ≡ false
  unfolding key_known
  known-yes h = ap not (lt-ltb (key_net is i gs g x) (i + g) (subst (λ (n : ℕ). n < i + g) e h))

  known-no : i + g ≤ net → not (key_known is i gs g x) ≡ true
  unfolding key_known
  known-no h = ap not (le-ltb (key_net is i gs g x) (i + g) (subst (λ (n : ℕ). i + g ≤ n) e h))

put-key_is : (ws ws' : List ℕ) (n : ℕ) (x : List ℕ) (key : NameKey) → key ≡ key_of x
    → ws' ≡ set (set ws (2 * n) key.low) (2 * n + 1) key.high
    → ws' ≡ set (set ws (2 * n) (key_low x)) (2 * n + 1) (key_high x)
put-key_is ws ws' n x key e q = q ∙ ap (λ (k : NameKey). set (set ws (2 * n) k.low) (2 * n + 1) k.high) e

-- ---- an input

module _ (x is is' : List ℕ) (i : ℕ) (gs : List ℕ) (g net : ℕ) (e : net ≡ key_net is i gs g x) where
  -- the two rules: name, numbers
  abbrev fresh : Bool
  fresh = not (key_known is i gs g x)

  abbrev room : Bool
  room = ltb i 64 && ltb (i + g) 512

  pub input-known : net < i + g → InputJudged (Err why.BenchName) x is is' i gs g
  input-known h = record { judged = rules-first fresh room (known-yes is i gs g x e h); put = tt }

  module _ (h : i + g ≤ net) where
    no_room : room ≡ false → InputJudged (Err why.BenchCount) x is is' i gs g
    no_room z = record { judged = rules-second fresh room (known-no is i gs g x e h) z; put = tt }

    pub input-many : 64 ≤ i → InputJudged (Err why.BenchCount) x is is' i gs g
    input-many l = no_room (and_first (ltb i 64) (ltb (i + g) 512) (le-ltb i 64 l))

    module _ (k : i < 64) where
      pub input-nets : 512 ≤ i + g → InputJudged (Err why.BenchCount) x is is' i gs g
      input-nets l = no_room (and_second (ltb i 64) (ltb (i + g) 512) (lt-ltb i 64 k) (le-ltb (i + g) 512 l))

      pub input-added : i + g < 512 → (key : NameKey) → key ≡ key_of x
          → is' ≡ set (set is (2 * i) key.low) (2 * i + 1) key.high → InputJudged (Ok tt) x is is' i gs g
      input-added l key q p = record {
        judged = rules-pass fresh room (known-no is i gs g x e h)
            (and_both (ltb i 64) (ltb (i + g) 512) (lt-ltb i 64 k) (lt-ltb (i + g) 512 l));
        put = put-key_is is is' i x key q p;
      }

-- ---- an output

module _ (x os os' : List ℕ) (o : ℕ) (key : NameKey) (q : key ≡ key_of x) (p : ℕ)
    (e : p ≡ key_place key.low key.high o 0 os) where
  at_place : p ≡ name_place os o x
  unfolding name_place
  at_place = e ∙ ap (λ (k : NameKey). key_place k.low k.high o 0 os) q

  abbrev unlisted : Bool
  unlisted = not (ltb (name_place os o x) o)

  pub output-known : p < o → OutputJudged (Err why.BenchName) x os os' o
  output-known h =
      let z = lt-ltb (name_place os o x) o (subst (λ (n : ℕ). n < o) at_place h) in
      record { judged = rules-first unlisted (ltb o 64) (ap not z); put = tt }

  module _ (h : o ≤ p) where
    new : unlisted ≡ true
    new = ap not (le-ltb (name_place os o x) o (subst (λ (n : ℕ). o ≤ n) at_place h))

    pub output-many : 64 ≤ o → OutputJudged (Err why.BenchCount) x os os' o
    output-many l = record { judged = rules-second unlisted (ltb o 64) new (le-ltb o 64 l); put = tt }

    pub output-added : o < 64 → os' ≡ set (set os (2 * o) key.low) (2 * o + 1) key.high
        → OutputJudged (Ok tt) x os os' o
    output-added l r = record {
      judged = rules-pass unlisted (ltb o 64) new (lt-ltb o 64 l);
      put = put-key_is os os' o x key q r;
    }

-- ---- a gate

module _ (line : List ℕ) (parts : GateParts) (is : List ℕ) (i : ℕ) (gs gs' : List ℕ) (g net : ℕ)
    (e : net ≡ key_net is i gs g (part parts.from parts.to line)) where
  abbrev x : List ℕ
  x = part parts.from parts.to line

  abbrev k : ℕ
  k = parts.kind

  -- the two rules: names, numbers
  abbrev names : List (List ℕ) → Bool
  names ys = not (key_known is i gs g x) && all_of (key_known is i gs g) ys

  abbrev numbers : List (List ℕ) → Bool
  numbers ys = (ltb g 511 && ltb (i + g) 512) && pins_fit k (length ys)

  pub gate-defined : net < i + g → GateJudged (Err why.BenchName) line parts is i gs gs' g
  gate-defined h = record {
    judged = λ ys r c. rules-first (names ys) (numbers ys)
        (and_first (not (key_known is i gs g x)) (all_of (key_known is i gs g) ys) (known-yes is i gs g x e h));
    put = tt;
  }

  module _ (h : i + g ≤ net) (known : Bool) (p : PinsJudged known parts.at line is i gs g) where
    pub gate-unknown : known ≡ false → GateJudged (Err why.BenchName) line parts is i gs gs' g
    gate-unknown q = record {
      judged = λ ys r c. rules-first (names ys) (numbers ys)
          (and_second (not (key_known is i gs g x)) (all_of (key_known is i gs g) ys) (known-no is i gs g x e h)
          (sym (p.known x k ys r) ∙ q));
      put = tt;
    }

    module _ (q : known ≡ true) where
      pass_names : (ys : List (List ℕ)) → pins_from x k [] (rest_at parts.at line) ≡ gate x k ys → names ys ≡ true
      pass_names ys r =
          and_both (not (key_known is i gs g x)) (all_of (key_known is i gs g) ys) (known-no is i gs g x e h)
          (sym (p.known x k ys r) ∙ q)

      out_of_range : (ltb g 511 && ltb (i + g) 512) ≡ false
          → GateJudged (Err why.BenchCount) line parts is i gs gs' g
      out_of_range z = record {
        judged = λ ys r c. rules-second (names ys) (numbers ys) (pass_names ys r)
            (and_first (ltb g 511 && ltb (i + g) 512) (pins_fit k (length ys)) z);
        put = tt;
      }

      pub gate-many : 511 ≤ g → GateJudged (Err why.BenchCount) line parts is i gs gs' g
      gate-many l = out_of_range (and_first (ltb g 511) (ltb (i + g) 512) (le-ltb g 511 l))

      module _ (l : g < 511) where
        pub gate-nets : 512 ≤ i + g → GateJudged (Err why.BenchCount) line parts is i gs gs' g
        gate-nets m = out_of_range (and_second (ltb g 511) (ltb (i + g) 512) (lt-ltb g 511 l) (le-ltb (i + g) 512 m))

        module _ (m : i + g < 512) (fits : Bool) (f : fits ≡ pins_fit parts.kind parts.pins) where
          in_range : (ltb g 511 && ltb (i + g) 512) ≡ true
          in_range = and_both (ltb g 511) (ltb (i + g) 512) (lt-ltb g 511 l) (lt-ltb (i + g) 512 m)

          fits-as : (ys : List (List ℕ)) → length ys ≡ parts.pins → pins_fit k (length ys) ≡ fits
          fits-as ys c = ap (λ (m : ℕ). pins_fit k m) c ∙ sym f

          pub gate-pin-count : fits ≡ false → GateJudged (Err why.BenchCount) line parts is i gs gs' g
          gate-pin-count z = record {
            judged = λ ys r c. rules-second (names ys) (numbers ys) (pass_names ys r)
                (and_second (ltb g 511 && ltb (i + g) 512) (pins_fit k (length ys)) in_range (fits-as ys c ∙ z));
            put = tt;
          }

          pub gate-added : fits ≡ true → (key : NameKey) → key ≡ key_of (part parts.from parts.to line)
              → gs' ≡ set (set gs (2 * g) key.low) (2 * g + 1) key.high
              → GateJudged (Ok tt) line parts is i gs gs' g
          gate-added z key w v = record {
            judged = λ ys r c. rules-pass (names ys) (numbers ys) (pass_names ys r)
                (and_both (ltb g 511 && ltb (i + g) 512) (pins_fit k (length ys)) in_range (fits-as ys c ∙ z));
            put = put-key_is gs gs' g x key w v;
          }

-- ---- what the words say of the circuit that they hold

module _ {is gs os : List ℕ} {n : NameCounts} {c : Circuit} (h : Held is gs os n c) where
  gate-count : n.gates ≡ length c.gates
  gate-count = h.gates.count ∙ length-map c.gates (λ (g : GateLine). g.name)

  nets-are : n.inputs + n.gates ≡ length (net_names c)
  unfolding net_names
  nets-are =
      let names = map (λ (g : GateLine). g.name) c.gates in
      omega (arith, h.inputs.count, h.gates.count, length-append c.inputs names)

  pub net-is : (x : List ℕ) → Named x → key_net is n.inputs gs n.gates x ≡ place x (net_names c)
  unfolding net_names name_place
  net-is x nx =
      let a : name_place is n.inputs x ≡ place x c.inputs =
      place_of h.inputs.holds h.inputs.named nx h.inputs.count refl in
      let names = map (λ (g : GateLine). g.name) c.gates in
      let b : name_place gs n.gates x ≡ place x names =
      place_of h.gates.holds h.gates.named nx h.gates.count refl in
      ⊎_elim
      (λ l.
      net-second is n.inputs gs n.gates x l
      ∙ ap₂ (λ (u v : ℕ). u + v) h.inputs.count b
      ∙ sym (place-right x c.inputs names (omega (arith, a, h.inputs.count))))
      (λ l.
      net-first is n.inputs gs n.gates x l ∙ a
      ∙ sym (place-left x c.inputs names (omega (arith, a, h.inputs.count))))
      (le_or_lt n.inputs (name_place is n.inputs x))

  pub known_is : (x : List ℕ) → Named x → key_known is n.inputs gs n.gates x ≡ is_in x (net_names c)
  unfolding key_known is_in
  known_is x nx = ap₂ (λ (u v : ℕ). ltb u v) (net-is x nx) nets-are

  all_known : (ys : List (List ℕ)) → AllNamed ys
      → all_of (key_known is n.inputs gs n.gates) ys ≡ all_of (λ y. is_in y (net_names c)) ys
  unfolding AllNamed
  all_known [] a = refl
  all_known (y ∷ ys) a = ap₂ (λ (u v : Bool). u && v) (known_is y a.0) (all_known ys a.1)

  pub input-rules : (x : List ℕ) → Named x → input_rules is n.inputs gs n.gates x ≡ line_rules c (input x)
  unfolding line_rules input_fits
  input-rules x nx =
      ap₂ (λ (u v : Bool). (81, not u) ∷ (82, v) ∷ []) (known_is x nx)
      (ap₂ (λ (u v : ℕ). ltb u 64 && ltb (u + v) 512) h.inputs.count gate-count ∙ room-input (length c.inputs) (length c.gates))

  pub output-rules : (x : List ℕ) → Named x → output_rules os n.outputs x ≡ line_rules c (output x)
  unfolding line_rules output_fits is_in name_place
  output-rules x nx =
      let a : name_place os n.outputs x ≡ place x c.outputs =
      place_of h.outputs.holds h.outputs.named nx h.outputs.count refl in
      ap₂ (λ (u v : ℕ). (81, not (ltb u v)) ∷ (82, ltb v 64) ∷ []) a h.outputs.count
      ∙ ap (λ (b : Bool). (81, not (ltb (place x c.outputs) (length c.outputs))) ∷ (82, b) ∷ []) (room-output (length c.outputs))

  pub gate-rules : (x : List ℕ) (k : ℕ) (ys : List (List ℕ)) → Named x → AllNamed ys
      → gate_rules is n.inputs gs n.gates x k ys ≡ line_rules c (gate x k ys)
  unfolding line_rules gate_fits gate_named
  gate-rules x k ys nx ny =
      ap₂ (λ (u v : Bool). (81, u) ∷ (82, v && pins_fit k (length ys)) ∷ [])
      (ap₂ (λ (u v : Bool). not u && v) (known_is x nx) (all_known ys ny))
      (ap₂ (λ (u v : ℕ). ltb v 511 && ltb (u + v) 512) h.inputs.count gate-count ∙ room-gate (length c.inputs) (length c.gates))

-- one name more in the words
pub held_more : {ws ws' : List ℕ} {n : ℕ} {names : List (List ℕ)} {x : List ℕ} → NamesHeld ws n names → Named x
    → 2 * n + 1 < length ws → ws' ≡ set (set ws (2 * n) (key_low x)) (2 * n + 1) (key_high x)
    → NamesHeld ws' (n + 1) (names ++ (x ∷ []))
held_more {ws} {ws'} {n} {names} {x} h nx l e = record {
  holds = subst (λ (w : List ℕ). Holds w (names ++ (x ∷ []))) (sym e) (put_holds ws names n x h.holds h.count l);
  named = named-snoc names x h.named nx;
  count = omega (arith, h.count, length-append names (x ∷ []));
}

pub set-two : (ws ws' : List ℕ) (a b x y : ℕ) → ws' ≡ set (set ws a x) b y → length ws' ≡ length ws
set-two ws ws' a b x y e = ap length e ∙ length-set (set ws a x) b y ∙ length-set ws a x
