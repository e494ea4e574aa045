-- The cases of loading a netlist, by the answers of the readers of its parts, and of a survey made of it.
use Rattle.model.proofs.Prelude.{ℕ, ◌≤◌, ◌<◌, ◌+◌, ◌-◌, ◌≡◌, ◌∙◌, ap, refl, sym, List, [], ◌∷◌, ◌++◌, map, length, drop, replicate, length-drop}
use Rattle.model.proofs.Prelude.{length-replicate, leb, eqb, leb→le, arith, rules, ne_eqb, eq-eqb}
use Rattle.model.specs.Base.{Answer, refused, value, ◌into◌, ◌then◌, checks, sum_of}
use Rattle.model.specs.Netlist.{Netlist, net_by_net, gate_count, counts, output_count, path_total}
use Rattle.model.specs.Read.{read_netlist, read_gates, read_outputs_of, header_rules, marked, within, inputs_in, gates_in, outputs_in}
use Rattle.model.specs.Refusals.{refusal_number_of}
use Rattle.model.specs.Calls.{padded, survey_call, survey_of}
use Rattle.model.specs.declared.Refusal.{Refusal}
use Rattle.model.proofs.AnswerLaws.{then-first, then-second, checks→, value_inj, not_refused}
use Rattle.model.proofs.BoolLaws.{and_left, and4}
use Rattle.model.proofs.NetLaws.{length-net_by_net}
use Rattle.model.proofs.ReadLaws.{gates-length, outputs-ok, outputs-fit}
use Rattle.netlist.specs.Answers.{survey_in, LegalLoad, LoadTrue}
use Rattle.netlist_gates.specs.GateReading.{starts, zeros, GatesAre, GatesEnd}
use Rattle.netlist_outputs.specs.OutputReading.{OutputsAre, OutputsEnd}
use Rattle.netlist.specs.Places.{positions}
use Rattle.netlist.specs.Reading.{header_step, HeaderRead, header_in}
use Rattle.netlist.specs.declared.header.Header.{Header}
use Rattle.netlist.proofs.OutputLaws.{below}
use Rattle.netlist.proofs.PaddedOutputs.{pad_counts, outputs-pad}
use Rattle.netlist.proofs.TableLaws.{inputs-below}
use Rattle.std.specs.Prelude.{Result, Ok, Err}
use Rattle.netlist.specs.declared.inner.LegalNetlist.{LegalNetlist}
use Rattle.netlist_outputs.specs.declared.inner.OutputsRead.{OutputsRead}
use Rattle.model.specs.Returned.{answer_of}

-- what follows a header
unfoldable pub body : List ℕ → ℕ → ℕ → ℕ → Answer Netlist
body s i g u =
    read_gates g (replicate i 1) (drop 8 s)
    into λ x. read_outputs_of u i (i + g) (net_by_net gate_count 0 (replicate i 1) x.0) 0 0 x.1
    into λ o. checks ((20, eqb (length o.1) 0) ∷ [])
    then value (record { inputs = i; gates = x.0; outputs = o.0 })

from-array : (u i n : ℕ) (array cs bs : List ℕ) → array ≡ padded cs → length cs ≡ n → read_outputs_of u i n array 0 0 bs ≡ read_outputs_of u i n cs 0 0 bs
from-array u i n array cs bs p e = rw (p, ← e) (outputs-pad u i cs 0 0 bs)

-- the sum over the outputs, out of the array
total-from : (u i n : ℕ) (array cs bs us rest : List ℕ) → array ≡ padded cs → length cs ≡ n → read_outputs_of u i n cs 0 0 bs ≡ value (us, rest)
    → sum_of (map (output_count i array) us) ≡ sum_of (map (output_count i cs) us)
total-from u i n array cs bs us rest p e r =
    rw p (ap sum_of (pad_counts i cs us (below (length cs) 0 us (rw (← e) at (outputs-ok u i n cs 0 0 bs (us, rest) r)))))

module _ (s array places : List ℕ) (i g u : ℕ) (h : HeaderRead s i g u) (a : Result ℕ Refusal) (ga : GatesAre a array places s i g) where
  opened : read_netlist s ≡ body s i g u
  unfolding read_netlist body
  opened = rw (h.passed, h.inputs_are, h.gates_are, h.outputs_are) refl

  pub body-gates : (w : Refusal) → a ≡ Err w → read_netlist s ≡ refused (refusal_number_of w)
  unfolding body
  body-gates w h =
      let x : read_gates g (replicate i 1) (drop 8 s) ≡ refused (refusal_number_of w) = rw h at ga in
      opened ∙ rw x refl

  module _ (at : ℕ) (d : a ≡ Ok at) where
    done : GatesEnd at array places s i g
    done = rw d at ga

    pub done-within : at ≤ length s
    done-within = done.within

    many : length done.gates ≡ g
    many = gates-length g (replicate i 1) (drop 8 s) (done.gates, drop at s) done.read

    cs : List ℕ
    cs = net_by_net gate_count 0 (replicate i 1) done.gates

    count-many : length cs ≡ i + g
    unfolding cs
    count-many = omega (arith, length-net_by_net gate_count 0 done.gates (replicate i 1), length-replicate {A = ℕ} i 1, many)

    -- the outputs, as the code reads them out of the array
    same : read_outputs_of u i (i + g) array 0 0 (drop at s) ≡ read_outputs_of u i (i + g) cs 0 0 (drop at s)
    unfolding cs
    same = from-array u i (i + g) array cs (drop at s) done.counts-are count-many

    module _ (o : Result OutputsRead Refusal) (oa : OutputsAre o s i array (read_outputs_of u i (i + g) array 0 0 (drop at s))) where
      pub body-outputs : (w : Refusal) → o ≡ Err w → read_netlist s ≡ refused (refusal_number_of w)
      unfolding body cs
      body-outputs w h =
          let x : read_outputs_of u i (i + g) array 0 0 (drop at s) ≡ refused (refusal_number_of w) = rw h at oa in
          opened ∙ rw (done.read, sym same ∙ x) refl

      module _ (r : OutputsRead) (f : o ≡ Ok r) where
        last : OutputsEnd r.at r.total s i array (read_outputs_of u i (i + g) array 0 0 (drop at s))
        last = rw f at oa

        pub body-left : r.at < length s → read_netlist s ≡ refused 20
        unfolding body cs
        body-left h =
            let z : length (drop r.at s) ≡ 0 → ⊥ = λ k. omega (arith, length-drop r.at s) in
            opened ∙ rw (done.read, sym same ∙ last.read, ne_eqb (length (drop r.at s)) 0 z) refl

        pub body-legal : length s ≤ r.at → LegalLoad s array places (record { inputs = i; nets = i + g; outputs = u }) r.total
        unfolding body cs positions counts path_total
        body-legal h =
            let z : length (drop r.at s) ≡ 0 = omega (arith, length-drop r.at s) in
            let read : read_netlist s ≡ value (record { inputs = i; gates = done.gates; outputs = last.outputs }) =
            opened ∙ rw (done.read, sym same ∙ last.read, eq-eqb (length (drop r.at s)) 0 z) refl in
            let total-is = last.total-is
            ∙ total-from u i (i + g) array cs (drop at s) last.outputs (drop r.at s) done.counts-are count-many (sym same ∙ last.read) in
            record {
              circuit = record { inputs = i; gates = done.gates; outputs = last.outputs };
              tables = record {
                legal = read;
                positions_are = done.positions-are ∙ ap (λ n. padded (replicate i 0 ++ starts n 8 s)) (sym many);
                counts_are = done.counts-are;
                inputs_are = refl;
                nets_are = ap (λ n. i + n) (sym many);
                outputs_are = sym (outputs-fit u i (i + g) array 0 0 (drop at s) (last.outputs, drop r.at s) last.read (omega arith)).0;
              };
              total_is = total-is;
            }

refused-first : (s : List ℕ) (n : ℕ) → checks (header_rules s) ≡ refused n → read_netlist s ≡ refused n
unfolding read_netlist
refused-first s n e = rw e refl

header_refused : (s : List ℕ) (n : ℕ) → refused n ≡ header_step s → checks (header_rules s) ≡ refused n
unfolding header_step
header_refused s n e = go (checks (header_rules s)) (header_in s) e
  where
    go : (c : Answer (Unit {0})) (v : Header) → refused n ≡ (c then value v) → c ≡ refused n
    go (refused k) v e = let z : k ≡ n = cc in ap (λ m. refused m) z
    go (value u) v e = absurd (not_refused e)

header-legal : (s : List ℕ) (h : Header) → value h ≡ header_step s → HeaderRead s h.inputs h.gates h.outputs
unfolding header_step
header-legal s h e =
    let v : Answer Header = value (header_in s) in
    let p = then-first (checks (header_rules s)) v (sym e) in
    let is : h ≡ header_in s = sym (value_inj (then-second (checks (header_rules s)) v (sym e))) in
    let a = checks→ (header_rules s) p in
    let q = and4 (within 1 64 (inputs_in s)) (leb (gates_in s) 511) (leb (inputs_in s + gates_in s) 512) (within 1 64 (outputs_in s)) a.1.0 in
    let i = ap (λ (x : Header). x.inputs) is in
    let g = ap (λ (x : Header). x.gates) is in
    record {
      passed = p.is;
      inputs_are = i;
      gates_are = g;
      outputs_are = ap (λ (x : Header). x.outputs) is;
      long = leb→le 8 (length s) (and_left (leb 8 (length s)) (marked 0x4E 0x4C s) a.0);
      few_nets = omega (arith, i, g, leb→le (inputs_in s + gates_in s) 512 q.2);
    }

module _ (s : List ℕ) (a : Result Header Refusal) (ha : answer_of a ≡ header_step s) where
  pub load-header : (w : Refusal) → a ≡ Err w → read_netlist s ≡ refused (refusal_number_of w)
  load-header w h = refused-first s (refusal_number_of w) (header_refused s (refusal_number_of w) (rw h at ha))

  pub load_found : (h : Header) → a ≡ Ok h → HeaderRead s h.inputs h.gates h.outputs
  load_found h f = header-legal s h (rw f at ha)

pub ruleset body-cases = (done-within, body-gates, body-outputs, body-left, body-legal, rules)

pub ruleset load-cases = (load-header, load_found, rules)

-- A survey, and the tables by value, by what loading the netlist answered
pub zeros-are : replicate 512 0 ≡ zeros
unfolding zeros
zeros-are = refl

module _ (s counts positions : List ℕ) (a : Result LegalNetlist Refusal) (la : LoadTrue a s counts positions) where
  pub load-refused : (w : Refusal) → a ≡ Err w → read_netlist s ≡ refused (refusal_number_of w)
  load-refused w h = rw h at la

  pub survey-refused : (w : Refusal) → a ≡ Err w → refused (refusal_number_of w) ≡ survey_call s
  unfolding survey_call
  survey-refused w h = rw (load-refused w h) refl

  module _ (l : LegalNetlist) (h : a ≡ Ok l) where
    pub load-legal : LegalLoad s counts positions l.shape l.total
    load-legal = rw h at la

    pub survey-inputs : l.shape.inputs ≤ l.shape.nets
    survey-inputs = inputs-below load-legal.tables

    pub survey-legal : value (survey_in (record {
      counts = counts;
      inputs = l.shape.inputs;
      gates = l.shape.nets - l.shape.inputs;
      outputs = l.shape.outputs;
      total = l.total;
    })) ≡ survey_call s
    unfolding survey_call survey_of
    survey-legal =
        let t = load-legal.tables in
        let g : l.shape.nets - l.shape.inputs ≡ length load-legal.circuit.gates = omega (arith, t.nets_are, t.inputs_are) in
        rw t.legal
        (λ k. value (record { inputs = t.inputs_are k; gates = g k; outputs = t.outputs_are k; paths = load-legal.total_is k; net_counts = t.counts_are k }))

pub ruleset survey-cases = (zeros-are, survey-inputs, survey-legal, rules)
