-- The gates of a legal netlist are those whose records stand at their positions.
use Rattle.model.proofs.Prelude.{ℕ, ◌≤◌, ◌<◌, ◌+◌, ◌-◌, ◌*◌, suc, zero, ◌≡◌, ◌∙◌, ap, refl, sym, subst, List, ◌++◌, length, get_or, drop, length-append}
use Rattle.model.proofs.Prelude.{replicate, length-replicate, drop-drop, get_or-drop, leb, T, leb→le, not-suc-le-zero, le_of_suc-le-suc, arith}
use Rattle.model.specs.Base.{value}
use Rattle.model.specs.Netlist.{Netlist, Gate, no_gate, nets, gate_of}
use Rattle.model.specs.Read.{read_netlist, read_gates, gate_in, inputs_in, gates_in, input_counts, within, pins_fit, marked}
use Rattle.model.proofs.BoolLaws.{and_left}
use Rattle.model.proofs.ReadLaws.{Parts, parts, ranges, gates-many, first, next_counts, next_bytes, gates_from, gates-are}
use Rattle.netlist_gates.specs.GateReading.{size_at, starts}
use Rattle.netlist.specs.Places.{positions}
use Rattle.netlist.specs.Tables.{kind_in, pin_count_in}
use Rattle.netlist_gates.proofs.PaddedLaws.{pad_get_d}

-- the bytes after the record at a position
pub next-at : (s : List ℕ) (at : ℕ) → next_bytes (drop at s) ≡ drop (at + size_at s at) s
next-at s at =
    let e : get_or (drop at s) 3 0 ≡ get_or s (at + 3) 0 = get_or-drop at s 3 0 in
    ap (λ k. drop (4 + 2 * k) (drop at s)) e ∙ drop-drop (size_at s at) at s

length-starts : (n at : ℕ) (s : List ℕ) → length (starts n at s) ≡ n
unfolding starts
length-starts zero at s = refl
length-starts (suc n) at s = ap suc (length-starts n (at + size_at s at) s)

-- the gates are those whose records stand at the starts
pub gate-at : (n at : ℕ) (s : List ℕ) (k : ℕ) → k < n → get_or (gates_from n (drop at s)) k no_gate ≡ gate_in (drop (get_or (starts n at s) k 0) s)
unfolding gates_from starts
gate-at zero at s k h = absurd (not-suc-le-zero h)
gate-at (suc n) at s zero h = refl
gate-at (suc n) at s (suc k) h =
    ap (λ (b : List ℕ). get_or (gates_from n b) k no_gate) (next-at s at) ∙ gate-at n (at + size_at s at) s k (le_of_suc-le-suc h)

pub start-after : (n at : ℕ) (s : List ℕ) (k : ℕ) → k < n → at ≤ get_or (starts n at s) k 0
unfolding starts
start-after zero at s k h = absurd (not-suc-le-zero h)
start-after (suc n) at s zero h = omega arith
start-after (suc n) at s (suc k) h = omega (arith, start-after n (at + size_at s at) s k (le_of_suc-le-suc h))

-- what the rules say of a part that begins with a gate's record, whatever its net and counts
pub record Passes (part : List ℕ) : Type 0 where
  pub kind : T (within 1 8 (kind_in part))
  pub fits : T (pins_fit (kind_in part) (pin_count_in part))
  pub room : 4 + 2 * pin_count_in part ≤ length part

pub passes_at : (n : ℕ) (cs s : List ℕ) (at : ℕ) (r : List Gate × List ℕ) → read_gates n cs (drop at s) ≡ value r → (k : ℕ) → k < n
    → Passes (drop (get_or (starts n at s) k 0) s)
unfolding starts
passes_at zero cs s at r e k h = absurd (not-suc-le-zero h)
passes_at (suc n) cs s at r e zero h =
    let rules = (first n cs (drop at s) r e).passes in
    record { kind = rules.1.0; fits = rules.1.1.0; room = leb→le _ (length (drop at s)) rules.1.1.1.0 }
passes_at (suc n) cs s at r e (suc k) h =
    let f = first n cs (drop at s) r e in
    let rest = subst (λ (b : List ℕ). read_gates n (next_counts cs (drop at s)) b ≡ value f.rest) (next-at s at) f.others in
    passes_at n (next_counts cs (drop at s)) s (at + size_at s at) f.rest rest k (le_of_suc-le-suc h)

module _ (file : List ℕ) (N : Netlist) (p : Parts file N) where
  pub long-file : 8 ≤ length file
  long-file = leb→le 8 (length file) (and_left (leb 8 (length file)) (marked 0x4E 0x4C file) p.header.0)

  pub few-nets : inputs_in file + gates_in file ≤ 512
  few-nets = leb→le (inputs_in file + gates_in file) 512 (ranges file N p).2

  pub gates-at : N.gates ≡ gates_from (length N.gates) (drop 8 file)
  gates-at = gates-are (gates_in file) (input_counts file) (drop 8 file) (N.gates, p.after_gates) p.gates_read ∙ ap (λ n. gates_from n (drop 8 file)) (sym (gates-many file N p))

-- The record of the gate that drives a net, at its position
pub record RecordAt (file : List ℕ) (N : Netlist) (net at : ℕ) : Type 0 where
  pub after_header : 8 ≤ at
  pub passes : Passes (drop at file)
  pub gate_is : gate_of N net ≡ gate_in (drop at file)

module _ (file : List ℕ) (N : Netlist) (e : read_netlist file ≡ value N) where
  at_all : List ℕ
  at_all = replicate N.inputs 0 ++ starts (length N.gates) 8 file

  few : length at_all ≡ nets N
  unfolding at_all
  few = omega (arith, length-append (replicate N.inputs 0) (starts (length N.gates) 8 file), length-replicate {A = ℕ} N.inputs 0, length-starts (length N.gates) 8 file)

  position_gate : (k : ℕ) → k < length N.gates → get_or (positions file N) (N.inputs + k) 0 ≡ get_or (starts (length N.gates) 8 file) k 0
  unfolding positions at_all
  position_gate k h =
      pad_get_d at_all (N.inputs + k) (omega (arith, few))
      ∙ ap (λ i. get_or at_all (i + k) 0) (sym (length-replicate {A = ℕ} N.inputs 0))
      ∙ lib.Seq.get_or-append-add (replicate N.inputs 0) (starts (length N.gates) 8 file) k 0

  pub record_at_lem : (net : ℕ) → N.inputs ≤ net → net < nets N → RecordAt file N net (get_or (positions file N) net 0)
  record_at_lem net i l =
      let p = parts file N e in
      let n = length N.gates in
      let k = net - N.inputs in
      let h : k < n = omega arith in
      let z : N.inputs + k ≡ net = omega arith in
      let at-is : get_or (positions file N) net 0 ≡ get_or (starts n 8 file) k 0 = ap (λ j. get_or (positions file N) j 0) (sym z) ∙ position_gate k h in
      let read : read_gates n (input_counts file) (drop 8 file) ≡ value (N.gates, p.after_gates) =
      subst (λ m. read_gates m (input_counts file) (drop 8 file) ≡ value (N.gates, p.after_gates)) (sym (gates-many file N p)) p.gates_read in
      subst (RecordAt file N net) (sym at-is)
      (record {
        after_header = start-after n 8 file k h;
        passes = passes_at n (input_counts file) file 8 (N.gates, p.after_gates) read k h;
        gate_is = ap (λ (gs : List Gate). get_or gs k no_gate) (gates-at file N p) ∙ gate-at n 8 file k h;
      })
