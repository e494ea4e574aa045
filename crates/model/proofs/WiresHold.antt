-- Wires without a gate (specs/Wires): from the laws of numbers, and from a store's and a question's rules with T = 0.
use Rattle.model.proofs.Prelude.{ℕ, ◌≤◌, ◌<◌, ◌+◌, ◌*◌, ◌≡◌, ◌∙◌, refl, subst, ⊎_elim, true, Bool, false, ◌&&◌, List, [], ◌∷◌, ◌++◌}
use Rattle.model.proofs.Prelude.{List·Memᴰ·not-nil, length, leb, T, leb→le, ltb, ltb→lt, arith, le-leb, lt-leb}
use mathlib.Core.List.{Nodup-nil}
use Rattle.model.specs.Base.{refused, value, Rule, checks}
use Rattle.model.specs.Netlist.{Netlist, output_net, path_total}
use Rattle.model.specs.Path.{CircuitPath, Edge, rising, falling, valid_at, valid}
use Rattle.model.specs.Detect.{Test}
use Rattle.model.specs.Runs.{Run, in_runs, separated_runs_of, size}
use Rattle.model.specs.Read.{within, read_netlist}
use Rattle.model.specs.Store.{by_edge, of_edge, store_words_count, store_runs, store_rules}
use Rattle.model.specs.Calls.{store_rule, path_words, path_to_number_call, number_to_path_call, fault_call}
use Rattle.model.specs.Report.{report_record}
use Rattle.model.specs.Demand3.{Detected, RunsOfDetected, CountOf, TrueReport}
use Rattle.model.specs.Wires.{Wires}
use Rattle.model.proofs.BoolLaws.{and_left, and_right, and3, and4, le_or_lt}
use Rattle.model.proofs.AnswerLaws.{checks→, →checks, checks-both}
use Rattle.model.proofs.NumberLaws.{valid-gate, output_counts-none, numbers-bounds}
use Rattle.model.proofs.ReadLaws.{legal}

has-pin : (N : Netlist) (p : CircuitPath) → T (valid N p) → 1 ≤ length p.pins
unfolding valid
has-pin N p v =
    ltb→lt 0 (length p.pins)
    (and3 (ltb p.output (length N.outputs)) (ltb 0 (length p.pins)) (valid_at N (output_net N p.output) p.pins) v).1

-- no path is without pins
middle-false : (a c : Bool) → (a && false && c) ≡ false
middle-false true c = refl
middle-false false c = refl

no_pins : (file : List ℕ) (N : Netlist) → read_netlist file ≡ value N → (o : ℕ) → path_to_number_call file (o ∷ 0 ∷ []) ≡ refused 61
unfolding path_to_number_call valid
no_pins file N e o = rw (e, middle-false (ltb o (length N.outputs)) (valid_at N (output_net N o) [])) refl

-- a number from 1 to 0
none_within : (n : ℕ) → within 1 0 n ≡ false
none_within n = ⊎_elim
    (λ (h : 1 ≤ n). rw (le-leb 1 n h, lt-leb n 0 h) refl)
    (λ (h : n < 1). rw (lt-leb 1 n h) refl)
    (le_or_lt 1 n)

no_number : (file : List ℕ) (N : Netlist) → read_netlist file ≡ value N → path_total N ≡ 0
    → (number : ℕ) (buffer : List ℕ) → path_words ≤ length buffer → number_to_path_call file number buffer ≡ refused 60
unfolding number_to_path_call
no_number file N e z number buffer h = rw (le-leb path_words (length buffer) h, e, z, none_within number) refl

no-fault : (file : List ℕ) (N : Netlist) → read_netlist file ≡ value N → path_total N ≡ 0
    → (ws : List ℕ) → length ws ≡ store_words_count → checks (store_rules (path_total N) ws) ≡ value tt → (fault : ℕ) → fault_call file ws fault ≡ refused 60
unfolding fault_call
no-fault file N e z ws l s fault =
    let a : checks (store_rule ws ∷ []) ≡ value tt = →checks (store_rule ws ∷ []) (rw l tt, tt) in
    let asked : within 1 (2 * path_total N) fault ≡ false = rw z (none_within fault) in
    let question : List Rule = (60, within 1 (2 * path_total N) fault) ∷ [] in
    let b : checks (store_rules (path_total N) ws ++ question) ≡ refused 60 =
    checks-both (store_rules (path_total N) ws) question ∙ rw (s, asked) refl in
    rw (a, e) (rw b refl)

no-runs : (rs : List Run) → T (separated_runs_of 0 1 rs) → rs ≡ []
unfolding separated_runs_of
no-runs [] t = refl
no-runs (r ∷ rs) t =
    let q = and4 (leb 1 r.low) (leb r.low r.high) (leb r.high 0) (separated_runs_of 0 (r.high + 2) rs) t in
    absurd (omega (arith, leb→le 1 r.low q.0, leb→le r.low r.high q.1, leb→le r.high 0 q.2))

no-run : (paths : ℕ) → paths ≡ 0 → (ws : List ℕ) → checks (store_rules paths ws) ≡ value tt → (e : Edge) → store_runs ws e ≡ []
no-run paths z ws s e = no-runs (store_runs ws e) (subst (λ k. T (separated_runs_of k 1 (store_runs ws e))) z (at_edge e))
  where
    both-edges : T (separated_runs_of paths 1 (store_runs ws rising) && separated_runs_of paths 1 (store_runs ws falling))
    both-edges = (checks→ (store_rules paths ws) (record { got = tt; is = s })).1.1.0

    at_edge : (e : Edge) → T (separated_runs_of paths 1 (store_runs ws e))
    at_edge rising = and_left (separated_runs_of paths 1 (store_runs ws rising)) (separated_runs_of paths 1 (store_runs ws falling)) both-edges
    at_edge falling = and_right (separated_runs_of paths 1 (store_runs ws rising)) (separated_runs_of paths 1 (store_runs ws falling)) both-edges

-- where T is 0 the netlist has no path
module _ (file : List ℕ) (N : Netlist) (e : read_netlist file ≡ value N) (z : path_total N ≡ 0) (ts : List Test) where
  no-path : (p : CircuitPath) → T (valid N p) → ⊥
  no-path p v = let b = numbers-bounds N (legal file N e) p v in omega (arith, b.0, b.1)

  none-detected : (edge : Edge) → RunsOfDetected N ts edge []
  unfolding separated_runs_of in_runs
  none-detected edge = record { runs = tt; exactly = λ k. (λ t. absurd t, λ d. absurd (no-path d.path d.detected.of_netlist)) }

  none-counted : (edge : Edge) → CountOf (Detected N ts edge) 0
  none-counted edge = record {
    faults = [];
    distinct = Nodup-nil;
    these = λ f. (λ m. absurd (List·Memᴰ·not-nil m), λ d. absurd (no-path f.path d.of_netlist));
    many = refl;
  }

  empty-report : TrueReport N ts (report_record (length ts) 0 (by_edge (λ e. [])))
  unfolding size
  empty-report = record {
    runs = by_edge (λ e. []);
    of_tests = edges;
    faults = counted;
    layout = rw z refl;
  }
    where
      edges : (edge : Edge) → RunsOfDetected N ts edge (of_edge (by_edge (λ e. [])) edge)
      edges rising = none-detected rising
      edges falling = none-detected falling

      counted : (edge : Edge) → CountOf (Detected N ts edge) (size (of_edge (by_edge (λ e. [])) edge))
      counted rising = none-counted rising
      counted falling = none-counted falling

pub wires : Wires
wires = record {
  on_legal = λ file N e. record {
    path_has_pin = has-pin N;
    wire_has_no_path = valid-gate N (legal file N e);
    wire_adds_none = output_counts-none N (legal file N e);
    words_without_pins = no_pins file N e;
    no_number_of = no_number file N e;
    no_fault = no-fault file N e;
    no_run = no-run (path_total N);
    empty_report = empty-report file N e;
  };
}
