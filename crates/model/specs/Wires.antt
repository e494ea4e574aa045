-- Wires without a gate (document 02, ticket 5), as one statement: an output that is an input net has no path and adds 0 to T; what the calls
-- answer where T is 0.
use Rattle.std.specs.Prelude.{◌≡◌, List, [], ◌∷◌, ℕ, ◌≤◌, ◌<◌, T, length, get_or}
use Rattle.model.specs.Base.{refused, value, checks}
use Rattle.model.specs.Netlist.{Netlist, output_counts, output_net, path_total}
use Rattle.model.specs.Path.{CircuitPath, Edge, valid}
use Rattle.model.specs.Detect.{Test}
use Rattle.model.specs.Read.{read_netlist}
use Rattle.model.specs.Store.{by_edge, store_words_count, store_runs, store_rules}
use Rattle.model.specs.Calls.{path_words, path_to_number_call, number_to_path_call, fault_call}
use Rattle.model.specs.Report.{report_record}
use Rattle.model.specs.Demand3.{TrueReport}

-- what holds of a legal netlist, read from `file`
pub record WireTrue (file : List ℕ) (N : Netlist) : Type 0 where
  -- a path has a pin, and ends at no output that is an input net
  pub path_has_pin : (p : CircuitPath) → T (valid N p) → 1 ≤ length p.pins
  pub wire_has_no_path : (p : CircuitPath) → T (valid N p) → N.inputs ≤ output_net N p.output
  -- such an output adds 0 to T, so that later outputs move down
  pub wire_adds_none : (o : ℕ) → o < length N.outputs → output_net N o < N.inputs → get_or (output_counts N) o 0 ≡ 0
  -- words of a path without pins are 61
  pub words_without_pins : (o : ℕ) → path_to_number_call file (o ∷ 0 ∷ []) ≡ refused 61
  -- where T is 0: every path number and every fault number is 60, and a store that 40 to 42 do not refuse has no run
  pub no_number_of : path_total N ≡ 0 → (number : ℕ) (buffer : List ℕ) → path_words ≤ length buffer → number_to_path_call file number buffer ≡ refused 60
  pub no_fault : path_total N ≡ 0 → (ws : List ℕ) → length ws ≡ store_words_count → checks (store_rules (path_total N) ws) ≡ value tt
      → (fault : ℕ) → fault_call file ws fault ≡ refused 60
  pub no_run : path_total N ≡ 0 → (ws : List ℕ) → checks (store_rules (path_total N) ws) ≡ value tt → (e : Edge) → store_runs ws e ≡ []
  -- and the report of T = 0 without runs is the true report of any tests, so of every wholly taken file
  pub empty_report : path_total N ≡ 0 → (ts : List Test) → TrueReport N ts (report_record (length ts) 0 (by_edge (λ e. [])))

pub record Wires : Type 0 where
  pub on_legal : (file : List ℕ) (N : Netlist) → read_netlist file ≡ value N → WireTrue file N
