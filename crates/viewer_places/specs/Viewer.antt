-- A viewer (document 02, ticket 13): a list of output places. He is answered for the paths that end there, and values at inputs from which none
-- of his outputs can be reached change nothing of that.
-- Names: ws is the store, second the lent store that gets the viewer's runs, places the viewer.
use Rattle.std.specs.Prelude.{◌≡◌, Bool, true, false, ◌&&◌, List, [], ◌∷◌, ◌++◌, ℕ, suc, ◌*◌, T, leb, ltb, eqb, length, get_or}
use Rattle.model.specs.Base.{Answer, value, ◌into◌, ◌then◌, Rule, checks, passes, after, any_of}
use Rattle.model.specs.Netlist.{Netlist, path_total, pin_net, output_net}
use Rattle.model.specs.Path.{Edge, valid_at, path_of, edge_of_fault, path_of_fault}
use Rattle.model.specs.Detect.{Test}
use Rattle.model.specs.Runs.{Run, runs_among, in_runs, how_many}
use Rattle.model.specs.Read.{within, read_netlist}
use Rattle.model.specs.Store.{ByEdge, by_edge, max_runs, tests_taken_of, store_runs, store_of, store_rules, both_edges}
use Rattle.model.specs.Calls.{store_rule}
use Rattle.model.specs.Demand3.{Call, start, after_calls, test_in}
use Rattle.model.specs.Counted.{EachTaken}

-- the place is one of the viewer's
abbrev pub is_place : List ℕ → ℕ → Bool
is_place places o = any_of (λ v. eqb v o) places

-- strictly ascending places from `least` on, each below `n`
abbrev pub ascending_places : ℕ → ℕ → List ℕ → Bool
ascending_places n least [] = true
ascending_places n least (v ∷ vs) = leb least v && ltb v n && ascending_places n (suc v) vs

-- the list is not empty, strictly ascending, and each place is below `n`
abbrev pub places_fit_of : ℕ → List ℕ → Bool
places_fit_of n places = leb 1 (length places) && ascending_places n 0 places

-- Viewer: after the store's rules
abbrev pub places_rule : Netlist → List ℕ → Rule
places_rule N places = (89, places_fit_of (length N.outputs) places)

-- path number `k` is that of a path that ends at one of the places
unfoldable pub seen : Netlist → List ℕ → ℕ → Bool
seen N places k = is_place places (path_of N k).output

-- path numbers of such paths whose fault of edge `e` the store holds
unfoldable pub seen_held : Netlist → List ℕ → List ℕ → Edge → ℕ → Bool
seen_held N places ws e k = seen N places k && in_runs (store_runs ws e) k

abbrev pub seen_runs : Netlist → List ℕ → List ℕ → Edge → List Run
seen_runs N places ws e = runs_among (seen_held N places ws e) (path_total N)

-- Totals for a viewer: for each edge the number of faults held
unfoldable pub viewer_totals_call : List ℕ → List ℕ → List ℕ → Answer (ByEdge ℕ)
viewer_totals_call netlist ws places =
    checks (store_rule ws ∷ [])
    then read_netlist netlist
    into λ N. checks (store_rules (path_total N) ws ++ (places_rule N places ∷ []))
    then value (by_edge (λ e. how_many (seen_held N places ws e) (path_total N)))

-- Runs for a viewer: they go into the second store, of any words, with the same third word
unfoldable pub viewer_runs_call : List ℕ → List ℕ → List ℕ → List ℕ → Answer (ByEdge (List Run))
viewer_runs_call netlist ws second places =
    checks (store_rule ws ∷ store_rule second ∷ [])
    then read_netlist netlist
    into λ N. checks (store_rules (path_total N) ws
    ++ (places_rule N places ∷ (51, both_edges (λ e. leb (length (seen_runs N places ws e)) max_runs)) ∷ []))
    then value (by_edge (seen_runs N places ws))

unfoldable pub viewer_runs_answer : List ℕ → List ℕ → List ℕ → List ℕ → Answer (Unit {0})
viewer_runs_answer netlist ws second places = passes (viewer_runs_call netlist ws second places)

unfoldable pub viewer_runs_store : List ℕ → List ℕ → List ℕ → List ℕ → List ℕ
viewer_runs_store netlist ws second places = after (viewer_runs_call netlist ws second places) second (store_of (tests_taken_of ws))

-- A single question for a viewer: whether the store holds fault number `fault`
unfoldable pub viewer_fault_call : List ℕ → List ℕ → List ℕ → ℕ → Answer Bool
viewer_fault_call netlist ws places fault =
    checks (store_rule ws ∷ [])
    then read_netlist netlist
    into λ N. checks (store_rules (path_total N) ws
    ++ (places_rule N places ∷ (60, within 1 (2 * path_total N) fault) ∷ (90, seen N places (path_of_fault fault)) ∷ []))
    then value (in_runs (store_runs ws (edge_of_fault fault)) (path_of_fault fault))

-- the net that the pins lead to from `net`
abbrev pub end_of : Netlist → ℕ → List ℕ → ℕ
end_of N net [] = net
end_of N net (p ∷ ps) = end_of N (pin_net N net p) ps

-- Net `net` can be reached from input `j`: a partial path of the net leads back to that input
pub record ReachedFrom (N : Netlist) (net j : ℕ) : Type 0 where
  pub pins : List ℕ
  pub is_path : T (valid_at N net pins)
  pub back : end_of N net pins ≡ j

-- both values of input `j` are the same in two tests
pub record SameInput (t u : Test) (j : ℕ) : Type 0 where
  pub first : get_or t.v1 j false ≡ get_or u.v1 j false
  pub second : get_or t.v2 j false ≡ get_or u.v2 j false

-- two tests agree in both values of every input from which an output of the viewer can be reached
abbrev pub AgreeFor : Netlist → List ℕ → Test → Test → Type 0
AgreeFor N places t u = (o j : ℕ) → T (is_place places o) → ReachedFrom N (output_net N o) j → SameInput t u j

-- two lists of calls of one length, in the same classes, whose tests agree one by one
abbrev pub AgreeAll : Netlist → List ℕ → List Call → List Call → Type 0
AgreeAll N places [] [] = Unit {0}
AgreeAll N places [] (d ∷ ds) = ⊥
AgreeAll N places (c ∷ cs) [] = ⊥
AgreeAll N places (c ∷ cs) (d ∷ ds) = (c.class ≡ d.class) × AgreeFor N places (test_in N c) (test_in N d) × AgreeAll N places cs ds

-- All that a viewer can ask of two stores is answered the same
pub record SameAnswers (netlist places ws ws' : List ℕ) : Type 0 where
  pub totals : viewer_totals_call netlist ws places ≡ viewer_totals_call netlist ws' places
  pub runs : (second : List ℕ) → viewer_runs_answer netlist ws second places ≡ viewer_runs_answer netlist ws' second places
  pub words : (second : List ℕ) → viewer_runs_store netlist ws second places ≡ viewer_runs_store netlist ws' second places
  pub faults : (fault : ℕ) → viewer_fault_call netlist ws places fault ≡ viewer_fault_call netlist ws' places fault

-- A viewer learns nothing of inputs from which no output of his can be reached
abbrev pub NonInterference : Type 0
NonInterference =
    (netlist : List ℕ) (N : Netlist) → read_netlist netlist ≡ value N → (places : List ℕ) (cs ds : List Call)
    → EachTaken netlist N start cs → EachTaken netlist N start ds → AgreeAll N places cs ds
    → SameAnswers netlist places (after_calls netlist N start cs).store (after_calls netlist N start ds).store
