-- A viewer's answers come from the inputs from which his outputs can be reached, and from no other.
use Rattle.model.proofs.Prelude.{ℕ, ◌≤◌, ◌*◌, suc, ◌≡◌, ◌∙◌, ap, refl, sym, ap₂, ⊎_elim, true, Bool, false, ◌&&◌, ◌||◌, List, [], ◌∷◌, ◌++◌}
use Rattle.model.proofs.Prelude.{length, leb, T, leb→le, arith}
use Rattle.model.specs.Base.{Answer, refused, value, ◌into◌, ◌then◌, Rule, checks, passes, after}
use Rattle.model.specs.Netlist.{Netlist, path_total, output_net}
use Rattle.model.specs.Path.{Edge, rising, falling, path_of, edge_of_fault, path_of_fault}
use Rattle.model.specs.Detect.{Test, open_pin, detects, detects_number}
use Rattle.model.specs.Runs.{Run, runs_among, in_runs, how_many}
use Rattle.model.specs.Read.{within, read_netlist, class_of, test_of}
use Rattle.model.specs.Store.{ByEdge, by_edge, max_runs, tests_taken_of, store_runs, store_of, store_rules, both_edges}
use Rattle.model.specs.Calls.{store_rule}
use Rattle.model.specs.Counted.{EachTaken}
use Rattle.model.specs.Demand3.{Call, test_in, State, start, next, after_calls, Taken}
use Rattle.model.proofs.BoolLaws.{and_left, and_right, true→T, bool_cases}
use Rattle.model.proofs.AnswerLaws.{AllPass, Passed, checks→, →checks, checks-both}
use Rattle.model.proofs.WellFormed.{WellFormed}
use Rattle.model.proofs.ReadLaws.{legal}
use Rattle.model.proofs.NumberLaws.{number-of_path, valid-parts, output-net}
use Rattle.model.proofs.RunLaws.{runs_same, runs-test}
use Rattle.model.proofs.RunSizeLaws.{how_many-same}
use Rattle.model.proofs.FaultLaws.{detected_at}
use Rattle.model.proofs.HoldingLaws.{Sets, Holding, holding-runs, holding-length, holding-passes}
use Rattle.model.proofs.DemandHolds.{holds-start, holds_after}
use Rattle.viewer_places.specs.Viewer.{places_rule, seen, seen_held, seen_runs, viewer_totals_call, viewer_runs_call, viewer_runs_answer, viewer_runs_store, viewer_fault_call, AgreeFor, AgreeAll}
use Rattle.viewer_places.specs.Viewer.{SameAnswers, NonInterference}
use Rattle.viewer_places.proofs.ReachLaws.{open_same, along}

-- values after the same rules
then_same : {A : Type 0} (rs : List Rule) (a b : A) → (AllPass rs → a ≡ b) → (checks rs then value a) ≡ (checks rs then value b)
then_same {A} rs a b h = go (checks rs) (λ p. h (checks→ rs p))
  where
    go : (m : Answer (Unit {0})) → (Passed m → a ≡ b) → (m then value a) ≡ (m then value b)
    go (refused n) f = refl
    go (value u) f = ap value (f (record { got = u; is = refl }))

-- steps after a netlist that is known
read_same : {A : Type 0} (m : Answer (Unit {0})) (N : Netlist) (f g : Netlist → Answer A) → f N ≡ g N → (m then value N into f) ≡ (m then value N into g)
read_same (refused n) N f g h = refl
read_same (value u) N f g h = h

-- the numbers of a set that a viewer sees
abbrev view : Netlist → List ℕ → Sets → Edge → ℕ → Bool
view N places D d k = seen N places k && D d k

module _ (netlist : List ℕ) (N : Netlist) (e : read_netlist netlist ≡ value N) (places : List ℕ) where
  w : WellFormed N
  w = legal netlist N e

  -- The calls on a store that holds the numbers of a set
  module _ (ws : List ℕ) (D : Sets) (x : Holding N ws D) where
    in_set_lem : (d : Edge) (k : ℕ) → 1 ≤ k → k ≤ path_total N → in_runs (store_runs ws d) k ≡ D d k
    in_set_lem d k l h = ap (λ rs. in_runs rs k) (holding-runs N ws D x d) ∙ runs-test (D d) (path_total N) k l h

    view-held : (d : Edge) (k : ℕ) → 1 ≤ k → k ≤ path_total N → seen_held N places ws d k ≡ view N places D d k
    unfolding seen_held
    view-held d k l h = ap (λ b. seen N places k && b) (in_set_lem d k l h)

    runs-view : (d : Edge) → seen_runs N places ws d ≡ runs_among (view N places D d) (path_total N)
    runs-view d = runs_same (seen_held N places ws d) (view N places D d) (path_total N) (view-held d)

    rules-past : (rs : List Rule) → checks (store_rules (path_total N) ws ++ rs) ≡ checks rs
    rules-past rs =
        checks-both (store_rules (path_total N) ws) rs
        ∙ ap (λ (a : Answer (Unit {0})). a then checks rs) (→checks (store_rules (path_total N) ws) (holding-passes N ws D x))

    one_store : checks (store_rule ws ∷ []) ≡ value tt
    one_store = →checks (store_rule ws ∷ []) (rw (holding-length N ws D x) tt, tt)

    two-stores : (second : List ℕ) → checks (store_rule ws ∷ store_rule second ∷ []) ≡ checks (store_rule second ∷ [])
    two-stores second = checks-both (store_rule ws ∷ []) (store_rule second ∷ []) ∙ rw one_store refl

    pub totals-are : viewer_totals_call netlist ws places
        ≡ (checks (places_rule N places ∷ []) then value (by_edge (λ d. how_many (view N places D d) (path_total N))))
    unfolding viewer_totals_call
    totals-are =
        let h : (d : Edge) → how_many (seen_held N places ws d) (path_total N) ≡ how_many (view N places D d) (path_total N) =
        λ d. how_many-same (seen_held N places ws d) (view N places D d) (path_total N) (view-held d) in
        rw (one_store, e)
        (ap₂ (λ (a : Answer (Unit {0})) (v : ByEdge ℕ). a then value v) (rules-past (places_rule N places ∷ []))
        (λ i. record { on_rising = h rising i; on_falling = h falling i }))

    -- the rules after the store's, for runs
    abbrev view_rules : List Rule
    view_rules = places_rule N places ∷ (51, both_edges (λ d. leb (length (runs_among (view N places D d) (path_total N))) max_runs)) ∷ []

    pub runs-are : (second : List ℕ) → viewer_runs_call netlist ws second places
        ≡ (checks (store_rule second ∷ []) then read_netlist netlist
        into λ M. checks view_rules then value (by_edge (λ d. runs_among (view N places D d) (path_total N))))
    unfolding viewer_runs_call
    runs-are second =
        let p = rules-past (places_rule N places ∷ (51, both_edges (λ d. leb (length (seen_runs N places ws d)) max_runs)) ∷ []) in
        rw (two-stores second, e)
        (read_same (checks (store_rule second ∷ [])) N _ _
        (ap (λ (a : Answer (Unit {0})). a then value (by_edge (seen_runs N places ws))) p
        ∙ ap₂ (λ (r f : List Run). checks (places_rule N places ∷ (51, leb (length r) max_runs && leb (length f) max_runs) ∷ [])
        then value (record { on_rising = r; on_falling = f })) (runs-view rising) (runs-view falling)))

    abbrev fault_rules : ℕ → List Rule
    fault_rules fault = places_rule N places ∷ (60, within 1 (2 * path_total N) fault) ∷ (90, seen N places (path_of_fault fault)) ∷ []

    pub fault-is : (fault : ℕ) → viewer_fault_call netlist ws places fault ≡ (checks (fault_rules fault) then value (D (edge_of_fault fault) (path_of_fault fault)))
    unfolding viewer_fault_call
    fault-is fault =
        rw (one_store, e)
        (ap (λ (a : Answer (Unit {0})). a then value (in_runs (store_runs ws (edge_of_fault fault)) (path_of_fault fault))) (rules-past (fault_rules fault))
        ∙ then_same (fault_rules fault) (in_runs (store_runs ws (edge_of_fault fault)) (path_of_fault fault)) (D (edge_of_fault fault) (path_of_fault fault))
        (λ p.
        let a = leb→le 1 fault (and_left (leb 1 fault) (leb fault (2 * path_total N)) p.1.0) in
        let b = leb→le fault (2 * path_total N) (and_right (leb 1 fault) (leb fault (2 * path_total N)) p.1.0) in
        in_set_lem (edge_of_fault fault) (path_of_fault fault) (omega arith) (omega arith)))

  -- Two stores whose sets are the same where the viewer sees
  module _ (ws ws' : List ℕ) (D D' : Sets) (x : Holding N ws D) (x' : Holding N ws' D') (third : tests_taken_of ws ≡ tests_taken_of ws')
      (same : (d : Edge) (k : ℕ) → 1 ≤ k → k ≤ path_total N → T (seen N places k) → D d k ≡ D' d k) where
    view-same : (d : Edge) (k : ℕ) → 1 ≤ k → k ≤ path_total N → view N places D d k ≡ view N places D' d k
    view-same d k l h =
        ⊎_elim
        (λ (q : seen N places k ≡ true). ap (λ b. seen N places k && b) (same d k l h (true→T (seen N places k) q)))
        (λ (q : seen N places k ≡ false). rw q refl)
        (bool_cases (seen N places k))

    same_runs : (d : Edge) → runs_among (view N places D d) (path_total N) ≡ runs_among (view N places D' d) (path_total N)
    same_runs d = runs_same (view N places D d) (view N places D' d) (path_total N) (view-same d)

    same-many : (d : Edge) → how_many (view N places D d) (path_total N) ≡ how_many (view N places D' d) (path_total N)
    same-many d = how_many-same (view N places D d) (view N places D' d) (path_total N) (view-same d)

    same-runs-call : (second : List ℕ) → viewer_runs_call netlist ws second places ≡ viewer_runs_call netlist ws' second places
    same-runs-call second =
        runs-are ws D x second
        ∙ ap₂ (λ (r f : List Run). checks (store_rule second ∷ []) then read_netlist netlist
        into λ M. checks (places_rule N places ∷ (51, leb (length r) max_runs && leb (length f) max_runs) ∷ []) then value (record { on_rising = r; on_falling = f }))
        (same_runs rising) (same_runs falling)
        ∙ sym (runs-are ws' D' x' second)

    same-fault : (fault : ℕ) → viewer_fault_call netlist ws places fault ≡ viewer_fault_call netlist ws' places fault
    same-fault fault =
        fault-is ws D x fault
        ∙ then_same (places_rule N places ∷ (60, within 1 (2 * path_total N) fault) ∷ (90, seen N places (path_of_fault fault)) ∷ [])
        (D (edge_of_fault fault) (path_of_fault fault)) (D' (edge_of_fault fault) (path_of_fault fault))
        (λ p.
        let a = leb→le 1 fault (and_left (leb 1 fault) (leb fault (2 * path_total N)) p.1.0) in
        let b = leb→le fault (2 * path_total N) (and_right (leb 1 fault) (leb fault (2 * path_total N)) p.1.0) in
        same (edge_of_fault fault) (path_of_fault fault) (omega arith) (omega arith) p.1.1.0)
        ∙ sym (fault-is ws' D' x' fault)

    pub same-answers : SameAnswers netlist places ws ws'
    unfolding viewer_runs_answer viewer_runs_store
    same-answers = record {
      totals = totals-are ws D x
          ∙ ap₂ (λ (r f : ℕ). checks (places_rule N places ∷ []) then value (record { on_rising = r; on_falling = f })) (same-many rising) (same-many falling)
          ∙ sym (totals-are ws' D' x');
      runs = λ second. ap passes (same-runs-call second);
      words = λ second. ap₂ (λ (n : ℕ) (a : Answer (ByEdge (List Run))). after a second (store_of n)) third (same-runs-call second);
      faults = same-fault;
    }

  -- A fault that the viewer sees is detected by both of two tests that agree for him, or by none
  detects-same : (t u : Test) → t.class ≡ u.class → AgreeFor N places t u
      → (d : Edge) (k : ℕ) → 1 ≤ k → k ≤ path_total N → T (seen N places k) → detects_number N t d k ≡ detects_number N u d k
  unfolding detects_number detects seen
  detects-same t u q a d k l h s =
      let b = number-of_path N w k l h in
      let p = valid-parts N w (path_of N k) b.is_path in
      along N w t u d (open_pin N t) (open_pin N u) (open_same N w t u q) (path_of N k).pins (output_net N (path_of N k).output)
      (output-net N w (path_of N k).output p.0) p.1 (λ j r. a (path_of N k).output j s r)

  -- two lists of tests that agree for him
  abbrev Alike : List Test → List Test → Type 0
  Alike [] [] = Unit {0}
  Alike [] (u ∷ us) = ⊥
  Alike (t ∷ ts) [] = ⊥
  Alike (t ∷ ts) (u ∷ us) = (t.class ≡ u.class) × AgreeFor N places t u × Alike ts us

  alike_same : (ts us : List Test) → Alike ts us → (d : Edge) (k : ℕ) → 1 ≤ k → k ≤ path_total N → T (seen N places k) → detected_at N ts d k ≡ detected_at N us d k
  unfolding detected_at
  alike_same [] [] a d k l h s = refl
  alike_same [] (u ∷ us) a d k l h s = absurd a
  alike_same (t ∷ ts) [] a d k l h s = absurd a
  alike_same (t ∷ ts) (u ∷ us) a d k l h s = ap₂ (λ x y. x || y) (detects-same t u a.0 a.1 d k l h s) (alike_same ts us a.2 d k l h s)

  alike_length : (ts us : List Test) → Alike ts us → length ts ≡ length us
  alike_length [] [] a = refl
  alike_length [] (u ∷ us) a = absurd a
  alike_length (t ∷ ts) [] a = absurd a
  alike_length (t ∷ ts) (u ∷ us) a = ap suc (alike_length ts us a.2)

  next-taken : (s : State) (c : Call) → Taken netlist s c → (next netlist N s c).taken ≡ test_in N c ∷ s.taken
  next-taken s c k = rw k.answer refl

  same_class : (c d : ℕ) → c ≡ d → class_of c ≡ class_of d
  same_class c d q = ap class_of q

  alike_after : (cs ds : List Call) (s r : State) → EachTaken netlist N s cs → EachTaken netlist N r ds → AgreeAll N places cs ds → Alike s.taken r.taken
      → Alike (after_calls netlist N s cs).taken (after_calls netlist N r ds).taken
  unfolding after_calls test_of
  alike_after [] [] s r p q a x = x
  alike_after [] (d ∷ ds) s r p q a x = absurd a
  alike_after (c ∷ cs) [] s r p q a x = absurd a
  alike_after (c ∷ cs) (d ∷ ds) s r p q a x =
      alike_after cs ds (next netlist N s c) (next netlist N r d) p.1 q.1 a.2
      (rw (next-taken s c p.0, next-taken r d q.0) (same_class c.class d.class a.0, a.1, x))

pub non_interference : NonInterference
non_interference netlist N e places cs ds p q a =
    let s = after_calls netlist N start cs in
    let r = after_calls netlist N start ds in
    let x = holds_after netlist N e cs start (holds-start N) in
    let y = holds_after netlist N e ds start (holds-start N) in
    let k = alike_after netlist N e places cs ds start start p q a tt in
    same-answers netlist N e places s.store r.store (detected_at N s.taken) (detected_at N r.taken)
    x.holding y.holding (x.counted ∙ alike_length netlist N e places s.taken r.taken k ∙ sym y.counted)
    (alike_same netlist N e places s.taken r.taken k)
