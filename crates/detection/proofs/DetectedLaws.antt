-- The runs of the nets' sets and of the detected path numbers of a case: what a gate's pins and the outputs add makes them (document 01: "its number at the
-- net of pin k plus the counts of the gate's pins before k"), the detected are no more than the working runs, and there is none without an edge.
use Rattle.model.proofs.Prelude.{ℕ, ◌≤◌, ◌<◌, ◌+◌, suc, ◌^◌, zero, ◌≡◌, ◌∙◌, ap, refl, sym, subst, inl, true, Bool, false, cond, List, [], ◌∷◌, map}
use Rattle.model.proofs.Prelude.{length, get_or, leb, T, leb→le, ltb, arith, le-leb, lt-leb}
use Rattle.model.specs.Base.{bit, sum_of, numbers_from}
use Rattle.record_bytes.proofs.BitLaws.{zero_bit}
use Rattle.model.specs.Netlist.{Netlist, nets, counts, pins_of, pin_net, pin_counts, path_total, output_count, output_counts, output_net}
use Rattle.model.specs.Path.{counts_before}
use Rattle.model.specs.Runs.{Run, runs_among, run}
use Rattle.model.specs.Store.{max_runs}
use Rattle.model.proofs.BoolLaws.{true→T, and3, cases}
use Rattle.model.proofs.NetLaws.{count-gate, count-input}
use Rattle.model.proofs.NumberLaws.{length-pin_counts, pin_counts-at, pin-lower, output-net, length-output_counts, output_counts-is, output_counts-at, output_counts-none, counts_before-suc}
use Rattle.model.proofs.ReadLaws.{Limits}
use Rattle.model.proofs.RunLaws.{runs_by, runs-separated}
use Rattle.model.proofs.WellFormed.{WellFormed, ascending_nets}
use Rattle.run_lists.specs.RunLists.{Sound, only_if, add_runs, shift_runs, runs_in_words}
use Rattle.run_union.proofs.ShiftLaws.{add_runs-part}
use Rattle.run_lists.proofs.MemberLaws.{sound-mono}
use Rattle.detection.specs.Cases.{Case, in_set, detects_path, set_runs_of, detected, working}
use Rattle.detection.specs.PlaceRuns.{Places, first_runs}
use Rattle.detection.specs.Walks.{runs_before, Detects}
use Rattle.detection.proofs.SetLaws.{set-input, set-gate, set-output}
use Rattle.detection.proofs.KeptLaws.{runs-next, runs-mono}
use Rattle.detection.proofs.PlaceRunLaws.{PlaceIs, first-make, first-none, first-few}
use Rattle.std.specs.Prelude.{Some, None}

-- a set of at most the number 1
single : (P : ℕ → Bool) (b : Bool) → ((k : ℕ) → P k ≡ b) → only_if b (run 1 1 ∷ []) ≡ runs_among P 1
single P true h = runs_by P 1 (run 1 1 ∷ []) (omega arith, omega arith, omega arith, tt) (λ j t. true→T (P j) (h j)) (λ j l g t. inl (l, g))
single P false h = runs_by P 1 [] tt (λ j t. absurd t) (λ j l g t. absurd (subst T (h j) t))

-- ---- outputs ascend

module _ (m : ℕ) where
  ascends-from : (least : ℕ) (os : List ℕ) → T (ascending_nets m least os) → (o : ℕ) → o < length os → least ≤ get_or os o 0
  unfolding ascending_nets
  ascends-from least [] t o h = absurd (omega arith)
  ascends-from least (x ∷ os) t zero h = leb→le least x (and3 (leb least x) (ltb x m) (ascending_nets m (suc x) os) t).0
  ascends-from least (x ∷ os) t (suc o) h =
      let q = and3 (leb least x) (ltb x m) (ascending_nets m (suc x) os) t in
      omega (arith, leb→le least x q.0, ascends-from (suc x) os q.2 o (omega arith))

  ascends : (least : ℕ) (os : List ℕ) → T (ascending_nets m least os) → (i j : ℕ) → i < j → j < length os → get_or os i 0 < get_or os j 0
  unfolding ascending_nets
  ascends least [] t i j l h = absurd (omega arith)
  ascends least (x ∷ os) t i zero l h = absurd (omega arith)
  ascends least (x ∷ os) t zero (suc j) l h = ascends-from (suc x) os (and3 (leb least x) (ltb x m) (ascending_nets m (suc x) os) t).2 j (omega arith)
  ascends least (x ∷ os) t (suc i) (suc j) l h = ascends (suc x) os (and3 (leb least x) (ltb x m) (ascending_nets m (suc x) os) t).2 i j (omega arith) (omega arith)

module _ (K : Case) where
  abbrev N : Netlist
  N = K.netlist

  abbrev set : ℕ → ℕ → Bool
  set net = in_set K net

  abbrev D : ℕ → Bool
  D k = detects_path K k

  pub set-sound : Limits N → (net : ℕ) → Sound (2 ^ 62) (set_runs_of K net)
  unfolding set_runs_of
  set-sound lim net =
      sound-mono 1 (get_or (counts N) net 0) (2 ^ 62) (runs_among (set net) (get_or (counts N) net 0)) (lim.counts_fit net) (runs-separated (set net) (get_or (counts N) net 0))

  -- the working runs
  sum_runs : (n k : ℕ) → runs_before (set_runs_of K) k + sum_of (map (λ net. length (set_runs_of K net)) (numbers_from k n)) ≡ runs_before (set_runs_of K) (k + n)
  sum_runs zero k = let e : k + zero ≡ k = omega arith in rw e (omega arith)
  sum_runs (suc n) k = let e : suc k + n ≡ k + suc n = omega arith in omega (arith, sum_runs n (suc k) ∙ ap (runs_before (set_runs_of K)) e)

  pub working-all : working K ≡ runs_before (set_runs_of K) (nets N)
  unfolding working
  working-all = let z : 0 + nets N ≡ nets N = omega arith in omega (arith, sum_runs (nets N) 0 ∙ ap (runs_before (set_runs_of K)) z)

  module _ (w : WellFormed K.netlist) where
    -- The runs of an input
    pub input-set : (net : ℕ) → net < N.inputs → only_if (K.makes_edge net) (run 1 1 ∷ []) ≡ set_runs_of K net
    unfolding set_runs_of
    input-set net i = single (set net) (K.makes_edge net) (λ k. set-input K w net k i) ∙ ap (runs_among (set net)) (sym (count-input N net i))

    -- The runs of a gate's net
    module _ (net : ℕ) (i : K.netlist.inputs ≤ net) (l : net < nets K.netlist) where
      abbrev pub PinIs : Places → (ℕ → List Run) → ℕ → Type 0
      PinIs P f p = PlaceIs P f p (K.is_open net p) (get_or (pin_counts K.netlist net) p 0) (set_runs_of K (pin_net K.netlist net p))

      pub pins-all : sum_of (pin_counts N net) ≡ get_or (counts N) net 0
      pins-all = sym (count-gate N w.lower_pins net i l)

      pub gate-set : (P : Places) (f : ℕ → List Run) → ((p : ℕ) → p < length (pin_counts N net) → PinIs P f p) → {n : ℕ} → n ≡ length (pin_counts N net)
          → first_runs P f n ≡ set_runs_of K net
      unfolding set_runs_of
      gate-set P f is e =
          let pc = pin_counts N net in
          first-make P f pc (K.is_open net) (λ p. set_runs_of K (pin_net N net p)) is (set net)
          (λ p h.
          let k : p < length (pins_of N net) = omega (arith, length-pin_counts N w net) in
          let next : counts_before p pc + get_or (counts N) (pin_net N net p) 0 ≡ counts_before (suc p) pc = omega (arith, counts_before-suc pc p h, pin_counts-at N w net p k) in
          add_runs-part (set net) (set (pin_net N net p)) (counts_before p pc) (get_or (counts N) (pin_net N net p) 0) (K.is_open net p)
          (λ r m o. set-gate K w net p r i l k m o)
          ∙ ap (runs_among (set net)) next)
          e
          ∙ ap (runs_among (set net)) pins-all

    -- The runs of the detected path numbers
    abbrev pub OutIs : Places → (ℕ → List Run) → ℕ → Type 0
    OutIs P f o = PlaceIs P f o (leb K.netlist.inputs (output_net K.netlist o)) (get_or (output_counts K.netlist) o 0) (set_runs_of K (output_net K.netlist o))

    -- one output: at a gate's net its paths follow those of the outputs before, at an input net it has none
    pub out-part : (o : ℕ) → o < length (output_counts N) → add_runs (runs_among D (counts_before o (output_counts N)))
        (only_if (leb N.inputs (output_net N o)) (shift_runs (counts_before o (output_counts N)) (set_runs_of K (output_net N o)))) ≡ runs_among D (counts_before (suc o) (output_counts N))
    unfolding set_runs_of
    out-part o h =
        let net = output_net N o in
        let from = counts_before o (output_counts N) in
        let lt : o < length N.outputs = omega (arith, length-output_counts N w) in
        let next = counts_before-suc (output_counts N) o h in
        let shown : (b : Bool) → leb N.inputs net ≡ b → add_runs (runs_among D from) (only_if (leb N.inputs net) (shift_runs from (set_runs_of K net)))
        ≡ add_runs (runs_among D from) (only_if b (shift_runs from (set_runs_of K net))) =
        λ b e. ap (λ x. add_runs (runs_among D from) (only_if x (shift_runs from (set_runs_of K net)))) e in
        cases N.inputs net
        (λ i.
        let c : get_or (output_counts N) o 0 ≡ get_or (counts N) net 0 = output_counts-at N w o lt i in
        let step : from + get_or (counts N) net 0 ≡ counts_before (suc o) (output_counts N) = omega (arith, next) in
        shown true (le-leb N.inputs net i)
        ∙ add_runs-part D (set net) from (get_or (counts N) net 0) true (λ r m k. set-output K w o r lt m (omega (arith, c)))
        ∙ ap (runs_among D) step)
        (λ i.
        let step : from ≡ counts_before (suc o) (output_counts N) = omega (arith, next, output_counts-none N w o lt i) in
        shown false (lt-leb N.inputs net i) ∙ ap (runs_among D) step)

    pub detected-set : (P : Places) (f : ℕ → List Run) → ((o : ℕ) → o < length (output_counts N) → OutIs P f o) → {n : ℕ} → n ≡ length (output_counts N)
        → first_runs P f n ≡ detected K
    unfolding detected path_total
    detected-set P f is e = first-make P f (output_counts N) (λ o. leb N.inputs (output_net N o)) (λ o. set_runs_of K (output_net N o)) is D out-part e

    -- ---- how many

    abbrev outs : Places
    outs = record {
      net_of = output_net K.netlist;
      opens = λ o net. leb K.netlist.inputs net;
      paths = output_count K.netlist.inputs (counts K.netlist);
    }

    outs-few : (n : ℕ) → n ≤ length N.outputs → (top : ℕ) → ((o : ℕ) → o < n → output_net N o < top) → length (first_runs outs (set_runs_of K) n) ≤ runs_before (set_runs_of K) top
    unfolding first_runs
    outs-few zero h top l = omega arith
    outs-few (suc n) h top l =
        let net = output_net N n in
        let below = outs-few n (omega arith) net (λ o m. ascends (nets N) 0 N.outputs w.outputs_ok o n m h) in
        omega (arith, below, first-few outs (set_runs_of K) n, runs-next (set_runs_of K) net, runs-mono (set_runs_of K) (net + 1) top (omega (arith, l n (omega arith))))

    pub few-detected : length (detected K) ≤ working K
    few-detected =
        let many = length-output_counts N w in
        let all : first_runs outs (set_runs_of K) (length N.outputs) ≡ detected K = detected-set outs (set_runs_of K)
        (λ o h. record { opens_are = refl; paths_are = sym (output_counts-is N w o (omega (arith, many))); runs_are = refl }) (sym many) in
        omega (arith, working-all, ap length all, outs-few (length N.outputs) (omega arith) (nets N) (λ o h. output-net N w o h))

    -- ---- an edge that no input makes

    module _ (h : (j : ℕ) → j < K.netlist.inputs → K.makes_edge j ≡ false) where
      no-runs : (fuel net : ℕ) → net < fuel → net < nets N → set_runs_of K net ≡ []
      no-runs zero net l m = absurd (omega arith)
      no-runs (suc fuel) net l m = cases N.inputs net
          (λ i.
          let many = length-pin_counts N w net in
          let pins : Places = record { net_of = pin_net N net; opens = λ p q. K.is_open net p; paths = λ q. get_or (counts N) q 0 } in
          sym (gate-set net i m pins (set_runs_of K) (λ p k. record { opens_are = refl; paths_are = sym (pin_counts-at N w net p (omega (arith, many))); runs_are = refl }) (sym many))
          ∙ first-none pins (set_runs_of K) (length (pins_of N net))
          (λ p k. let q : pin_net N net p < net = pin-lower N w net p i m k in no-runs fuel (pin_net N net p) (omega arith) (omega arith)))
          (λ i. sym (input-set net i) ∙ ap (λ (b : Bool). only_if b (run 1 1 ∷ [])) (h net i))

      none_before : (n : ℕ) → n ≤ nets N → runs_before (set_runs_of K) n ≡ 0
      none_before zero l = refl
      none_before (suc n) l = omega (arith, none_before n (omega arith), ap (length {A = Run}) (no-runs (suc n) n (omega arith) (omega arith)))

      quiet : (ws : List ℕ) → Detects K ws ws (Some 0)
      quiet ws =
          let none : working K ≡ 0 = working-all ∙ none_before (nets N) (omega arith) in
          let d : detected K ≡ [] = no_length (detected K) (omega (arith, few-detected)) in
          let f : leb (working K) max_runs ≡ true = le-leb (working K) max_runs (omega arith) in
          record {
            answers = ap Some (sym (ap (length {A = Run}) d)) ∙ sym (ap (λ (b : Bool). cond b (Some (length (detected K))) None) f);
            runs_are = λ n p. let e : 0 ≡ n = cc in subst (λ (k : ℕ). runs_in_words ws max_runs k ≡ detected K) e (sym d);
            kept = λ k q. refl;
          }
        where
          no_length : (s : List Run) → length s ≤ 0 → s ≡ []
          no_length [] h = refl
          no_length (r ∷ s) h = absurd (omega arith)

-- from the bits of the inputs that make the edge
pub unmade_edge : (K : Case) → WellFormed K.netlist → {edges : ℕ} → edges ≡ 0 → ((j : ℕ) → j < K.netlist.inputs → bit edges j ≡ K.makes_edge j)
    → (ws : List ℕ) → Detects K ws ws (Some 0)
unmade_edge K w z made ws = quiet K w (λ j l. sym (made j l) ∙ ap (λ (k : ℕ). bit k j) z ∙ zero_bit j) ws
