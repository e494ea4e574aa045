-- A list of more places than are kept is no viewer: what is shown for those that are kept is what is shown for all.
use Rattle.model.proofs.Prelude.{ℕ, ◌≤◌, ◌<◌, ◌+◌, suc, ◌≡◌, ◌∙◌, ap, refl, sym, ap₂, ⊎_elim, Bool, false, ◌&&◌, List, [], ◌∷◌, ◌++◌, length, take}
use Rattle.model.proofs.Prelude.{length-take-le, take_all, leb, T, leb→le, ltb, ltb→lt, arith}
use Rattle.model.specs.Base.{Answer, refused, value, ◌into◌, ◌then◌, Rule, checks, check}
use Rattle.model.specs.Netlist.{Netlist, path_total}
use Rattle.model.specs.Read.{read_netlist}
use Rattle.model.specs.Runs.{Run, how_many}
use Rattle.model.specs.Store.{ByEdge, by_edge, both_edges, max_runs, empty_store, store_rules}
use Rattle.model.specs.Calls.{store_rule}
use Rattle.model.proofs.AnswerLaws.{checks-both}
use Rattle.model.proofs.BoolLaws.{le_or_lt, and_left, and_right, not→false}
use Rattle.model.proofs.ReadLaws.{limits}
use Rattle.viewer_places.specs.Viewer.{ascending_places, places_fit_of, places_rule, seen_held, seen_runs, viewer_totals_call, viewer_runs_call}
use Rattle.viewer_place_lines.specs.Places.{most_kept}
use Rattle.viewer_text.specs.ViewText.{shown, view_text}

-- each place is at least one more than the one before
ascending-few : (n least : ℕ) (ps : List ℕ) → T (ascending_places n least ps) → least ≤ n → least + length ps ≤ n
ascending-few n least [] t h = omega arith
ascending-few n least (p ∷ ps) t h =
    let head : T (leb least p && ltb p n) = and_left (leb least p && ltb p n) (ascending_places n (suc p) ps) t in
    let low : least ≤ p = leb→le least p (and_left (leb least p) (ltb p n) head) in
    let high : p < n = ltb→lt p n (and_right (leb least p) (ltb p n) head) in
    let rest = ascending-few n (suc p) ps (and_right (leb least p && ltb p n) (ascending_places n (suc p) ps) t) (omega arith) in
    omega arith

many-unfit : (n : ℕ) (ps : List ℕ) → n < length ps → places_fit_of n ps ≡ false
many-unfit n ps h =
    not→false (places_fit_of n ps)
    (λ t. let few = ascending-few n 0 ps (and_right (leb 1 (length ps)) (ascending_places n 0 ps) t) (omega arith) in absurd (omega arith))

-- a refusal after some checks ends a call
refused-there : {A : Type 0} (c : Answer (Unit {0})) (rs : List Rule) (x : Answer A) → ((c then (check 89 false then checks rs)) then x) ≡ (c then refused 89)
refused-there (refused n) rs x = refl
refused-there (value u) rs x = refl

module _ (netlist ws : List ℕ) where
  -- what a call answers for more places than any netlist has outputs
  abbrev no_places : {A : Type 0} → Netlist → Answer A
  no_places N = checks (store_rules (path_total N) ws) then refused 89

  abbrev no_viewer : {A : Type 0} → List Rule → Answer A
  no_viewer lent = checks lent then read_netlist netlist into no_places

  module _ (qs : List ℕ) (many : 64 < length qs) where
    unfit : {A : Type 0} (N : Netlist) (rs : List Rule) (x : Answer A) → read_netlist netlist ≡ value N
        → (checks (store_rules (path_total N) ws ++ (places_rule N qs ∷ rs)) then x) ≡ no_places N
    unfit N rs x e =
        let more : length N.outputs < length qs = omega (arith, (limits netlist N e).few_outputs) in
        ap (λ (c : Answer (Unit {0})). c then x) (checks-both (store_rules (path_total N) ws) (places_rule N qs ∷ rs))
        ∙ ap (λ (b : Bool). (checks (store_rules (path_total N) ws) then (check 89 b then checks rs)) then x) (many-unfit (length N.outputs) qs more)
        ∙ refused-there (checks (store_rules (path_total N) ws)) rs x

    module _ {A : Type 0} (rs : Netlist → List Rule) (x : Netlist → Answer A) where
      abbrev asked : Netlist → Answer A
      asked N = checks (store_rules (path_total N) ws ++ (places_rule N qs ∷ rs N)) then x N

      at-netlist : (m : Answer Netlist) → read_netlist netlist ≡ m → (m into asked) ≡ (m into no_places)
      at-netlist (refused n) e = refl
      at-netlist (value N) e = unfit N (rs N) (x N) e

      at-lent : (c : Answer (Unit {0})) → (c then read_netlist netlist into asked) ≡ (c then read_netlist netlist into no_places)
      at-lent (refused n) = refl
      at-lent (value u) = at-netlist (read_netlist netlist) refl

    many-shown : view_text netlist ws qs ≡ shown (no_viewer (store_rule ws ∷ store_rule empty_store ∷ [])) (no_viewer (store_rule ws ∷ []))
    unfolding view_text viewer_runs_call viewer_totals_call
    many-shown =
        ap₂ (λ (r : Answer (ByEdge (List Run))) (t : Answer (ByEdge ℕ)). shown r t)
        (at-lent (λ N. (51, both_edges (λ e. leb (length (seen_runs N qs ws e)) max_runs)) ∷ []) (λ N. value (by_edge (seen_runs N qs ws)))
        (checks (store_rule ws ∷ store_rule empty_store ∷ [])))
        (at-lent (λ N. []) (λ N. value (by_edge (λ e. how_many (seen_held N qs ws e) (path_total N)))) (checks (store_rule ws ∷ [])))

  pub kept-shown : (ps : List ℕ) → view_text netlist ws (take most_kept ps) ≡ view_text netlist ws ps
  kept-shown ps =
      ⊎_elim
      (λ (h : most_kept ≤ length ps). many-shown (take most_kept ps) (omega (arith, length-take-le most_kept ps h)) ∙ sym (many-shown ps (omega arith)))
      (λ (h : length ps < most_kept). ap (view_text netlist ws) (take_all most_kept ps (omega arith)))
      (le_or_lt most_kept (length ps))
