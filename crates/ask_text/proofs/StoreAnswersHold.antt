-- The trees of a store answer for each fault as the store does: document 01's question for a fault, with the nodes visited besides.
use Rattle.model.proofs.Prelude.{ℕ, ◌*◌, ◌≡◌, ◌∙◌, ap, refl, sym, ⊎_elim, true, Bool, false, List, [], ◌∷◌, ◌++◌, length, eq-eqb}
use Rattle.model.specs.Base.{Answer, value, ◌into◌, ◌then◌, checks}
use Rattle.model.specs.Netlist.{path_total}
use Rattle.model.specs.Path.{Edge, rising, falling, edge_of_fault, path_of_fault}
use Rattle.model.specs.Read.{within}
use Rattle.model.specs.Runs.{Run, in_runs}
use Rattle.model.specs.Store.{store_words_count, store_runs, store_rules, of_edge}
use Rattle.model.specs.Calls.{fault_call}
use Rattle.model.proofs.AnswerLaws.{checks-both, not_refused, value_inj}
use Rattle.model.proofs.BoolLaws.{bool_cases}
use Rattle.tree_words.specs.TreeLayout.{tree_runs, levels_in}
use Rattle.tree_words.specs.Ways.{way_to}
use Rattle.tree_words.proofs.WayLaws.{way-levels}
use Rattle.tree_words.specs.Calls.{Asked}
use Rattle.tree_filling.specs.TreesOfStore.{fill_call, FillTrue}
use Rattle.tree_filling.proofs.TreeFillCases.{Found, found_all, filled_runs, trees-ready}
use Rattle.ask_text.specs.Questions.{tree_of, fault_asked}
use Rattle.ask_text.proofs.AskedFaultCases.{asked-refused, asked-visited}
use Rattle.std.specs.Prelude.{Ok}

module _ (netlist store up up' down down' : List ℕ) (paths : ℕ) (f : FillTrue (Ok paths) netlist store up up' down down') where
  filled : fill_call netlist store up down ≡ value paths
  filled = sym f.answer

  found : Found netlist store up down paths
  found = found_all netlist store up down filled

  runs_of : (e : Edge) → tree_runs (of_edge (record { on_rising = up'; on_falling = down' }) e) ≡ store_runs store e
  runs_of rising = filled_runs filled (store_runs store rising) f.on_rising
  runs_of falling = filled_runs filled (store_runs store falling) f.on_falling

  module _ (fault : ℕ) where
    abbrev held : Bool
    held = in_runs (store_runs store (edge_of_fault fault)) (path_of_fault fault)

    -- the question to the store, once what the trees were filled from has passed
    of_store : fault_call netlist store fault ≡ (checks ((60, within 1 (2 * paths) fault) ∷ []) then value held)
    unfolding fault_call
    of_store =
        let rules = store_rules (path_total found.circuit) store in
        let begun : fault_call netlist store fault ≡ (checks (rules ++ ((60, within 1 (2 * path_total found.circuit) fault) ∷ [])) then value held) =
        rw (eq-eqb (length store) store_words_count found.store_long_of, found.is_read) refl in
        begun
        ∙ ap (λ (x : Answer (Unit {0})). x then value held) (checks-both rules ((60, within 1 (2 * path_total found.circuit) fault) ∷ []))
        ∙ ap (λ (x : Answer (Unit {0})). x then checks ((60, within 1 (2 * path_total found.circuit) fault) ∷ []) then value held) found.sound_store
        ∙ ap (λ (n : ℕ). checks ((60, within 1 (2 * n) fault) ∷ []) then value held) found.total

    abbrev visited : Asked
    visited = record { held = held; visited = length (way_to (tree_of up' down' fault) (path_of_fault fault)) }

    of_trees : fault_asked paths up' down' fault ≡ (checks ((60, within 1 (2 * paths) fault) ∷ []) then value visited)
    of_trees =
        ⊎_elim
        (λ (t : within 1 (2 * paths) fault ≡ true).
        asked-visited paths up' down' fault true (sym t) refl (trees-ready (Ok paths) netlist store up up' down down' f paths refl)
        (record { held = held; visited = length (way_to (tree_of up' down' fault) (path_of_fault fault)) })
        (record { held = sym (ap (λ (rs : List Run). in_runs rs (path_of_fault fault)) (runs_of (edge_of_fault fault))); visited = refl })
        held refl
        ∙ rw t refl)
        (λ (t : within 1 (2 * paths) fault ≡ false). asked-refused paths up' down' fault false (sym t) refl ∙ rw t refl)
        (bool_cases (within 1 (2 * paths) fault))

    -- Where the trees answer, the store answers the same; where they are refused, it is refused so
    pub asks-as_store : (fault_asked paths up' down' fault into λ a. value a.held) ≡ fault_call netlist store fault
    asks-as_store = ap (λ (x : Answer Asked). x into λ a. value a.held) of_trees ∙ go (within 1 (2 * paths) fault) ∙ sym of_store
      where
        go : (t : Bool) → (checks ((60, t) ∷ []) then value visited into λ a. value a.held) ≡ (checks ((60, t) ∷ []) then value held)
        go true = refl
        go false = refl

    -- and the nodes visited are the levels of the tree of the fault's edge
    pub asks-levels : (a : Asked) → fault_asked paths up' down' fault ≡ value a → a.visited ≡ levels_in (tree_of up' down' fault)
    asks-levels a e = go (within 1 (2 * paths) fault) (sym of_trees ∙ e)
      where
        go : (t : Bool) → (checks ((60, t) ∷ []) then value visited) ≡ value a → a.visited ≡ levels_in (tree_of up' down' fault)
        go true q = sym (ap (λ (x : Asked). x.visited) (value_inj q)) ∙ way-levels (tree_of up' down' fault) (path_of_fault fault)
        go false q = absurd (not_refused q)
