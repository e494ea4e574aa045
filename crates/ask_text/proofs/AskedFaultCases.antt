-- The cases of asking for a fault: whether its number is one, and what the tree of its edge answers.
use Rattle.model.proofs.Prelude.{ℕ, ◌≤◌, ◌<◌, ◌*◌, ◌≡◌, ◌∙◌, ap, refl, sym, true, Bool, false, not, List, length, leb, T, leb→le, arith, rules}
use Rattle.model.proofs.Prelude.{le-leb, lt-leb, not-true, not-false}
use Rattle.model.specs.Base.{refused, value}
use Rattle.model.specs.Path.{Edge, rising, falling, edge_of_fault, path_of_fault}
use Rattle.model.specs.Read.{within}
use Rattle.model.specs.Runs.{in_runs}
use Rattle.model.specs.Store.{of_edge}
use Rattle.model.proofs.BoolLaws.{and_left, and_right, true→T}
use Rattle.path_faults.specs.Answers.{model_edge}
use Rattle.path_faults.specs.declared.Edge as Code
use Rattle.path_faults.specs.declared.Edge.TheVariants as edge
use Rattle.tree_words.specs.TreeLayout.{tree_runs}
use Rattle.tree_words.specs.Ways.{way_to}
use Rattle.tree_words.specs.Calls.{holds_call}
use Rattle.tree_words.specs.Nodes.{SoundTree}
use Rattle.tree_descent.specs.declared.inner.Visit.{Visit}
use Rattle.tree.proofs.TreeCallCases.{holds-taken}
use Rattle.tree_filling.specs.TreesOfStore.{TreesReady}
use Rattle.ask_text.specs.Questions.{tree_of, fault_asked}
use Rattle.ask_text.specs.Pieces.{FaultVisited}

-- ---- whether a number is that of a fault

pub no-fault-zero : (paths fault : ℕ) → fault < 1 → false ≡ within 1 (2 * paths) fault
no-fault-zero paths fault h = rw (lt-leb 1 fault h) refl

pub fault-within : (paths fault : ℕ) → 1 ≤ fault → leb fault (2 * paths) ≡ within 1 (2 * paths) fault
fault-within paths fault h = rw (le-leb 1 fault h) refl

-- ---- what the tree of its edge answers

module _ (up down : List ℕ) (fault : ℕ) (v : Visit) (path : ℕ) (ep : path ≡ path_of_fault fault) (d : Code.Edge) (ed : model_edge d ≡ edge_of_fault fault) where
  of_tree : {tree : List ℕ} → tree ≡ tree_of up down fault → (v.held ≡ in_runs (tree_runs tree) path) × (v.visited ≡ length (way_to tree path))
      → FaultVisited v up down fault
  of_tree {tree} et e = record {
    held = e.0 ∙ ap (λ (ws : List ℕ). in_runs (tree_runs ws) path) et ∙ ap (in_runs (tree_runs (tree_of up down fault))) ep;
    visited = e.1 ∙ ap (λ (ws : List ℕ). length (way_to ws path)) et ∙ ap (λ (k : ℕ). length (way_to (tree_of up down fault) k)) ep;
  }

  tree_is : {e : Edge} → e ≡ edge_of_fault fault → of_edge (record { on_rising = up; on_falling = down }) e ≡ tree_of up down fault
  tree_is e = ap (λ (x : Edge). of_edge (record { on_rising = up; on_falling = down }) x) e

  pub visited-rising : d ≡ edge.Rising → (v.held ≡ in_runs (tree_runs up) path) × (v.visited ≡ length (way_to up path)) → FaultVisited v up down fault
  visited-rising k e = of_tree (tree_is (sym (ap model_edge k) ∙ ed)) e

  pub visited-falling : d ≡ edge.Falling → (v.held ≡ in_runs (tree_runs down) path) × (v.visited ≡ length (way_to down path)) → FaultVisited v up down fault
  visited-falling k e = of_tree (tree_is (sym (ap model_edge k) ∙ ed)) e

-- ---- the answer

either-sound : {up down : List ℕ} → SoundTree up → SoundTree down → (e : Edge) → SoundTree (of_edge (record { on_rising = up; on_falling = down }) e)
either-sound u d rising = u
either-sound u d falling = d

module _ (paths : ℕ) (up down : List ℕ) (fault : ℕ) (b : Bool) (eb : b ≡ within 1 (2 * paths) fault) where
  pub asked-refused : not b ≡ true → fault_asked paths up down fault ≡ refused 60
  unfolding fault_asked
  asked-refused n = rw (sym eb ∙ not-true b n) refl

  module _ (n : not b ≡ false) (t : TreesReady paths up down) (v : Visit) (f : FaultVisited v up down fault) where
    abbrev tree : List ℕ
    tree = tree_of up down fault

    is_within : T (within 1 (2 * paths) fault)
    is_within = true→T (within 1 (2 * paths) fault) (sym eb ∙ not-false b n)

    low : 1 ≤ fault
    low = leb→le 1 fault (and_left (leb 1 fault) (leb fault (2 * paths)) is_within)

    high : fault ≤ 2 * paths
    high = leb→le fault (2 * paths) (and_right (leb 1 fault) (leb fault (2 * paths)) is_within)

    sound : SoundTree tree
    sound = either-sound t.up_sound t.down_sound (edge_of_fault fault)

    answer : (held : Bool) → v.held ≡ held → value (record { held = held; visited = v.visited }) ≡ holds_call tree (path_of_fault fault)
    answer held e =
        ap (λ (x : Bool). value (record { held = x; visited = v.visited })) (sym e)
        ∙ holds-taken tree (path_of_fault fault) sound.long true (sym sound.sound) refl (omega (arith, low)) (omega (arith, high, t.few)) v.held v.visited
        f.held f.visited

    pub asked-visited : (held : Bool) → v.held ≡ held → fault_asked paths up down fault ≡ value (record { held = held; visited = v.visited })
    unfolding fault_asked
    asked-visited held e = let w = sym eb ∙ not-false b n in rw w (sym (answer held e))

pub ruleset fault-cases = (no-fault-zero, fault-within, visited-rising, visited-falling, rules)
