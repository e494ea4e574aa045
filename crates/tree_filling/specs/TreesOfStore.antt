-- A tree for each edge, filled with the runs of a store: its leaves are the store's runs for the same faults.
-- Names: netlist and store are the bytes and words handed over; up and down are the words of the trees of rising and of falling faults, up' and
-- down' the same afterwards.
use Rattle.std.specs.Prelude.{◌≡◌, List, [], ◌∷◌, ℕ, ◌/◌, ◌^◌, ◌≤◌, length}
use Rattle.model.specs.Base.{Answer, value, ◌into◌, ◌then◌, checks}
use Rattle.model.specs.Netlist.{path_total}
use Rattle.model.specs.Path.{rising, falling}
use Rattle.model.specs.Read.{read_netlist}
use Rattle.model.specs.Store.{place_words, store_runs, store_rules}
use Rattle.model.specs.Calls.{store_rule}
use Rattle.run_lists.specs.RunLists.{runs_in_words}
use Rattle.tree_words.specs.TreeLayout.{tree_words_count}
use Rattle.tree_words.specs.Calls.{length_rule, Holding}
use Rattle.tree_words.specs.Nodes.{Sep, SoundTree}
use Rattle.std.specs.Prelude.{Result}
use Rattle.model.specs.declared.Refusal.{Refusal}
use Rattle.model.specs.Returned.{answer_of}

-- the call once lent memory and netlist are passed, for path numbers 1 to `paths`
unfoldable pub fill_on : ℕ → List ℕ → Answer ℕ
fill_on paths store = checks (store_rules paths store) then value paths

-- The call: 1, 87 of either tree, the netlist, 40 to 42; its value is the number of paths
unfoldable pub fill_call : List ℕ → List ℕ → List ℕ → List ℕ → Answer ℕ
fill_call netlist store up down =
    checks (store_rule store ∷ length_rule up ∷ length_rule down ∷ [])
    then read_netlist netlist
    into λ N. fill_on (path_total N) store

-- what a call answers, and what it leaves in each tree's words: a tree whose leaves are the store's runs of its edge; a refusal leaves the words
pub record FilledBy (call : Answer ℕ) (r : Result ℕ Refusal) (store up up' down down' : List ℕ) : Type 0 where
  pub answer : answer_of r ≡ call
  pub on_rising : Holding (call then value (store_runs store rising)) up up'
  pub on_falling : Holding (call then value (store_runs store falling)) down down'

-- Filling: its answer and what it leaves are those of the call
abbrev pub FillTrue : Result ℕ Refusal → List ℕ → List ℕ → List ℕ → List ℕ → List ℕ → List ℕ → Type 0
FillTrue r netlist store up up' down down' = FilledBy (fill_call netlist store up down) r store up up' down down'

-- Trees that are asked without another check: sound words, and path numbers up to 2^62
pub record TreesReady (paths : ℕ) (up down : List ℕ) : Type 0 where
  pub few : paths ≤ 2 ^ 62
  pub up_sound : SoundTree up
  pub down_sound : SoundTree down

-- runs in words, two for each, that a tree's words have places for
pub record Fillable (runs ws : List ℕ) : Type 0 where
  pub apart : Sep (runs_in_words runs 0 (length runs / 2))
  pub few : length runs ≤ place_words
  pub long : tree_words_count ≤ length ws
