-- What an answer tells of the tree: the nodes visited are its levels, 0 for an empty tree and else at most 1 plus the greatest w with 2^w at most
-- the runs held; all its leaves lie equally deep, inner nodes have two or three children, and what is recorded at a node is true of its leaves.
use Rattle.model.proofs.Prelude.{ℕ, ◌≤◌, ◌<◌, ◌+◌, ◌-◌, suc, ◌^◌, ◌≡◌, ◌∙◌, ap, sym, subst, ⊎_elim, true, List, [], ◌∷◌, length, get_or, arith}
use lib.Pow.{pow_pos}
use Rattle.model.specs.Base.{value, ◌then◌, Rule, checks}
use Rattle.model.specs.Runs.{Run, in_run, in_runs}
use Rattle.model.proofs.AnswerLaws.{then-first, then-second, value_inj, checks→}
use Rattle.model.proofs.BoolLaws.{le_or_lt, T→true}
use Rattle.tree_words.specs.TreeShape.{Levels}
use Rattle.tree_words.specs.TreeLayout.{levels_in, root_in, free_in, space_start_of, run_in_of, leaves_at, tree_at, tree_runs, sound_words_of}
use Rattle.tree_words.specs.Ways.{way_to}
use Rattle.tree_words.specs.Nodes.{Good}
use Rattle.tree_words.specs.Calls.{Asked, holds_call, length_rule, words_rule, number_rule}
use Rattle.tree_words.proofs.ChildLaws.{many}
use Rattle.tree_words.proofs.WayLaws.{way-levels, leaf-root}
use Rattle.tree_descent.proofs.VisitCases.{leaf-answers}
use Rattle.tree_check.proofs.HeadCases.{words-sound, runs-some}
use Rattle.tree_check.proofs.TreeLaws.{levels-few, good-levels}

module _ (ws : List ℕ) (k : ℕ) (a : Asked) (e : holds_call ws k ≡ value a) where
  abbrev rules : List Rule
  rules = length_rule ws ∷ words_rule ws ∷ number_rule k ∷ []

  abbrev asked : Asked
  asked = record { held = in_runs (tree_runs ws) k; visited = length (way_to ws k) }

  is : (checks rules then value asked) ≡ value a
  unfolding holds_call
  is = e

  sound : sound_words_of ws ≡ true
  sound = T→true (sound_words_of ws) (checks→ rules (then-first (checks rules) (value asked) is)).1.0

  same : asked ≡ a
  same = value_inj (then-second (checks rules) (value asked) is)

  pub held_in : a.held ≡ in_runs (tree_runs ws) k
  held_in = sym (ap (λ (x : Asked). x.held) same)

  pub visited-way : a.visited ≡ length (way_to ws k)
  visited-way = sym (ap (λ (x : Asked). x.visited) same)

  pub visited-levels : a.visited ≡ levels_in ws
  visited-levels = visited-way ∙ way-levels ws k

  pub visited-leaf : (h : ℕ) → levels_in ws ≡ suc h → a.held ≡ in_run (run_in_of ws (get_or (way_to ws k) h 0)) k
  visited-leaf h l =
      let ne : levels_in ws ≡ 0 → ⊥ = λ y. omega arith in
      let down : levels_in ws - 1 ≡ h = omega arith in
      let good = subst (λ (x : ℕ). Good ws (space_start_of (root_in ws)) (free_in ws) x (root_in ws)) down ((words-sound ws sound).good ne) in
      held_in
      ∙ ap (λ (rs : List Run). in_runs rs k) (runs-some ws ne ∙ ap (λ (x : ℕ). leaves_at ws x (root_in ws)) down)
      ∙ leaf-answers h (root_in ws) k good
      ∙ sym (ap (λ (x : ℕ). in_run (run_in_of ws x) k) (leaf-root ws k h l))

  pub visited-none : tree_runs ws ≡ [] → a.visited ≡ 0
  visited-none n =
      ⊎_elim
      (λ (z : levels_in ws ≤ 0). omega (arith, visited-levels))
      (λ (z : 0 < levels_in ws).
      let ne : levels_in ws ≡ 0 → ⊥ = λ y. omega arith in
      let m = many ((words-sound ws sound).good ne) in
      let l = ap length (sym (runs-some ws ne) ∙ n) in
      absurd (omega (arith, m, l, pow_pos (levels_in ws - 1))))
      (le_or_lt (levels_in ws) 0)

  pub visited-few : (w : ℕ) → length (tree_runs ws) < 2 ^ suc w → a.visited ≤ 1 + w
  visited-few w q = omega (arith, visited-levels, levels-few ws sound w q)

  -- the tree itself, `h` levels above its leaves
  pub tree-true : (h : ℕ) → levels_in ws ≡ suc h → Levels (suc h) (tree_at ws h (root_in ws))
  tree-true h l =
      let ne : levels_in ws ≡ 0 → ⊥ = λ y. omega arith in
      let down : levels_in ws - 1 ≡ h = omega arith in
      subst (λ (x : ℕ). Levels (suc x) (tree_at ws x (root_in ws))) down (good-levels ws (levels_in ws - 1) (root_in ws) ((words-sound ws sound).good ne))
