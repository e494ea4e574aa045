-- Cases of the calls: the checks in their order, then the answer.
use Rattle.model.proofs.Prelude.{ℕ, ◌≤◌, ◌<◌, ◌-◌, ◌^◌, ◌≡◌, ◌∙◌, ap, refl, sym, ap₂, true, Bool, false, not, List, [], ◌∷◌, length, get_or, drop, set}
use Rattle.model.proofs.Prelude.{arith, le-leb, lt-leb, not-true, not-false}
use Rattle.model.specs.Base.{Answer, refused, value, ◌then◌, Rule, checks}
use Rattle.model.specs.Runs.{Run, in_runs, size}
use Rattle.tree_words.specs.TreeLayout.{levels_in, root_in, free_in, leaves_at, tree_runs, sound_words_of, total_at_of, space_start_of}
use Rattle.tree_words.specs.Calls.{length_rule, words_rule, number_rule, empty_tree_call, emptied_tree, total_call, holds_call, Asked}
use Rattle.tree_words.specs.Nodes.{SoundTree, Good}
use Rattle.tree_words.specs.Ways.{way_to}
use Rattle.tree_descent.specs.Descent.{VisitTrue}
use Rattle.tree_words.proofs.ChildLaws.{level_up}
use Rattle.tree_words.proofs.WayLaws.{way_long, way-levels}
use Rattle.tree_words.proofs.SepLaws.{good-total}
use Rattle.tree_check.proofs.HeadCases.{words-sound, runs_none, runs-some}

-- ---- the first two rules, before any others

module _ (ws : List ℕ) (rest : List Rule) {A : Type 0} (v : Answer A) where
  pub then-short : length ws < 32768 → refused 87 ≡ (checks (length_rule ws ∷ words_rule ws ∷ rest) then v)
  then-short q = let w = lt-leb 32768 (length ws) q in rw w refl

  module _ (p : 32768 ≤ length ws) where
    pub then-bad : sound_words_of ws ≡ false → refused 88 ≡ (checks (length_rule ws ∷ words_rule ws ∷ rest) then v)
    then-bad q = let w = le-leb 32768 (length ws) p in rw (w, q) refl

    pub then-pass : sound_words_of ws ≡ true → (checks (length_rule ws ∷ words_rule ws ∷ rest) then v) ≡ (checks rest then v)
    then-pass q = let w = le-leb 32768 (length ws) p in rw (w, q) refl

-- ---- emptying

module _ (ws : List ℕ) where
  pub empty-short : length ws < 32768 → refused 87 ≡ empty_tree_call ws
  unfolding empty_tree_call
  empty-short q = let w = lt-leb 32768 (length ws) q in rw w refl

  pub empty-same : length ws < 32768 → ws ≡ emptied_tree ws
  unfolding emptied_tree
  empty-same q = rw (sym (empty-short q)) refl

  pub empty-taken : 32768 ≤ length ws → value tt ≡ empty_tree_call ws
  unfolding empty_tree_call
  empty-taken q = let w = le-leb 32768 (length ws) q in rw w refl

  pub empty-words : 32768 ≤ length ws → set (set (set ws 0 0) 1 0) 2 0 ≡ emptied_tree ws
  unfolding emptied_tree
  empty-words q = first_three ws q ∙ rw (sym (empty-taken q)) refl
    where
      first_three : (l : List ℕ) → 32768 ≤ length l → set (set (set l 0 0) 1 0) 2 0 ≡ 0 ∷ 0 ∷ 0 ∷ drop 3 l
      first_three [] p = absurd (omega arith)
      first_three (a ∷ []) p = absurd (omega arith)
      first_three (a ∷ b ∷ []) p = absurd (omega arith)
      first_three (a ∷ b ∷ c ∷ l) p = refl

-- ---- total

module _ (ws : List ℕ) where
  pub total-short : length ws < 32768 → refused 87 ≡ total_call ws
  unfolding total_call
  total-short q = then-short ws [] (value (size (tree_runs ws))) q

  module _ (p : 32768 ≤ length ws) (t : Bool) (e : t ≡ sound_words_of ws) where
    pub total-bad : not t ≡ true → refused 88 ≡ total_call ws
    unfolding total_call
    total-bad q = then-bad ws [] (value (size (tree_runs ws))) p (sym e ∙ not-true t q)

    pub sound-tree : not t ≡ false → SoundTree ws
    sound-tree q = record { long = p; sound = sym e ∙ not-false t q }

    pub total-taken : not t ≡ false → (r : ℕ) → r ≡ size (tree_runs ws) → value r ≡ total_call ws
    unfolding total_call
    total-taken q r f = ap value f ∙ sym (then-pass ws [] (value (size (tree_runs ws))) p (sym e ∙ not-false t q))

  module _ (s : SoundTree ws) (l : ℕ) (el : l ≡ get_or ws 0 0) where
    pub total-none : l ≡ 0 → 0 ≡ size (tree_runs ws)
    unfolding size
    total-none z = sym (ap size (runs_none ws (sym el ∙ z)))

    module _ (ne : l ≡ 0 → ⊥) where
      ne' : levels_in ws ≡ 0 → ⊥
      ne' y = ne (el ∙ y)

      known : Good ws (space_start_of (root_in ws)) (free_in ws) (levels_in ws - 1) (root_in ws)
      known = (words-sound ws s.sound).good ne'

      module _ (root : ℕ) (er : root ≡ get_or ws 1 0) where
        pub total-some : (r : ℕ) → r ≡ total_at_of ws root → r ≡ size (tree_runs ws)
        total-some r f = f ∙ ap (total_at_of ws) er ∙ good-total known ∙ sym (ap size (runs-some ws ne'))

        pub visit_answer : (k : ℕ) (b : Bool) (n : ℕ) → VisitTrue ws (l - 1) root k b n → b ≡ in_runs (tree_runs ws) k
        visit_answer k b n v =
            v.answer
            ∙ ap₂ (λ (x y : ℕ). in_runs (leaves_at ws (x - 1) y) k) el er
            ∙ sym (ap (λ (rs : List Run). in_runs rs k) (runs-some ws ne'))

        pub visit_way : (k : ℕ) (b : Bool) (n : ℕ) → VisitTrue ws (l - 1) root k b n → n ≡ length (way_to ws k)
        visit_way k b n v = omega (arith, v.way, way_long ws (l - 1) root k, way-levels ws k, el, level_up l ne)

    pub visit_nothing : (k : ℕ) → l ≡ 0 → false ≡ in_runs (tree_runs ws) k
    unfolding in_runs
    visit_nothing k z = sym (ap (λ (rs : List Run). in_runs rs k) (runs_none ws (sym el ∙ z)))

    pub visit_zero : (k : ℕ) → l ≡ 0 → 0 ≡ length (way_to ws k)
    visit_zero k z = omega (arith, el, way-levels ws k)

-- ---- asking

module _ (ws : List ℕ) (k : ℕ) where
  asked : Asked
  asked = record { held = in_runs (tree_runs ws) k; visited = length (way_to ws k) }

  pub holds-short : length ws < 32768 → refused 87 ≡ holds_call ws k
  unfolding holds_call asked
  holds-short q = then-short ws (number_rule k ∷ []) (value asked) q

  module _ (p : 32768 ≤ length ws) (t : Bool) (e : t ≡ sound_words_of ws) where
    pub holds-bad : not t ≡ true → refused 88 ≡ holds_call ws k
    unfolding holds_call asked
    holds-bad q = then-bad ws (number_rule k ∷ []) (value asked) p (sym e ∙ not-true t q)

    module _ (q : not t ≡ false) where
      passed : holds_call ws k ≡ (checks (number_rule k ∷ []) then value asked)
      unfolding holds_call asked
      passed = then-pass ws (number_rule k ∷ []) (value asked) p (sym e ∙ not-false t q)

      pub holds-zero : k < 1 → refused 60 ≡ holds_call ws k
      holds-zero z = let w = lt-leb 1 k z in sym (passed ∙ rw w refl)

      module _ (one : 1 ≤ k) where
        pub holds-high : 2 ^ 62 < k → refused 60 ≡ holds_call ws k
        holds-high z = let w = le-leb 1 k one in let v = lt-leb k (2 ^ 62) z in sym (passed ∙ rw (w, v) refl)

        module _ (high : k ≤ 2 ^ 62) (b : Bool) (n : ℕ) (eb : b ≡ in_runs (tree_runs ws) k) (en : n ≡ length (way_to ws k)) where
          pub holds-taken : value (record { held = b; visited = n }) ≡ holds_call ws k
          unfolding asked
          holds-taken =
              let w = le-leb 1 k one in
              let v = le-leb k (2 ^ 62) high in
              sym (passed ∙ rw (w, v) (λ i. value (record { held = sym eb i; visited = sym en i })))
