-- A tree filled run by run: after each step its leaves are the runs so far, and no word past the tree's is written.
use Rattle.model.proofs.Prelude.{ℕ, ◌≤◌, ◌<◌, ◌+◌, ◌-◌, ◌*◌, suc, ◌^◌, zero, ◌/◌, ◌≡◌, ◌∙◌, ap, refl, sym, subst, List, [], ◌∷◌}
use Rattle.model.proofs.Prelude.{◌++◌, length, get_or}
use Rattle.model.proofs.Prelude.{drop, length-drop, get_or-drop, add-one, arith, rules}
use Rattle.model.specs.Base.{value}
use Rattle.model.specs.Runs.{Run}
use Rattle.model.proofs.AnswerLaws.{value_inj, not_refused}
use Rattle.run_lists.specs.RunLists.{run_at, runs_in_words}
use Rattle.run_lists.proofs.RunWordLaws.{length_runs, runs-snoc}
use Rattle.run_lists.proofs.RunCutLaws.{runs-add, sound-left}
use Rattle.tree_words.specs.TreeLayout.{tree_words_count, tree_runs}
use Rattle.tree_words.specs.Calls.{run_of, runs_with, emptied_tree, Holding}
use Rattle.tree_words.specs.Nodes.{Sep}
use Rattle.tree_words.proofs.SepLaws.{sep-right}
use Rattle.tree_change.specs.Changing.{Inserts, Rebuilt}
use Rattle.tree.proofs.ChangeCallCases.{past_words}
use Rattle.tree.proofs.FilledLaws.{Has, next-run, emptied-is, emptied-holds}
use Rattle.tree_filling.specs.TreesOfStore.{Fillable}

-- ---- the emptied tree

head-past : (ws : List ℕ) (j : ℕ) → tree_words_count ≤ j → get_or (0 ∷ 0 ∷ 0 ∷ drop 3 ws) j 0 ≡ get_or ws j 0
head-past ws zero h = absurd (omega arith)
head-past ws (suc zero) h = absurd (omega arith)
head-past ws (suc (suc zero)) h = absurd (omega arith)
head-past ws (suc (suc (suc j))) h =
    let at : 3 + j ≡ suc (suc (suc j)) = omega arith in
    get_or-drop 3 ws j 0 ∙ ap (λ (k : ℕ). get_or ws k 0) at

module _ (ws ws₁ : List ℕ) (p : tree_words_count ≤ length ws) (e : ws₁ ≡ emptied_tree ws) where
  is-head : ws₁ ≡ 0 ∷ 0 ∷ 0 ∷ drop 3 ws
  is-head = e ∙ emptied-is ws p

  emptied-length : length ws₁ ≡ length ws
  emptied-length =
      let l = ap length is-head in
      omega (arith, p, l, length-drop 3 ws)

  emptied-past : (j : ℕ) → tree_words_count ≤ j → get_or ws₁ j 0 ≡ get_or ws j 0
  emptied-past j h = ap (λ (l : List ℕ). get_or l j 0) is-head ∙ head-past ws j h

  emptied-has : Has ws₁ []
  emptied-has = subst (λ (l : List ℕ). Has l []) (sym e) (emptied-holds ws p)

-- ---- some runs inserted

module _ (part ws₁ : List ℕ) (n : ℕ) where
  pub record FillingTree (ws : List ℕ) (i : ℕ) : Type 0 where
    pub within : i ≤ n
    pub sized : length ws ≡ length ws₁
    pub past : (j : ℕ) → tree_words_count ≤ j → get_or ws j 0 ≡ get_or ws₁ j 0
    pub has : Has ws (runs_in_words part 0 i)

pub fill_start : (part ws ws₁ : List ℕ) (n : ℕ) → Fillable part ws → ws₁ ≡ emptied_tree ws → FillingTree part ws₁ n ws₁ 0
fill_start part ws ws₁ n f e = record { within = omega arith; sized = refl; past = λ j h. refl; has = emptied-has ws ws₁ f.long e }

module _ (part ws₀ ws₁ ws : List ℕ) (n i : ℕ) (f : Fillable part ws₀) (en : n ≡ length part / 2) (g : FillingTree part ws₁ n ws i) (h : i < n) where
  abbrev here : Run
  here = run_of (get_or part (2 * i) 0) (get_or part (2 * i + 1) 0)

  abbrev before : List Run
  before = runs_in_words part 0 i

  next-is : runs_in_words part 0 (i + 1) ≡ before ++ (here ∷ [])
  next-is =
      let at : 0 + i ≡ i = omega arith in
      ap (λ (k : ℕ). runs_in_words part 0 k) (add-one i)
      ∙ runs-snoc part 0 i
      ∙ ap (λ (k : ℕ). before ++ (run_at part k ∷ [])) at

  abbrev rest : List Run
  rest = runs_in_words part (0 + (i + 1)) (n - (i + 1))

  whole_is : runs_in_words part 0 (length part / 2) ≡ (before ++ (here ∷ [])) ++ rest
  whole_is =
      let all : length part / 2 ≡ (i + 1) + (n - (i + 1)) = omega (arith, en, h) in
      ap (λ (k : ℕ). runs_in_words part 0 k) all
      ∙ runs-add part 0 (i + 1) (n - (i + 1))
      ∙ ap (λ (l : List Run). l ++ rest) next-is

  apart : Sep (before ++ (here ∷ []))
  apart = sound-left 1 (2 ^ 62) (before ++ (here ∷ [])) rest (subst (λ (l : List Run). Sep l) whole_is f.apart)

  with-is : runs_with (tree_runs ws) here ≡ before ++ (here ∷ [])
  with-is = ap (λ (l : List Run). runs_with l here) g.has.runs ∙ next-run before here apart

  many : length (runs_with (tree_runs ws) here) ≡ i + 1
  many = ap length (with-is ∙ sym next-is) ∙ length_runs part 0 (i + 1)

  pub fill_inserts : Inserts ws (get_or part (2 * i) 0) (get_or part (2 * i + 1) 0)
  fill_inserts =
      let own = sep-right (2 ^ 62) 1 before (here ∷ []) (omega arith) apart in
      record {
        tree = record { long = g.has.long; sound = g.has.sound };
        least = own.0;
        order = own.1;
        most = own.2;
        few = omega (arith, many, en, h, f.few);
      }

  pub fill_next : (ws' : List ℕ) → Rebuilt ws ws' (runs_with (tree_runs ws) (run_of (get_or part (2 * i) 0) (get_or part (2 * i + 1) 0)))
      → FillingTree part ws₁ n ws' (i + 1)
  fill_next ws' b = record {
    within = omega arith;
    sized = b.sized ∙ g.sized;
    past = λ j p. b.past j p ∙ g.past j p;
    has = record { long = omega (arith, g.has.long, b.sized); sound = b.sound; runs = b.runs ∙ with-is ∙ sym next-is };
  }

pub fill_done : (part ws ws₁ ws' : List ℕ) (n i : ℕ) → Fillable part ws → ws₁ ≡ emptied_tree ws → n ≡ length part / 2 → FillingTree part ws₁ n ws' i → n ≤ i
    → Holding (value (runs_in_words part 0 (length part / 2))) ws ws'
fill_done part ws ws₁ ws' n i f e en g h =
    let all : i ≡ length part / 2 = omega (arith, g.within) in
    let long = g.sized ∙ emptied-length ws ws₁ f.long e in
    record {
      same_length_of = long;
      past = past_words ws ws' long (λ j p. g.past j p ∙ emptied-past ws ws₁ f.long e j p);
      sound = λ rs q. g.has.sound;
      held = λ rs q. g.has.runs ∙ ap (λ (k : ℕ). runs_in_words part 0 k) all ∙ value_inj q;
      refusal = λ k q. absurd (not_refused (sym q));
    }

pub ruleset fill-cases = (fill_start, fill_inserts, fill_next, fill_done, rules)
