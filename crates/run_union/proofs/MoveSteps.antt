-- Steps of `move_down` and `move_up`: the words are those with the runs moved so far written, and the others are read as they were.
use Rattle.model.proofs.Prelude.{ℕ, ◌≤◌, ◌<◌, ◌+◌, ◌-◌, ◌*◌, suc, ◌≡◌, ◌∙◌, ap, refl, sym, ap₂, List, ◌∷◌, length, get_or, set, length-set, arith}
use Rattle.model.specs.Runs.{Run}
use Rattle.run_lists.specs.RunLists.{run_at, runs_in_words, write_runs_of}
use Rattle.run_lists.proofs.RunWordLaws.{length_runs}
use Rattle.run_union.proofs.RunWriteLaws.{get_d-write_runs, get_d_after, set-write_runs, write_runs-self}
use Rattle.run_union.proofs.CopySteps.{copy_more}

-- the words with the run at run place `i` moved to run place `j`
abbrev pub moved : List ℕ → ℕ → ℕ → List ℕ
moved ws i j = set (set ws (2 * j) (get_or ws (2 * i) 0)) (2 * j + 1) (get_or ws (2 * i + 1) 0)

module _ (ws₀ ws : List ℕ) (from to k : ℕ) (lower : to ≤ from) (so_far : ws ≡ write_runs_of ws₀ to (runs_in_words ws₀ from k)) where
  word_after : (j : ℕ) → 2 * (from + k) ≤ j → get_or ws j 0 ≡ get_or ws₀ j 0
  word_after j h =
      ap (λ (l : List ℕ). get_or l j 0) so_far
      ∙ get_d_after ws₀ to j (runs_in_words ws₀ from k) (omega (arith, length_runs ws₀ from k))

  pub down-more : moved ws (from + k) (to + k) ≡ write_runs_of ws₀ to (runs_in_words ws₀ from (k + 1))
  down-more =
      ap₂ (λ (x y : ℕ). set (set ws (2 * (to + k)) x) (2 * (to + k) + 1) y) (word_after (2 * (from + k)) (omega arith)) (word_after (2 * (from + k) + 1) (omega arith))
      ∙ copy_more ws₀ ws₀ ws from to k so_far

-- the runs from the last down to run `k` are written, and the words are as long as they were
pub record MovedFrom (ws₀ : List ℕ) (from count to : ℕ) (ws : List ℕ) (k : ℕ) : Type 0 where
  pub within : k ≤ count
  pub same_length_of : length ws ≡ length ws₀
  pub written : ws ≡ write_runs_of ws₀ (to + k) (runs_in_words ws₀ (from + k) (count - k))

pub up_start : (ws : List ℕ) (from count to : ℕ) → MovedFrom ws from count to ws count
up_start ws from count to =
    let z : count - count ≡ 0 = omega arith in
    record { within = omega arith; same_length_of = refl; written = sym (ap (λ (n : ℕ). write_runs_of ws (to + count) (runs_in_words ws (from + count) n)) z) }

module _ {ws₀ ws : List ℕ} {from count to k : ℕ} (now : MovedFrom ws₀ from count to ws k) where
  pub up-end : k ≤ 0 → ws ≡ write_runs_of ws₀ to (runs_in_words ws₀ from count)
  up-end h =
      let t : to + k ≡ to = omega arith in
      let f : from + k ≡ from = omega arith in
      let n : count - k ≡ count = omega arith in
      now.written ∙ ap₂ (λ (i : ℕ) (s : List Run). write_runs_of ws₀ i s) t (ap₂ (λ (i m : ℕ). runs_in_words ws₀ i m) f n)

  rest : List Run
  rest = runs_in_words ws₀ (from + k) (count - k)

  module _ (higher : from ≤ to) (j : ℕ) (next : k ≡ j + 1) where
    word-before : (m : ℕ) → m < 2 * (to + k) → get_or ws m 0 ≡ get_or ws₀ m 0
    unfolding rest
    word-before m h = ap (λ (l : List ℕ). get_or l m 0) now.written ∙ get_d-write_runs ws₀ (to + k) m rest h

    one_more : runs_in_words ws₀ (from + j) (count - j) ≡ run_at ws₀ (from + j) ∷ rest
    unfolding rest
    one_more =
        let n : count - j ≡ suc (count - k) = omega (arith, now.within) in
        let f : from + j + 1 ≡ from + k = omega arith in
        ap (λ (m : ℕ). runs_in_words ws₀ (from + j) m) n ∙ ap (λ (i : ℕ). run_at ws₀ (from + j) ∷ runs_in_words ws₀ i (count - k)) f

    pub up_more : MovedFrom ws₀ from count to (moved ws (from + j) (to + j)) j
    unfolding rest
    up_more =
        let t : to + k ≡ to + j + 1 = omega arith in
        let low : ℕ = get_or ws₀ (2 * (from + j)) 0 in
        let high : ℕ = get_or ws₀ (2 * (from + j) + 1) 0 in
        record {
          within = omega (arith, now.within);
          same_length_of = simp length-set now.same_length_of;
          written =
              ap₂ (λ (x y : ℕ). set (set ws (2 * (to + j)) x) (2 * (to + j) + 1) y) (word-before (2 * (from + j)) (omega arith)) (word-before (2 * (from + j) + 1) (omega arith))
              ∙ ap (λ (l : List ℕ). set (set l (2 * (to + j)) low) (2 * (to + j) + 1) high) now.written
              ∙ ap (λ (l : List ℕ). set l (2 * (to + j) + 1) high) (set-write_runs ws₀ (to + k) (2 * (to + j)) low rest (omega arith))
              ∙ set-write_runs (set ws₀ (2 * (to + j)) low) (to + k) (2 * (to + j) + 1) high rest (omega arith)
              ∙ ap (λ (i : ℕ). write_runs_of (set (set ws₀ (2 * (to + j)) low) (2 * (to + j) + 1) high) i rest) t
              ∙ ap (λ (s : List Run). write_runs_of ws₀ (to + j) s) (sym one_more);
        }

-- runs that stay where they are
pub not_moved : (ws : List ℕ) (from count to : ℕ) → from ≤ to → to ≤ from → ws ≡ write_runs_of ws to (runs_in_words ws from count)
not_moved ws from count to h l =
    let e : from ≡ to = omega arith in
    sym (ap (λ (i : ℕ). write_runs_of ws to (runs_in_words ws i count)) e ∙ write_runs-self ws to count)
