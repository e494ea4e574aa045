-- Steps of `copy`: the words are those with the runs copied so far written.
use Rattle.model.proofs.Prelude.{ℕ, ◌≤◌, ◌+◌, ◌*◌, suc, ◌≡◌, ◌∙◌, ap, sym, List, get_or, set, arith}
use Rattle.model.specs.Runs.{Run}
use Rattle.run_lists.specs.RunLists.{run_at, runs_in_words, write_runs_of}
use Rattle.run_lists.proofs.RunWordLaws.{length_runs, runs-snoc}
use Rattle.run_union.proofs.RunWriteLaws.{write_runs-snoc}

module _ (src ws₀ ws : List ℕ) (from start k : ℕ) (so_far : ws ≡ write_runs_of ws₀ start (runs_in_words src from k)) where
  pub copy_more : set (set ws (2 * (start + k)) (get_or src (2 * (from + k)) 0)) (2 * (start + k) + 1) (get_or src (2 * (from + k) + 1) 0)
      ≡ write_runs_of ws₀ start (runs_in_words src from (k + 1))
  copy_more =
      let e : k + 1 ≡ suc k = omega arith in
      rw so_far
      (sym
      (ap (λ (n : ℕ). write_runs_of ws₀ start (runs_in_words src from n)) e
      ∙ ap (λ (s : List Run). write_runs_of ws₀ start s) (runs-snoc src from k)
      ∙ write_runs-snoc ws₀ start (start + k) (runs_in_words src from k) (run_at src (from + k)) (rw (length_runs src from k))))

  pub copy_end : (n : ℕ) → k ≤ n → n ≤ k → ws ≡ write_runs_of ws₀ start (runs_in_words src from n)
  copy_end n p q = let e : k ≡ n = omega arith in so_far ∙ ap (λ (m : ℕ). write_runs_of ws₀ start (runs_in_words src from m)) e
