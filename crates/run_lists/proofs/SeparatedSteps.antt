-- Steps of `separated`: the list is separated as what is left of it is, from the least low that may follow.
use Rattle.model.proofs.Prelude.{ℕ, ◌≤◌, ◌<◌, ◌+◌, ◌-◌, ◌*◌, ◌≡◌, ◌∙◌, ap, refl, sym, true, false, and-false, List, [], ◌∷◌, get_or, arith, le-leb}
use Rattle.model.proofs.Prelude.{lt-leb}
use Rattle.model.specs.Runs.{Run, separated_runs_of}
use Rattle.run_lists.specs.RunLists.{run_at, runs_in_words}
use Rattle.run_lists.proofs.RunWordLaws.{runs-next}

module _ (n least : ℕ) (r : Run) (rs : List Run) where
  first_passes : least ≤ r.low → r.low ≤ r.high → r.high ≤ n → separated_runs_of n least (r ∷ rs) ≡ separated_runs_of n (r.high + 2) rs
  unfolding separated_runs_of
  first_passes p q t = rw (le-leb least r.low p, le-leb r.low r.high q, le-leb r.high n t)

  first-low : r.low < least → separated_runs_of n least (r ∷ rs) ≡ false
  unfolding separated_runs_of
  first-low p = rw (lt-leb least r.low p)

  first-empty : r.high < r.low → separated_runs_of n least (r ∷ rs) ≡ false
  unfolding separated_runs_of
  first-empty p = rw (lt-leb r.low r.high p, and-false)

  first-high : n < r.high → separated_runs_of n least (r ∷ rs) ≡ false
  unfolding separated_runs_of
  first-high p = rw (lt-leb r.high n p, and-false)

none_left : (n least : ℕ) → separated_runs_of n least [] ≡ true
unfolding separated_runs_of
none_left n least = refl

module _ (ws : List ℕ) (from to limit i least : ℕ)
    (so_far : separated_runs_of limit 1 (runs_in_words ws from (to - from)) ≡ separated_runs_of limit least (runs_in_words ws i (to - i))) where
  pub separated_end : to ≤ i → true ≡ separated_runs_of limit 1 (runs_in_words ws from (to - from))
  separated_end h =
      let z : to - i ≡ 0 = omega arith in
      sym (so_far ∙ ap (λ (n : ℕ). separated_runs_of limit least (runs_in_words ws i n)) z ∙ none_left limit least)

  module _ (lt : i < to) where
    rest : List Run
    rest = runs_in_words ws (i + 1) (to - (i + 1))

    now-left : separated_runs_of limit 1 (runs_in_words ws from (to - from)) ≡ separated_runs_of limit least (run_at ws i ∷ rest)
    unfolding rest
    now-left = so_far ∙ ap (λ (s : List Run). separated_runs_of limit least s) (runs-next ws i to lt)

    pub separated_low : get_or ws (2 * i) 0 < least → false ≡ separated_runs_of limit 1 (runs_in_words ws from (to - from))
    separated_low h = sym (now-left ∙ first-low limit least (run_at ws i) rest h)

    pub separated_empty : get_or ws (2 * i + 1) 0 < get_or ws (2 * i) 0 → false ≡ separated_runs_of limit 1 (runs_in_words ws from (to - from))
    separated_empty h = sym (now-left ∙ first-empty limit least (run_at ws i) rest h)

    pub separated_high : limit < get_or ws (2 * i + 1) 0 → false ≡ separated_runs_of limit 1 (runs_in_words ws from (to - from))
    separated_high h = sym (now-left ∙ first-high limit least (run_at ws i) rest h)

    pub separated_next : least ≤ get_or ws (2 * i) 0 → get_or ws (2 * i) 0 ≤ get_or ws (2 * i + 1) 0 → get_or ws (2 * i + 1) 0 ≤ limit
        → separated_runs_of limit 1 (runs_in_words ws from (to - from)) ≡ separated_runs_of limit (get_or ws (2 * i + 1) 0 + 2) (runs_in_words ws (i + 1) (to - (i + 1)))
    unfolding rest
    separated_next p q t = now-left ∙ first_passes limit least (run_at ws i) rest p q t
