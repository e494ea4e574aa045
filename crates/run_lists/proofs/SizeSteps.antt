-- Steps of `size`: the sum so far and the size of what is left are the whole, and the whole is at most 2^62.
use Rattle.model.proofs.Prelude.{ℕ, ◌≤◌, ◌<◌, ◌+◌, ◌-◌, ◌*◌, ◌^◌, ◌≡◌, ◌∙◌, ap, refl, List, [], ◌∷◌, get_or, arith}
use Rattle.std.proofs.Common.{w64, Fits}
use Rattle.model.specs.Runs.{Run, size}
use Rattle.run_lists.specs.RunLists.{Sound, run_at, runs_in_words}
use Rattle.run_lists.proofs.MemberLaws.{size-le}
use Rattle.run_lists.proofs.RunWordLaws.{runs-next, sound-at}

size_none : size [] ≡ 0
unfolding size
size_none = refl

size-cons : (r : Run) (rs : List Run) → size (r ∷ rs) ≡ r.high + 1 - r.low + size rs
unfolding size
size-cons r rs = omega arith

module _ (ws : List ℕ) (from to i sum : ℕ) (so_far : sum + size (runs_in_words ws i (to - i)) ≡ size (runs_in_words ws from (to - from))) where
  pub size-end : to ≤ i → sum ≡ size (runs_in_words ws from (to - from))
  size-end h =
      let z : to - i ≡ 0 = omega arith in
      let e : size (runs_in_words ws i (to - i)) ≡ 0 = ap (λ (n : ℕ). size (runs_in_words ws i n)) z ∙ size_none in
      omega arith

  module _ (sound : Sound (2 ^ 62) (runs_in_words ws from (to - from))) (begun : from ≤ i) (lt : i < to) where
    pub size-order : get_or ws (2 * i) 0 ≤ get_or ws (2 * i + 1) 0
    size-order = (sound-at (2 ^ 62) ws from to i sound begun lt).order

    pub size-next : sum + (get_or ws (2 * i + 1) 0 - get_or ws (2 * i) 0 + 1) + size (runs_in_words ws (i + 1) (to - (i + 1))) ≡ size (runs_in_words ws from (to - from))
    size-next =
        let e : size (runs_in_words ws i (to - i)) ≡ get_or ws (2 * i + 1) 0 + 1 - get_or ws (2 * i) 0 + size (runs_in_words ws (i + 1) (to - (i + 1))) =
        ap size (runs-next ws i to lt) ∙ size-cons (run_at ws i) (runs_in_words ws (i + 1) (to - (i + 1))) in
        omega (arith, size-order)

    pub size-sum : Fits w64 (sum + (get_or ws (2 * i + 1) 0 - get_or ws (2 * i) 0 + 1))
    size-sum = omega (arith, size-next, size-le 1 (2 ^ 62) (runs_in_words ws from (to - from)) sound)

    pub size-one : Fits w64 (get_or ws (2 * i + 1) 0 - get_or ws (2 * i) 0 + 1)
    size-one = omega (arith, size-next, size-le 1 (2 ^ 62) (runs_in_words ws from (to - from)) sound)
