-- The place into whose count a number falls, and the counts before a place, found one place at a time.
use Rattle.model.proofs.Prelude.{ℕ, ◌≤◌, ◌<◌, ◌+◌, ◌-◌, suc, ◌≡◌, ◌∙◌, ap, refl, sym, subst, List, ◌∷◌, length, get_or, drop, drop_of_length-le}
use Rattle.model.proofs.Prelude.{drop-cons, add-one, arith}
use Rattle.model.specs.Base.{sum_of}
use Rattle.model.specs.Path.{split, counts_before}
use Rattle.model.proofs.NumberLaws.{split-here, split-there, counts_before-suc, counts_before-le, counts_before-all}

-- Of number `i` among the counts `xs`, `rest` is left after the first `k` places
pub record Passed (xs : List ℕ) (i k rest : ℕ) : Type 0 where
  pub place_is : (split xs i).0 ≡ k + (split (drop k xs) rest).0
  pub number_is : (split xs i).1 ≡ (split (drop k xs) rest).1
  pub small : rest ≤ sum_of (drop k xs)

pub passed_none : (xs : List ℕ) (i : ℕ) → i ≤ sum_of xs → Passed xs i 0 i
passed_none xs i h = record { place_is = omega arith; number_is = refl; small = h }

-- the number falls into the count of place `k`
pub record FallsAt (xs : List ℕ) (i k rest : ℕ) : Type 0 where
  pub place_is : k ≡ (split xs i).0
  pub number_is : rest ≡ (split xs i).1

module _ (xs : List ℕ) (i k rest : ℕ) (there : k < length xs) (p : Passed xs i k rest) where
  ahead : drop k xs ≡ get_or xs k 0 ∷ drop (k + 1) xs
  ahead = drop-cons xs k 0 there ∙ ap (λ j. get_or xs k 0 ∷ drop j xs) (sym (add-one k))

  among : rest ≤ sum_of (get_or xs k 0 ∷ drop (k + 1) xs)
  among = subst (λ (x : List ℕ). rest ≤ sum_of x) ahead p.small

  pub passed_here : rest ≤ get_or xs k 0 → FallsAt xs i k rest
  passed_here h =
      let z : split (drop k xs) rest ≡ (0, rest) = ap (λ (x : List ℕ). split x rest) ahead ∙ split-here (get_or xs k 0) (drop (k + 1) xs) rest h in
      record {
        place_is = omega (arith, p.place_is, ap (λ (x : ℕ × ℕ). x.0) z);
        number_is = sym (p.number_is ∙ ap (λ (x : ℕ × ℕ). x.1) z);
      }

  pub passed-last : length xs ≤ k + 1 → FallsAt xs i k rest
  passed-last h = passed_here (omega (arith, among, ap sum_of (drop_of_length-le xs h)))

  pub passed_on : get_or xs k 0 < rest → Passed xs i (k + 1) (rest - get_or xs k 0)
  passed_on h =
      let others = drop (k + 1) xs in
      let left = rest - get_or xs k 0 in
      let z : split (drop k xs) rest ≡ (suc (split others left).0, (split others left).1) =
      ap (λ (x : List ℕ). split x rest) ahead ∙ split-there (get_or xs k 0) others rest h in
      record {
        place_is = omega (arith, p.place_is, ap (λ (x : ℕ × ℕ). x.0) z);
        number_is = p.number_is ∙ ap (λ (x : ℕ × ℕ). x.1) z;
        small = omega (arith, among);
      }

-- the counts before the next place
pub before-next : (xs : List ℕ) (k : ℕ) → k < length xs → counts_before (k + 1) xs ≡ counts_before k xs + get_or xs k 0
before-next xs k h = ap (λ j. counts_before j xs) (add-one k) ∙ counts_before-suc xs k h

pub before_small : (xs : List ℕ) (k : ℕ) → k < length xs → counts_before k xs + get_or xs k 0 ≤ sum_of xs
before_small xs k h = omega (arith, counts_before-le xs k h)

pub before-whole : (xs : List ℕ) (k : ℕ) → k ≡ length xs → counts_before k xs ≡ sum_of xs
before-whole xs k e = ap (λ j. counts_before j xs) e ∙ counts_before-all xs
