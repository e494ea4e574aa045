-- The cases of judging a list of places: the places that are left, with the least that the next may be, are judged as the whole list is.
use Rattle.model.proofs.Prelude.{ℕ, ◌≤◌, ◌<◌, ◌+◌, suc, ◌≡◌, ◌∙◌, ap, refl, sym, true, false, List, [], ◌∷◌, length, get_or, drop, drop_of_length-le}
use Rattle.model.proofs.Prelude.{drop-cons, add-one, arith, rules, le-leb, lt-leb, lt-ltb, le-ltb}
use Rattle.viewer_places.specs.Viewer.{ascending_places, places_fit_of}

pub record Judged (n : ℕ) (places : List ℕ) (i least : ℕ) : Type 0 where
  pub some : 1 ≤ length places
  pub within : i ≤ length places
  pub left : ascending_places n least (drop i places) ≡ ascending_places n 0 places

pub none-fit : (n : ℕ) (places : List ℕ) → length places < 1 → false ≡ places_fit_of n places
none-fit n places h = rw (lt-leb 1 (length places) h) refl

module _ {n : ℕ} {places : List ℕ} where
  pub judged-start : 1 ≤ length places → Judged n places 0 0
  judged-start h = record { some = h; within = omega arith; left = refl }

  module _ {i least : ℕ} (j : Judged n places i least) where
    -- the list is judged as what is left of it
    fits : places_fit_of n places ≡ ascending_places n least (drop i places)
    fits = rw (le-leb 1 (length places) j.some) (sym j.left)

    pub judged-end : length places ≤ i → true ≡ places_fit_of n places
    judged-end h =
        let none : drop i places ≡ [] = drop_of_length-le places {i = i} h in
        sym (fits ∙ ap (λ (vs : List ℕ). ascending_places n least vs) none)

    module _ (h : i < length places) where
      abbrev v : ℕ
      v = get_or places i 0

      next : ascending_places n least (drop i places) ≡ ascending_places n least (v ∷ drop (suc i) places)
      next = ap (λ (vs : List ℕ). ascending_places n least vs) (drop-cons places i 0 h)

      pub judged-low : v < least → false ≡ places_fit_of n places
      judged-low l = sym (fits ∙ next ∙ rw (lt-leb least v l) refl)

      module _ (l : least ≤ v) where
        pub judged-high : n ≤ v → false ≡ places_fit_of n places
        judged-high m = sym (fits ∙ next ∙ rw (le-leb least v l, le-ltb v n m) refl)

        pub judged-next : v < n → Judged n places (i + 1) (v + 1)
        judged-next m = record {
          some = j.some;
          within = omega arith;
          left = rw (add-one i, add-one v) (sym (next ∙ rw (le-leb least v l, lt-ltb v n m) refl) ∙ j.left);
        }

pub ruleset places-cases = (none-fit, judged-start, judged-end, judged-low, judged-high, judged-next, rules)
