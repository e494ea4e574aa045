-- The list of a text's places, one line at a time: the lines that are left, after the places so far, give the whole.
use Rattle.model.proofs.Prelude.{ℕ, ◌≤◌, ◌<◌, ◌+◌, suc, ◌≡◌, ◌∙◌, ap, refl, sym, ap₂, ⊎_elim, true, false, List, [], ◌∷◌, ◌++◌, length, drop, take}
use Rattle.model.proofs.Prelude.{length-append, set, length-set, drop_of_length-le, length-take-le, take_all, add-one, arith, rules}
use lib.Seq.{take-append-le, take-suc-set}
use Rattle.io.specs.Counts.{IsPrefixLen}
use Rattle.model.proofs.BoolLaws.{le_or_lt}
use Rattle.bench_lines.specs.Text.{lines_from, lines_of, last_line_of}
use Rattle.bench_lines.specs.LineReading.{part, LineIs}
use Rattle.bench_lines.specs.declared.inner.lines.LineEnds.{LineEnds}
use Rattle.viewer_place_lines.specs.Places.{number_of, is_place_line, listed, bad_line, places_from, places_in, most_kept, kept}
use Rattle.viewer_place_lines.specs.PlaceReading.{LineTrue, places_of, ListFits, told_by}
use Rattle.viewer_place_lines.specs.declared.PlaceList.{PlaceList}
use Rattle.std.specs.Prelude.{Option, Ok, Err, Some, None}

-- A place more in the words of a list
module _ (l : PlaceList) (place : ℕ) (fits : ListFits l) where
  pub list-longer : l.count < most_kept
      → take (l.count + 1) (set l.places l.count place) ≡ take most_kept (places_of l ++ (place ∷ []))
  list-longer h =
      let w = fits.1 in
      let more : length (places_of l ++ (place ∷ [])) ≤ most_kept =
      omega (arith, length-append (places_of l) (place ∷ []), length-take-le l.count l.places (omega arith)) in
      rw (add-one l.count) (take-suc-set l.places l.count place (omega arith)) ∙ sym (take_all most_kept (places_of l ++ (place ∷ [])) more)

  pub longer-fits : l.count < most_kept → ListFits (record { places = set l.places l.count place; count = l.count + 1 })
  longer-fits h = (omega arith, length-set l.places l.count place ∙ fits.1)

  pub list_full : most_kept ≤ l.count → places_of l ≡ take most_kept (places_of l ++ (place ∷ []))
  list_full h =
      let w = fits.1 in
      let many : length (places_of l) ≡ l.count = length-take-le l.count l.places (omega arith) in
      sym (take-append-le most_kept (places_of l) (place ∷ []) (omega arith) ∙ take_all most_kept (places_of l) (omega arith))

pub ruleset List-cases = (list-longer, longer-fits, list_full, rules)

-- one place more of a list of which the first are kept
keep-more : (ps : List ℕ) (p : ℕ) → take most_kept (take most_kept ps ++ (p ∷ [])) ≡ take most_kept (ps ++ (p ∷ []))
keep-more ps p =
    ⊎_elim (λ (h : most_kept ≤ length ps).
    let full : length (take most_kept ps) ≡ most_kept = length-take-le most_kept ps h in
    take-append-le most_kept (take most_kept ps) (p ∷ []) (omega arith)
    ∙ take_all most_kept (take most_kept ps) (omega arith)
    ∙ sym (take-append-le most_kept ps (p ∷ []) h))
    (λ (h : length ps < most_kept). ap (λ (x : List ℕ). take most_kept (x ++ (p ∷ []))) (take_all most_kept ps (omega arith)))
    (le_or_lt most_kept (length ps))

line-place : (k : ℕ) (ps l : List ℕ) (ls : List (List ℕ)) → is_place_line l ≡ true
    → places_from k ps (l ∷ ls) ≡ places_from (suc k) (ps ++ (number_of l ∷ [])) ls
unfolding places_from
line-place k ps l ls e = rw (e, places_from) refl

line-bad : (k : ℕ) (ps l : List ℕ) (ls : List (List ℕ)) → is_place_line l ≡ false → places_from k ps (l ∷ ls) ≡ bad_line k
unfolding places_from
line-bad k ps l ls e = rw (e, places_from) refl

module _ (text : List ℕ) where
  -- `before` lines were places, and those up to position `at` are passed
  pub record PlacesSoFar (list : PlaceList) (before at : ℕ) : Type 0 where
    pub places : List ℕ
    pub left : places_in text ≡ places_from (before + 1) places (lines_from [] (drop at text))
    pub keeps : places_of list ≡ take most_kept places
    pub fits : ListFits list

  pub places-start : {list : PlaceList} → (places_of list ≡ []) × ListFits list → PlacesSoFar list 0 0
  unfolding places_in lines_of
  places-start e = record { places = []; left = refl; keeps = e.0; fits = e.1 }

  module _ {list : PlaceList} {before at : ℕ} (s : PlacesSoFar list before at) where
    pub places-fit : ListFits list
    places-fit = s.fits

    pub places-counted : IsPrefixLen list.count list.places
    places-counted = (omega (arith, s.fits), sym (length-take-le list.count list.places (omega (arith, s.fits))))

    pub places-end : length text ≤ at → told_by (Ok tt) list ≡ kept (places_in text)
    unfolding lines_from last_line_of places_from
    places-end h =
        let none : drop at text ≡ [] = drop_of_length-le text {i = at} h in
        let all : places_in text ≡ listed s.places = s.left ∙ ap (λ (x : List ℕ). places_from (before + 1) s.places (lines_from [] x)) none in
        ap listed s.keeps ∙ sym (ap kept all)

    module _ {ends : LineEnds} (e : LineIs ends at text) where
      next-line : places_in text ≡ places_from (before + 1) s.places (part at ends.stop text ∷ lines_from [] (drop ends.next text))
      next-line = s.left ∙ ap (places_from (before + 1) s.places) e.lines

      pub places-bad : (r : Option ℕ) → LineTrue r (part at ends.stop text) → r ≡ None → told_by (Err (before + 1)) list ≡ kept (places_in text)
      places-bad r t q =
          let no : is_place_line (part at ends.stop text) ≡ false = rw q at t in
          sym (ap kept (next-line ∙ line-bad (before + 1) s.places (part at ends.stop text) (lines_from [] (drop ends.next text)) no))

      pub places-again : (r : Option ℕ) → LineTrue r (part at ends.stop text) → {place : ℕ} {list' : PlaceList} → r ≡ Some place
          → (places_of list' ≡ take most_kept (places_of list ++ (place ∷ []))) × ListFits list' → PlacesSoFar list' (before + 1) ends.next
      places-again r t {place} {list'} q k =
          let there : LineTrue (Some place) (part at ends.stop text) = rw q at t in
          let number : number_of (part at ends.stop text) ≡ place = sym there.number in
          record {
            places = s.places ++ (place ∷ []);
            left =
                next-line
                ∙ line-place (before + 1) s.places (part at ends.stop text) (lines_from [] (drop ends.next text)) there.is_place
                ∙ ap₂ (λ (n p : ℕ). places_from n (s.places ++ (p ∷ [])) (lines_from [] (drop ends.next text))) (sym (add-one (before + 1))) number;
            keeps = k.0 ∙ ap (λ (x : List ℕ). take most_kept (x ++ (place ∷ []))) s.keeps ∙ keep-more s.places place;
            fits = k.1;
          }

pub ruleset text-cases = (places-start, places-fit, places-counted, places-end, places-bad, places-again, rules)
