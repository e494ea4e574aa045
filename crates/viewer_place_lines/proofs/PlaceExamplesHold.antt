-- The examples hold: what each text says, computed from the definitions.
use Rattle.model.proofs.Prelude.{◌≡◌, refl, map}
use Rattle.bench_lines.specs.Text.{without_return, last_line_of, lines_from, lines_of}
use Rattle.viewer_place_lines.specs.Places.{number_from, is_place_line, places_from, places_in}
use Rattle.viewer_place_lines.specs.PlaceExamples.{Example, examples}

pub examples-hold : map (λ (e : Example). places_in e.text) examples ≡ map (λ (e : Example). e.says) examples
unfolding examples without_return last_line_of lines_from lines_of number_from is_place_line places_from places_in
examples-hold = refl
