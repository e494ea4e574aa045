-- A line of places, one digit at a time: what is left of it, after the number so far, decides.
use Rattle.model.proofs.Prelude.{ℕ, ◌≤◌, ◌<◌, ◌+◌, ◌-◌, ◌*◌, ◌≡◌, ◌∙◌, ap, refl, sym, true, false, ◌&&◌, and-false, List, [], ◌∷◌, length, get_or, drop}
use Rattle.model.proofs.Prelude.{drop_of_length-le, leb, arith, rules, le-leb, lt-leb}
use Rattle.model.specs.Base.{all_of}
use Rattle.bench_lines.proofs.BytePartLaws.{drop-next}
use Rattle.viewer_place_lines.specs.Places.{is_digit_of, number_from, number_of, is_place_line}
use Rattle.viewer_place_lines.specs.PlaceReading.{LineTrue}
use Rattle.std.specs.Prelude.{Some, None}

-- more digits make no smaller number
grows : (n : ℕ) (bs : List ℕ) → n ≤ number_from n bs
unfolding number_from
grows n [] = omega arith
grows n (b ∷ bs) = omega (arith, grows (10 * n + (b - 0x30)) bs)

pub none-there : (bytes : List ℕ) → length bytes ≡ 0 → LineTrue None bytes
unfolding is_place_line
none-there bytes h = rw (lt-leb 1 (length bytes) (omega arith)) refl

module _ (bytes : List ℕ) where
  -- the digits before place `i` make `n`
  pub record NumberSoFar (n i : ℕ) : Type 0 where
    pub digits : all_of is_digit_of bytes ≡ all_of is_digit_of (drop i bytes)
    pub number : number_of bytes ≡ number_from n (drop i bytes)
    pub few : n ≤ 65535
    pub inside : i ≤ length bytes

  pub number-start : NumberSoFar 0 0
  number-start = record { digits = refl; number = refl; few = omega arith; inside = omega arith }

  no_digit : all_of is_digit_of bytes ≡ false → LineTrue None bytes
  unfolding is_place_line
  no_digit e = rw (e, and-false (leb 1 (length bytes))) refl

  too_large : 65535 < number_of bytes → LineTrue None bytes
  unfolding is_place_line
  too_large h = rw (lt-leb (number_of bytes) 65535 h) (and-false (leb 1 (length bytes) && all_of is_digit_of bytes))

  module _ {n i : ℕ} (s : NumberSoFar n i) where
    pub number-few : n ≤ 65535
    number-few = s.few

    module _ (h : i < length bytes) where
      digits-next : all_of is_digit_of bytes ≡ is_digit_of (get_or bytes i 0) && all_of is_digit_of (drop (i + 1) bytes)
      digits-next = s.digits ∙ ap (all_of is_digit_of) (drop-next i bytes h)

      pub digit_low : get_or bytes i 0 < 0x30 → LineTrue None bytes
      digit_low l = no_digit (digits-next ∙ rw (lt-leb 0x30 (get_or bytes i 0) l) refl)

      pub digit-high : 0x39 < get_or bytes i 0 → LineTrue None bytes
      digit-high l = no_digit (digits-next ∙ rw (lt-leb (get_or bytes i 0) 0x39 l, and-false (leb 0x30 (get_or bytes i 0))) refl)

      number-next : number_of bytes ≡ number_from (10 * n + (get_or bytes i 0 - 0x30)) (drop (i + 1) bytes)
      unfolding number_from
      number-next = s.number ∙ ap (number_from n) (drop-next i bytes h)

      pub number-over : 65535 < 10 * n + (get_or bytes i 0 - 0x30) → LineTrue None bytes
      number-over l = too_large (omega (arith, number-next, grows (10 * n + (get_or bytes i 0 - 0x30)) (drop (i + 1) bytes)))

      pub number-again : 0x30 ≤ get_or bytes i 0 → get_or bytes i 0 ≤ 0x39 → 10 * n + (get_or bytes i 0 - 0x30) ≤ 65535
          → NumberSoFar (10 * n + (get_or bytes i 0 - 0x30)) (i + 1)
      number-again l m f = record {
        digits = digits-next ∙ rw (le-leb 0x30 (get_or bytes i 0) l, le-leb (get_or bytes i 0) 0x39 m) refl;
        number = number-next;
        few = f;
        inside = omega arith;
      }

    pub number-there : (length bytes ≡ 0 → ⊥) → length bytes ≤ i → LineTrue (Some n) bytes
    unfolding is_place_line number_from
    number-there some h =
        let none : drop i bytes ≡ [] = drop_of_length-le bytes {i = i} h in
        let all : all_of is_digit_of bytes ≡ true = s.digits ∙ ap (all_of is_digit_of) none in
        let is : number_of bytes ≡ n = s.number ∙ ap (number_from n) none in
        record {
          is_place = rw (le-leb 1 (length bytes) (omega arith), all, le-leb (number_of bytes) 65535 (omega (arith, is, s.few))) refl;
          number = sym is;
        }

pub ruleset place-cases = (none-there, number-start, number-few, digit_low, digit-high, number-over, number-again, number-there, rules)
