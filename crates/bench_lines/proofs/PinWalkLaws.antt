-- A walk over the pins of a gate, whatever is done with their names: its start, one pin more, its ends.
use Rattle.model.proofs.Prelude.{ℕ, ◌≤◌, ◌<◌, ◌-◌, ◌≡◌, ◌∙◌, ap, refl, sym, subst, true, Bool, false, List, [], ◌∷◌, ◌++◌, length, arith}
use Rattle.bench_lines.specs.Text.{gate, pins_from}
use Rattle.bench_lines.specs.LineReading.{part, NameIn, rest_at}
use Rattle.bench_lines.specs.Stating.{pins_state, OnePin, NoPin, PinIs}
use Rattle.bench_lines.proofs.KindLaws.{other≢gate, same-pins}
use Rattle.std.specs.Prelude.{Option, Some, None}
use Rattle.bench_lines.specs.declared.inner.statements.PinPart.{PinPart}

-- The names of the pins between two positions of a line; more are to be read, or none
pub record PinsBetween (line : List ℕ) (at place : ℕ) (more : Bool) (names : List (List ℕ)) : Type 0 where
  pub step : (x : List ℕ) (k : ℕ) → pins_from x k [] (rest_at at line) ≡ pins_state more x k names (rest_at place line)
  pub inside : place ≤ length line

pub pins-start : {line : List ℕ} {at : ℕ} → at ≤ length line → PinsBetween line at at true []
unfolding pins_state
pins-start h = record { step = λ x k. refl; inside = h }

module _ (line : List ℕ) (place : ℕ) {p : (Option PinPart)} (t : PinIs p place line) where
  module _ {r : PinPart} (e : p ≡ Some r) where
    pub one-pin : OnePin (rest_at place line) place r.from r.to r.next r.more line
    one-pin = subst (λ (q : Option PinPart). PinIs q place line) e t

    pub pin-name : NameIn r.from r.to line
    pin-name = one-pin.is_name

    pub pin-less : length line - r.next < length line - place
    pin-less = omega (arith, one-pin.later, one-pin.high)

module _ {line : List ℕ} {at place : ℕ} {more : Bool} {names : List (List ℕ)} (s : PinsBetween line at place more names) where
  -- none is left: the gate has these names
  pub pins-all : more ≡ false → (x : List ℕ) (k : ℕ) (ys : List (List ℕ)) → pins_from x k [] (rest_at at line) ≡ gate x k ys → names ≡ ys
  unfolding pins_state
  pins-all m x k ys e = same-pins x k names ys (sym (s.step x k ∙ ap (λ (b : Bool). pins_state b x k names (rest_at place line)) m) ∙ e)

  module _ (m : more ≡ true) where
    pub pins-going : (x : List ℕ) (k : ℕ) → pins_from x k [] (rest_at at line) ≡ pins_from x k names (rest_at place line)
    unfolding pins_state
    pins-going x k = s.step x k ∙ ap (λ (b : Bool). pins_state b x k names (rest_at place line)) m

    module _ {p : (Option PinPart)} (t : PinIs p place line) where
      -- no pin follows: the line is no gate's
      pub pins-stop : {P : Type 0} → p ≡ None → (x : List ℕ) (k : ℕ) (ys : List (List ℕ)) → pins_from x k [] (rest_at at line) ≡ gate x k ys → P
      pins-stop e x k ys q =
          let none : NoPin (rest_at place line) = subst (λ (r : Option PinPart). PinIs r place line) e t in
          other≢gate x k ys (sym (pins-going x k ∙ none.stop x k names) ∙ q)

      pub pins-more : {r : PinPart} → p ≡ Some r → PinsBetween line at r.next r.more (names ++ (part r.from r.to line ∷ []))
      pins-more e = let one = one-pin line place t e in record { step = λ x k. pins-going x k ∙ one.step x k names; inside = one.high }
