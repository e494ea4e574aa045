-- What the functions that judge the end of a text answer, by the keys in lent words.
use Rattle.std.specs.Prelude.{ℕ, zero, suc, ◌+◌, ◌≡◌, Bool, true, ◌&&◌, List, ltb, get_or}
use Rattle.model.specs.Base.{checks, refused, value}
use Rattle.model.specs.Refusals.{refusal_number_of}
use Rattle.bench_lines.specs.Text.{tokens_of, statement_of, lines_of, is_in}
use Rattle.bench_circuit.specs.Circuit.{output_defined, undefined_from, end_rules, circuit_of, refused_line_of}
use Rattle.bench_lines.specs.LineReading.{Named}
use Rattle.bench_names.specs.NameNets.{pair_net, key_known}
use Rattle.bench_circuit.specs.Judging.{TextTaken}
use Rattle.bench_circuit.specs.declared.inner.judging.NameCounts.{NameCounts}
use Rattle.std.specs.Prelude.{Result, Ok, Err}
use Rattle.bench_circuit.specs.declared.inner.judging.LineRefusal.{LineRefusal}

-- `n` keys, the first at word `at`, are all defined
unfoldable pub pairs_known : List ℕ → ℕ → List ℕ → ℕ → List ℕ → ℕ → ℕ → Bool
pairs_known is i gs g os zero at = true
pairs_known is i gs g os (suc n) at =
    ltb (pair_net is i gs g (get_or os at 0) (get_or os (at + 1) 0)) (i + g) && pairs_known is i gs g os n (at + 2)

-- the words hold exactly these names
abbrev pub Knows : List ℕ → ℕ → List ℕ → ℕ → List (List ℕ) → Type 0
Knows is i gs g names = (x : List ℕ) → Named x → key_known is i gs g x ≡ is_in x names

pub record OutputTold (r : Bool) (line is : List ℕ) (i : ℕ) (gs : List ℕ) (g : ℕ) : Type 0 where
  pub told : (names : List (List ℕ)) → Knows is i gs g names → r ≡ output_defined names (statement_of (tokens_of line))

pub record LineTold (r : ℕ) (text is : List ℕ) (i : ℕ) (gs : List ℕ) (g : ℕ) : Type 0 where
  pub told : (names : List (List ℕ)) → Knows is i gs g names → r ≡ undefined_from names 1 (lines_of text)

-- words that hold the names of a text whose lines were all taken
unfoldable pub TextHeld : List ℕ → List ℕ → List ℕ → List ℕ → NameCounts → Type 0
TextHeld text is gs os n = TextTaken n text is gs os

-- the same of a text that is sound at its end
pub record EndSound (text is gs os : List ℕ) (n : NameCounts) : Type 0 where
  pub taken : TextTaken n text is gs os
  pub sound : checks (end_rules taken.circuit) ≡ value tt

unfoldable pub TextSound : List ℕ → List ℕ → List ℕ → List ℕ → NameCounts → Type 0
TextSound text is gs os n = EndSound text is gs os n

-- a text that is refused, and the line
pub record RefusedAt (number line : ℕ) (text : List ℕ) : Type 0 where
  pub answer : circuit_of text ≡ refused number
  pub place : line ≡ refused_line_of text

abbrev pub EndTrue : Result (Unit {0}) LineRefusal → List ℕ → List ℕ → List ℕ → List ℕ → NameCounts → Type 0
EndTrue (Ok tt) text is gs os n = TextSound text is gs os n
EndTrue (Err e) text is gs os n = RefusedAt (refusal_number_of e.why) e.line text
