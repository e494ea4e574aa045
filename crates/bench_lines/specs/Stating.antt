-- What the readers of statements answer.
use Rattle.std.specs.Prelude.{ℕ, ◌≤◌, ◌<◌, ◌≡◌, Bool, true, false, List, [], ◌∷◌, ◌++◌, length}
use Rattle.bench_lines.specs.Text.{Token, Statement, blank, input, output, gate, other, gate_from, io_from, statement_of, tokens_of}
use Rattle.bench_lines.specs.Text.{pins_from}
use Rattle.bench_lines.specs.LineReading.{part, NameIn, rest_at, name_then}
use Rattle.bench_lines.specs.Keys.{AllNamed}
use Rattle.bench_lines.specs.declared.inner.statements.LineStatement.{LineStatement}
use Rattle.bench_lines.specs.declared.inner.statements.LineStatement.TheVariants as stated
use Rattle.std.specs.Prelude.{Option, Some, None}
use Rattle.bench_lines.specs.declared.inner.statements.PinPart.{PinPart}

unfoldable pub at_end_of : List Token → Bool
at_end_of [] = true
at_end_of (t ∷ ts) = false

-- the gate's statement after some of its pins: more are to be read, or none
unfoldable pub pins_state : Bool → List ℕ → ℕ → List (List ℕ) → List Token → Statement
pins_state true x k xs ts = pins_from x k xs ts
pins_state false x k xs ts = gate x k xs

-- the tokens `ts` are one pin, then those from `next` on, which is past `at`; whatever the gate and the pins before
pub record OnePin (ts : List Token) (at from to next : ℕ) (more : Bool) (line : List ℕ) : Type 0 where
  pub step : (x : List ℕ) (k : ℕ) (xs : List (List ℕ))
      → pins_from x k xs ts ≡ pins_state more x k (xs ++ (part from to line ∷ [])) (rest_at next line)
  pub is_name : NameIn from to line
  pub later : at < next
  pub high : next ≤ length line

pub record NoPin (ts : List Token) : Type 0 where
  pub stop : (x : List ℕ) (k : ℕ) (xs : List (List ℕ)) → pins_from x k xs ts ≡ other

abbrev pub PinOf : Option PinPart → List Token → ℕ → List ℕ → Type 0
PinOf (Some p) ts at line = OnePin ts at p.from p.to p.next p.more line
PinOf None ts at line = NoPin ts

-- read from a position on
abbrev pub PinIs : Option PinPart → ℕ → List ℕ → Type 0
PinIs r at line = PinOf r (rest_at at line) at line

-- after a name
abbrev pub NamedThen : Option PinPart → ℕ → ℕ → List ℕ → Type 0
NamedThen r from to line = PinOf r (name_then from to line) from line

-- a gate's line: its pins, read from a position on
pub record GateAt (from to kind at pins : ℕ) (line : List ℕ) (s : Statement) : Type 0 where
  pub names : List (List ℕ)
  pub is : s ≡ gate (part from to line) kind names
  pub reads : pins_from (part from to line) kind [] (rest_at at line) ≡ gate (part from to line) kind names
  pub count : length names ≡ pins
  pub all_named : AllNamed names
  pub is_name : NameIn from to line
  pub kind_low : 1 ≤ kind
  pub kind_high : kind ≤ 8
  pub inside : at ≤ length line

pub record InputAt (from to : ℕ) (line : List ℕ) (s : Statement) : Type 0 where
  pub is : s ≡ input (part from to line)
  pub is_name : NameIn from to line

pub record OutputAt (from to : ℕ) (line : List ℕ) (s : Statement) : Type 0 where
  pub is : s ≡ output (part from to line)
  pub is_name : NameIn from to line

abbrev pub StatedIs : LineStatement → List ℕ → Statement → Type 0
StatedIs stated.Blank line s = s ≡ blank
StatedIs (stated.Input from to) line s = InputAt from to line s
StatedIs (stated.Output from to) line s = OutputAt from to line s
StatedIs (stated.Gate p) line s = GateAt p.from p.to p.kind p.at p.pins line s
StatedIs stated.Other line s = s ≡ other

-- what a line says, as its readers find it: after `x = kind(`, after `x =` with a kind's name before or not, after `w(` with a name before or not,
-- after a name, from the start
abbrev pub PinsStated : LineStatement → ℕ → ℕ → ℕ → ℕ → List ℕ → Type 0
PinsStated r from to kind at line = StatedIs r line (pins_from (part from to line) kind [] (rest_at at line))

abbrev pub KindStated : LineStatement → ℕ → ℕ → ℕ → ℕ → List ℕ → Type 0
KindStated r from to kindFrom kindTo line = StatedIs r line (gate_from (part from to line) (name_then kindFrom kindTo line))

abbrev pub GateStated : LineStatement → ℕ → ℕ → ℕ → List ℕ → Type 0
GateStated r from to at line = StatedIs r line (gate_from (part from to line) (rest_at at line))

abbrev pub IoClosed : LineStatement → ℕ → ℕ → ℕ → ℕ → List ℕ → Type 0
IoClosed r wordFrom wordTo from to line = StatedIs r line (io_from (part wordFrom wordTo line) (name_then from to line))

abbrev pub IoStated : LineStatement → ℕ → ℕ → ℕ → List ℕ → Type 0
IoStated r wordFrom wordTo at line = StatedIs r line (io_from (part wordFrom wordTo line) (rest_at at line))

abbrev pub NameStated : LineStatement → ℕ → ℕ → List ℕ → Type 0
NameStated r from to line = StatedIs r line (statement_of (name_then from to line))

abbrev pub LineStated : LineStatement → List ℕ → Type 0
LineStated r line = StatedIs r line (statement_of (tokens_of line))
