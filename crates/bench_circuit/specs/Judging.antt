-- What the judging functions answer: first of the keys in lent words, then of the circuit that they hold.
use Rattle.std.specs.Prelude.{ℕ, ◌+◌, ◌*◌, ◌≤◌, ◌≡◌, ◌&&◌, not, List, [], ◌∷◌, map, ltb, length, set}
use Rattle.model.specs.Base.{Rule, all_of, checks, value, refused}
use Rattle.model.specs.Read.{pins_fit}
use Rattle.bench_lines.specs.Text.{Statement, gate, tokens_of, statement_of, pins_from, lines_of}
use Rattle.bench_lines.specs.LineReading.{part, rest_at}
use Rattle.bench_circuit.specs.Circuit.{GateLine, Circuit, empty_circuit, line_rules, added, line_by_line, bad_from}
use Rattle.model.specs.Refusals.{refusal_number_of}
use Rattle.bench_lines.specs.Keys.{key_low, key_high, Holds, AllNamed}
use Rattle.bench_names.specs.NameNets.{name_place, key_known}
use Rattle.bench_circuit.specs.declared.inner.judging.NameCounts.{NameCounts}
use Rattle.bench_lines.specs.declared.inner.statements.GateParts.{GateParts}
use Rattle.std.specs.Prelude.{Result, Ok, Err}
use Rattle.bench_circuit.specs.declared.inner.judging.LineRefusal.{LineRefusal}
use Rattle.model.specs.declared.Refusal.{Refusal}

-- an answer to a name, by the rules that it passed
abbrev pub NameJudged : Result (Unit {0}) Refusal → List Rule → Type 0
NameJudged (Ok tt) rules = checks rules ≡ value tt
NameJudged (Err w) rules = checks rules ≡ refused (refusal_number_of w)

-- the words after an answer: with the key after the others, if it was added
abbrev pub PutAfter : Result (Unit {0}) Refusal → List ℕ → List ℕ → ℕ → List ℕ → Type 0
PutAfter (Ok tt) ws ws' n x = ws' ≡ set (set ws (2 * n) (key_low x)) (2 * n + 1) (key_high x)
PutAfter (Err w) ws ws' n x = Unit {0}

abbrev pub input_rules : List ℕ → ℕ → List ℕ → ℕ → List ℕ → List Rule
input_rules is i gs g x = (81, not (key_known is i gs g x)) ∷ (82, ltb i 64 && ltb (i + g) 512) ∷ []

pub record InputJudged (r : Result (Unit {0}) Refusal) (x is is' : List ℕ) (i : ℕ) (gs : List ℕ) (g : ℕ) : Type 0 where
  pub judged : NameJudged r (input_rules is i gs g x)
  pub put : PutAfter r is is' i x

abbrev pub output_rules : List ℕ → ℕ → List ℕ → List Rule
output_rules os o x = (81, not (ltb (name_place os o x) o)) ∷ (82, ltb o 64) ∷ []

pub record OutputJudged (r : Result (Unit {0}) Refusal) (x os os' : List ℕ) (o : ℕ) : Type 0 where
  pub judged : NameJudged r (output_rules os o x)
  pub put : PutAfter r os os' o x

abbrev pub gate_rules : List ℕ → ℕ → List ℕ → ℕ → List ℕ → ℕ → List (List ℕ) → List Rule
gate_rules is i gs g x k ys =
    (81, not (key_known is i gs g x) && all_of (key_known is i gs g) ys) ∷ (82, (ltb g 511 && ltb (i + g) 512) && pins_fit k (length ys)) ∷ []

-- the name of a gate on its line
abbrev pub gate_name : GateParts → List ℕ → List ℕ
gate_name p line = part p.from p.to line

pub record GateJudged (r : Result (Unit {0}) Refusal) (line : List ℕ) (p : GateParts) (is : List ℕ) (i : ℕ) (gs gs' : List ℕ) (g : ℕ) : Type 0 where
  pub judged : (ys : List (List ℕ))
      → pins_from (gate_name p line) p.kind [] (rest_at p.at line) ≡ gate (gate_name p line) p.kind ys
      → length ys ≡ p.pins → NameJudged r (gate_rules is i gs g (gate_name p line) p.kind ys)
  pub put : PutAfter r gs gs' g (gate_name p line)

-- words with the keys of names, in their order
pub record NamesHeld (ws : List ℕ) (n : ℕ) (names : List (List ℕ)) : Type 0 where
  pub holds : Holds ws names
  pub named : AllNamed names
  pub count : n ≡ length names

-- the pins of gates are names of 1 to 16 bytes
unfoldable pub PinsNamed : List GateLine → Type 0
PinsNamed [] = Unit {0}
PinsNamed (g ∷ gs) = AllNamed g.pins × PinsNamed gs

-- words that hold what a circuit defines
pub record Held (is gs os : List ℕ) (n : NameCounts) (c : Circuit) : Type 0 where
  pub inputs : NamesHeld is n.inputs c.inputs
  pub gates : NamesHeld gs n.gates (map (λ (g : GateLine). g.name) c.gates)
  pub outputs : NamesHeld os n.outputs c.outputs
  pub pins : PinsNamed c.gates

pub record WordsRoom (is gs os : List ℕ) : Type 0 where
  pub input_words : length is ≡ 128
  pub gate_words : length gs ≡ 1024
  pub output_words : length os ≡ 128

pub record HeldRoom (is gs os : List ℕ) (n : NameCounts) : Type 0 where
  pub words : WordsRoom is gs os
  pub few_inputs : n.inputs ≤ 64
  pub few_gates : n.gates ≤ 511
  pub few_outputs : n.outputs ≤ 64

-- a line's answer by that to its name, and how many there are if it was added
abbrev pub counted_as : Result (Unit {0}) Refusal → ℕ → ℕ → ℕ → Result NameCounts Refusal
counted_as (Ok tt) i g o = Ok (record { inputs = i; gates = g; outputs = o })
counted_as (Err w) i g o = Err w

-- a line that was taken or refused
pub record LineTaken (n : NameCounts) (c : Circuit) (s : Statement) (is gs os : List ℕ) : Type 0 where
  pub passed : checks (line_rules c s) ≡ value tt
  pub held : Held is gs os n (added c s)

abbrev pub LineJudged : Result NameCounts Refusal → Circuit → Statement → List ℕ → List ℕ → List ℕ → Type 0
LineJudged (Ok n) c s is gs os = LineTaken n c s is gs os
LineJudged (Err w) c s is gs os = checks (line_rules c s) ≡ refused (refusal_number_of w)

abbrev pub RoomAfter : Result NameCounts Refusal → List ℕ → List ℕ → List ℕ → Type 0
RoomAfter (Ok n) is gs os = HeldRoom is gs os n
RoomAfter (Err w) is gs os = Unit {0}

pub record LineTrue (r : Result NameCounts Refusal) (l : List ℕ) (n : NameCounts) (is gs os is' gs' os' : List ℕ) : Type 0 where
  pub judged : (c : Circuit) → Held is gs os n c → LineJudged r c (statement_of (tokens_of l)) is' gs' os'
  pub room : RoomAfter r is' gs' os'

-- a text whose lines were all taken, or one refused
pub record TextTaken (n : NameCounts) (text is gs os : List ℕ) : Type 0 where
  pub circuit : Circuit
  pub reads : line_by_line empty_circuit (lines_of text) ≡ value circuit
  pub held : Held is gs os n circuit
  pub room : HeldRoom is gs os n

pub record LineRefused (number line : ℕ) (text : List ℕ) : Type 0 where
  pub reads : line_by_line empty_circuit (lines_of text) ≡ refused number
  pub place : line ≡ bad_from empty_circuit 1 (lines_of text)

abbrev pub TextTrue : Result NameCounts LineRefusal → List ℕ → List ℕ → List ℕ → List ℕ → Type 0
TextTrue (Ok n) bytes is gs os = TextTaken n bytes is gs os
TextTrue (Err e) bytes is gs os = LineRefused (refusal_number_of e.why) e.line bytes
