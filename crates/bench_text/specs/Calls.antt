-- The converter as a function of what it is handed: its answer, and the output buffer afterwards.
use Rattle.std.specs.Prelude.{List, [], ◌∷◌, ◌++◌, ℕ, leb, length, drop}
use Rattle.model.specs.Base.{Answer, refused, value, ◌into◌, ◌then◌, Rule, checks, after}
use Rattle.model.specs.Refusals.{refusal_number_of}
use Rattle.bench_circuit.specs.Circuit.{refused_line_of}
use Rattle.bench_text.specs.NetlistFile.{converted}
use Rattle.std.specs.Prelude.{Result, Ok, Err}
use Rattle.bench_circuit.specs.declared.inner.judging.LineRefusal.{LineRefusal}

-- bytes of an output buffer, at the least: 8 + 511 * 20 + 64 * 4
abbrev pub netlist_buffer_bytes : ℕ
netlist_buffer_bytes = 10484

-- Lent memory
abbrev pub buffer_rule : List ℕ → Rule
buffer_rule buffer = (4, leb netlist_buffer_bytes (length buffer))

unfoldable pub convert_call : List ℕ → List ℕ → Answer (List ℕ)
convert_call text buffer = checks (buffer_rule buffer ∷ []) then converted text

-- it returns the result's length
unfoldable pub convert_answer : List ℕ → List ℕ → Answer ℕ
convert_answer text buffer = convert_call text buffer into λ bs. value (length bs)

-- bytes past the result, and all after a refusal, are unchanged
unfoldable pub convert_buffer : List ℕ → List ℕ → List ℕ
convert_buffer text buffer = after (convert_call text buffer) buffer (λ bs. bs ++ drop (length bs) buffer)

-- the line that is refused, counted from 1; 0 where it is no line, as for the buffer, or none is refused
unfoldable pub convert_line : List ℕ → List ℕ → ℕ
convert_line text buffer = elim (checks (buffer_rule buffer ∷ [])) [ refused n ↦ 0 | value u ↦ refused_line_of text ]

-- What the code's answer means: the length, or the papers' number; and the line
abbrev pub bench_of : Result ℕ LineRefusal → Answer ℕ
bench_of (Ok n) = value n
bench_of (Err e) = refused (refusal_number_of e.why)

abbrev pub line_of : Result ℕ LineRefusal → ℕ
line_of (Ok n) = 0
line_of (Err e) = e.line
