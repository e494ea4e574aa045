-- The record of a line's gate written, and those of the lines of a text one after the other.
use Rattle.model.proofs.Prelude.{ℕ, ◌≤◌, ◌<◌, ◌+◌, ◌*◌, ◌^◌, ◌≡◌, ◌∙◌, ap, refl, sym, subst, List, [], ◌∷◌, ◌++◌, map, length, drop, length-append}
use Rattle.model.proofs.Prelude.{length-map, drop_of_length-le, sets, length-sets, arith}
use mir.Val.{Fits}
use mir.Syntax.{w64}
use Rattle.model.specs.Encode.{gate_bytes}
use Rattle.record_bytes.proofs.ByteLaws.{sets_append}
use Rattle.bench_lines.specs.Text.{Statement, blank, input, output, other, tokens_of, statement_of, lines_from, lines_of, last_line_of}
use Rattle.bench_lines.specs.LineReading.{part, LineIs}
use Rattle.bench_lines.specs.Stating.{GateAt, InputAt, OutputAt, LineStated}
use Rattle.bench_names.specs.NameNets.{key_net}
use Rattle.bench_text.specs.FileWriting.{PinsThere, GatePut, line_bytes, lines_bytes, FewPins, AllFewPins}
use Rattle.bench_outputs.specs.OutputWriting.{BytesPut}
use Rattle.bench_lines.specs.declared.inner.lines.LineEnds.{LineEnds}
use Rattle.bench_lines.specs.declared.inner.statements.GateParts.{GateParts}
use Rattle.bench_lines.specs.declared.inner.statements.LineStatement.{LineStatement}
use Rattle.bench_lines.specs.declared.inner.statements.LineStatement.TheVariants as stated
use Rattle.bench_lines.proofs.StatementLaws.{stated-as}
use Rattle.bench_text.proofs.BytesLaws.{length-gate}

-- ---- a line

module _ (out line : List ℕ) (p : ℕ) (is : List ℕ) (i : ℕ) (gs : List ℕ) (g : ℕ) (st : LineStatement) (k : LineStated st line) where
  abbrev said : Statement
  said = statement_of (tokens_of line)

  none-put : (s : Statement) → said ≡ s → line_bytes is i gs g s ≡ [] → BytesPut p out out p (line_bytes is i gs g said)
  none-put s e z =
      let q : line_bytes is i gs g said ≡ [] = ap (line_bytes is i gs g) e ∙ z in
      record { put = ap (sets out p) (sym q); next = omega (arith, ap length q) }

  pub line-put-blank : st ≡ stated.Blank → BytesPut p out out p (line_bytes is i gs g said)
  unfolding line_bytes
  line-put-blank e = none-put blank (stated-as line k e) refl

  pub line-put-other : st ≡ stated.Other → BytesPut p out out p (line_bytes is i gs g said)
  unfolding line_bytes
  line-put-other e = none-put other (stated-as line k e) refl

  pub line-put-input : (f t : ℕ) → st ≡ stated.Input f t → BytesPut p out out p (line_bytes is i gs g said)
  unfolding line_bytes
  line-put-input f t e =
      let a : InputAt f t line said = stated-as line k e in
      none-put (input (part f t line)) a.is refl

  pub line-put-output : (f t : ℕ) → st ≡ stated.Output f t → BytesPut p out out p (line_bytes is i gs g said)
  unfolding line_bytes
  line-put-output f t e =
      let a : OutputAt f t line said = stated-as line k e in
      none-put (output (part f t line)) a.is refl

  module _ (parts : GateParts) (e : st ≡ stated.Gate parts) where
    a : GateAt parts.from parts.to parts.kind parts.at parts.pins line said
    a = stated-as line k e

    bytes-are : line_bytes is i gs g said ≡ gate_bytes parts.kind (map (key_net is i gs g) a.names)
    unfolding line_bytes
    bytes-are = ap (line_bytes is i gs g) a.is

    bytes-length : length (line_bytes is i gs g said) ≡ 4 + 2 * parts.pins
    bytes-length =
        let ns = map (key_net is i gs g) a.names in
        omega (arith, ap length bytes-are, length-gate parts.kind ns, length-map a.names (key_net is i gs g), a.count)

    pub line-pins-there : PinsThere line parts.at parts.pins
    unfolding PinsThere
    line-pins-there = record {
      x = part parts.from parts.to line;
      k = parts.kind;
      ys = a.names;
      reads = a.reads;
      count = a.count;
      inside = a.inside;
    }

    pub line-kind : parts.kind ≤ 8
    line-kind = a.kind_high

    pub line-few : FewPins said → parts.pins ≤ 8
    unfolding FewPins
    line-few h = let z : length a.names ≤ 8 = subst FewPins a.is h in omega (arith, a.count)

    pub line-room : p + length (line_bytes is i gs g said) ≤ length out → p + 4 + 2 * parts.pins ≤ length out
    line-room h = omega (arith, bytes-length)

    pub line-twice : FewPins said → Fits w64 (2 * parts.pins)
    line-twice h = record { fits = omega (arith, line-few h) }

    pub line-fits : p + length (line_bytes is i gs g said) ≤ length out → length out < 2 ^ 64
        → Fits w64 (p + 4 + 2 * parts.pins)
    line-fits h l = record { fits = omega (arith, line-room h) }

    pub line-put-gate : (out' : List ℕ) → GatePut out out' p line parts is i gs g
        → BytesPut (p + 4 + 2 * parts.pins) out out' p (line_bytes is i gs g said)
    line-put-gate out' w = record {
      put = w.put (part parts.from parts.to line) parts.kind a.names a.reads a.count
          ∙ ap (sets out p) (sym bytes-are);
      next = omega (arith, bytes-length);
    }

-- ---- lines

module _ (out₀ : List ℕ) (p : ℕ) (text is : List ℕ) (i : ℕ) (gs : List ℕ) (g : ℕ) where
  abbrev lines_left : ℕ → List (List ℕ)
  lines_left at = lines_from [] (drop at text)

  pub record LinesLeft (out : List ℕ) (write at : ℕ) : Type 0 where
    pub put : sets out write (lines_bytes is i gs g (lines_left at)) ≡ sets out₀ p (lines_bytes is i gs g (lines_of text))
    pub next : write + length (lines_bytes is i gs g (lines_left at)) ≡ p + length (lines_bytes is i gs g (lines_of text))
    pub few : AllFewPins (lines_left at)
    pub same : length out ≡ length out₀
    pub inside : at ≤ length text

  pub lines_start : AllFewPins (lines_of text) → LinesLeft out₀ p 0
  unfolding lines_of
  lines_start f = record { put = refl; next = refl; few = f; same = refl; inside = omega arith }

  module _ (out : List ℕ) (write at : ℕ) (s : LinesLeft out write at) where
    pub lines-length : length out ≡ length out₀
    lines-length = s.same

    pub lines_end : length text ≤ at → BytesPut write out₀ out p (lines_bytes is i gs g (lines_of text))
    unfolding lines_from last_line_of lines_bytes
    lines_end h =
        let z : lines_left at ≡ [] = ap (lines_from []) (drop_of_length-le text {i = at} h) in
        let b : lines_bytes is i gs g (lines_left at) ≡ [] = ap (lines_bytes is i gs g) z in
        record { put = sym (ap (sets out write) b) ∙ s.put; next = omega (arith, ap length b, s.next) }

    module _ (ends : LineEnds) (e : LineIs ends at text) where
      abbrev saying : Statement
      saying = statement_of (tokens_of (part at ends.stop text))

      bytes-split : lines_bytes is i gs g (lines_left at) ≡ line_bytes is i gs g saying ++ lines_bytes is i gs g (lines_left ends.next)
      unfolding lines_bytes
      bytes-split = ap (lines_bytes is i gs g) e.lines

      few-split : AllFewPins (part at ends.stop text ∷ lines_left ends.next)
      few-split = subst AllFewPins e.lines s.few

      pub lines-few : FewPins saying
      unfolding AllFewPins
      lines-few = few-split.0

      pub lines-room : p + length (lines_bytes is i gs g (lines_of text)) ≤ length out₀
          → write + length (line_bytes is i gs g saying) ≤ length out
      lines-room h =
          omega (
            arith,
            s.next,
            s.same,
            ap length bytes-split,
            length-append (line_bytes is i gs g saying) (lines_bytes is i gs g (lines_left ends.next)),
          )

      pub lines-again : (r : ℕ) (out' : List ℕ) → BytesPut r out out' write (line_bytes is i gs g saying)
          → LinesLeft out' r ends.next
      unfolding AllFewPins
      lines-again r out' b =
          let x = line_bytes is i gs g saying in
          let y = lines_bytes is i gs g (lines_left ends.next) in
          record {
            put = ap (λ (o : List ℕ). sets o r y) b.put ∙ sets_append x y out write r b.next
                ∙ ap (sets out write) (sym bytes-split) ∙ s.put;
            next = omega (arith, b.next, s.next, ap length bytes-split, length-append x y);
            few = few-split.1;
            same = ap length b.put ∙ length-sets out write x ∙ s.same;
            inside = e.next_in;
          }
