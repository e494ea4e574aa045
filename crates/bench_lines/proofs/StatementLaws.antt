-- Statements, token by token.
use Rattle.model.proofs.Prelude.{ℕ, ◌≤◌, ◌<◌, ◌+◌, ◌-◌, ◌^◌, ◌≡◌, ◌∙◌, ap, refl, sym, subst, true, Bool, false, ◌&&◌, true≢false, List, [], ◌∷◌, ◌++◌}
use Rattle.model.proofs.Prelude.{length, length-append, leb, T, eqb, leb→le, arith, ne_eqb, eq-eqb}
use mir.Val.{Fits}
use mir.Syntax.{w64}
use Rattle.model.specs.Base.{all_of}
use Rattle.model.proofs.BoolLaws.{T→true, and_left, and_right}
use Rattle.bench_lines.specs.Text.{name_byte, Token, name, sign, Statement, gate, other, place, kind_names, io_names, ending, pins_from}
use Rattle.bench_lines.specs.LineReading.{part, Named, NameIn, NameAt, SignAt, TokenIs, rest_at, name_then}
use Rattle.bench_lines.specs.Keys.{key_of, key_place, key_words, AllNamed}
use Rattle.bench_lines.specs.Stating.{at_end_of, pins_state, OnePin, NoPin, PinIs, NamedThen, GateAt, LineStated}
use Rattle.bench_lines.specs.declared.inner.keys.NameKey.{NameKey}
use Rattle.bench_lines.specs.declared.inner.tokens.NextToken.{NextToken}
use Rattle.bench_lines.specs.declared.inner.tokens.NextToken.TheVariants as token
use Rattle.bench_lines.specs.declared.inner.statements.LineStatement.{LineStatement}
use Rattle.bench_lines.proofs.KeyLaws.{place_of, named-snoc}
use Rattle.std.specs.Prelude.{Option, Some, None}
use Rattle.bench_lines.specs.declared.inner.statements.PinPart.{PinPart}

-- ---- what a line states

pub stated-as : (line : List ℕ) {s r : LineStatement} → LineStated s line → s ≡ r → LineStated r line
stated-as line k e = subst (λ (x : LineStatement). LineStated x line) e k

-- ---- what a token tells

module _ (line : List ℕ) (at : ℕ) (t : NextToken) (k : TokenIs t at line) where
  pub told-end : t ≡ token.End → rest_at at line ≡ []
  told-end e = subst (λ (x : NextToken). TokenIs x at line) e k

  pub told-sign : (b next : ℕ) → t ≡ token.Sign b next → SignAt b next at line
  told-sign b next e = subst (λ (x : NextToken). TokenIs x at line) e k

  pub told-name : (from to : ℕ) → t ≡ token.Name from to → NameAt from to at line
  told-name from to e = subst (λ (x : NextToken). TokenIs x at line) e k

  pub end-yes : t ≡ token.End → true ≡ at_end_of (rest_at at line)
  unfolding at_end_of
  end-yes e = rw (told-end e) refl

  pub end-sign : (b next : ℕ) → t ≡ token.Sign b next → false ≡ at_end_of (rest_at at line)
  unfolding at_end_of
  end-sign b next e = rw (told-sign b next e).tokens refl

  pub end-name : (from to : ℕ) → t ≡ token.Name from to → false ≡ at_end_of (rest_at at line)
  unfolding at_end_of
  end-name from to e = rw (told-name from to e).tokens refl

  pub sign-in : (b next : ℕ) → t ≡ token.Sign b next → next ≤ length line
  sign-in b next e = (told-sign b next e).high

  pub name_in : (from to : ℕ) → t ≡ token.Name from to → NameIn from to line
  name_in from to e = (told-name from to e).is_name

-- the line ends, or does not
pub ending-yes : (s : Statement) (ts : List Token) (e : Bool) → e ≡ at_end_of ts → e ≡ true → ending s ts ≡ s
unfolding ending at_end_of
ending-yes s [] e q h = refl
ending-yes s (t ∷ ts) e q h = absurd (true≢false (sym h ∙ q))

pub ending-no : (s : Statement) (ts : List Token) (e : Bool) → e ≡ at_end_of ts → e ≡ false → ending s ts ≡ other
unfolding ending at_end_of
ending-no s [] e q h = absurd (true≢false (sym q ∙ h))
ending-no s (t ∷ ts) e q h = refl

-- ---- pins

module _ (x : List ℕ) (k : ℕ) (xs : List (List ℕ)) (y : List ℕ) (s : ℕ) (ts : List Token) where
  by-close : Bool → Statement
  by-close b = elim b [ true ↦ ending (gate x k (xs ++ (y ∷ []))) ts | false ↦ other ]

  by-comma : Bool → Statement
  by-comma b = elim b [ true ↦ pins_from x k (xs ++ (y ∷ [])) ts | false ↦ by-close (eqb s 0x29) ]

  comma_step : s ≡ 0x2C → pins_from x k xs (name y ∷ sign s ∷ ts) ≡ pins_from x k (xs ++ (y ∷ [])) ts
  unfolding pins_from by-comma by-close
  comma_step e = ap by-comma (eq-eqb s 0x2C e)

  close_step : (s ≡ 0x2C → ⊥) → s ≡ 0x29
      → pins_from x k xs (name y ∷ sign s ∷ ts) ≡ ending (gate x k (xs ++ (y ∷ []))) ts
  unfolding pins_from by-comma by-close
  close_step d e = ap by-comma (ne_eqb s 0x2C d) ∙ ap by-close (eq-eqb s 0x29 e)

  bad-step : (s ≡ 0x2C → ⊥) → (s ≡ 0x29 → ⊥) → pins_from x k xs (name y ∷ sign s ∷ ts) ≡ other
  unfolding pins_from by-comma by-close
  bad-step d e = ap by-comma (ne_eqb s 0x2C d) ∙ ap by-close (ne_eqb s 0x29 e)

module _ (line : List ℕ) (from to : ℕ) (n : NameIn from to line) (t : NextToken) (k : TokenIs t to line) where
  pub pin-cut : t ≡ token.End → NoPin (name_then from to line)
  unfolding pins_from
  pin-cut e = record { stop = λ x k' xs. rw (told-end line to t k e) refl }

  pub pin-names : (f g : ℕ) → t ≡ token.Name f g → NoPin (name_then from to line)
  unfolding pins_from
  pin-names f g e = record { stop = λ x k' xs. rw (told-name line to t k f g e).tokens refl }

  abbrev y : List ℕ
  y = part from to line

  module _ (b next : ℕ) (e : t ≡ token.Sign b next) where
    signed : SignAt b next to line
    signed = told-sign line to t k b next e

    pub pin-comma : b ≡ 0x2C → OnePin (name_then from to line) from from to next true line
    unfolding pins_state
    pin-comma q = record {
      step = λ x k' xs. rw signed.tokens (comma_step x k' xs y b (rest_at next line) q);
      is_name = n;
      later = omega (arith, n.some, signed.later);
      high = signed.high;
    }

    module _ (d : b ≡ 0x2C → ⊥) where
      pub pin-bad : (b ≡ 0x29 → ⊥) → NoPin (name_then from to line)
      pin-bad q = record { stop = λ x k' xs. rw signed.tokens (bad-step x k' xs y b (rest_at next line) d q) }

      module _ (q : b ≡ 0x29) (end : Bool) (f : end ≡ at_end_of (rest_at next line)) where
        pub pin-goes-on : end ≡ false → NoPin (name_then from to line)
        pin-goes-on h = record {
          stop = λ x k' xs. rw signed.tokens
              (close_step x k' xs y b (rest_at next line) d q
              ∙ ending-no (gate x k' (xs ++ (y ∷ []))) (rest_at next line) end f h);
        }

        pub pin-last : end ≡ true → OnePin (name_then from to line) from from to next false line
        unfolding pins_state
        pin-last h = record {
          step = λ x k' xs. rw signed.tokens
              (close_step x k' xs y b (rest_at next line) d q
              ∙ ending-yes (gate x k' (xs ++ (y ∷ []))) (rest_at next line) end f h);
          is_name = n;
          later = omega (arith, n.some, signed.later);
          high = signed.high;
        }

-- the same, read from a position on
module _ (line : List ℕ) (at : ℕ) (t : NextToken) (k : TokenIs t at line) where
  pub no-pin-end : t ≡ token.End → NoPin (rest_at at line)
  unfolding pins_from
  no-pin-end e = record { stop = λ x k' xs. rw (told-end line at t k e) refl }

  pub no-pin-sign : (b next : ℕ) → t ≡ token.Sign b next → NoPin (rest_at at line)
  unfolding pins_from
  no-pin-sign b next e = record { stop = λ x k' xs. rw (told-sign line at t k b next e).tokens refl }

  pub pin-named : (from to : ℕ) (r : Option PinPart) → t ≡ token.Name from to → NamedThen r from to line → PinIs r at line
  pin-named from to None e p = record {
    stop = λ x k' xs. ap (pins_from x k' xs) (told-name line at t k from to e).tokens ∙ p.stop x k' xs;
  }
  pin-named from to (Some q) e p = record {
    step = λ x k' xs. ap (pins_from x k' xs) (told-name line at t k from to e).tokens ∙ p.step x k' xs;
    is_name = p.is_name;
    later = omega (arith, p.later, (told-name line at t k from to e).low);
    high = p.high;
  }

-- the loop over a gate's pins
module _ (line : List ℕ) (from to kind at : ℕ) where
  abbrev x : List ℕ
  x = part from to line

  pub record PinsSoFar (place pins : ℕ) (more : Bool) : Type 0 where
    pub names : List (List ℕ)
    pub is : pins_from (part from to line) kind [] (rest_at at line)
        ≡ pins_state more (part from to line) kind names (rest_at place line)
    pub count : length names ≡ pins
    pub all_named : AllNamed names
    pub few : pins ≤ place
    pub inside : place ≤ length line

  pub pins-start : at ≤ length line → PinsSoFar at 0 true
  unfolding pins_state AllNamed
  pins-start h = record { names = []; is = refl; count = refl; all_named = tt; few = omega arith; inside = h }

  module _ (place pins : ℕ) (more : Bool) (s : PinsSoFar place pins more) where
    pub pins-inside : place ≤ length line
    pins-inside = s.inside

    going : more ≡ true → pins_from x kind [] (rest_at at line) ≡ pins_from x kind s.names (rest_at place line)
    unfolding pins_state
    going m = s.is ∙ ap (λ (b : Bool). pins_state b x kind s.names (rest_at place line)) m

    module _ (p : Option PinPart) (k : PinIs p place line) (m : more ≡ true) where
      pub pins-stop : p ≡ None → pins_from x kind [] (rest_at at line) ≡ other
      pins-stop e =
          let z : NoPin (rest_at place line) = subst (λ (r : Option PinPart). PinIs r place line) e k in going m
          ∙ z.stop x kind s.names

      module _ {q : PinPart} (e : p ≡ Some q) where
        one : OnePin (rest_at place line) place q.from q.to q.next q.more line
        one = subst (λ (r : Option PinPart). PinIs r place line) e k

        pub pins-count : length line < 2 ^ 63 → Fits w64 (pins + 1)
        pins-count l = record { fits = omega (arith, s.few, s.inside) }

        pub pins-less : length line - q.next < length line - place
        pins-less = omega (arith, one.later, one.high)

        pub pins-again : PinsSoFar q.next (pins + 1) q.more
        pins-again = record {
          names = s.names ++ (part q.from q.to line ∷ []);
          is = going m ∙ one.step x kind s.names;
          count = omega (arith, length-append s.names (part q.from q.to line ∷ []), s.count);
          all_named = named-snoc s.names (part q.from q.to line) s.all_named one.is_name.named;
          few = omega (arith, s.few, one.later);
          inside = one.high;
        }

    pub pins-end : more ≡ false → NameIn from to line → 1 ≤ kind → kind ≤ 8 → at ≤ length line
        → GateAt from to kind at pins line (pins_from x kind [] (rest_at at line))
    unfolding pins_state
    pins-end m n l h i =
        let q : pins_from x kind [] (rest_at at line) ≡ gate x kind s.names =
        s.is ∙ ap (λ (b : Bool). pins_state b x kind s.names (rest_at place line)) m in
        record {
          names = s.names;
          is = q;
          reads = q;
          count = s.count;
          all_named = s.all_named;
          is_name = n;
          kind_low = l;
          kind_high = h;
          inside = i;
        }

-- ---- kinds, INPUT and OUTPUT

-- a name that is written out
name_test : List ℕ → Bool
name_test w = all_of name_byte w && (leb 1 (length w) && leb (length w) 16)

tested-name : (w : List ℕ) → T (name_test w) → Named w
unfolding name_test
tested-name w t =
    let named = all_of name_byte w in
    let some = leb 1 (length w) in
    let short = leb (length w) 16 in
    let size = and_right named (some && short) t in
    record {
      bytes = T→true named (and_left named (some && short) t);
      some = leb→le 1 (length w) (and_left some short size);
      short = leb→le (length w) 16 (and_right some short size);
    }

all_tested : (ws : List (List ℕ)) → T (all_of name_test ws) → AllNamed ws
unfolding AllNamed
all_tested [] t = tt
all_tested (w ∷ ws) t =
    (tested-name w (and_left (name_test w) (all_of name_test ws) t), all_tested ws (and_right (name_test w) (all_of name_test ws) t))

module _ (line : List ℕ) (from to : ℕ) (n : NameIn from to line) (key : NameKey) (e : key ≡ key_of (part from to line)) (p : ℕ) where
  place_in : (names : List (List ℕ)) (words : List ℕ) (m : ℕ) → words ≡ key_words names ++ [] → AllNamed names
      → m ≡ length names → p ≡ key_place key.low key.high m 0 words → p ≡ place (part from to line) names
  place_in names words m w a l q =
      place_of (record { rest = []; is = w }) a n.named l
      (q ∙ ap (λ (k : NameKey). key_place k.low k.high m 0 words) e)

  pub kind-is : p ≡ key_place key.low key.high 8 0 (0x46465542 ∷ 0 ∷ 0x544F4E ∷ 0 ∷ 0x444E41 ∷ 0 ∷ 0x444E414E ∷ 0
      ∷ 0x524F ∷ 0 ∷ 0x524F4E ∷ 0 ∷ 0x524F58 ∷ 0 ∷ 0x524F4E58 ∷ 0 ∷ [])
      → p ≡ place (part from to line) kind_names
  unfolding kind_names key_words name_test name_byte
  kind-is q = place_in kind_names _ 8 refl (all_tested kind_names tt) refl q

  pub io_is : p ≡ key_place key.low key.high 2 0 (0x5455504E49 ∷ 0 ∷ 0x54555054554F ∷ 0 ∷ [])
      → p ≡ place (part from to line) io_names
  unfolding io_names key_words name_test name_byte
  io_is q = place_in io_names _ 2 refl (all_tested io_names tt) refl q
