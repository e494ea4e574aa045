-- The statement of a line, case by case as the readers meet them.
use Rattle.model.proofs.Prelude.{ℕ, ◌≤◌, ◌<◌, ◌+◌, suc, zero, ◌≡◌, ◌∙◌, ap, refl, sym, subst, true, Bool, false, List, [], ◌∷◌, eqb, add-one, ne_eqb}
use Rattle.model.proofs.Prelude.{eq-eqb, lt-ltb, le-ltb}
use Rattle.bench_lines.specs.Text.{Token, name, sign, Statement, blank, other, tokens_of, place, is_in, kind_names, io_names, ending, pins_from, gate_from, io_of, io_from, statement_of}
use Rattle.bench_lines.specs.LineReading.{part, NameIn, TokenIs, rest_at, name_then}
use Rattle.bench_lines.specs.Stating.{at_end_of, InputAt, OutputAt, StatedIs}
use Rattle.bench_lines.specs.declared.inner.tokens.NextToken.{NextToken}
use Rattle.bench_lines.specs.declared.inner.tokens.NextToken.TheVariants as token
use Rattle.bench_lines.specs.declared.inner.statements.LineStatement.{LineStatement}
use Rattle.bench_lines.proofs.StatementLaws.{told-end, told-sign, told-name, ending-yes, ending-no}

-- ---- INPUT and OUTPUT

io_bad-step : (w x : List ℕ) (s : ℕ) (ts : List Token) → (s ≡ 0x29 → ⊥) → io_from w (name x ∷ sign s ∷ ts) ≡ other
unfolding io_from
io_bad-step w x s ts d =
    ap (λ (b : Bool). elim b [ true ↦ ending (io_of (place w io_names) x) ts | false ↦ other ]) (ne_eqb s 0x29 d)

io_close_step : (w x : List ℕ) (s : ℕ) (ts : List Token) → s ≡ 0x29
    → io_from w (name x ∷ sign s ∷ ts) ≡ ending (io_of (place w io_names) x) ts
unfolding io_from
io_close_step w x s ts e =
    ap (λ (b : Bool). elim b [ true ↦ ending (io_of (place w io_names) x) ts | false ↦ other ]) (eq-eqb s 0x29 e)

io_two : (n : ℕ) (x : List ℕ) → (n ≡ 0 → ⊥) → (n ≡ 1 → ⊥) → io_of n x ≡ other
unfolding io_of
io_two zero x d e = absurd (d refl)
io_two (suc zero) x d e = absurd (e refl)
io_two (suc (suc n)) x d e = refl

module _ (line : List ℕ) (wf wt from to : ℕ) (n : NameIn from to line) (t : NextToken) (k : TokenIs t to line) where
  abbrev w : List ℕ
  w = part wf wt line

  abbrev x : List ℕ
  x = part from to line

  abbrev whole : Statement
  whole = io_from w (name_then from to line)

  pub io_cut : t ≡ token.End → whole ≡ other
  unfolding io_from
  io_cut e = rw (told-end line to t k e) refl

  pub io_names_lem : (f g : ℕ) → t ≡ token.Name f g → whole ≡ other
  unfolding io_from
  io_names_lem f g e = rw (told-name line to t k f g e).tokens refl

  module _ (b next : ℕ) (e : t ≡ token.Sign b next) where
    with-sign : whole ≡ io_from w (name x ∷ sign b ∷ rest_at next line)
    with-sign = ap (λ (ts : List Token). io_from w (name x ∷ ts)) (told-sign line to t k b next e).tokens

    pub io_bad : (b ≡ 0x29 → ⊥) → whole ≡ other
    io_bad d = with-sign ∙ io_bad-step w x b (rest_at next line) d

    module _ (q : b ≡ 0x29) (end : Bool) (f : end ≡ at_end_of (rest_at next line)) where
      closed : whole ≡ ending (io_of (place w io_names) x) (rest_at next line)
      closed = with-sign ∙ io_close_step w x b (rest_at next line) q

      pub io_goes-on : end ≡ false → whole ≡ other
      io_goes-on h = closed ∙ ending-no (io_of (place w io_names) x) (rest_at next line) end f h

      module _ (h : end ≡ true) (io : ℕ) (p : io ≡ place w io_names) where
        says : whole ≡ io_of io x
        says =
            closed ∙ ending-yes (io_of (place w io_names) x) (rest_at next line) end f h
            ∙ ap (λ (m : ℕ). io_of m x) (sym p)

        pub io_input : io ≡ 0 → InputAt from to line whole
        unfolding io_of
        io_input z = record { is = says ∙ ap (λ (m : ℕ). io_of m x) z; is_name = n }

        pub io_output : io ≡ 1 → OutputAt from to line whole
        unfolding io_of
        io_output z = record { is = says ∙ ap (λ (m : ℕ). io_of m x) z; is_name = n }

        pub io_neither : (io ≡ 0 → ⊥) → (io ≡ 1 → ⊥) → whole ≡ other
        io_neither y z = says ∙ io_two io x y z

module _ (line : List ℕ) (w : List ℕ) (at : ℕ) (t : NextToken) (k : TokenIs t at line) where
  pub io_end : t ≡ token.End → io_from w (rest_at at line) ≡ other
  unfolding io_from
  io_end e = rw (told-end line at t k e) refl

  pub io_sign : (b next : ℕ) → t ≡ token.Sign b next → io_from w (rest_at at line) ≡ other
  unfolding io_from
  io_sign b next e = rw (told-sign line at t k b next e).tokens refl

  pub io_named : (from to : ℕ) (r : LineStatement) → t ≡ token.Name from to
      → StatedIs r line (io_from w (name_then from to line)) → StatedIs r line (io_from w (rest_at at line))
  io_named from to r e s =
      subst (λ (ts : List Token). StatedIs r line (io_from w ts)) (sym (told-name line at t k from to e).tokens) s

  pub gate-end : t ≡ token.End → gate_from w (rest_at at line) ≡ other
  unfolding gate_from
  gate-end e = rw (told-end line at t k e) refl

  pub gate-sign : (b next : ℕ) → t ≡ token.Sign b next → gate_from w (rest_at at line) ≡ other
  unfolding gate_from
  gate-sign b next e = rw (told-sign line at t k b next e).tokens refl

  pub gate-named : (from to : ℕ) (r : LineStatement) → t ≡ token.Name from to
      → StatedIs r line (gate_from w (name_then from to line)) → StatedIs r line (gate_from w (rest_at at line))
  gate-named from to r e s =
      subst (λ (ts : List Token). StatedIs r line (gate_from w ts)) (sym (told-name line at t k from to e).tokens) s

-- ---- gates

kind-step : (x y : List ℕ) (ts : List Token) → Bool → Statement
kind-step x y ts b = elim b [ true ↦ pins_from x (suc (place y kind_names)) [] ts | false ↦ other ]

open_step : (x y : List ℕ) (ts : List Token) → Bool → Statement
open_step x y ts b = elim b [ true ↦ elim (is_in y kind_names) [ true ↦ pins_from x (suc (place y kind_names)) [] ts | false ↦ other ] | false ↦ other ]

gate-opens : (x y : List ℕ) (s : ℕ) (ts : List Token) → s ≡ 0x28
    → gate_from x (name y ∷ sign s ∷ ts) ≡ kind-step x y ts (is_in y kind_names)
unfolding gate_from open_step kind-step
gate-opens x y s ts e = ap (open_step x y ts) (eq-eqb s 0x28 e)

gate-no-open : (x y : List ℕ) (s : ℕ) (ts : List Token) → (s ≡ 0x28 → ⊥) → gate_from x (name y ∷ sign s ∷ ts) ≡ other
unfolding gate_from open_step
gate-no-open x y s ts d = ap (open_step x y ts) (ne_eqb s 0x28 d)

kind-known : (x y : List ℕ) (ts : List Token) (p : ℕ) → p ≡ place y kind_names → p < 8
    → kind-step x y ts (is_in y kind_names) ≡ pins_from x (p + 1) [] ts
unfolding kind-step is_in kind_names
kind-known x y ts p e h =
    ap (kind-step x y ts) (lt-ltb (place y kind_names) 8 (subst (λ (n : ℕ). n < 8) e h))
    ∙ ap (λ (n : ℕ). pins_from x n [] ts) (ap suc (sym e) ∙ sym (add-one p))

kind-unknown : (x y : List ℕ) (ts : List Token) (p : ℕ) → p ≡ place y kind_names → 8 ≤ p
    → kind-step x y ts (is_in y kind_names) ≡ other
unfolding kind-step is_in kind_names
kind-unknown x y ts p e h = ap (kind-step x y ts) (le-ltb (place y kind_names) 8 (subst (λ (n : ℕ). 8 ≤ n) e h))

module _ (line : List ℕ) (x : List ℕ) (kf kt : ℕ) (t : NextToken) (k : TokenIs t kt line) where
  abbrev y : List ℕ
  y = part kf kt line

  abbrev opened : Statement
  opened = gate_from x (name_then kf kt line)

  pub gate-cut : t ≡ token.End → opened ≡ other
  unfolding gate_from
  gate-cut e = rw (told-end line kt t k e) refl

  pub gate-names : (f g : ℕ) → t ≡ token.Name f g → opened ≡ other
  unfolding gate_from
  gate-names f g e = rw (told-name line kt t k f g e).tokens refl

  module _ (b next : ℕ) (e : t ≡ token.Sign b next) where
    with_open : opened ≡ gate_from x (name y ∷ sign b ∷ rest_at next line)
    with_open = ap (λ (ts : List Token). gate_from x (name y ∷ ts)) (told-sign line kt t k b next e).tokens

    pub gate-bad : (b ≡ 0x28 → ⊥) → opened ≡ other
    gate-bad d = with_open ∙ gate-no-open x y b (rest_at next line) d

    module _ (q : b ≡ 0x28) (p : ℕ) (l : p ≡ place y kind_names) where
      pub gate-no-kind : 8 ≤ p → opened ≡ other
      gate-no-kind h =
          with_open ∙ gate-opens x y b (rest_at next line) q
          ∙ kind-unknown x y (rest_at next line) p l h

      pub gate-pins : p < 8 → (r : LineStatement) → StatedIs r line (pins_from x (p + 1) [] (rest_at next line))
          → StatedIs r line opened
      gate-pins h r s =
          subst (StatedIs r line) (sym (with_open ∙ gate-opens x y b (rest_at next line) q ∙ kind-known x y (rest_at next line) p l h)) s

-- ---- a line that begins with a name

by-equals : List ℕ → List Token → Bool → Statement
by-equals w ts b = elim b [ true ↦ gate_from w ts | false ↦ other ]

by-open : List ℕ → ℕ → List Token → Bool → Statement
by-open w s ts b = elim b [ true ↦ io_from w ts | false ↦ elim (eqb s 0x3D) [ true ↦ gate_from w ts | false ↦ other ] ]

module _ (w : List ℕ) (s : ℕ) (ts : List Token) where
  named-opens : s ≡ 0x28 → statement_of (name w ∷ sign s ∷ ts) ≡ io_from w ts
  unfolding statement_of by-open
  named-opens e = ap (by-open w s ts) (eq-eqb s 0x28 e)

  named-is : (s ≡ 0x28 → ⊥) → s ≡ 0x3D → statement_of (name w ∷ sign s ∷ ts) ≡ gate_from w ts
  unfolding statement_of by-open by-equals
  named-is d e = ap (by-open w s ts) (ne_eqb s 0x28 d) ∙ ap (by-equals w ts) (eq-eqb s 0x3D e)

  named-else : (s ≡ 0x28 → ⊥) → (s ≡ 0x3D → ⊥) → statement_of (name w ∷ sign s ∷ ts) ≡ other
  unfolding statement_of by-open by-equals
  named-else d e = ap (by-open w s ts) (ne_eqb s 0x28 d) ∙ ap (by-equals w ts) (ne_eqb s 0x3D e)

module _ (line : List ℕ) (from to : ℕ) (t : NextToken) (k : TokenIs t to line) where
  abbrev head : List ℕ
  head = part from to line

  abbrev said : Statement
  said = statement_of (name_then from to line)

  pub named-cut : t ≡ token.End → said ≡ other
  unfolding statement_of
  named-cut e = rw (told-end line to t k e) refl

  pub named-names : (f g : ℕ) → t ≡ token.Name f g → said ≡ other
  unfolding statement_of
  named-names f g e = rw (told-name line to t k f g e).tokens refl

  module _ (b next : ℕ) (e : t ≡ token.Sign b next) where
    then-sign : said ≡ statement_of (name head ∷ sign b ∷ rest_at next line)
    then-sign = ap (λ (ts : List Token). statement_of (name head ∷ ts)) (told-sign line to t k b next e).tokens

    pub named-io : b ≡ 0x28 → (r : LineStatement) → StatedIs r line (io_from head (rest_at next line)) → StatedIs r line said
    named-io q r s = subst (StatedIs r line) (sym (then-sign ∙ named-opens head b (rest_at next line) q)) s

    module _ (d : b ≡ 0x28 → ⊥) where
      pub named-gate : b ≡ 0x3D → (r : LineStatement) → StatedIs r line (gate_from head (rest_at next line))
          → StatedIs r line said
      named-gate q r s = subst (StatedIs r line) (sym (then-sign ∙ named-is head b (rest_at next line) d q)) s

      pub named_other : (b ≡ 0x3D → ⊥) → said ≡ other
      named_other q = then-sign ∙ named-else head b (rest_at next line) d q

-- ---- a line

module _ (line : List ℕ) (t : NextToken) (k : TokenIs t 0 line) where
  pub line-blank : t ≡ token.End → statement_of (tokens_of line) ≡ blank
  unfolding statement_of tokens_of
  line-blank e = rw (told-end line 0 t k e) refl

  module _ (b next : ℕ) (e : t ≡ token.Sign b next) where
    pub line-comment : b ≡ 0x23 → statement_of (tokens_of line) ≡ blank
    unfolding statement_of tokens_of
    line-comment q =
        ap statement_of (told-sign line 0 t k b next e).tokens ∙ ap (λ (h : Bool). elim h [ true ↦ blank | false ↦ other ]) (eq-eqb b 0x23 q)

    pub line-sign : (b ≡ 0x23 → ⊥) → statement_of (tokens_of line) ≡ other
    unfolding statement_of tokens_of
    line-sign q =
        ap statement_of (told-sign line 0 t k b next e).tokens ∙ ap (λ (h : Bool). elim h [ true ↦ blank | false ↦ other ]) (ne_eqb b 0x23 q)

  pub line-named : (from to : ℕ) (r : LineStatement) → t ≡ token.Name from to
      → StatedIs r line (statement_of (name_then from to line)) → StatedIs r line (statement_of (tokens_of line))
  unfolding tokens_of
  line-named from to r e s =
      subst (λ (ts : List Token). StatedIs r line (statement_of ts)) (sym (told-name line 0 t k from to e).tokens) s
