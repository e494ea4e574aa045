-- Outputs whose names are not defined: the first OUTPUT line of one, line by line; whether there is any, by the keys.
use Rattle.model.proofs.Prelude.{ℕ, ◌≤◌, ◌<◌, ◌+◌, ◌-◌, suc, zero, ◌≡◌, ◌∙◌, ap, refl, sym, ap₂, true, Bool, false, ◌&&◌, List, [], ◌∷◌, ◌++◌, length}
use Rattle.model.proofs.Prelude.{get_or, drop, take, drop_of_length-le, drop-drop, ltb, add-one, sub-one, arith, lt-ltb, le-ltb}
use Rattle.model.specs.Base.{all_of}
use Rattle.bench_lines.specs.Text.{Statement, blank, input, gate, other, tokens_of, statement_of, lines_from, lines_of, last_line_of, is_in}
use Rattle.bench_circuit.specs.Circuit.{Circuit, net_names, output_defined, undefined_from}
use Rattle.bench_lines.specs.LineReading.{part, Named, NameIn, LineIs}
use Rattle.bench_lines.specs.Keys.{key_low, key_high, key_words, AllNamed}
use Rattle.bench_lines.specs.Stating.{GateAt, InputAt, OutputAt, LineStated}
use Rattle.bench_names.specs.NameNets.{name_place, pair_net, key_net, key_known}
use Rattle.bench_circuit.specs.Judging.{Held}
use Rattle.bench_circuit.specs.Ending.{pairs_known, Knows, OutputTold, LineTold}
use Rattle.bench_lines.specs.declared.inner.lines.LineEnds.{LineEnds}
use Rattle.bench_lines.specs.declared.inner.statements.GateParts.{GateParts}
use Rattle.bench_lines.specs.declared.inner.statements.LineStatement.{LineStatement}
use Rattle.bench_lines.specs.declared.inner.statements.LineStatement.TheVariants as stated
use Rattle.bench_circuit.specs.declared.inner.judging.NameCounts.{NameCounts}
use Rattle.bench_lines.proofs.KeyLaws.{head_at, second_at}
use Rattle.bench_lines.proofs.StatementLaws.{stated-as}
use Rattle.bench_circuit.proofs.JudgeCases.{known_is}

-- ---- one line

module _ (line is : List ℕ) (i : ℕ) (gs : List ℕ) (g : ℕ) (st : LineStatement) (k : LineStated st line) where
  no_output : (s : Statement) → statement_of (tokens_of line) ≡ s
      → ((names : List (List ℕ)) → output_defined names s ≡ true) → OutputTold true line is i gs g
  no_output s e f = record { told = λ names h. sym (ap (output_defined names) e ∙ f names) }

  pub told-blank : st ≡ stated.Blank → OutputTold true line is i gs g
  unfolding output_defined
  told-blank e = no_output blank (stated-as line k e) (λ names. refl)

  pub told-other : st ≡ stated.Other → OutputTold true line is i gs g
  unfolding output_defined
  told-other e = no_output other (stated-as line k e) (λ names. refl)

  pub told-input : (f t : ℕ) → st ≡ stated.Input f t → OutputTold true line is i gs g
  unfolding output_defined
  told-input f t e =
      let a : InputAt f t line (statement_of (tokens_of line)) = stated-as line k e in
      no_output (input (part f t line)) a.is (λ names. refl)

  pub told-gate : (p : GateParts) → st ≡ stated.Gate p → OutputTold true line is i gs g
  unfolding output_defined
  told-gate p e =
      let a : GateAt p.from p.to p.kind p.at p.pins line (statement_of (tokens_of line)) =
      stated-as line k e in
      no_output (gate (part p.from p.to line) p.kind a.names) a.is (λ names. refl)

  module _ (f t : ℕ) (e : st ≡ stated.Output f t) where
    out_at : OutputAt f t line (statement_of (tokens_of line))
    out_at = stated-as line k e

    pub told-name : NameIn f t line
    told-name = out_at.is_name

    pub told-output : (net : ℕ) → net ≡ key_net is i gs g (part f t line) → OutputTold (ltb net (i + g)) line is i gs g
    unfolding output_defined key_known
    told-output net q = record {
      told = λ names h. ap (λ (n : ℕ). ltb n (i + g)) q ∙ h (part f t line) out_at.is_name.named
          ∙ sym (ap (output_defined names) out_at.is);
    }

-- ---- line by line

module _ (text is : List ℕ) (i : ℕ) (gs : List ℕ) (g : ℕ) where
  pub record UndefinedLeft (before at : ℕ) : Type 0 where
    pub left : (names : List (List ℕ)) → Knows is i gs g names
        → undefined_from names (before + 1) (lines_from [] (drop at text)) ≡ undefined_from names 1 (lines_of text)

  pub undefined_start : UndefinedLeft 0 0
  unfolding lines_of
  undefined_start = record { left = λ names h. refl }

  module _ (before at : ℕ) (s : UndefinedLeft before at) where
    pub undefined_none : length text ≤ at → LineTold 0 text is i gs g
    unfolding undefined_from lines_from last_line_of
    undefined_none h = record {
      told = λ names k. sym (ap (λ (b : List ℕ). undefined_from names (before + 1) (lines_from [] b)) (drop_of_length-le text {i = at} h)) ∙ s.left names k;
    }

    module _ (ends : LineEnds) (e : LineIs ends at text) where
      abbrev line : List ℕ
      line = take (ends.stop - at) (drop at text)

      abbrev rest : List (List ℕ)
      rest = lines_from [] (drop ends.next text)

      step : (names : List (List ℕ)) (k : ℕ) (b : Bool) → output_defined names (statement_of (tokens_of line)) ≡ b
          → undefined_from names k (line ∷ rest) ≡ elim b [ true ↦ undefined_from names (suc k) rest | false ↦ k ]
      unfolding undefined_from
      step names k b q = ap (λ (x : Bool). elim x [ true ↦ undefined_from names (suc k) rest | false ↦ k ]) q

      module _ (defined : Bool) (d : OutputTold defined (take (ends.stop - at) (drop at text)) is i gs g) where
        pub undefined_found : defined ≡ false → LineTold (before + 1) text is i gs g
        undefined_found q = record {
          told = λ names h. sym (step names (before + 1) false (sym (d.told names h) ∙ q))
              ∙ ap (undefined_from names (before + 1)) (sym e.lines) ∙ s.left names h;
        }

        pub undefined_again : defined ≡ true → UndefinedLeft (before + 1) ends.next
        undefined_again q = record {
          left = λ names h. ap (λ (k : ℕ). undefined_from names k rest) (add-one (before + 1))
              ∙ sym (step names (before + 1) true (sym (d.told names h) ∙ q))
              ∙ ap (undefined_from names (before + 1)) (sym e.lines) ∙ s.left names h;
        }

-- ---- outputs that are defined

module _ (is : List ℕ) (i : ℕ) (gs : List ℕ) (g : ℕ) (os : List ℕ) (n at net : ℕ) (whole : Bool) (h : 0 < n)
    (e : net ≡ pair_net is i gs g (get_or os at 0) (get_or os (at + 1) 0)) (w : pairs_known is i gs g os n at ≡ whole) where
  known_step : ltb net (i + g) && pairs_known is i gs g os (n - 1) (at + 2) ≡ whole
  unfolding pairs_known
  known_step = go n h w
    where
      go : (n : ℕ) → 0 < n → pairs_known is i gs g os n at ≡ whole
          → ltb net (i + g) && pairs_known is i gs g os (n - 1) (at + 2) ≡ whole
      go zero h w = absurd (omega arith)
      go (suc n) h w = rw (sub-one (suc n), e) w

  pub outs-again : net < i + g → pairs_known is i gs g os (n - 1) (at + 2) ≡ whole
  outs-again l = let z = known_step in rw (lt-ltb net (i + g) l) at z

  pub outs-stop : i + g ≤ net → false ≡ whole
  outs-stop l = let z = known_step in rw (le-ltb net (i + g) l) at z

pub outs-end : (is : List ℕ) (i : ℕ) (gs : List ℕ) (g : ℕ) (os : List ℕ) (n at : ℕ) (whole : Bool) → n ≤ 0
    → pairs_known is i gs g os n at ≡ whole → true ≡ whole
unfolding pairs_known
outs-end is i gs g os zero at whole h w = w
outs-end is i gs g os (suc n) at whole h w = absurd (omega arith)

pair-key : (is : List ℕ) (i : ℕ) (gs : List ℕ) (g : ℕ) (x : List ℕ)
    → pair_net is i gs g (key_low x) (key_high x) ≡ key_net is i gs g x
unfolding pair_net key_net name_place
pair-key is i gs g x = refl

ltb-known : {is gs os : List ℕ} {n : NameCounts} {c : Circuit} (h : Held is gs os n c) (x : List ℕ) → Named x
    → ltb (key_net is n.inputs gs n.gates x) (n.inputs + n.gates) ≡ is_in x (net_names c)
unfolding key_known
ltb-known h x nx = known_is h x nx

module _ {is gs os : List ℕ} {n : NameCounts} {c : Circuit} (h : Held is gs os n c) where
  pairs-are : (names : List (List ℕ)) (at : ℕ) (rest : List ℕ) → drop at os ≡ key_words names ++ rest → AllNamed names
      → pairs_known is n.inputs gs n.gates os (length names) at ≡ all_of (λ x. is_in x (net_names c)) names
  unfolding pairs_known key_words AllNamed
  pairs-are [] at rest e a = refl
  pairs-are (x ∷ xs) at rest e a =
      let net = pair_net is n.inputs gs n.gates in
      let u : net (get_or os at 0) (get_or os (at + 1) 0) ≡ key_net is n.inputs gs n.gates x =
      ap₂ net (head_at os at e) (second_at os at e) ∙ pair-key is n.inputs gs n.gates x in
      ap₂ (λ (b d : Bool). b && d)
      (ap (λ (m : ℕ). ltb m (n.inputs + n.gates)) u ∙ ltb-known h x a.0)
      (pairs-are xs (at + 2) rest (sym (drop-drop 2 at os) ∙ ap (drop 2) e) a.1)

  pub outputs-are : pairs_known is n.inputs gs n.gates os n.outputs 0
      ≡ all_of (λ x. is_in x (net_names c)) c.outputs
  outputs-are =
      ap (λ (m : ℕ). pairs_known is n.inputs gs n.gates os m 0) h.outputs.count
      ∙ pairs-are c.outputs 0 h.outputs.holds.rest h.outputs.holds.is h.outputs.named
