-- The end of a text judged.
use Rattle.model.proofs.Prelude.{ℕ, ◌≤◌, ◌<◌, ◌*◌, ◌≡◌, ◌∙◌, ap, refl, sym, true, Bool, false, List, length, leb, arith, le-leb, lt-leb}
use Rattle.model.specs.Base.{Answer, refused, value, ◌then◌, checks, all_of}
use Rattle.bench_lines.specs.Text.{lines_of, is_in}
use Rattle.bench_circuit.specs.Circuit.{Circuit, net_names, end_rules, undefined_from, end_line, line_in, refused_line_of, circuit_of}
use Rattle.bench_names.specs.NameNets.{NamesRoom}
use Rattle.bench_circuit.specs.Judging.{TextTaken}
use Rattle.bench_circuit.specs.Ending.{pairs_known, LineTold, TextHeld, TextSound, RefusedAt}
use Rattle.bench_circuit.specs.declared.inner.judging.NameCounts.{NameCounts}
use Rattle.bench_circuit.proofs.JudgeCases.{known_is}
use Rattle.bench_circuit.proofs.LineCases.{room-names, room-outputs}
use Rattle.bench_circuit.proofs.EndLaws.{outputs-are}

module _ (text is gs os : List ℕ) (n : NameCounts) (taken : TextTaken n text is gs os) where
  pub at-end : circuit_of text ≡ (checks (end_rules taken.circuit) then value taken.circuit)
  unfolding circuit_of
  at-end = rw taken.reads refl

  pub at-line : refused_line_of text ≡ end_line taken.circuit (lines_of text)
  unfolding refused_line_of line_in
  at-line = ap (λ (x : Answer Circuit). line_in x (lines_of text)) taken.reads

module _ (text is gs os : List ℕ) (n : NameCounts) (t : TextHeld text is gs os n) where
  taken : TextTaken n text is gs os
  unfolding TextHeld
  taken = t

  abbrev c : Circuit
  c = taken.circuit

  pub end-room : NamesRoom is n.inputs gs n.gates
  end-room = room-names is gs os n taken.room

  pub end-outs : 2 * n.outputs ≤ length os
  end-outs = room-outputs is gs os n taken.room

  refused_end : (number line : ℕ) → checks (end_rules c) ≡ refused number → line ≡ end_line c (lines_of text)
      → RefusedAt number line text
  refused_end number line e q = record {
    answer = at-end text is gs os n taken ∙ ap (λ (x : Answer (Unit {0})). x then value c) e;
    place = q ∙ sym (at-line text is gs os n taken);
  }

  module _ (known : Bool) (e : known ≡ pairs_known is n.inputs gs n.gates os n.outputs 0) where
    all-defined : known ≡ all_of (λ x. is_in x (net_names c)) c.outputs
    all-defined = e ∙ outputs-are taken.held

    line-by : (b : Bool) → known ≡ b
        → end_line c (lines_of text) ≡ elim b [ true ↦ 0 | false ↦ undefined_from (net_names c) 1 (lines_of text) ]
    unfolding end_line
    line-by b q =
        ap (λ (x : Bool). elim x [ true ↦ 0 | false ↦ undefined_from (net_names c) 1 (lines_of text) ])
        (sym all-defined ∙ q)

    pub end-unknown : known ≡ false → (line : ℕ) → LineTold line text is n.inputs gs n.gates
        → RefusedAt 81 line text
    unfolding end_rules
    end-unknown q line l =
        refused_end 81 line (rw (sym all-defined ∙ q) refl)
        (l.told (net_names c) (known_is taken.held) ∙ sym (line-by false q))

    module _ (q : known ≡ true) where
      defined : all_of (λ x. is_in x (net_names c)) c.outputs ≡ true
      defined = sym all-defined ∙ q

      pub end-no-input : n.inputs < 1 → RefusedAt 82 0 text
      unfolding end_rules
      end-no-input l =
          let none = lt-leb 1 (length c.inputs) (omega (arith, taken.held.inputs.count)) in
          refused_end 82 0 (rw (defined, none) refl) (sym (line-by true q))

      module _ (m : 1 ≤ n.inputs) where
        some-input : leb 1 (length c.inputs) ≡ true
        some-input = le-leb 1 (length c.inputs) (omega (arith, taken.held.inputs.count))

        pub end-no-output : n.outputs < 1 → RefusedAt 82 0 text
        unfolding end_rules
        end-no-output l =
            let none = lt-leb 1 (length c.outputs) (omega (arith, taken.held.outputs.count)) in
            refused_end 82 0 (rw (defined, some-input, none) refl) (sym (line-by true q))

        pub end-sound : 1 ≤ n.outputs → TextSound text is gs os n
        unfolding TextSound end_rules
        end-sound l =
            let some = le-leb 1 (length c.outputs) (omega (arith, taken.held.outputs.count)) in
            record { taken = taken; sound = rw (defined, some-input, some) refl }
