-- The cases of filling in the rows of the nets: those of the nets before the one at hand stand in the table.
use Rattle.model.proofs.Prelude.{ℕ, ◌≤◌, ◌<◌, ◌+◌, ◌*◌, ◌≡◌, ◌∙◌, sym, subst, List, [], length, get_or, set, length-set, get_or-set_same, get_or-set_other}
use Rattle.model.proofs.Prelude.{arith, rules}
use mir.Val.{Fits}
use mir.Syntax.{w64}
use Rattle.model.specs.Base.{value}
use Rattle.model.specs.Netlist.{Netlist}
use Rattle.model.specs.Read.{read_netlist}
use Rattle.model.proofs.AnswerLaws.{value_inj}
use Rattle.model.proofs.BoolLaws.{cases}
use Rattle.netlist.specs.Tables.{SomeCircuit}
use Rattle.netlist.specs.declared.inner.Shape.{Shape}
use Rattle.netlist.proofs.TableLaws.{few-nets}
use Rattle.length_rows.specs.Lengths.{row, partials}
use Rattle.length_ranks.specs.NetRows.{NetRows, RowsBefore}

module _ (file ps : List ℕ) (shape : Shape) where
  pub fill_start : (rows : List (List ℕ)) → SomeCircuit file ps shape → length rows ≡ 512 → RowsBefore file ps shape 0 rows
  fill_start rows s long = record {
    circuit = s.known.circuit;
    counts = s.counts;
    tables = s.known.tables;
    rows_are_of = record { long = long; right = λ net h. absurd (omega arith) };
  }

  module _ (net : ℕ) (rows : List (List ℕ)) (b : RowsBefore file ps shape net rows) where
    pub fill_few : net < shape.nets → net < 512
    fill_few h = omega (arith, few-nets b.tables)

    pub fill_place : net < shape.nets → Fits w64 (net * 512)
    fill_place h = record { fits = omega (arith, few-nets b.tables) }

    pub fill_next : net < shape.nets → (ns : List ℕ) → ((N : Netlist) → read_netlist file ≡ value N → ns ≡ row (partials N net))
        → RowsBefore file ps shape (net + 1) (set rows net ns)
    fill_next h ns e =
        let here : net < length rows = omega (arith, few-nets b.tables, b.rows_are_of.long) in
        let now : get_or (set rows net ns) net [] ≡ row (partials b.circuit net) = get_or-set_same rows net ns [] here ∙ e b.circuit b.tables.legal in
        record {
          circuit = b.circuit;
          counts = b.counts;
          tables = b.tables;
          rows_are_of = record {
            long = length-set rows net ns ∙ b.rows_are_of.long;
            right = λ k a. cases net k
                (λ u. let z : k ≡ net = omega arith in rw z now)
                (λ u. get_or-set_other rows net k ns [] (λ q. omega arith) ∙ b.rows_are_of.right k u);
          };
        }

    pub fill_end : shape.nets ≤ net → (N : Netlist) → read_netlist file ≡ value N → NetRows N shape.nets rows
    fill_end h N e =
        subst (λ (M : Netlist). NetRows M shape.nets rows) (value_inj (sym b.tables.legal ∙ e))
        (record { long = b.rows_are_of.long; right = λ k a. b.rows_are_of.right k (omega arith) })

pub ruleset fill-cases = (fill_start, fill_few, fill_place, fill_next, fill_end, rules)
