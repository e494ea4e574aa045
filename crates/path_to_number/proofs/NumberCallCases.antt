-- The cases of the reading call, by what the netlist and the words were found to be.
use Rattle.model.proofs.Prelude.{ℕ, ◌≤◌, ◌+◌, ◌≡◌, ◌∙◌, ap, refl, sym, true, Bool, false, ◌&&◌, List, length, get_or, leb, T, eqb, arith, rules}
use Rattle.model.specs.Base.{refused, value}
use Rattle.model.specs.Netlist.{Netlist}
use Rattle.model.specs.Path.{valid, number_of}
use Rattle.model.specs.Read.{read_netlist}
use Rattle.model.specs.Refusals.{refusal_number_of}
use Rattle.model.specs.Calls.{is_path, path_in, path_to_number_call}
use Rattle.model.specs.declared.Refusal.{Refusal}
use Rattle.model.proofs.BoolLaws.{true→T, and3}
use Rattle.model.proofs.NumberLaws.{numbers-bounds}
use Rattle.model.proofs.ReadLaws.{legal}
use Rattle.netlist.specs.Answers.{LegalLoad, LoadTrue}
use Rattle.netlist.specs.Tables.{CircuitTables, SomeTables}
use Rattle.netlist.specs.declared.inner.Shape.{Shape}
use Rattle.netlist.proofs.LoadCases.{zeros-are}
use Rattle.path_to_number.specs.PathNumbers.{or_zero, number_in}
use Rattle.std.specs.Prelude.{Result, Ok, Err}
use Rattle.netlist.specs.declared.inner.LegalNetlist.{LegalNetlist}

not_path : (v : Bool) (a : ℕ) → (v ≡ true → 1 ≤ a) → 0 ≡ or_zero v a → v ≡ false
not_path true a h e = absurd (omega (arith, h refl))
not_path false a h e = refl

a-path : (v : Bool) (a k : ℕ) → (k ≡ 0 → ⊥) → k ≡ or_zero v a → v ≡ true
a-path true a k h e = refl
a-path false a k h e = absurd (h e)

-- a path's number is at least 1
counted-from : (file : List ℕ) (M : Netlist) → read_netlist file ≡ value M → (ws : List ℕ) → is_path M ws ≡ true → 1 ≤ number_of M (path_in ws)
counted-from file M e ws t =
    let a : T (leb 2 (length ws) && eqb (length ws) (2 + get_or ws 1 0) && valid M (path_in ws)) = true→T (is_path M ws) t in
    (numbers-bounds M (legal file M e) (path_in ws) (and3 (leb 2 (length ws)) (eqb (length ws) (2 + get_or ws 1 0)) (valid M (path_in ws)) a).2).0

module _ (file ws cs ps : List ℕ) (a : Result LegalNetlist Refusal) (la : LoadTrue a file cs ps) where
  pub read-netlist : (w : Refusal) → a ≡ Err w → refused (refusal_number_of w) ≡ path_to_number_call file ws
  unfolding path_to_number_call
  read-netlist w l =
      let n : read_netlist file ≡ refused (refusal_number_of w) = rw l at la in
      rw n refl

  module _ (l0 : LegalNetlist) (l : a ≡ Ok l0) where
    legal-load : LegalLoad file cs ps l0.shape l0.total
    legal-load = rw l at la

    pub read-tables : SomeTables file ps cs l0.shape
    read-tables = record { circuit = legal-load.circuit; tables = legal-load.tables }

    module _ (k : ℕ) (f : (M : Netlist) → CircuitTables M file ps cs l0.shape → k ≡ number_in M ws) where
      abbrev circuit : Netlist
      circuit = legal-load.circuit

      read : read_netlist file ≡ value circuit
      read = legal-load.tables.legal

      number_is : k ≡ or_zero (is_path circuit ws) (number_of circuit (path_in ws))
      unfolding number_in
      number_is = f circuit legal-load.tables

      pub read_none : k ≡ 0 → refused 61 ≡ path_to_number_call file ws
      unfolding path_to_number_call
      read_none z =
          let p : is_path circuit ws ≡ false = not_path (is_path circuit ws) _ (counted-from file circuit read ws) (sym z ∙ number_is) in
          rw (read, p) refl

      pub read_done : (k ≡ 0 → ⊥) → value k ≡ path_to_number_call file ws
      unfolding path_to_number_call
      read_done z =
          let p : is_path circuit ws ≡ true = a-path (is_path circuit ws) _ k z number_is in
          let e : k ≡ number_of circuit (path_in ws) = number_is ∙ rw p refl in
          rw (read, p) (ap value e)

pub ruleset path-to-number-cases = (zeros-are, read-netlist, read-tables, read_none, read_done, rules)
