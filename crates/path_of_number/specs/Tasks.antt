-- What writing a path of a legal netlist is asked to do.
use Rattle.std.specs.Prelude.{◌≡◌, List, ◌++◌, ℕ, ◌+◌, ◌≤◌, length, drop, replicate}
use Rattle.std.proofs.lemmas.List.Edits.{sets}
use Rattle.model.specs.Netlist.{Netlist, path_total}
use Rattle.model.specs.Path.{path_at}
use Rattle.netlist.specs.Tables.{CircuitTables}
use Rattle.netlist.specs.declared.inner.Shape.{Shape}

-- the tables of a legal netlist, and a number of one of its paths
pub record Wanted (file positions counts : List ℕ) (shape : Shape) (number : ℕ) : Type 0 where
  pub circuit : Netlist
  pub tables : CircuitTables circuit file positions counts shape
  pub low : 1 ≤ number
  pub high : number ≤ path_total circuit

-- zeros in the first `n` words
unfoldable pub blank : ℕ → List ℕ → List ℕ
blank n ws = replicate n 0 ++ drop n ws

-- the pins of partial path `number` of `net` were written from `at` up to `end`
pub record PinsWritten (N : Netlist) (net number at end : ℕ) (found left : List ℕ) : Type 0 where
  pub end_is : end ≡ at + length (path_at N net net number)
  pub words_are : left ≡ sets found at (path_at N net net number)
