-- The rows of the nets of a legal netlist in memory, and the sums of them that the code makes.
use Rattle.std.specs.Prelude.{◌≡◌, List, [], ℕ, ◌≤◌, ◌<◌, length, get_or}
use Rattle.model.specs.Base.{sum_of}
use Rattle.model.specs.Netlist.{Netlist, max_nets, max_count, output_count, path_total}
use Rattle.model.specs.Path.{counts_before}
use Rattle.netlist.specs.Tables.{CircuitTables}
use Rattle.netlist.specs.declared.inner.Shape.{Shape}
use Rattle.path_step.specs.Picks.{pin_counts_in, output_counts_in}
use Rattle.length_rows.specs.Lengths.{lengths, row, partials}
use Rattle.length_rows.specs.RowSums.{column}

-- the rows of the first `n` nets stand in the table
pub record NetRows (N : Netlist) (n : ℕ) (rows : List (List ℕ)) : Type 0 where
  pub long : length rows ≡ max_nets
  pub right : (net : ℕ) → net < n → get_or rows net [] ≡ row (partials N net)

-- the tables of a legal netlist, with the rows of the nets before `net`
pub record RowsBefore (file positions : List ℕ) (shape : Shape) (net : ℕ) (rows : List (List ℕ)) : Type 0 where
  pub circuit : Netlist
  pub counts : List ℕ
  pub tables : CircuitTables circuit file positions counts shape
  pub rows_are_of : NetRows circuit net rows

-- with the rows of all nets
pub record RowTables (file positions counts : List ℕ) (shape : Shape) (rows : List (List ℕ)) : Type 0 where
  pub circuit : Netlist
  pub tables : CircuitTables circuit file positions counts shape
  pub rows_are_of : NetRows circuit shape.nets rows

-- besides, a number that is not over that of its paths
pub record Ranked (file positions counts : List ℕ) (shape : Shape) (rows : List (List ℕ)) (number : ℕ) : Type 0 where
  pub known : RowTables file positions counts shape rows
  pub high : number ≤ path_total known.circuit

-- a row of numbers that are counts of paths
pub record Small (ns : List ℕ) : Type 0 where
  pub long : length ns ≡ lengths
  pub few : (l : ℕ) → l < lengths → get_or ns l 0 ≤ max_count

-- for each length the sum over the pins of a gate's record, and over those before a pin
unfoldable pub pin_sums : List ℕ → List (List ℕ) → ℕ → ℕ
pin_sums part rows l = sum_of (pin_counts_in part (column l rows))

unfoldable pub pin_sums_before : List ℕ → List (List ℕ) → ℕ → ℕ → ℕ
pin_sums_before part rows pin l = counts_before pin (pin_counts_in part (column l rows))

-- for each length the paths that end at an output's net
unfoldable pub output_sum : ℕ → List (List ℕ) → ℕ → ℕ → ℕ
output_sum inputs rows net l = output_count inputs (column l rows) net

-- for each length the sum over the outputs with whose records a part begins
unfoldable pub output_sums : List ℕ → ℕ → ℕ → List (List ℕ) → ℕ → ℕ
output_sums part n inputs rows l = sum_of (output_counts_in part n inputs (column l rows))
