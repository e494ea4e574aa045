-- The numbering means what specs/Numbering.antt says, for every legal netlist.
use Rattle.model.proofs.Prelude.{ℕ, ◌≡◌, List}
use Rattle.model.specs.Base.{value}
use Rattle.model.specs.Netlist.{Netlist}
use Rattle.model.specs.Read.{read_netlist}
use Rattle.model.specs.Numbering.{NumberingTrue}
use Rattle.model.proofs.WellFormed.{WellFormed}
use Rattle.model.proofs.ReadLaws.{legal}
use Rattle.model.proofs.NumberLaws.{numbers-bounds, path-of_number, number-of_path}
use Rattle.model.proofs.NetSetLaws.{set-means}
use Rattle.model.proofs.FaultCallLaws.{edge-of_fault, path-of_fault}

well-formed_numbering : (N : Netlist) → WellFormed N → NumberingTrue N
well-formed_numbering N w = record {
  each_number = number-of_path N w;
  each_path = λ p v. ((numbers-bounds N w p v).0, (numbers-bounds N w p v).1, path-of_number N w p v);
  net_sets = set-means N w;
  faults = λ e i h. (edge-of_fault e i h, path-of_fault e i h);
}

pub numbering_true : (netlist : List ℕ) (N : Netlist) → read_netlist netlist ≡ value N → NumberingTrue N
numbering_true netlist N e = well-formed_numbering N (legal netlist N e)
