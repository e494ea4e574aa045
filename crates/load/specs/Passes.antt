-- What ticket 3 says of every record of a load, over document 01's own reading of test records: it passes the test checks and, in
-- whatever class it is judged, moves exactly one input. Names: i is a record's place in the load, from 0.
use Rattle.std.specs.Prelude.{◌≡◌, true, false, List, [], ℕ, zero, suc, ◌*◌, ◌/◌, ◌%◌, ◌<◌, T, eqb, length, get_or}
use Rattle.model.specs.Base.{value, checks}
use Rattle.model.specs.Detect.{Class, Test, has_edge}
use Rattle.model.specs.Netlist.{Netlist}
use Rattle.model.specs.Path.{Edge, rising, falling}
use Rattle.model.specs.Read.{record_length, test_rules, test_of}
use Rattle.model.specs.Report.{file_records}
use Rattle.load_vectors.specs.Drawing.{state_after}
use Rattle.load.specs.Load.{vector_records}

-- A test moves exactly one input: input j makes the edge e, and no other input makes an edge, nor does input j make the other one
pub record MovesOnly (t : Test) (e : Edge) (j : ℕ) : Type 0 where
  pub moves : T (has_edge t e j)
  pub no_other : (f : Edge) (k : ℕ) → T (has_edge t f k) → (f ≡ e) × (k ≡ j)

-- the order of a vector's records: two for each input, for input 0 upward, the rising one first
abbrev pub input_at : ℕ → ℕ
input_at i = i / 2

abbrev pub edge_at : ℕ → Edge
edge_at i = elim (eqb (i % 2) 0) [ true ↦ rising | false ↦ falling ]

-- the place of a record among those of its vector, of which there are two for each input
abbrev pub place_at : Netlist → ℕ → ℕ
place_at N i = i % (2 * N.inputs)

-- the records of a load of so many vectors, the first from state s, as an audit reads them on a netlist with as many inputs; the one at place i
abbrev pub load_file : Netlist → ℕ → ℕ → List (List ℕ)
load_file N vectors s = file_records N (vector_records N.inputs vectors s)

abbrev pub record_at : Netlist → ℕ → ℕ → ℕ → List ℕ
record_at N vectors s i = get_or (load_file N vectors s) i []

-- A load for the inputs of a netlist is whole records, two for each vector and input. Each passes the test checks, 30 to 32 and 85, on that netlist
-- and, in every class, moves exactly one input: the one that the order says, in the edge that the order says
pub record LoadPasses (N : Netlist) (vectors s : ℕ) : Type 0 where
  pub whole : length (vector_records N.inputs vectors s) ≡ length (load_file N vectors s) * record_length N
  pub count : length (load_file N vectors s) ≡ vectors * (2 * N.inputs)
  pub passes : (i : ℕ) → i < vectors * (2 * N.inputs) → checks (test_rules N (record_at N vectors s i)) ≡ value tt
  pub moves : (c : Class) (i : ℕ) → i < vectors * (2 * N.inputs)
      → MovesOnly (test_of N c (record_at N vectors s i)) (edge_at (place_at N i)) (input_at (place_at N i))

-- the state after so many calls for `n` inputs, each handed the state that the one before handed back
unfoldable pub state_after_calls : ℕ → ℕ → ℕ → ℕ
state_after_calls n zero s = s
state_after_calls n (suc calls) s = state_after_calls n calls (state_after n s)
