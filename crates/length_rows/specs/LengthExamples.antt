-- Small circuits, stores and the rows that they must give, worked by hand.
use Rattle.std.specs.Prelude.{List, [], ◌∷◌, ◌++◌, ℕ, ◌-◌, length, replicate}
use Rattle.model.specs.Base.{Answer, refused, value, ◌into◌}
use Rattle.model.specs.Runs.{run}
use Rattle.model.specs.Store.{empty_store}
use Rattle.model.specs.Encode.{header_bytes, output_bytes}
use Rattle.model.specs.Examples.{chain, with_outputs, holding}
use Rattle.length_rows.specs.Lengths.{lengths, length_words, lengths_call}

pub record Example : Type 0 where
  pub netlist : List ℕ
  pub store : List ℕ
  pub answer : Answer (List ℕ)

-- an example of a refusal
abbrev pub no_example : Example
no_example = record { netlist = []; store = []; answer = refused 1 }

-- an answer as 256 numbers
unfoldable pub rows_answered : List ℕ → List ℕ → Answer (List ℕ)
rows_answered netlist ws = lengths_call netlist ws into λ r. value (length_words r)

-- a row that ends in zeros
unfoldable pub up_to : List ℕ → List ℕ
up_to ns = ns ++ replicate (lengths - length ns) 0

-- one input, `n` inverters one after the other, the output at `net`
unfoldable pub inverters : ℕ → ℕ → List ℕ
inverters n net = header_bytes 1 n 1 ++ chain 2 1 0 n ++ output_bytes net

-- the row of one path of 63 gates
unfoldable pub one63 : List ℕ
one63 = replicate 63 0 ++ (1 ∷ [])

unfoldable pub examples : List Example
examples =
    -- net 2 AND of 0 and 1, net 3 OR of 2 and 1, outputs 2 and 3: paths 1 to 5 have 1, 1, 2, 2 and 1 gates
    record {
      netlist = with_outputs (2 ∷ 3 ∷ []);
      store = holding 1 (run 1 2 ∷ run 5 5 ∷ []) (run 1 2 ∷ run 4 5 ∷ []);
      answer = value (up_to (0 ∷ 3 ∷ 2 ∷ []) ++ up_to (0 ∷ 3 ∷ []) ++ up_to (0 ∷ 3 ∷ 2 ∷ []) ++ up_to (0 ∷ 3 ∷ 1 ∷ []));
    }
    -- a wire without a gate
    ∷ record { netlist = header_bytes 1 0 1 ++ output_bytes 0; store = empty_store; answer = value (up_to [] ++ up_to [] ++ up_to [] ++ up_to []) }
    -- 63 gates are allowed, 64 are not, unless they lead nowhere
    ∷ record { netlist = inverters 63 63; store = holding 1 (run 1 1 ∷ []) []; answer = value (one63 ++ one63 ++ one63 ++ up_to []) }
    ∷ record { netlist = inverters 64 64; store = empty_store; answer = refused 84 }
    ∷ record { netlist = inverters 64 1; store = empty_store; answer = value (up_to (0 ∷ 1 ∷ []) ++ up_to [] ++ up_to (0 ∷ 1 ∷ []) ++ up_to []) }
    -- what is wrong with the store is said first
    ∷ record { netlist = inverters 64 64; store = holding 1 [] (run 2 2 ∷ []); answer = refused 41 }
    ∷ record { netlist = inverters 64 64; store = []; answer = refused 1 }
    ∷ []
