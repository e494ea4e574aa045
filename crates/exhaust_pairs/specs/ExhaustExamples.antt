-- Small blocks, and what all their pairs must show, worked by hand. The store that each is handed has words that are no store's.
use Rattle.std.specs.Prelude.{List, [], ◌∷◌, ◌++◌, ℕ, replicate}
use Rattle.model.specs.Base.{Answer, refused, value, ◌into◌}
use Rattle.model.specs.Runs.{run}
use Rattle.model.specs.Store.{store_words_count, empty_store}
use Rattle.model.specs.Calls.{work_words_count}
use Rattle.model.specs.Encode.{header_bytes, gate_bytes, output_bytes}
use Rattle.model.specs.Examples.{Q, twice, hazard, spread, holding}
use Rattle.exhaust_pairs.specs.Exhaust.{exhaust_answer, exhaust_store}

-- a netlist and a class, the answer as rising and falling totals, and the store left
pub record Example : Type 0 where
  pub netlist : List ℕ
  pub class : ℕ
  pub answer : Answer (List ℕ)
  pub left : List ℕ

-- the store as found
unfoldable pub sevens : List ℕ
sevens = replicate store_words_count 7

-- an example of a refusal
abbrev pub no_example : Example
no_example = record { netlist = []; class = 1; answer = refused 10; left = sevens }

unfoldable pub enough : List ℕ
enough = replicate work_words_count 0

unfoldable pub totals_shown : List ℕ → ℕ → Answer (List ℕ)
totals_shown netlist class = exhaust_answer netlist class sevens enough into λ t. value (t.on_rising ∷ t.on_falling ∷ [])

unfoldable pub store_shown : List ℕ → ℕ → List ℕ
store_shown netlist class = exhaust_store netlist class sevens enough

-- seven inputs
unfoldable pub seven : List ℕ
seven = header_bytes 7 1 1 ++ gate_bytes 3 (0 ∷ 1 ∷ []) ++ output_bytes 7

unfoldable pub examples : List Example
examples =
    -- Q, net 2 AND of 0 and 1, net 3 OR of 2 and 1. Path 1, from net 0, wants net 1 at 1 and at 0: no test shows it. Path 2, from net 1 through the
    -- AND, wants net 1 at 0: it is shown when that falls. Path 3, from net 1, is shown at both edges
    record { netlist = Q; class = 1; answer = value (1 ∷ 2 ∷ []); left = holding 12 (run 3 3 ∷ []) (run 2 3 ∷ []) }
    ∷ record { netlist = Q; class = 2; answer = value (1 ∷ 2 ∷ []); left = holding 12 (run 3 3 ∷ []) (run 2 3 ∷ []) }
    -- XOR of one input with itself: both pins are open at both edges; robustly the other pin would have to be steady
    ∷ record { netlist = twice 7; class = 1; answer = value (2 ∷ 2 ∷ []); left = holding 2 (run 1 2 ∷ []) (run 1 2 ∷ []) }
    ∷ record { netlist = twice 7; class = 2; answer = value (0 ∷ 0 ∷ []); left = holding 2 [] [] }
    -- AND(a, NOT a), which is always 0, then OR with b. Paths 1 and 2, from a and from NOT a, each want the other at 1, so that a has moved to close
    -- the AND: non-robustly shown at one edge each; robustly never, as no side is steady. Path 3, from b, is shown at both
    ∷ record { netlist = hazard; class = 1; answer = value (2 ∷ 2 ∷ []); left = holding 12 (run 2 3 ∷ []) (run 1 1 ∷ run 3 3 ∷ []) }
    ∷ record { netlist = hazard; class = 2; answer = value (1 ∷ 1 ∷ []); left = holding 12 (run 3 3 ∷ []) (run 3 3 ∷ []) }
    -- 2,341 working runs when a rises: 50 on the way, by the first pair, and the store is empty
    ∷ record { netlist = spread 3; class = 1; answer = refused 50; left = empty_store }
    -- seven inputs are 91, after the class; the store is as found
    ∷ record { netlist = seven; class = 2; answer = refused 91; left = sevens }
    ∷ record { netlist = seven; class = 3; answer = refused 83; left = sevens }
    ∷ no_example
    ∷ []
