-- Where the records of gates stand in a netlist file, and what their readers answer.
use Rattle.std.specs.Prelude.{ℕ, zero, suc, ◌+◌, ◌*◌, ◌≤◌, ◌<◌, ◌≡◌, List, [], ◌∷◌, ◌++◌, Bool, length, get_or, drop, replicate, ltb}
use Rattle.model.specs.Base.{Answer, refused, value, checks, all_of, sum_of, ◌then◌}
use Rattle.model.specs.Netlist.{Gate, net_by_net, gate_count, at_nets, max_nets, max_count}
use Rattle.model.specs.Read.{gate_rules, count_in, net_fields, read_gates}
use Rattle.model.specs.Refusals.{refusal_number_of}
use Rattle.model.specs.Calls.{padded}
use Rattle.std.specs.Prelude.{Option, Result, Ok, Err, Some, None}
use Rattle.model.specs.declared.Refusal.{Refusal}
use Rattle.netlist_gates.specs.declared.inner.GateSize.{GateSize}

-- the length of the gate's record (47 54) at a position
abbrev pub size_at : List ℕ → ℕ → ℕ
size_at file at = 4 + 2 * get_or file (at + 3) 0

-- the positions of `n` gates' records, the first at `at`
unfoldable pub starts : ℕ → ℕ → List ℕ → List ℕ
starts zero at file = []
starts (suc n) at file = at ∷ starts n (at + size_at file at) file

-- an array of 512 before a netlist is read
unfoldable pub zeros : List ℕ
zeros = replicate max_nets 0

-- Gate by gate: the rules of one gate, then its count and the length of its record
unfoldable pub gate_step : ℕ → List ℕ → List ℕ → Answer GateSize
gate_step net cs bs = checks (gate_rules net cs bs) then value (record { count = count_in cs bs; size = 4 + 2 * get_or bs 3 0 })

-- `n` pins from a position on: whether each names a net below `net`, and the sum of their counts
unfoldable pub pins_lower_of : ℕ → ℕ → ℕ → List ℕ → Bool
pins_lower_of net n at bs = all_of (λ p. ltb p net) (net_fields n (drop at bs))

unfoldable pub pin_sum_of : List ℕ → ℕ → ℕ → List ℕ → ℕ
pin_sum_of cs n at bs = sum_of (at_nets cs 0 (net_fields n (drop at bs)))

-- a sum at most 2^62, or one over it
abbrev pub SumIs : Option ℕ → ℕ → Type 0
SumIs (Some n) x = (n ≡ x) × (x ≤ max_count)
SumIs None x = max_count < x

-- `number` gates were read up to a position: their counts stand after those of the inputs, the positions of their records after a zero for each input
pub record GatesEnd (at : ℕ) (counts positions file : List ℕ) (inputs number : ℕ) : Type 0 where
  pub gates : List Gate
  pub read : read_gates number (replicate inputs 1) (drop 8 file) ≡ value (gates, drop at file)
  pub counts-are : counts ≡ padded (net_by_net gate_count 0 (replicate inputs 1) gates)
  pub positions-are : positions ≡ padded (replicate inputs 0 ++ starts number 8 file)
  pub within : at ≤ length file

abbrev pub GatesAre : Result ℕ Refusal → List ℕ → List ℕ → List ℕ → ℕ → ℕ → Type 0
GatesAre (Ok at) counts positions file inputs number = GatesEnd at counts positions file inputs number
GatesAre (Err w) counts positions file inputs number = read_gates number (replicate inputs 1) (drop 8 file) ≡ refused (refusal_number_of w)
