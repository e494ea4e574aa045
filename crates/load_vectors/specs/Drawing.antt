-- The generator: the state and its steps, and the vector that is drawn.
-- Names: s is a state, v a vector (a value for each input, input 0 first).
use Rattle.std.specs.Prelude.{Bool, List, [], ◌∷◌, ℕ, zero, suc, ◌+◌, ◌*◌, ◌%◌, ◌^◌}
use Rattle.model.specs.Base.{bit}

-- A step replaces state s by 1664525 times s plus 1013904223, modulo 2^32
unfoldable pub next_state_of : ℕ → ℕ
next_state_of s = (1664525 * s + 1013904223) % 2 ^ 32

-- the state after `n` steps
unfoldable pub state_after : ℕ → ℕ → ℕ
state_after zero s = s
state_after (suc n) s = state_after n (next_state_of s)

-- the top bit of a state of 32 bits
abbrev pub top_bit : ℕ → Bool
top_bit s = bit s 31

-- A vector of `n` inputs is drawn: the new state's top bit is the next input's value, input 0 first
unfoldable pub drawn : ℕ → ℕ → List Bool
drawn zero s = []
drawn (suc n) s = top_bit (next_state_of s) ∷ drawn n (next_state_of s)
