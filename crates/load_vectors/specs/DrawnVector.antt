-- What drawing a vector promises.
use Rattle.std.specs.Prelude.{◌≡◌, ℕ}
use Rattle.gate_packed_pins.specs.Packed.{pack_bits}
use Rattle.load_vectors.specs.Drawing.{state_after, drawn}
use Rattle.load_vectors.specs.declared.inner.Drawn.{Drawn}

-- a drawn vector as a number, input j in bit j, and the state afterwards
pub record DrawnTrue (r : Drawn) (inputs state : ℕ) : Type 0 where
  pub vector_is : r.vector ≡ pack_bits (drawn inputs state)
  pub state_is : r.state ≡ state_after inputs state
