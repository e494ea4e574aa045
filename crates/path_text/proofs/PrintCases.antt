-- The text in a buffer is as long as its length says.
use mathlib.Core.Path.{◌≡◌, sym}
use mathlib.Core.List.{List}
use Prim.Native.Nat.{ℕ}
use lib.ListN.{length, take}
use lib.Seq.{length-take-le}
use Rattle.text_buffer.specs.Written.{Written}

pub text-taken : (out out' text : List ℕ) (r : ℕ) → Written out out' 0 text r → r ≡ length (take r out')
text-taken out out' text r p = sym (length-take-le r out' p.inside)
