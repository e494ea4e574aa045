-- `show_path::text_space` meets its contract, by the law of a repeated value's length.
use mathlib.Core.Path.{sym}
use Prim.Native.Nat.{ℕ}
use lib.ListN.{length-replicate}
use Rattle.show_path.proofs.text_space.Goals as goal

pub returns : goal.returns
returns c = sym (length-replicate {A = ℕ} 2097153 0)
