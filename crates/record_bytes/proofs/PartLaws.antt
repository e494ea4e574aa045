-- A part of the file, and the mark that it begins with.
use Rattle.model.proofs.Prelude.{ℕ, ◌≤◌, ◌-◌, ◌≡◌, ◌∙◌, sym, true, Bool, ◌&&◌, List, length, drop, take, length-drop, take_all, leb, leb→le}
use native.Mathlib.Nat.{le_of_eq}
use Rattle.model.specs.Read.{marked}
use Rattle.model.proofs.BoolLaws.{and_left, true→T}

-- the part `&s[at..]` is what is left of the list
pub part-rest : (at : ℕ) (s : List ℕ) → take (length s - at) (drop at s) ≡ drop at s
part-rest at s = take_all (length s - at) (drop at s) (le_of_eq (length-drop at s))

-- a part that begins with a mark is as long as was asked
pub begins-long : (n first second : ℕ) (s : List ℕ) (m : Bool) → m ≡ leb n (length s) && marked first second s → m ≡ true → n ≤ length s
begins-long n first second s m e t = leb→le n (length s) (and_left (leb n (length s)) (marked first second s) (true→T _ (sym e ∙ t)))
