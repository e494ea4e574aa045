-- Columns: the blanks in front of a text, and how long a column and a line of the table are at most.
use Rattle.model.proofs.Prelude.{ℕ, ◌≤◌, ◌+◌, ◌-◌, suc, zero, ◌≡◌, ◌∙◌, ap, refl, ap₂, List, ◌∷◌, ◌++◌, length, take, length-append, replicate}
use Rattle.model.proofs.Prelude.{length-replicate, arith}
use Rattle.text_line.specs.Decimal.{decimal_text}
use Rattle.text_line.proofs.DecimalLaws.{at-most-20}
use Rattle.text_buffer.proofs.LineLengthLaws.{line-bytes}
use Rattle.length_text.specs.LengthTable.{aligned, held_share, row_text}
use Rattle.length_text.proofs.HeldShareCases.{share_short}

take-replicate : (k n a : ℕ) → k ≤ n → take k (replicate n a) ≡ replicate k a
take-replicate zero n a h = refl
take-replicate (suc k) zero a h = absurd (omega arith)
take-replicate (suc k) (suc n) a h = ap (λ (l : List ℕ). a ∷ l) (take-replicate k n a (omega arith))

-- of 20 blanks those that fill the column, then the text
pub aligned-made : (width gap l r : ℕ) (bytes : List ℕ) → width ≤ 20 → r ≡ length (take l bytes) → gap ≡ width - r
    → take gap (replicate 20 32) ++ take r bytes ≡ aligned width (take l bytes)
unfolding aligned
aligned-made width gap l r bytes h e g =
    let fill : gap ≡ width - length (take l bytes) = omega arith in
    ap₂ (λ (x y : List ℕ). x ++ y) (take-replicate gap 20 32 (omega arith) ∙ ap (λ (k : ℕ). replicate k 32) fill) (line-bytes l r bytes e)

-- a column that is wide enough
aligned-fits : (width : ℕ) (text : List ℕ) → length text ≤ width → length (aligned width text) ≤ width
unfolding aligned
aligned-fits width text h = simp (length-append, length-replicate) (omega arith)

-- any column
aligned-most : (width : ℕ) (text : List ℕ) → length (aligned width text) ≤ width + length text
unfolding aligned
aligned-most width text = simp (length-append, length-replicate) (omega arith)

-- a line of the table
pub row-short : (name : List ℕ) (paths rising falling : ℕ) → length name ≤ 20 → length (row_text name paths rising falling) ≤ 128
unfolding row_text
row-short name paths rising falling h =
    let named = aligned-most 6 name in
    let first = aligned-fits 20 (decimal_text paths) (at-most-20 paths) in
    let second = aligned-fits 20 (decimal_text rising) (at-most-20 rising) in
    let third = aligned-fits 20 (decimal_text falling) (at-most-20 falling) in
    let last = aligned-fits 9 (held_share paths rising falling) (share_short paths rising falling) in
    simp length-append (omega arith)
