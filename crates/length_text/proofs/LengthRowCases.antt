-- The line of a length: none where it has no path.
use Rattle.model.proofs.Prelude.{ℕ, ◌<◌, ◌≡◌, refl, sym, [], arith, lt-ltb, le-ltb}
use Rattle.text_line.specs.Decimal.{decimal_text}
use Rattle.text_buffer.specs.Written.{plain_line}
use Rattle.length_text.specs.LengthTable.{row_text, length_row}

module _ (gates paths rising falling : ℕ) where
  pub no_row : paths ≡ 0 → [] ≡ length_row gates paths rising falling
  unfolding length_row
  no_row h = sym (rw (le-ltb 0 paths (omega arith), length_row) refl)

  pub row-there : 0 < paths → plain_line (row_text (decimal_text gates) paths rising falling) ≡ length_row gates paths rising falling
  unfolding length_row
  row-there h = sym (rw (lt-ltb 0 paths h, length_row) refl)
