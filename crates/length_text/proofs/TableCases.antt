-- The table from its parts.
use Rattle.model.proofs.Prelude.{ℕ, ◌≤◌, ◌≡◌, ◌∙◌, ap, List, [], length, take, arith}
use Rattle.io.specs.Counts.{IsPrefixLen}
use Rattle.text_line.specs.Lines.{ascii, on_line}
use Rattle.text_line.proofs.LineLaws.{first_part, on_line-alone}
use Rattle.text_buffer.specs.Written.{Written, plain_line, each_below_of, in_room}
use Rattle.text_buffer.proofs.WrittenLaws.{then-written, written_as, room-there, first-bytes, counts-bytes}
use Rattle.length_text.specs.LengthTable.{row_text, row_at, total, head_text, table_text, table_bytes}

-- the name of the last line
alone : {x y : List ℕ} → x ≡ [] → y ≡ on_line x (ascii "all") → y ≡ ascii "all"
alone e f = first_part _ _ _ e f ∙ on_line-alone (ascii "all") (omega arith)

pub name-short : {x y : List ℕ} → x ≡ [] → y ≡ on_line x (ascii "all") → length y ≤ 20
name-short e f = rw (alone e f) (omega arith)

-- the line of the sums
sums-line : (paths rising falling name : List ℕ) (p r f : ℕ) → name ≡ ascii "all" → p ≡ total paths → r ≡ total rising → f ≡ total falling
    → plain_line (row_text name p r f) ≡ plain_line (row_text (ascii "all") (total paths) (total rising) (total falling))
sums-line paths rising falling name p r f e ep er ef =
    ap (λ (t : List ℕ). plain_line (row_text t p r f)) e
    ∙ ap (λ (k : ℕ). plain_line (row_text (ascii "all") k r f)) ep
    ∙ ap (λ (k : ℕ). plain_line (row_text (ascii "all") (total paths) k f)) er
    ∙ ap (λ (k : ℕ). plain_line (row_text (ascii "all") (total paths) (total rising) k)) ef

-- the head, the lines of the lengths, the line of the sums
pub table-written : {out o1 o2 o3 line name : List ℕ} {m n end : ℕ} (paths rising falling : List ℕ) (p r f : ℕ) → table_bytes ≤ length out
    → line ≡ [] → name ≡ on_line line (ascii "all") → p ≡ total paths → r ≡ total rising → f ≡ total falling
    → Written out o1 0 (plain_line head_text) m → Written o1 o2 m (each_below_of (row_at paths rising falling) 64) n
    → Written o2 o3 n (plain_line (row_text name p r f)) end → Written out o3 0 (in_room table_bytes out (table_text paths rising falling)) end
unfolding table_text
table-written {out} {name = name} paths rising falling p r f h l e ep er ef first rows last =
    room-there table_bytes out (table_text paths rising falling) h
    (then-written (then-written first rows) (written_as (sums-line paths rising falling name p r f (alone l e) ep er ef) last))

-- what is written is what the length tells
pub told : {out out' text : List ℕ} {n : ℕ} → Written out out' 0 text n → Written out out' 0 text n × ((take n out' ≡ text) × IsPrefixLen n out')
told p = (p, (first-bytes p, counts-bytes p))
