-- A text's lines, one byte at a time, and one line at a time.
use Rattle.model.proofs.Prelude.{ℕ, ◌≤◌, ◌<◌, ◌+◌, ◌-◌, ◌≡◌, ◌∙◌, ap, refl, sym, subst, List, [], ◌∷◌, ◌++◌, length, get_or, drop, take, drop_of_length-le}
use Rattle.model.proofs.Prelude.{get_or-drop, arith, ne_eqb, eq-eqb}
use lib.Seq.{get_or-take, take-take}
use Rattle.bench_lines.specs.Text.{lines_from, last_line_of, without_return}
use Rattle.bench_lines.specs.LineReading.{part, EndIs, LineIs}
use Rattle.bench_lines.specs.declared.inner.lines.LineEnds.{LineEnds}
use Rattle.bench_lines.proofs.BytePartLaws.{part_none, part-more, drop-next, length_part}

lines_end : (line : List ℕ) (b : ℕ) (bs : List ℕ) → b ≡ 0x0A
    → lines_from line (b ∷ bs) ≡ without_return line ∷ lines_from [] bs
unfolding lines_from
lines_end line b bs e = rw (eq-eqb b 0x0A e, lines_from) refl

lines_more : (line : List ℕ) (b : ℕ) (bs : List ℕ) → (b ≡ 0x0A → ⊥)
    → lines_from line (b ∷ bs) ≡ lines_from (line ++ (b ∷ [])) bs
unfolding lines_from
lines_more line b bs d = rw (ne_eqb b 0x0A d, lines_from) refl

return_yes : (line : List ℕ) → get_or line (length line - 1) 0 ≡ 0x0D → without_return line ≡ take (length line - 1) line
unfolding without_return
return_yes line e = rw (eq-eqb (get_or line (length line - 1) 0) 0x0D e, without_return) refl

return_no : (line : List ℕ) → (get_or line (length line - 1) 0 ≡ 0x0D → ⊥) → without_return line ≡ line
unfolding without_return
return_no line d = rw (ne_eqb (get_or line (length line - 1) 0) 0x0D d, without_return) refl

last_some : (x : List ℕ) → 1 ≤ length x → last_line_of x ≡ x ∷ []
unfolding last_line_of
last_some [] h = absurd (omega arith)
last_some (b ∷ bs) h = refl

module _ (text : List ℕ) (at : ℕ) where
  -- the state of the search for a line's end
  pub record LineSoFar (i : ℕ) : Type 0 where
    pub lines : lines_from [] (drop at text) ≡ lines_from (part at i text) (drop i text)
    pub low : at ≤ i
    pub high : i ≤ length text

  pub line-start : at ≤ length text → LineSoFar at
  line-start h = record { lines = ap (λ (l : List ℕ). lines_from l (drop at text)) (sym (part_none at text)); low = omega arith; high = h }

  module _ (i : ℕ) (s : LineSoFar i) (h : i < length text) where
    pub line-more : (get_or text i 0 ≡ 0x0A → ⊥) → LineSoFar (i + 1)
    line-more d = record {
      lines =
          s.lines ∙ ap (λ (l : List ℕ). lines_from (part at i text) l) (drop-next i text h)
          ∙ lines_more (part at i text) (get_or text i 0) (drop (i + 1) text) d
          ∙ ap (λ (l : List ℕ). lines_from l (drop (i + 1) text)) (sym (part-more at i text s.low h));
      low = omega (arith, s.low);
      high = omega arith;
    }

    pub line-ends : get_or text i 0 ≡ 0x0A → EndIs i at text
    line-ends e = record { lines = s.lines; low = s.low; high = s.high; ends = λ k. e }

  pub line-last : (i : ℕ) → LineSoFar i → length text ≤ i → EndIs (length text) at text
  line-last i s h =
      let e : i ≡ length text = omega (arith, s.high) in
      subst (λ (n : ℕ). EndIs n at text) e (record { lines = s.lines; low = s.low; high = s.high; ends = λ k. absurd (omega arith) })

  last_byte : (end : ℕ) → at < end → end ≤ length text
      → get_or (part at end text) (length (part at end text) - 1) 0 ≡ get_or text (end - 1) 0
  last_byte end l h =
      let k : at + (end - at - 1) ≡ end - 1 = omega arith in
      rw (length_part at end text h) (get_or-take (end - at) (drop at text) (end - at - 1) 0 (omega arith) ∙ get_or-drop at text (end - at - 1) 0 ∙ ap (λ (n : ℕ). get_or text n 0) k)

  return_kept : (end : ℕ) → at < end → end ≤ length text → (get_or text (end - 1) 0 ≡ 0x0D → ⊥)
      → without_return (part at end text) ≡ part at end text
  return_kept end l h d = return_no (part at end text) (λ e. d (sym (last_byte end l h) ∙ e))

  return_cut : (end : ℕ) → at < end → end ≤ length text → get_or text (end - 1) 0 ≡ 0x0D
      → without_return (part at end text) ≡ part at (end - 1) text
  return_cut end l h e =
      let k : end - at - 1 ≡ end - 1 - at = omega arith in
      return_yes (part at end text) (last_byte end l h ∙ e)
      ∙ ap (λ (n : ℕ). take (n - 1) (part at end text)) (length_part at end text h)
      ∙ take-take (end - at - 1) (end - at) (drop at text) (omega arith)
      ∙ ap (λ (n : ℕ). take n (drop at text)) k

  return_none : (end : ℕ) → end ≤ at → without_return (part at end text) ≡ part at end text
  unfolding without_return
  return_none end h = let z : end - at ≡ 0 = omega arith in rw z refl

  module _ (end : ℕ) (e : EndIs end at text) where
    -- the last line has no end
    pub line-to-end : at < length text → length text ≤ end → LineIs (record { stop = end; next = end }) at text
    unfolding lines_from last_line_of
    line-to-end a h = record {
      lines = e.lines ∙ rw (drop_of_length-le text {i = end} h) (last_some (part at end text) (omega (arith, length_part at end text e.high)));
      low = e.low;
      later = omega arith;
      stop_in = e.high;
      next_in = e.high;
    }

    module _ (h : end < length text) where
      line-cut : lines_from [] (drop at text) ≡ without_return (part at end text) ∷ lines_from [] (drop (end + 1) text)
      line-cut =
          e.lines ∙ ap (λ (l : List ℕ). lines_from (part at end text) l) (drop-next end text h)
          ∙ lines_end (part at end text) (get_or text end 0) (drop (end + 1) text) (e.ends h)

      with-stop : (stop : ℕ) → without_return (part at end text) ≡ part at stop text → at ≤ stop → stop ≤ end
          → LineIs (record { stop = stop; next = end + 1 }) at text
      with-stop stop q l k = record {
        lines = line-cut ∙ ap (λ (x : List ℕ). x ∷ lines_from [] (drop (end + 1) text)) q;
        low = l;
        later = omega (arith, e.low);
        stop_in = omega arith;
        next_in = omega arith;
      }

      pub line-empty : end ≤ at → LineIs (record { stop = end; next = end + 1 }) at text
      line-empty k = with-stop end (return_none end k) e.low (omega arith)

      pub line-return : at < end → get_or text (end - 1) 0 ≡ 0x0D
          → LineIs (record { stop = end - 1; next = end + 1 }) at text
      line-return l q = with-stop (end - 1) (return_cut end l e.high q) (omega arith) (omega arith)

      pub line_plain : at < end → (get_or text (end - 1) 0 ≡ 0x0D → ⊥)
          → LineIs (record { stop = end; next = end + 1 }) at text
      line_plain l d = with-stop end (return_kept end l e.high d) e.low (omega arith)

-- A line that was found, for a walk over the lines
module _ {text : List ℕ} {at : ℕ} {ends : LineEnds} (e : LineIs ends at text) where
  pub line_low : at ≤ ends.stop
  line_low = e.low

  pub line-stop-in : ends.stop ≤ length text
  line-stop-in = e.stop_in

  pub line-less : length text - ends.next < length text - at
  line-less = omega (arith, e.later, e.next_in)

  -- each line has a byte: the lines before a position are at most as many
  pub line-counted : {before : ℕ} → before ≤ at → before + 1 ≤ ends.next
  line-counted h = omega (arith, e.later)
