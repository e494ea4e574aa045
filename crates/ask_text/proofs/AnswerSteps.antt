-- The steps of the answers to a piece: one byte, and the bytes so far.
use Rattle.model.proofs.Prelude.{ℕ, ◌≤◌, ◌<◌, ◌+◌, ◌*◌, ◌≡◌, ◌∙◌, ap, refl, sym, List, [], ◌∷◌, ◌++◌, append_assoc, append-nil, length, get_or, drop}
use Rattle.model.proofs.Prelude.{drop_of_length-le, drop-cons, add-one, arith, rules, ne_eqb, eq-eqb}
use Rattle.model.specs.Base.{Answer}
use Rattle.text_buffer.specs.Written.{Written}
use Rattle.text_buffer.proofs.WrittenLaws.{none_written, then-written, written_as, written-length}
use Rattle.tree_words.specs.Calls.{Asked}
use Rattle.ask_text.specs.Questions.{fault_asked, byte_after_of, answer_line}
use Rattle.ask_text.specs.Pieces.{place_after, line_after, piece_text, last_text, ByteReady, PieceReady, PieceAnswered}
use Rattle.ask_text.specs.declared.inner.Asking.{Asking}
use Rattle.ask_text.specs.declared.inner.Stated.{Stated}
use Rattle.ask_text.specs.declared.inner.Stated.TheVariants as stated
use Rattle.ask_text.proofs.AnsweredPieceLaws.{place_end, place_other, line-end, line_other, text-end, text-other, place-more, line-more, text-more, place-most}

-- ---- one byte

module _ (s : Asking) (paths : ℕ) (up down : List ℕ) (b : ℕ) (out : List ℕ) where
  abbrev asked : ℕ → Answer Asked
  asked = fault_asked paths up down

  pub byte-end : b ≡ 10 → (out' : List ℕ) (end : ℕ) → Written out out' s.bytes (answer_line asked s.place s.line) end × (end ≤ s.bytes + 128)
      → PieceAnswered s (record { place = s.place + 1; line = stated.Nothing; bytes = end }) paths up down (b ∷ []) out out'
  unfolding place_after line_after piece_text
  byte-end e out' end p =
      let t = eq-eqb b 10 e in
      record {
        text = written_as (sym (text-end b [] t asked s.place s.line ∙ append-nil (answer_line asked s.place s.line))) p.0;
        few = omega (arith, p.1);
        place_is_of = sym (place_end b [] t s.place);
        line_is = sym (line-end b [] t s.line);
      }

  pub byte-other : (b ≡ 10 → ⊥) → s.bytes ≤ length out → (line : Stated) → line ≡ byte_after_of s.line b
      → PieceAnswered s (record { place = s.place; line = line; bytes = s.bytes }) paths up down (b ∷ []) out out
  unfolding place_after line_after piece_text
  byte-other n h line el =
      let t = ne_eqb b 10 n in
      record {
        text = written_as (sym (text-other b [] t asked s.place s.line)) (none_written out s.bytes h);
        few = omega arith;
        place_is_of = sym (place_other b [] t s.place);
        line_is = el ∙ sym (line_other b [] t s.line);
      }

-- ---- the bytes so far: what is put, with the answers to what is left, is the whole

module _ (s : Asking) (paths : ℕ) (up down piece out₀ : List ℕ) where
  abbrev ask : ℕ → Answer Asked
  ask = fault_asked paths up down

  pub record AnsweringPiece (out : List ℕ) (a : Asking) (i : ℕ) : Type 0 where
    pub within : i ≤ length piece
    pub sized : length out ≡ length out₀
    pub few : a.bytes ≤ s.bytes + 128 * i
    pub places : a.place ≤ s.place + i
    pub done : List ℕ
    pub put : Written out₀ out s.bytes done a.bytes
    pub text : done ++ piece_text ask a.place a.line (drop i piece) ≡ piece_text ask s.place s.line piece
    pub place_is_of : place_after a.place (drop i piece) ≡ place_after s.place piece
    pub line_is : line_after a.line (drop i piece) ≡ line_after s.line piece

  pub piece-start : PieceReady s paths up down piece out₀ → AnsweringPiece out₀ s 0
  piece-start r = record {
    within = omega arith;
    sized = refl;
    few = omega arith;
    places = omega arith;
    done = [];
    put = none_written out₀ s.bytes (omega (arith, r.room));
    text = refl;
    place_is_of = refl;
    line_is = refl;
  }

  module _ {out : List ℕ} {a : Asking} {i : ℕ} (g : AnsweringPiece out a i) (h : i < length piece) where
    pub piece-ready : PieceReady s paths up down piece out₀ → ByteReady a paths up down out
    piece-ready r = record {
      trees = r.trees;
      room = omega (arith, g.few, g.sized, r.room, h);
      places = omega (arith, g.places, r.places, h);
    }

    -- what is left begins with the byte at hand
    left_is : drop i piece ≡ (get_or piece i 0 ∷ []) ++ drop (i + 1) piece
    left_is = drop-cons piece i 0 h ∙ ap (λ (k : ℕ). get_or piece i 0 ∷ drop k piece) (sym (add-one i))

    module _ {out' : List ℕ} {a' : Asking} (p : PieceAnswered a a' paths up down (get_or piece i 0 ∷ []) out out') where
      abbrev byte : List ℕ
      byte = get_or piece i 0 ∷ []

      abbrev left : List ℕ
      left = drop (i + 1) piece

      abbrev more : List ℕ
      more = piece_text ask a.place a.line byte

      next-text : (g.done ++ more) ++ piece_text ask a'.place a'.line left ≡ piece_text ask s.place s.line piece
      next-text =
          append_assoc g.done more (piece_text ask a'.place a'.line left)
          ∙ ap (λ (t : List ℕ). g.done ++ t) (rest p.place_is_of p.line_is ∙ sym (text-more ask a.place a.line byte left))
          ∙ ap (λ (l : List ℕ). g.done ++ piece_text ask a.place a.line l) (sym left_is)
          ∙ g.text
        where
          rest : {k : ℕ} {l : Stated} → a'.place ≡ k → a'.line ≡ l → more ++ piece_text ask a'.place a'.line left ≡ more ++ piece_text ask k l left
          rest ek el j = more ++ piece_text ask (ek j) (el j) left

      pub piece-next : AnsweringPiece out' a' (i + 1)
      piece-next = record {
        within = omega (arith, h);
        sized = written-length p.text ∙ g.sized;
        few = omega (arith, p.few, g.few);
        places = omega (arith, p.place_is_of, place-most a.place byte, g.places);
        done = g.done ++ more;
        put = then-written g.put p.text;
        text = next-text;
        place_is_of =
            ap (λ (k : ℕ). place_after k left) p.place_is_of
            ∙ sym (place-more a.place byte left)
            ∙ ap (place_after a.place) (sym left_is)
            ∙ g.place_is_of;
        line_is =
            ap (λ (l : Stated). line_after l left) p.line_is
            ∙ sym (line-more a.line byte left)
            ∙ ap (line_after a.line) (sym left_is)
            ∙ g.line_is;
      }

  pub piece-done : {out : List ℕ} {a : Asking} {i : ℕ} → AnsweringPiece out a i → length piece ≤ i → PieceAnswered s a paths up down piece out₀ out
  unfolding piece_text place_after line_after
  piece-done {out} {a} {i} g h =
      let none : drop i piece ≡ [] = drop_of_length-le piece {i = i} h in
      record {
        text =
            written_as
            (sym (append-nil g.done) ∙ sym (ap (λ (l : List ℕ). g.done ++ piece_text ask a.place a.line l) none) ∙ g.text)
            g.put;
        few = omega (arith, g.few, g.within);
        place_is_of = sym (ap (place_after a.place) none) ∙ g.place_is_of;
        line_is = sym (ap (line_after a.line) none) ∙ g.line_is;
      }

-- ---- what stands after the last end of a line

module _ (ask : ℕ → Answer Asked) (out out' : List ℕ) (at r place : ℕ) (line : Stated) where
  pub last-nothing : line ≡ stated.Nothing → at + 128 ≤ length out → Written out out at (last_text ask place line) at
  unfolding last_text
  last-nothing e h = written_as (ap (last_text ask place) (sym e)) (none_written out at (omega arith))

  pub last-number : (n : ℕ) → line ≡ stated.Number n → Written out out' at (answer_line ask place (stated.Number n)) r × (r ≤ at + 128)
      → Written out out' at (last_text ask place line) r
  unfolding last_text
  last-number n e p = written_as (ap (last_text ask place) (sym e)) p.0

  pub last-wrong : line ≡ stated.Wrong → Written out out' at (answer_line ask place stated.Wrong) r × (r ≤ at + 128) → Written out out' at (last_text ask place line) r
  unfolding last_text
  last-wrong e p = written_as (ap (last_text ask place) (sym e)) p.0

pub ruleset last-cases = (last-nothing, last-number, last-wrong, rules)
