-- The walk over questions: nothing read yet, one piece more, and the end of the input.
use Rattle.model.proofs.Prelude.{ℕ, ◌≤◌, ◌<◌, ◌+◌, ◌^◌, ◌≡◌, ◌∙◌, ap, refl, sym, true, Bool, false, List, [], ◌++◌, length, length-append, arith}
use mathlib.Core.Path.{subst₃}
use Rattle.model.proofs.BoolLaws.{true→T}
use Rattle.text_buffer.specs.Written.{Written}
use Rattle.text_buffer.proofs.WrittenLaws.{written-length, first-bytes}
use Rattle.tree_filling.specs.TreesOfStore.{TreesReady}
use Rattle.ask_text.specs.Questions.{fault_asked}
use Rattle.ask_text.specs.Pieces.{place_after, line_after, last_text, ByteReady, PieceReady, PieceAnswered}
use Rattle.ask_text.specs.declared.inner.Asking.{Asking}
use Rattle.ask_text.specs.declared.inner.Stated.{Stated}
use Rattle.ask_text.specs.declared.inner.Stated.TheVariants as stated
use Rattle.ask_text.proofs.AnsweredPieceLaws.{place-more, line-more, place-most}
use Rattle.ask_walk.specs.InputWalk.{piece_bytes, out_bytes, InputTaken, InputAnswered}
use Rattle.ask_walk.specs.declared.inner.Taken.{Taken}

-- What was read so far, and the state after it
pub record TakingInput (s : Asking) (so_far : ℕ) (space₀ space out₀ out : List ℕ) : Type 0 where
  pub input : List ℕ
  pub bytes_are : so_far ≡ length input
  pub most : so_far < 2 ^ 63 + piece_bytes
  pub place_is_of : s.place ≡ place_after 1 input
  pub line_is : s.line ≡ line_after stated.Nothing input
  pub none : s.bytes ≡ 0
  pub same_space : length space ≡ length space₀
  pub same_out : length out ≡ length out₀

pub input-start : (space out : List ℕ) → TakingInput (record { place = 1; line = stated.Nothing; bytes = 0 }) 0 space space out out
unfolding place_after line_after
input-start space out =
    record { input = []; bytes_are = refl; most = omega arith; place_is_of = refl; line_is = refl; none = refl; same_space = refl; same_out = refl }

module _ {s : Asking} {so_far : ℕ} {space₀ space out₀ out : List ℕ} (g : TakingInput s so_far space₀ space out₀ out) where
  place-few : s.place ≤ 1 + so_far
  place-few = omega (arith, g.place_is_of, g.bytes_are, place-most 1 g.input)

  pub read-few : (n : ℕ) (space' : List ℕ) → n ≤ length space' → length space' ≡ length space → length space₀ ≤ piece_bytes → n ≤ piece_bytes
  read-few n space' p l q = omega (arith, g.same_space, p, l, q)

  pub piece-ready : {paths n : ℕ} {up down piece : List ℕ} → TreesReady paths up down → n ≡ length piece → n ≤ piece_bytes → out_bytes ≤ length out₀ → so_far < 2 ^ 63
      → PieceReady s paths up down piece out
  piece-ready t e p q h = record { trees = t; room = omega (arith, g.none, g.same_out, e, p, q); places = omega (arith, place-few, e, p, h) }

  pub input-next : {paths : ℕ} {up down piece : List ℕ} {a s' : Asking} {space' out' : List ℕ} → PieceAnswered s a paths up down piece out out'
      → (s'.place ≡ a.place) × (s'.line ≡ a.line) × (s'.bytes ≡ 0) → {n : ℕ} → n ≡ length piece → n ≤ piece_bytes → so_far < 2 ^ 63
      → length space' ≡ length space → TakingInput s' (so_far + n) space₀ space' out₀ out'
  input-next {piece = piece} {a = a} p e {n} en few h l = record {
    input = g.input ++ piece;
    bytes_are = omega (arith, g.bytes_are, en, length-append g.input piece);
    most = omega (arith, few, h);
    place_is_of =
        e.0 ∙ p.place_is_of ∙ ap (λ (k : ℕ). place_after k piece) g.place_is_of ∙ sym (place-more 1 g.input piece);
    line_is =
        e.1 ∙ p.line_is ∙ ap (λ (x : Stated). line_after x piece) g.line_is ∙ sym (line-more stated.Nothing g.input piece);
    none = e.2;
    same_space = l ∙ g.same_space;
    same_out = written-length p.text ∙ g.same_out;
  }

  pub input-end : (whole : Bool) → InputTaken (record { asking = s; bytes = so_far; whole = whole })
  input-end whole = record { input = g.input; bytes_are = g.bytes_are; most = g.most; place_is_of = g.place_is_of; line_is = g.line_is; none = g.none }

-- ---- what stands after the last end of a line

module _ {r : Taken} (t : InputTaken r) where
  pub last-ready : {paths : ℕ} {up down out : List ℕ} → TreesReady paths up down → (out₀ : List ℕ) → out_bytes ≤ length out₀ → length out ≡ length out₀
      → ByteReady r.asking paths up down out
  last-ready t' out₀ q l = record {
    trees = t';
    room = omega (arith, t.none, q, l);
    places = omega (arith, t.place_is_of, t.bytes_are, t.most, place-most 1 t.input);
  }

  pub input-broken : (paths : ℕ) (up down out' : List ℕ) → InputAnswered (record { bytes = r.bytes; end = 0; whole = false }) paths up down out'
  input-broken paths up down out' = record { input = t.input; bytes_are = t.bytes_are; last = λ (e : false ≡ true). absurd (true→T false e) }

  pub input-answered : (paths : ℕ) (up down out out' : List ℕ) (end : ℕ)
      → Written out out' r.asking.bytes (last_text (fault_asked paths up down) r.asking.place r.asking.line) end
      → InputAnswered (record { bytes = r.bytes; end = end; whole = true }) paths up down out'
  input-answered paths up down out out' end p = record {
    input = t.input;
    bytes_are = t.bytes_are;
    last = λ e.
        first-bytes
        (subst₃ (λ (at k : ℕ) (l : Stated). Written out out' at (last_text (fault_asked paths up down) k l) end) t.none t.place_is_of t.line_is p);
  }
