-- The cases of showing a view: a buffer that is too short, the line of a refusal, the lines of the second store; and that they are the viewer's text.
use Rattle.model.proofs.Prelude.{ℕ, ◌≤◌, ◌<◌, ◌^◌, ◌≡◌, ◌∙◌, ap, sym, subst, List, length}
use Rattle.io.specs.Counts.{IsPrefixLen}
use Rattle.model.specs.Store.{store_words_count, empty_store}
use Rattle.model.specs.Refusals.{refusal_number_of}
use Rattle.model.specs.declared.Refusal.{Refusal}
use Rattle.store_words.specs.Sound.{SoundWords}
use Rattle.viewer_places.specs.Viewer.{viewer_runs_answer}
use Rattle.viewer.specs.ViewAnswers.{ViewTrue}
use Rattle.text_buffer.specs.Written.{Written}
use Rattle.text_buffer.proofs.WrittenLaws.{written_as, no_room, room-there, first-bytes, counts-bytes}
use Rattle.listing_lines.specs.ListingLines.{refused_line_of}
use Rattle.listing_text.specs.Listing.{store_lines}
use Rattle.listing_text.specs.StoreText.{out_bytes}
use Rattle.viewer_text.specs.ViewText.{view_text, answer_text, Shown}
use Rattle.viewer_text.proofs.ViewLaws.{second-answer, refused-shown, view-sound, view-shown}
use Rattle.std.specs.Prelude.{Result, Ok, Err}
use Rattle.model.specs.Returned.{answer_of}

pub none-shown : (out text : List ℕ) → length out < out_bytes → Shown out out text 0 × IsPrefixLen 0 out
none-shown out text h = let p = no_room out_bytes out text h in (record { put = p; first = first-bytes p }, counts-bytes p)

some-shown : (out out' text : List ℕ) (n : ℕ) {s : List ℕ} → out_bytes ≤ length out → s ≡ text → Written out out' 0 s n → Shown out out' text n × IsPrefixLen n out'
some-shown out out' text n h e w = let p = room-there out_bytes out text h (written_as e w) in (record { put = p; first = first-bytes p }, counts-bytes p)

-- the lines of an answer
module _ (out out' second : List ℕ) (n : ℕ) (a : Result (Unit {0}) Refusal) (room : out_bytes ≤ length out) where
  pub refusal-put : (w : Refusal) → a ≡ Err w → Written out out' 0 (refused_line_of (refusal_number_of w)) n
      → Shown out out' (answer_text a second) n × IsPrefixLen n out'
  unfolding answer_text
  refusal-put w e p = some-shown out out' (answer_text a second) n room (sym (ap (λ (x : Result (Unit {0}) Refusal). answer_text x second) e)) p

  pub store-put : a ≡ Ok tt → Written out out' 0 (store_lines second) n → Shown out out' (answer_text a second) n × IsPrefixLen n out'
  unfolding answer_text
  store-put e p = some-shown out out' (answer_text a second) n room (sym (ap (λ (x : Result (Unit {0}) Refusal). answer_text x second) e)) p

-- the second store is that of the view
module _ (netlist ws places second second' : List ℕ) (l : store_words_count ≡ length second) where
  pub answer-sound : (a : Result (Unit {0}) Refusal) → ViewTrue a netlist ws places second second' → a ≡ Ok tt → SoundWords (2 ^ 62) second'
  answer-sound a t e = view-sound netlist ws places second (sym l) (sym (ap answer_of e) ∙ t.answer) second' t.words

  text_of : (a : Result (Unit {0}) Refusal) → ViewTrue a netlist ws places second second' → answer_text a second' ≡ view_text netlist ws places
  unfolding answer_text
  text_of (Ok tt) t = view-shown netlist ws places second (sym l) t.answer second' t.words
  text_of (Err w) t = refused-shown netlist ws places second (refusal_number_of w) (sym l) t.answer

  module _ (a : Result (Unit {0}) Refusal) (t : ViewTrue a netlist ws places second second') where
    pub view-put : (out out' : List ℕ) (n : ℕ) → Shown out out' (answer_text a second') n → Shown out out' (view_text netlist ws places) n
    view-put out out' n p = subst (λ (x : List ℕ). Shown out out' x n) (text_of a t) p

    pub view-answer : answer_of a ≡ viewer_runs_answer netlist ws empty_store places
    view-answer = t.answer ∙ second-answer netlist ws places second (sym l)
