-- The report put together from its parts, and the writer case by case as the code meets them.
use Rattle.model.proofs.Prelude.{ℕ, ◌≤◌, ◌<◌, ◌+◌, ◌*◌, ◌^◌, ◌/◌, ◌≡◌, ◌∙◌, ap, refl, sym, ap₂, List, ◌++◌, append_assoc, length, drop, length-append}
use Rattle.model.proofs.Prelude.{sets, sets-eq, arith, rules, le-leb, lt-leb, ne_eqb, eq-eqb}
use Rattle.model.specs.Base.{refused, value, checks}
use Rattle.model.specs.Netlist.{path_total}
use Rattle.model.specs.Path.{rising, falling}
use Rattle.model.specs.Refusals.{refusal_number_of}
use Rattle.model.specs.Store.{tests_taken_of, runs_by_edge, store_words_count, store_rules}
use Rattle.model.specs.Calls.{survey_call}
use Rattle.model.specs.Report.{report_record, report_buffer_bytes, writer_call, writer_answer, writer_buffer}
use Rattle.model.specs.declared.Refusal.{Refusal}
use Rattle.model.specs.declared.Refusal.TheVariants as why
use Rattle.netlist.specs.Answers.{surveyed_of}
use Rattle.netlist.specs.declared.NetlistSurvey.{NetlistSurvey}
use Rattle.netlist.proofs.LoadLaws.{LegalSurvey, legal-survey, paths-fit, refused-survey}
use Rattle.store_words.specs.WordAnswers.{totals_in, totals_both}
use Rattle.store_words.specs.Sound.{SoundWords, edge_words}
use Rattle.store_words.specs.declared.inner.StoreTotals.{StoreTotals}
use Rattle.store_words.proofs.SoundLaws.{checked_sound}
use Rattle.report.specs.Answers.{WriteTrue}
use Rattle.report_bytes.specs.Layout.{word_bytes, head_bytes}
use Rattle.report.specs.ReportWriting.{ReportPut}
use Rattle.report_bytes.proofs.HeadLaws.{next-put}
use Rattle.report.proofs.ReportPartLaws.{length-words, report-parts, length-head, length_whole, edge_few, record_fits}
use Rattle.std.specs.Prelude.{Result, Ok, Err}
use Rattle.model.specs.Returned.{answer_of}

-- the head, then the words of both edges' runs
pub report-put : (tests paths : ℕ) (ws : List ℕ) → SoundWords (2 ^ 62) ws → (R F : List ℕ) → R ≡ edge_words ws rising → F ≡ edge_words ws falling
    → (t : StoreTotals) → totals_in t ≡ totals_both ws → (b b₁ b₂ b₃ : List ℕ)
    → b₁ ≡ sets b 0 (head_bytes tests paths (length R / 2) (length F / 2) t.rising t.falling)
    → b₂ ≡ sets b₁ 34 (word_bytes R) → b₃ ≡ sets b₂ (34 + 8 * length R) (word_bytes F)
    → ReportPut (34 + 8 * length R + 8 * length F) tests paths ws b b₃
report-put tests paths ws sound R F er ef t q b b₁ b₂ b₃ p₁ p₂ p₃ =
    let H : List ℕ = head_bytes tests paths (length R / 2) (length F / 2) t.rising t.falling in
    let long = length-head ws sound.few tests paths R F er ef t q in
    let r : b₂ ≡ sets b 0 (H ++ word_bytes R) = next-put b b₁ b₂ H (word_bytes R) 34 p₁ p₂ (sym long) in
    let j : 34 + 8 * length R ≡ length (H ++ word_bytes R) = omega (arith, length-append H (word_bytes R), long, length-words R) in
    let f : b₃ ≡ sets b 0 ((H ++ word_bytes R) ++ word_bytes F) = next-put b b₂ b₃ (H ++ word_bytes R) (word_bytes F) (34 + 8 * length R) r p₃ j in
    let parts = report-parts ws sound.few tests paths R F er ef t q in
    record {
      bytes = f ∙ ap (λ (z : List ℕ). sets b 0 z) (append_assoc H (word_bytes R) (word_bytes F) ∙ sym parts);
      size = sym (length_whole ws sound.few tests paths R F er ef t q);
    }

-- there is room for them
module _ (ws : List ℕ) (sound : SoundWords (2 ^ 62) ws) (R : List ℕ) (er : R ≡ edge_words ws rising) where
  pub rising-room : (b b₁ : List ℕ) → report_buffer_bytes ≤ length b → length b₁ ≡ length b → 34 + 8 * length R ≤ length b₁
  rising-room b b₁ h k = omega (arith, edge_few sound rising er)

  module _ (F : List ℕ) (ef : F ≡ edge_words ws falling) where
    pub falling-room : (b b₁ b₂ : List ℕ) → report_buffer_bytes ≤ length b → length b₁ ≡ length b → length b₂ ≡ length b₁
        → 34 + 8 * length R + 8 * length F ≤ length b₂
    falling-room b b₁ b₂ h k m = omega (arith, edge_few sound rising er, edge_few sound falling ef)

    pub record_small : 34 + 8 * length R + 8 * length F < 2 ^ 64
    record_small = omega (arith, edge_few sound rising er, edge_few sound falling ef)

pub ruleset put-report-cases = (rising-room, falling-room, record_small, rules)

module _ (netlist ws buffer : List ℕ) where
  pub writer_store : (length ws ≡ store_words_count → ⊥) → WriteTrue (Err why.StoreLength) netlist ws buffer buffer
  unfolding writer_call writer_answer writer_buffer
  writer_store d = record { answer = rw (ne_eqb (length ws) store_words_count d) refl; buffer = rw (ne_eqb (length ws) store_words_count d) refl }

  module _ (l : length ws ≡ store_words_count) where
    pub writer_short : length buffer < report_buffer_bytes → WriteTrue (Err why.ReportBufferLength) netlist ws buffer buffer
    unfolding writer_call writer_answer writer_buffer
    writer_short h = record {
      answer = rw (eq-eqb (length ws) store_words_count l, lt-leb report_buffer_bytes (length buffer) h) refl;
      buffer = rw (eq-eqb (length ws) store_words_count l, lt-leb report_buffer_bytes (length buffer) h) refl;
    }

    module _ (h : report_buffer_bytes ≤ length buffer) (s : Result NetlistSurvey Refusal) (st : surveyed_of s ≡ survey_call netlist) where
      pub writer_netlist : (w : Refusal) → s ≡ Err w → WriteTrue (Err w) netlist ws buffer buffer
      unfolding writer_call writer_answer writer_buffer
      writer_netlist w e =
          let z = refused-survey netlist s st w e in
          record {
            answer = rw (eq-eqb (length ws) store_words_count l, le-leb report_buffer_bytes (length buffer) h, z) refl;
            buffer = rw (eq-eqb (length ws) store_words_count l, le-leb report_buffer_bytes (length buffer) h, z) refl;
          }

      module _ (d : NetlistSurvey) (e : s ≡ Ok d) where
        is : LegalSurvey netlist d
        is = legal-survey netlist s st d e

        pub writer_total : d.total ≤ 2 ^ 62
        writer_total = paths-fit netlist s st d e

        module _ (k : Result (Unit {0}) Refusal) (checked : answer_of k ≡ checks (store_rules d.total ws)) where
          by_total : answer_of k ≡ checks (store_rules (path_total is.netlist) ws)
          by_total = checked ∙ ap (λ t. checks (store_rules t ws)) is.total_is

          pub writer_words : (w : Refusal) → k ≡ Err w → WriteTrue (Err w) netlist ws buffer buffer
          unfolding writer_call writer_answer writer_buffer
          writer_words w f =
              let z : checks (store_rules (path_total is.netlist) ws) ≡ refused (refusal_number_of w) = sym by_total ∙ ap answer_of f in
              record {
                answer = rw (eq-eqb (length ws) store_words_count l, le-leb report_buffer_bytes (length buffer) h, is.is_read) (rw z refl);
                buffer = rw (eq-eqb (length ws) store_words_count l, le-leb report_buffer_bytes (length buffer) h, is.is_read) (rw z refl);
              }

          module _ (f : k ≡ Ok tt) where
            pub writer_sound : SoundWords (2 ^ 62) ws
            writer_sound = checked_sound d.total ws k checked l writer_total f

            pub writer_written : (tests r : ℕ) (left : List ℕ) → tests ≡ tests_taken_of ws → ReportPut r tests d.total ws buffer left
                → WriteTrue (Ok r) netlist ws buffer left
            unfolding writer_call writer_answer writer_buffer
            writer_written tests r left et p =
                let R : List ℕ = report_record (tests_taken_of ws) (path_total is.netlist) (runs_by_edge ws) in
                let z : checks (store_rules (path_total is.netlist) ws) ≡ value tt = sym by_total ∙ ap answer_of f in
                let same : report_record tests d.total (runs_by_edge ws) ≡ R = ap₂ (λ n t. report_record n t (runs_by_edge ws)) et is.total_is in
                let fits : length R ≤ length buffer = omega (arith, record_fits (tests_taken_of ws) (path_total is.netlist) ws writer_sound.few) in
                let n : 0 + length R ≡ length R = omega arith in
                let put : left ≡ R ++ drop (length R) buffer =
                p.bytes ∙ ap (λ (x : List ℕ). sets buffer 0 x) same ∙ sets-eq R buffer 0 (omega arith) ∙ ap (λ (i : ℕ). R ++ drop i buffer) n in
                record {
                  answer = rw (eq-eqb (length ws) store_words_count l, le-leb report_buffer_bytes (length buffer) h, is.is_read) (rw z (ap value (p.size ∙ ap (length {A = ℕ}) same)));
                  buffer = put ∙ rw (eq-eqb (length ws) store_words_count l, le-leb report_buffer_bytes (length buffer) h, is.is_read) (rw z refl);
                }

pub ruleset writer-cases = (writer_store, writer_short, writer_netlist, writer_total, writer_words, writer_sound, writer_written, rules)
