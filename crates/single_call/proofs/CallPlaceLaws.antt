-- The places Test and Store for one record, and the stage of a legal record with the faults counted.
use Rattle.model.proofs.Prelude.{ℕ, ◌^◌, ◌≡◌, ◌∙◌, ap, refl, sym, List}
use Rattle.model.specs.Base.{Answer, refused, value, checks}
use Rattle.model.specs.Netlist.{Netlist, path_total}
use Rattle.model.specs.Detect.{Test}
use Rattle.model.specs.Read.{test_rules, class_of, test_of}
use Rattle.model.specs.Store.{store_rules}
use Rattle.model.specs.Calls.{Tested, test_stage}
use Rattle.model.specs.Refusals.{refusal_number_of}
use Rattle.model.specs.declared.Refusal.{Refusal}
use Rattle.model.proofs.AnswerLaws.{checks-both}
use Rattle.netlist.specs.Tables.{CircuitTables}
use Rattle.netlist.specs.declared.inner.Shape.{Shape}
use Rattle.record_test.specs.Records.{RecordTrue}
use Rattle.store_words.specs.WordAnswers.{totals_in, totals_both}
use Rattle.store_coverage.specs.Stage.{place_rules}
use Rattle.single_stage.specs.LegalStage.{LegalReady, StageTrue}
use Rattle.store_words.specs.Sound.{SoundWords}
use Rattle.store_words.specs.declared.inner.StoreTotals.{StoreTotals}
use Rattle.store_words.proofs.SoundLaws.{sound_more}
use Rattle.store_coverage.specs.TestCall.{TestedIs, Counting, SomeCounting}
use Rattle.store_coverage.proofs.EdgesLaws.{same_memory, few-paths, memory-sound}
use Rattle.store_coverage.proofs.StageLaws.{stage-is-work}
use Rattle.std.specs.Prelude.{Result, Ok, Err}
use Rattle.store_coverage.specs.declared.TestCounts.{TestCounts}
use Rattle.model.specs.Returned.{answer_of}

-- ---- the places Test and Store

module _ (inputs paths : ℕ) (rec ws : List ℕ) {q : (Result (Unit {0}) Refusal)} (e : RecordTrue q inputs rec) where
  pub place-test : (w : Refusal) → q ≡ Err w → (N : Netlist) → inputs ≡ N.inputs → paths ≡ path_total N
      → refused (refusal_number_of w) ≡ checks (place_rules N rec ws)
  place-test w r N i p =
      let t : checks (test_rules N rec) ≡ refused (refusal_number_of w) = sym (e.answer N (sym i)) ∙ ap answer_of r in
      sym (checks-both (test_rules N rec) (store_rules (path_total N) ws) ∙ rw t refl)

  module _ (r : q ≡ Ok tt) where
    place-store : (N : Netlist) → inputs ≡ N.inputs → checks (place_rules N rec ws) ≡ checks (store_rules (path_total N) ws)
    place-store N i =
        let t : checks (test_rules N rec) ≡ value tt = sym (e.answer N (sym i)) ∙ ap answer_of r in
        checks-both (test_rules N rec) (store_rules (path_total N) ws) ∙ rw t refl

    module _ (a : Result (Unit {0}) Refusal) (ea : answer_of a ≡ checks (store_rules paths ws)) where
      pub place-checked : (N : Netlist) → inputs ≡ N.inputs → paths ≡ path_total N → answer_of a ≡ checks (place_rules N rec ws)
      place-checked N i p = ea ∙ ap (λ m. checks (store_rules m ws)) p ∙ sym (place-store N i)

-- ---- a legal record, counted

-- for every netlist that the tables are of
module _ {file ps cs : List ℕ} {shape : Shape} {rec ws work : List ℕ} (h : LegalReady file ps cs shape rec ws work) where
  pub before-sound : SoundWords (2 ^ 62) ws
  before-sound = sound_more (path_total h.stage.circuit) (2 ^ 62) ws (few-paths h.stage.tables) (memory-sound h.stage.memory)

  module _ (class : ℕ) {before : StoreTotals} (eb : totals_in before ≡ totals_both ws) {ws' work' : List ℕ} {r : (Result (Unit {0}) Refusal)}
      (s : (N : Netlist) → CircuitTables N file ps cs shape → StageTrue N (class_of class) rec ws ws' work work' r) where
    counting-of : (N : Netlist) → CircuitTables N file ps cs shape
        → Counting N (test_of N (class_of class) rec) (test_stage N (class_of class) rec ws) ws ws' work work' before r
    counting-of N c = record {
      memory = same_memory h.stage c;
      few_paths = few-paths c;
      totals = eb;
      stage = s N c;
      is_work = stage-is-work N (class_of class) rec ws;
    }

    pub legal-counting : SomeCounting before r ws'
    legal-counting = record {
      circuit = h.stage.circuit;
      test = test_of h.stage.circuit (class_of class) rec;
      made = test_stage h.stage.circuit (class_of class) rec ws;
      held = ws;
      work = work;
      work' = work';
      counting = counting-of h.stage.circuit h.stage.tables;
    }

    pub legal-counted : {a : (Result TestCounts Refusal)}
        → ((N : Netlist) (t : Test) (x : Answer Tested) (held old new : List ℕ) → Counting N t x held ws' old new before r → TestedIs x held ws' old new a)
        → (N : Netlist) → CircuitTables N file ps cs shape → TestedIs (test_stage N (class_of class) rec ws) ws ws' work work' a
    legal-counted counts N c = counts N (test_of N (class_of class) rec) (test_stage N (class_of class) rec ws) ws work work' (counting-of N c)
