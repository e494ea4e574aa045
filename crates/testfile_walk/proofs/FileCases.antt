-- The length of the whole file: 33 comes before what its records answer.
use Rattle.model.proofs.Prelude.{ℕ, ◌≤◌, ◌+◌, ◌*◌, ◌≡◌, ◌∙◌, ap, refl, sym, subst, ap₂, true, Bool, false, List, length, replicate, rules}
use Rattle.model.specs.Base.{refused, value}
use Rattle.model.specs.Netlist.{Netlist}
use Rattle.model.specs.Detect.{Class}
use Rattle.model.specs.Read.{vector_bytes_of, record_length, read_netlist, class_of}
use Rattle.model.specs.Store.{empty_store}
use Rattle.model.specs.Report.{whole_records}
use Rattle.model.specs.declared.Refusal.TheVariants as why
use Rattle.model.proofs.AnswerLaws.{value_inj}
use Rattle.netlist.specs.declared.inner.Loaded.{Loaded}
use Rattle.store_coverage.specs.Stage.{MemoryReady}
use Rattle.audit_block.specs.RecordsTaken.{left_store}
use Rattle.audit_judging.specs.FileJudging.{whole_length_of}
use Rattle.audit_block.proofs.MemoryLaws.{emptied, empty-memory}
use Rattle.audit_records.proofs.ReadyLaws.{ready-inputs}
use Rattle.testfile_walk.specs.declared.inner.Walk.{Walk}
use Rattle.testfile_walk.specs.Walked.{records_taken, file_taken, Walked}
use Rattle.std.specs.Prelude.{Err}

whole-call : (N : Netlist) (c : Class) (test_file : List ℕ) → whole_records N test_file ≡ true → records_taken N c test_file ≡ file_taken N c test_file
unfolding records_taken file_taken
whole-call N c test_file q = rw q refl

cut-call : (N : Netlist) (c : Class) (test_file : List ℕ) → whole_records N test_file ≡ false → file_taken N c test_file ≡ refused 33
unfolding file_taken
cut-call N c test_file q = rw q refl

module _ (walk : Walk) (netlist : List ℕ) (loaded : Loaded) (class : ℕ) (space ws work work' : List ℕ)
    (v : Walked records_taken walk netlist loaded class space ws work work') where
  pub walked-inputs : loaded.shape.inputs ≤ 64
  walked-inputs = ready-inputs netlist loaded ws work' v.ready

  module _ (each : ℕ) (ee : each ≡ 2 + 2 * vector_bytes_of loaded.shape.inputs)
      (b : Bool) (eb : b ≡ whole_length_of each walk.bytes) where
    -- in the model's numbers
    whole_is : (N : Netlist) → read_netlist netlist ≡ value N → whole_records N v.test_file ≡ b
    whole_is N e =
        let i : loaded.shape.inputs ≡ N.inputs = v.ready.tables.inputs_are ∙ ap (λ (M : Netlist). M.inputs) (value_inj (sym v.ready.tables.legal ∙ e)) in
        let k : each ≡ record_length N = ee ∙ ap (λ (j : ℕ). 2 + 2 * vector_bytes_of j) i in
        sym (eb ∙ ap₂ (λ (x y : ℕ). whole_length_of y x) v.bytes_are k)

    pub file-whole : b ≡ true → Walked file_taken walk netlist loaded class space ws work work'
    file-whole q = record {
      test_file = v.test_file;
      bytes_are = v.bytes_are;
      in_space = v.in_space;
      answer = λ N e. v.answer N e ∙ whole-call N (class_of class) v.test_file (whole_is N e ∙ q);
      store = λ N e. v.store N e ∙ ap left_store (whole-call N (class_of class) v.test_file (whole_is N e ∙ q));
      taken = v.taken;
      ready = v.ready;
      same_length_of = v.same_length_of;
      past_work = v.past_work;
    }

    pub file-cut : b ≡ false → (ws' : List ℕ) → ws' ≡ replicate (length ws) 0
        → Walked file_taken (record { bytes = walk.bytes; records = record { taken = walk.records.taken; answer = Err why.TestFileLength }; whole = walk.whole })
        netlist loaded class space ws' work work'
    unfolding left_store
    file-cut q ws' z =
        let N₀ : Netlist = v.ready.circuit in
        let empty : ws' ≡ empty_store = emptied ws' (length ws) z v.ready.memory.store_length in
        record {
          test_file = v.test_file;
          bytes_are = v.bytes_are;
          in_space = v.in_space;
          answer = λ N e. sym (cut-call N (class_of class) v.test_file (whole_is N e ∙ q));
          store = λ N e. empty ∙ sym (ap left_store (cut-call N (class_of class) v.test_file (whole_is N e ∙ q)));
          taken = v.taken;
          ready = record {
            circuit = N₀;
            tables = v.ready.tables;
            total_is = v.ready.total_is;
            memory = subst (λ (x : List ℕ). MemoryReady N₀ x work') (sym empty) (empty-memory N₀ work' v.ready.memory.work_length);
          };
          same_length_of = v.same_length_of;
          past_work = v.past_work;
        }

pub ruleset file-cases = (walked-inputs, file-whole, file-cut, rules)
