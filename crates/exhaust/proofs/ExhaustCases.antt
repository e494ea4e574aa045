-- All pairs, case by case as the code meets them: on a legal netlist from an empty store, then the call.
use Rattle.model.proofs.Prelude.{ℕ, ◌≤◌, ◌<◌, ◌^◌, ◌≡◌, ◌∙◌, ap, refl, sym, subst, true, Bool, false, not, List, [], ◌∷◌, length, replicate, T}
use Rattle.model.proofs.Prelude.{le→leb, T_not, arith, rules, le-leb, lt-leb, ne_eqb, eq-eqb, not-true, not-false}
use Rattle.model.specs.Base.{Answer, refused, value, ◌into◌, checks}
use Rattle.model.specs.Netlist.{Netlist}
use Rattle.model.specs.Read.{within, class_of}
use Rattle.model.specs.Refusals.{refusal_number_of}
use Rattle.model.specs.Store.{ByEdge, store_words_count, empty_store}
use Rattle.model.specs.Calls.{work_words_count, store_rule, work_rule, before_test}
use Rattle.model.specs.Report.{test_all}
use Rattle.model.specs.declared.Refusal.{Refusal}
use Rattle.model.specs.declared.Refusal.TheVariants as why
use Rattle.model.proofs.AnswerLaws.{not_refused, →checks}
use Rattle.model.proofs.RefusalLaws.{refused-inj}
use Rattle.netlist.specs.Answers.{LoadedTrue}
use Rattle.netlist.specs.Tables.{SomeTables}
use Rattle.netlist.specs.declared.inner.Loaded.{Loaded}
use Rattle.netlist.proofs.LoadLaws.{loaded_legal, loaded_refused}
use Rattle.store_words.specs.Sound.{SoundWords}
use Rattle.store_words.specs.WordAnswers.{totals_in, totals_both}
use Rattle.store_words.specs.declared.inner.StoreTotals.{StoreTotals}
use Rattle.block_words.specs.Layout.{lists_size}
use Rattle.store_coverage.specs.Stage.{MemoryReady, StageReady}
use Rattle.audit_block.specs.RecordsTaken.{left_store}
use Rattle.audit_block.proofs.MemoryLaws.{of_netlist_lem, emptied, empty-memory, all-memory, memory-sound}
use Rattle.audit_block.specs.FileBlocks.{TablesMade, BlocksReady}
use Rattle.audit_block.specs.declared.inner.FileNumbers.{FileNumbers}
use Rattle.audit_records.specs.FileRecords.{Ready}
use Rattle.audit_records.proofs.ReadyLaws.{ready-records}
use Rattle.audit_records.proofs.FileTableCases.{stage-tables, stage-blocks}
use Rattle.exhaust_pairs.specs.AllPairs.{all_pairs}
use Rattle.exhaust_pairs.specs.Exhaust.{few_inputs, pairs_on, exhaust_call, exhaust_answer, exhaust_after, exhaust_store, of_work, PairsWork}
use Rattle.exhaust_pairs.proofs.OnTheWayLaws.{on-the-way, before-found, emptied-work}
use Rattle.exhaust.specs.PairsTaken.{PairsTrue, AllTaken}
use Rattle.exhaust.specs.Answers.{totals_among, ExhaustTrue, PairsApplied}
use Rattle.std.specs.Prelude.{Result, Ok, Err}

-- the totals of the store that some tests leave
abbrev summed : Answer (List ℕ) → Answer (ByEdge ℕ)
summed x = x into λ left. value (totals_both left)

module _ (netlist : List ℕ) (loaded : Loaded) (ws work : List ℕ) (ready : Ready netlist loaded ws work) (start : (ws ≡ empty_store) × (loaded.shape.inputs ≤ 6)) where
  abbrev C : Netlist
  C = ready.circuit

  abbrev stage_ready : StageReady netlist loaded.positions loaded.counts loaded.shape ws work
  stage_ready = ready-records netlist loaded ws work ready

  pub pairs-tables : SomeTables netlist loaded.positions loaded.counts loaded.shape
  pairs-tables = stage-tables stage_ready

  module _ {numbers : FileNumbers} {class : ℕ} {table offsets : List ℕ}
      (made : TablesMade numbers netlist loaded.positions loaded.counts loaded.shape class table offsets) where
    abbrev pairs : Netlist → Answer (List ℕ)
    pairs N = test_all N (class_of class) (all_pairs N.inputs) empty_store

    pub pairs-blocks : {risingLists fallingLists : List ℕ} → length risingLists ≡ lists_size → length fallingLists ≡ lists_size
        → BlocksReady table offsets numbers risingLists fallingLists ws work × (numbers.inputs ≤ 6)
    pairs-blocks u d = (stage-blocks stage_ready made u d, subst (λ (k : FileNumbers). k.inputs ≤ 6) (sym made.numbers_are) start.1)

    module _ {t : (Result (Unit {0}) Refusal)} {ws' work' : List ℕ} (x : AllTaken t table offsets numbers ws ws' work work') where
      whole : PairsTrue t C (class_of class) empty_store ws'
      whole =
          subst (λ (v : List ℕ). PairsTrue t C (class_of class) v ws') start.0
          (subst (λ (k : FileNumbers). PairsTrue t C (class_of k.class) ws ws') made.numbers_are (x.of_circuit C (made.tables C ready.tables) ready.memory))

      -- from the netlist at hand
      applied : (a : Result StoreTotals Refusal) → totals_among a ≡ summed (pairs C) → PairsApplied a netlist class ws' work work'
      applied a e = record {
        answer = of_netlist_lem netlist ready.tables.legal (λ N. totals_among a ≡ summed (pairs N)) e;
        store = of_netlist_lem netlist ready.tables.legal (λ N. ws' ≡ left_store (pairs N)) whole.store;
        same_length_of = x.same_length_of;
        past_work = x.past_work;
      }

      pub pairs-refused : (w : Refusal) → t ≡ Err w → PairsApplied (Err w) netlist class ws' work work'
      pairs-refused w q =
          let e : pairs C ≡ refused (refusal_number_of w) = sym (rw q at whole.answer) in
          applied (Err w) (rw e refl)

      module _ (q : t ≡ Ok tt) where
        left_is : pairs C ≡ value ws'
        left_is = sym (rw q at whole.answer)

        pub pairs-sound : SoundWords (2 ^ 62) ws'
        pairs-sound =
            memory-sound netlist C ready.tables.legal ws' work
            (all-memory C (class_of class) ws work work ready.memory refl (all_pairs C.inputs) ws'
            (ap (test_all C (class_of class) (all_pairs C.inputs)) start.0 ∙ left_is))

        pub pairs-taken : (h : StoreTotals) → totals_in h ≡ totals_both ws' → PairsApplied (Ok (record { rising = h.rising; falling = h.falling })) netlist class ws' work work'
        pairs-taken h s = applied (Ok (record { rising = h.rising; falling = h.falling })) (ap value s ∙ rw left_is refl)

module _ (netlist : List ℕ) (class : ℕ) (ws work : List ℕ) where
  -- working memory that the call did not touch
  kept : PairsWork netlist class ws work work
  kept = record { same_length_of = refl; past_work = refl; not_applied = λ n q o. refl }

  abbrev lent : Answer (Unit {0})
  lent = checks (store_rule ws ∷ work_rule work ∷ [])

  -- a refusal before the pairs
  early : (w : Refusal) → before_test netlist class ws work ≡ refused (refusal_number_of w) → ExhaustTrue (Err w) netlist class ws ws work work
  unfolding exhaust_answer exhaust_call
  early w e = record {
    answer = rw e refl;
    store = sym (before-found netlist class ws work (refusal_number_of w) e);
    work = kept;
  }

  pub exhaust_words : (length ws ≡ store_words_count → ⊥) → ExhaustTrue (Err why.StoreLength) netlist class ws ws work work
  exhaust_words d = early why.StoreLength (rw (ne_eqb (length ws) store_words_count d) refl)

  module _ (l : length ws ≡ store_words_count) where
    pub exhaust_short : length work < work_words_count → ExhaustTrue (Err why.WorkLength) netlist class ws ws work work
    exhaust_short h = early why.WorkLength (rw (eq-eqb (length ws) store_words_count l, lt-leb work_words_count (length work) h) refl)

    module _ (h : work_words_count ≤ length work) (r : Result Loaded Refusal) (t : LoadedTrue r netlist) where
      passed : lent ≡ value tt
      passed = rw (eq-eqb (length ws) store_words_count l, le-leb work_words_count (length work) h) refl

      pub exhaust_netlist : (w : Refusal) → r ≡ Err w → ExhaustTrue (Err w) netlist class ws ws work work
      exhaust_netlist w e = early w (rw (passed, loaded_refused r netlist t w e) refl)

      module _ (loaded : Loaded) (e : r ≡ Ok loaded) (k : Bool) (ek : k ≡ within 1 2 class) where
        pub exhaust_class : not k ≡ true → ExhaustTrue (Err why.UnknownClass) netlist class ws ws work work
        exhaust_class hk =
            let d = loaded_legal r netlist t loaded e in
            let q : within 1 2 class ≡ false = sym ek ∙ not-true k hk in
            early why.UnknownClass (rw (passed, d.tables.legal) (rw q refl))

        module _ (hk : not k ≡ false) where
          reached : before_test netlist class ws work ≡ value (loaded_legal r netlist t loaded e).circuit
          reached = let d = loaded_legal r netlist t loaded e in rw (passed, d.tables.legal) (rw (sym ek ∙ not-false k hk) refl)

          pub exhaust_many : 6 < loaded.shape.inputs → ExhaustTrue (Err why.TooManyInputs) netlist class ws ws work work
          unfolding exhaust_answer exhaust_call exhaust_store pairs_on
          exhaust_many m =
              let d = loaded_legal r netlist t loaded e in
              let few = lt-leb d.circuit.inputs 6 (omega (arith, d.tables.inputs_are, m)) in
              let a : exhaust_call netlist class ws work ≡ refused 91 = rw reached (rw few refl) in
              record {
                answer = rw a refl;
                store = sym (ap (λ (y : Answer (List ℕ)). exhaust_after y ws) a);
                work = kept;
              }

          module _ (m : loaded.shape.inputs ≤ 6) where
            module _ (ws' : List ℕ) (z : ws' ≡ replicate (length ws) 0) where
              pub exhaust_empty : ws' ≡ empty_store
              exhaust_empty = emptied ws' (length ws) z l

              pub exhaust_ready : Ready netlist loaded ws' work
              exhaust_ready =
                  let d = loaded_legal r netlist t loaded e in
                  record {
                    circuit = d.circuit;
                    tables = d.tables;
                    total_is = d.total_is;
                    memory = subst (λ (x : List ℕ). MemoryReady d.circuit x work) (sym exhaust_empty) (empty-memory d.circuit work h);
                  }

            pub exhaust_done : (a : Result StoreTotals Refusal) (ws'' work'' : List ℕ) → PairsApplied a netlist class ws'' work work'' → ExhaustTrue a netlist class ws ws'' work work''
            unfolding exhaust_answer exhaust_call exhaust_store pairs_on left_store
            exhaust_done a ws'' work'' f =
                let d = loaded_legal r netlist t loaded e in
                let N : Netlist = d.circuit in
                let read = d.tables.legal in
                let few : T (few_inputs N).1 = le→leb N.inputs 6 (omega (arith, d.tables.inputs_are, m)) in
                let pairs : Answer (List ℕ) = test_all N (class_of class) (all_pairs N.inputs) empty_store in
                let call : exhaust_call netlist class ws work ≡ pairs = rw reached (rw (→checks (few_inputs N ∷ []) (few, tt)) refl) in
                let way : (n : ℕ) → pairs ≡ refused n → T (of_work n) = on-the-way netlist N read few (class_of class) in
                let total : exhaust_answer netlist class ws work ≡ summed pairs = ap summed call in
                record {
                  answer = f.answer N read ∙ sym total;
                  store = f.store N read ∙ left_after pairs way ∙ sym (ap (λ (y : Answer (List ℕ)). exhaust_after y ws) call);
                  work = record {
                    same_length_of = f.same_length_of;
                    past_work = f.past_work;
                    not_applied = λ n q o. absurd (T_not (of_work n) o (summed-refused n pairs way (sym total ∙ q)));
                  };
                }
              where
                left_after : (x : Answer (List ℕ)) → ((n : ℕ) → x ≡ refused n → T (of_work n)) → left_store x ≡ exhaust_after x ws
                left_after (refused n) o = sym (emptied-work n ws (o n refl))
                left_after (value left) o = refl

                summed-refused : (n : ℕ) (x : Answer (List ℕ)) → ((k : ℕ) → x ≡ refused k → T (of_work k)) → summed x ≡ refused n → T (of_work n)
                summed-refused n (refused k) o q = subst (λ (j : ℕ). T (of_work j)) (refused-inj q) (o k refl)
                summed-refused n (value left) o q = absurd (not_refused (sym q))

pub ruleset exhaust-cases = (exhaust_words, exhaust_short, exhaust_netlist, exhaust_class, exhaust_many, exhaust_empty, exhaust_ready, exhaust_done, rules)
