-- One block of a piece: what its records are handed, and its two ends: a record after them that is refused, or none.
use Rattle.model.proofs.Prelude.{ℕ, ◌≤◌, ◌<◌, ◌+◌, ◌-◌, ◌*◌, min, ◌≡◌, ◌∙◌, ap, refl, sym, subst, ap₂, ⊎_elim, ◌⊎◌, List, length, get_or, drop, take}
use Rattle.model.proofs.Prelude.{set, get_or-set_same, get_or-set_other, le_trans, mul-le-mul_right, add-one, arith, ne_eqb}
use native.Mathlib.Nat.{mul-suc, min-le_left, min-le_right}
use lib.ListN.{length-take}
use Rattle.model.specs.Base.{Answer, refused, checks}
use Rattle.model.specs.Netlist.{Netlist}
use Rattle.model.specs.Detect.{Class, Test}
use Rattle.model.specs.Read.{class_of, test_rules, record_length, vector_bytes_of}
use Rattle.model.specs.Calls.{FaultCounts}
use Rattle.model.specs.Refusals.{refusal_number_of}
use Rattle.model.specs.declared.Refusal.{Refusal}
use Rattle.model.specs.declared.Refusal.TheVariants as why
use Rattle.store_coverage.specs.Stage.{MemoryReady, work_stage}
use Rattle.store_coverage.specs.TestCall.{returned_by}
use Rattle.block_words.specs.Block.{BlockOf}
use Rattle.block_words.specs.Table.{CircuitTable}
use Rattle.block_activity.specs.EdgeMarks.{WorkKept}
use Rattle.block_activity.specs.Marks.{OffsetTable, MarksTrue, VectorsOf, test_at, BlockRead}
use Rattle.block_counting.specs.Counts.{Says, SaysAt, store_at, BlockCounted}
use Rattle.block_stage.specs.BlockStage.{BlockAt, MemoryKept}
use Rattle.audit_block.specs.FileBlocks.{BlockTables, BlocksReady, RoomKept}
use Rattle.audit_block.specs.declared.inner.FileNumbers.{FileNumbers}
use Rattle.audit_block.proofs.VectorCases.{marked-at, still_ready}
use Rattle.audit_block.proofs.BlockTakeCases.{block-some, batch, read_of, block-records, read-tests, read-ready}
use Rattle.listing_blocks.specs.BlockLines.{NextIs, PartListed, PartDone}
use Rattle.listing_blocks.proofs.BlockLineLaws.{part-legal, part-refused, memory-at}
use Rattle.std.specs.Prelude.{Result, Ok, Err}

-- a word put after the answers of n records leaves them
says-kept : (answers : List ℕ) (n k t : ℕ) (x : Answer FaultCounts) → n ≤ 64 → t < n → SaysAt answers t x → SaysAt (set answers (128 + n) k) t x
says-kept answers n k t x f h s =
    let other : (i : ℕ) → (i ≡ 128 + n → ⊥) → get_or answers i 0 ≡ get_or (set answers (128 + n) k) i 0 = λ i o. sym (get_or-set_other answers (128 + n) i k 0 o) in
    subst (λ (j : ℕ). Says (get_or (set answers (128 + n) k) t 0) (get_or (set answers (128 + n) k) (64 + t) 0) j x) (other (128 + t) (λ e. omega (arith, e)))
    (subst (λ (j : ℕ). Says (get_or (set answers (128 + n) k) t 0) j (get_or answers (128 + t) 0) x) (other (64 + t) (λ e. omega (arith, e)))
    (subst (λ (j : ℕ). Says j (get_or answers (64 + t) 0) (get_or answers (128 + t) 0) x) (other t (λ e. omega (arith, e))) s))

mul_add_one : (a b : ℕ) → a * (b + 1) ≡ a * b + a
mul_add_one a b = ap (λ (k : ℕ). a * k) (add-one b) ∙ mul-suc a b

-- a record that is short
short-refused : (N : Netlist) (rec : List ℕ) → length rec < record_length N → checks (test_rules N rec) ≡ refused 30
short-refused N rec h = rw (ne_eqb (length rec) (record_length N) (λ e. omega (arith, e))) refl

-- what is said of the record after those of a block
clash : {w : Refusal} → ◌≡◌ {A = (Result (Unit {0}) Refusal)} (Ok tt) (Err w) → ⊥
clash e = let z : ◌≡◌ {A = ℕ} 0 1 = cc in omega arith

same-refusal : {v w : Refusal} → ◌≡◌ {A = (Result (Unit {0}) Refusal)} (Err v) (Err w) → v ≡ w
same-refusal e = cc

module _ {after : (Result (Unit {0}) Refusal)} {n used len : ℕ} where
  pub next-none : (64 ≤ n) ⊎ (len ≤ used) → NextIs after n used len (Ok tt)
  next-none h = record { none = λ e. h; some = λ w e. absurd (clash e) }

  pub next-some : {w : Refusal} → n < 64 → (after ≡ Err w) ⊎ ((after ≡ Ok tt) × (used < len) × (w ≡ why.RecordLength))
      → NextIs after n used len (Err w)
  next-some f h = record {
    none = λ e. absurd (clash (sym e));
    some = λ v e. (f, subst (λ (x : Refusal). (after ≡ Err x) ⊎ ((after ≡ Ok tt) × (used < len) × (x ≡ why.RecordLength))) (same-refusal e) h);
  }

module _ {table offsets : List ℕ} {numbers : FileNumbers} {risingLists fallingLists ws work : List ℕ} (s : BlocksReady table offsets numbers risingLists fallingLists ws work) where
  module _ {part vectors : List ℕ} {n : ℕ} {after : (Result (Unit {0}) Refusal)} (read : (N : Netlist) → N.inputs ≡ numbers.inputs → BlockRead N part vectors n after) where
    abbrev c : Class
    c = class_of numbers.class

    -- what the place Work answers of record i
    abbrev answer_of : Netlist → ℕ → Answer FaultCounts
    answer_of N i = returned_by (work_stage N (test_at N c part i) (store_at N (test_at N c part) i ws))

    -- the bytes of its records
    module _ {bytes : ℕ} (eb : bytes ≡ 2 + 2 * vector_bytes_of numbers.inputs) where
      length-is : (N : Netlist) → BlockTables N table offsets numbers → bytes ≡ record_length N
      length-is N t = eb ∙ ap (λ (i : ℕ). 2 + 2 * vector_bytes_of i) t.circuit.inputs_are

      C : Netlist
      C = s.netlist

      pub whole-bytes : bytes * n ≤ length part
      unfolding C
      whole-bytes = subst (λ (b : ℕ). b * n ≤ length part) (sym (length-is C s.tables)) (read_of s read C s.tables).whole

      four : 4 ≤ bytes
      four = omega (arith, eb, block-some s)

      four-each : 4 * n ≤ bytes * n
      four-each = mul-le-mul_right n four

      pub part-fits : bytes ≤ 18 → bytes * n ≤ 1152
      part-fits h = le_trans (mul-le-mul_right n h) (omega (arith, block-records s read))

    module _ {risingLists' fallingLists' marks : List ℕ} (filled : (N : Netlist) (tests : ℕ → Test) → CircuitTable N table numbers.inputs numbers.nets → OffsetTable N offsets
        → length N.outputs ≡ numbers.outputs → BlockOf tests (class_of numbers.class) n → VectorsOf N tests n vectors → MarksTrue N tests n risingLists' fallingLists' marks)
        {work₁ : List ℕ} (lent : WorkKept work work₁) where
      module _ {ws' work' answers : List ℕ} (kept : MemoryKept ws' work₁ work')
          (counted : (N : Netlist) (tests : ℕ → Test) → BlockAt N tests table offsets risingLists' fallingLists' marks (batch s read) → MemoryReady N ws work₁
          → BlockCounted N tests n ws ws' answers)
          (same_rising : length risingLists' ≡ length risingLists) (same_falling : length fallingLists' ≡ length fallingLists) {bytes : ℕ}
          (eb : bytes ≡ 2 + 2 * vector_bytes_of numbers.inputs) where
        room : RoomKept risingLists risingLists' fallingLists fallingLists' work work'
        room = record { same_rising = same_rising; same_falling = same_falling; same_length_of = kept.same_length_of ∙ lent.same_length_of; past_work = kept.past_work ∙ lent.past_work }

        module _ (N : Netlist) (t : BlockTables N table offsets numbers) (m : MemoryReady N ws work) where
          b : BlockRead N part vectors n after
          b = read_of s read N t

          k : BlockCounted N (test_at N c part) n ws ws' answers
          k =
              let ready = read-ready s read in
              counted N (test_at N c part) (marked-at ready filled lent N (test_at N c part) (read-tests s read N t)) (still_ready ready filled lent N m)

          memory-left : MemoryReady N ws' work'
          unfolding b k
          memory-left =
              let r = memory-at N c part ws m n b.whole b.legal answers k.each n in
              let here : MemoryReady N ws' work = subst (λ (x : List ℕ). MemoryReady N x work) (sym k.store) r in
              record { store_length = here.store_length; sound = here.sound; work_length = omega (arith, here.work_length, kept.same_length_of, lent.same_length_of) }

          -- the records of the block, with the words of others after them
          listed-with : (answers' : List ℕ) → ((i : ℕ) → i < n → SaysAt answers' i (answer_of N i))
              → PartListed N c part ws ws' answers' n (bytes * n)
          unfolding b k
          listed-with answers' each =
              subst (λ (x : List ℕ). PartListed N c part ws x answers' n (bytes * n)) (sym k.store)
              (subst (λ (l : ℕ). PartListed N c part ws (store_at N (test_at N c part) n ws) answers' n (l * n)) (sym (length-is eb N t))
              (part-legal N c part ws m n b.whole b.legal answers' each n (omega arith)))

        module _ {next : (Result (Unit {0}) Refusal)} (nx : NextIs after n (bytes * n) (length part) next) where
          -- none after them
          pub part-ended : next ≡ Ok tt
              → PartDone (record { lines = n; used = bytes * n; answers = answers }) table offsets numbers part risingLists risingLists' fallingLists fallingLists' ws ws' work work'
          unfolding k
          part-ended e = record {
            few = block-records s read;
            within = whole-bytes eb;
            some = λ h. ⊎_elim (λ (a : 64 ≤ n). omega (arith, four-each eb)) (λ (a : length part ≤ bytes * n). omega arith) (nx.none e);
            fewer = omega (arith, four-each eb);
            store_length = kept.store_length ∙ sym s.memory.store_length;
            kept = room;
            of_circuit = λ N t m. record { listed = listed-with N t m answers (k N t m).each; memory = memory-left N t m };
          }

          -- the one after them is refused
          module _ {w : Refusal} (e : next ≡ Err w) where
            next-few : n < 64
            next-few = (nx.some w e).0

            begins : bytes * n < length part
            begins =
                ⊎_elim (λ (q : after ≡ Err w).
                let l : record_length s.netlist * (n + 1) ≤ length part = ((read_of s read s.netlist s.tables).refuses w q).0 in
                let more : record_length s.netlist * (n + 1) ≡ record_length s.netlist * n + record_length s.netlist = mul_add_one (record_length s.netlist) n in
                let same : bytes * n ≡ record_length s.netlist * n = ap (λ (x : ℕ). x * n) (length-is eb s.netlist s.tables) in
                omega (arith, four eb, length-is eb s.netlist s.tables))
                (λ (q : (after ≡ Ok tt) × (bytes * n < length part) × (w ≡ why.RecordLength)). q.1) (nx.some w e).1

            module _ {used : ℕ} (eu : used ≡ min (bytes * n + bytes) (length part)) where
              refuses : (N : Netlist) → BlockTables N table offsets numbers → checks (test_rules N (take (used - bytes * n) (drop (bytes * n) part))) ≡ refused (refusal_number_of w)
              refuses N t =
                  let same : bytes * n ≡ record_length N * n = ap (λ (x : ℕ). x * n) (length-is eb N t) in
                  let more : record_length N * (n + 1) ≡ record_length N * n + record_length N = mul_add_one (record_length N) n in
                  let l : bytes ≡ record_length N = length-is eb N t in
                  ⊎_elim (λ (q : after ≡ Err w).
                  let z = (read_of s read N t).refuses w q in
                  let whole : used - bytes * n ≡ record_length N = omega (arith, eu, z.0) in
                  ap₂ (λ (x y : ℕ). checks (test_rules N (take x (drop y part)))) whole same ∙ z.1)
                  (λ (q : (after ≡ Ok tt) × (bytes * n < length part) × (w ≡ why.RecordLength)).
                  let short : length part < record_length N * (n + 1) =
                  ⊎_elim (λ (a : n ≡ 64). absurd (omega (arith, next-few, a))) (λ (a : length part < record_length N * (n + 1)). a) ((read_of s read N t).ended q.0) in
                  let few : length (take (used - bytes * n) (drop (bytes * n) part)) ≤ used - bytes * n =
                  omega (arith, length-take (used - bytes * n) (drop (bytes * n) part), min-le_left (used - bytes * n) (length (drop (bytes * n) part))) in
                  short-refused N (take (used - bytes * n) (drop (bytes * n) part)) (omega (arith, eu)) ∙ ap (λ (v : Refusal). refused (refusal_number_of v)) (sym q.2))
                  (nx.some w e).1

              pub part-more : {number : ℕ} → number ≡ refusal_number_of w
                  → PartDone (record { lines = n + 1; used = used; answers = set answers (128 + n) number })
                  table offsets numbers part risingLists risingLists' fallingLists fallingLists' ws ws' work work'
              unfolding k
              part-more {number} ew = record {
                few = omega (arith, next-few);
                within = omega (arith, eu, min-le_right (bytes * n + bytes) (length part));
                some = λ h. omega (arith, eu, four eb, begins);
                fewer = omega (arith, eu, four eb, four-each eb, begins);
                store_length = kept.store_length ∙ sym s.memory.store_length;
                kept = room;
                of_circuit = λ N t m. record {
                  listed =
                      subst (λ (j : ℕ). PartListed N c part ws ws' (set answers (128 + n) number) j used) (sym (add-one n))
                      (part-refused N c part ws (set answers (128 + n) number)
                      (listed-with N t m (set answers (128 + n) number) (λ i l. says-kept answers n number i (answer_of N i) (block-records s read) l ((k N t m).each i l)))
                      begins (eu ∙ ap (λ (l : ℕ). min (bytes * n + l) (length part)) (length-is eb N t)) (refuses N t)
                      (get_or-set_same answers (128 + n) number 0 (omega (arith, (k N t m).room, next-few)) ∙ ew));
                  memory = memory-left N t m;
                };
              }
