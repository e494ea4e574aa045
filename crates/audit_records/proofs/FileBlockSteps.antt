-- The test stage with the records of a file block by block: a block that is taken, one that is refused, the end.
use Rattle.model.proofs.Prelude.{ℕ, ◌≤◌, ◌<◌, ◌+◌, ◌-◌, ◌*◌, ◌^◌, ◌≡◌, ◌∙◌, ap, refl, sym, subst, List, [], length, drop, take, replicate}
use Rattle.model.proofs.Prelude.{length-drop, drop-drop, le_trans, mul-le-mul_right, arith, rules}
use native.Mathlib.Nat.{le_of_eq, one-mul}
use Rattle.model.specs.Base.{refused, value}
use Rattle.model.specs.Netlist.{Netlist}
use Rattle.model.specs.Detect.{Class}
use Rattle.model.specs.Read.{class_of, vector_bytes_of, record_length}
use Rattle.model.specs.Refusals.{refusal_number_of}
use Rattle.model.specs.declared.Refusal.{Refusal}
use Rattle.model.specs.Store.{store_words_count}
use Rattle.model.specs.Calls.{work_words_count}
use Rattle.model.specs.Report.{file_records, test_all}
use Rattle.record_bytes.proofs.PartLaws.{part-rest}
use Rattle.store_coverage.specs.Stage.{MemoryReady}
use Rattle.audit_block.specs.RecordsTaken.{left_store, taken_of}
use Rattle.audit_block.specs.FileBlocks.{BlockTables, BlocksReady, BlockTrue, BlockDone}
use Rattle.audit_records.specs.FileRecords.{BlocksTaken}
use Rattle.audit_block.specs.declared.inner.TakenRecords.{TakenRecords}
use Rattle.audit_block.specs.declared.inner.FileNumbers.{FileNumbers}
use Rattle.audit_block.proofs.MemoryLaws.{emptied}
use Rattle.audit_block.proofs.BlockFileLaws.{no_record}
use Rattle.audit_block.proofs.BlockTakeCases.{few-inputs}
use Rattle.std.specs.Prelude.{Ok, Err}

at_least : (b k : ℕ) → 1 ≤ b → k ≤ b * k
at_least b k h = le_trans (le_of_eq (sym (one-mul k))) (mul-le-mul_right k h)

-- of one netlist: the records from byte `at` on, from the store so far, give the whole
pub record Going (N : Netlist) (c : Class) (test_file ws₀ ws work : List ℕ) (at taken : ℕ) : Type 0 where
  pub memory : MemoryReady N ws work
  pub rest : test_all N c (file_records N (drop at test_file)) ws ≡ test_all N c (file_records N test_file) ws₀
  pub counted : taken + taken_of N c (file_records N (drop at test_file)) ws ≡ taken_of N c (file_records N test_file) ws₀

module _ (table offsets : List ℕ) (file : FileNumbers) (test_file risingLists₀ fallingLists₀ ws₀ work₀ : List ℕ) where
  abbrev c : Class
  c = class_of file.class

  -- The records before byte `at` are taken, as many as `taken`
  pub record TakingBlocks (risingLists fallingLists ws work : List ℕ) (at taken : ℕ) : Type 0 where
    pub short : length test_file < 2 ^ 64
    pub within : at ≤ length test_file
    pub few : taken ≤ at
    pub same_rising : length risingLists ≡ length risingLists₀
    pub same_falling : length fallingLists ≡ length fallingLists₀
    pub same_store : length ws ≡ length ws₀
    pub goes : (N : Netlist) → BlockTables N table offsets file → MemoryReady N ws₀ work₀ → Going N c test_file ws₀ ws work at taken
    pub same_length_of : length work ≡ length work₀
    pub past_work : drop work_words_count work ≡ drop work_words_count work₀

  pub taking_start : length test_file < 2 ^ 64 → TakingBlocks risingLists₀ fallingLists₀ ws₀ work₀ 0 0
  taking_start h = record {
    short = h;
    within = omega arith;
    few = omega arith;
    same_rising = refl;
    same_falling = refl;
    same_store = refl;
    goes = λ N t m. record { memory = m; rest = refl; counted = omega arith };
    same_length_of = refl;
    past_work = refl;
  }

  module _ (s : BlocksReady table offsets file risingLists₀ fallingLists₀ ws₀ work₀) where
    pub file-inputs : file.inputs ≤ 64
    file-inputs = few-inputs s.tables

    module _ {risingLists fallingLists ws work : List ℕ} {at taken : ℕ} (g : TakingBlocks risingLists fallingLists ws work at taken) where
      pub taking_ready : BlocksReady table offsets file risingLists fallingLists ws work
      taking_ready = record {
        netlist = s.netlist;
        tables = s.tables;
        memory = (g.goes s.netlist s.tables s.memory).memory;
        up_room_of = omega (arith, g.same_rising, s.up_room_of);
        down_room = omega (arith, g.same_falling, s.down_room);
      }

      module _ {bytes : ℕ} (eb : bytes ≡ 2 + 2 * vector_bytes_of file.inputs) where
        length-is : (N : Netlist) → BlockTables N table offsets file → bytes ≡ record_length N
        length-is N t = eb ∙ ap (λ (i : ℕ). 2 + 2 * vector_bytes_of i) t.circuit.inputs_are

        pub taking_end : length test_file - at < bytes
            → BlocksTaken (record { taken = taken; answer = (Ok tt) }) table offsets file test_file ws₀ ws work₀ work
        unfolding left_store test_all taken_of
        taking_end h =
            let none : (N : Netlist) → BlockTables N table offsets file → [] ≡ file_records N (drop at test_file) =
            λ N t. sym (no_record N test_file at (omega (arith, length-is N t))) in
            let left : (N : Netlist) → BlockTables N table offsets file → MemoryReady N ws₀ work₀ → value ws ≡ test_all N c (file_records N test_file) ws₀ =
            λ N t m. ap (λ (rs : List (List ℕ)). test_all N c rs ws) (none N t) ∙ (g.goes N t m).rest in
            let all : (N : Netlist) → BlockTables N table offsets file → MemoryReady N ws₀ work₀ → taken + 0 ≡ taken_of N c (file_records N test_file) ws₀ =
            λ N t m. ap (λ (rs : List (List ℕ)). taken + taken_of N c rs ws) (none N t) ∙ (g.goes N t m).counted in
            record {
              of_circuit = λ N t m. record { answer = left N t m; store = ap left_store (left N t m); taken = omega (arith, all N t m) };
              few = omega (arith, g.few, g.within);
              same_length_of = g.same_length_of;
              past_work = g.past_work;
            }

        module _ {r : TakenRecords} {risingLists' fallingLists' ws' work' : List ℕ}
            (d : BlockDone r table offsets file (take (length test_file - at) (drop at test_file)) risingLists risingLists' fallingLists fallingLists' ws ws' work work') where
          -- the block is that of the bytes from `at` on
          here : (N : Netlist) → BlockTables N table offsets file → MemoryReady N ws work → BlockTrue r N c (drop at test_file) ws ws' work'
          here N t m = subst (λ (x : List ℕ). BlockTrue r N c x ws ws' work') (part-rest at test_file) (d.of_circuit N t m)

          C : Netlist
          C = s.netlist

          m₀ : MemoryReady C ws work
          unfolding C
          m₀ = (g.goes C s.tables s.memory).memory

          -- how far it goes
          block-bytes : bytes * r.taken ≤ length test_file - at
          unfolding C
          block-bytes =
              let w = (here C s.tables m₀).within in
              let e : bytes * r.taken ≡ record_length C * r.taken = ap (λ b. b * r.taken) (length-is C s.tables) in
              omega (arith, w, e, length-drop at test_file)

          pub block-fits : bytes * r.taken < 2 ^ 64
          block-fits = omega (arith, block-bytes, g.short)

          block_within : at + bytes * r.taken ≤ length test_file
          block_within = omega (arith, block-bytes, g.within)

          pub end_fits : at + bytes * r.taken < 2 ^ 64
          end_fits = omega (arith, block_within, g.short)

          block-count : taken + r.taken ≤ at + bytes * r.taken
          block-count = omega (arith, g.few, at_least bytes r.taken (omega (arith, eb)))

          pub count_fits : taken + r.taken < 2 ^ 64
          count_fits = omega (arith, block-count, end_fits)

          pub taking_refused : {w : Refusal} → r.answer ≡ Err w → {ws'' : List ℕ} → ws'' ≡ replicate (length ws') 0
              → BlocksTaken (record { taken = taken + r.taken; answer = Err w }) table offsets file test_file ws₀ ws'' work₀ work'
          unfolding left_store
          taking_refused {w} q {ws''} z =
              let l : length ws' ≡ store_words_count = d.store_length ∙ g.same_store ∙ s.memory.store_length in
              let x : (N : Netlist) → BlockTables N table offsets file → MemoryReady N ws₀ work₀ → test_all N c (file_records N test_file) ws₀ ≡ refused (refusal_number_of w) =
              λ N t m. sym (g.goes N t m).rest ∙ ((here N t (g.goes N t m).memory).refuses w q).all in
              record {
                of_circuit = λ N t m. record {
                  answer = sym (x N t m);
                  store = emptied ws'' (length ws') z l ∙ sym (ap left_store (x N t m));
                  taken = ap (λ k. taken + k) ((here N t (g.goes N t m).memory).refuses w q).counted ∙ (g.goes N t m).counted;
                };
                few = omega (arith, block-count, block_within);
                same_length_of = d.kept.same_length_of ∙ g.same_length_of;
                past_work = d.kept.past_work ∙ g.past_work;
              }

          module _ (q : r.answer ≡ Ok tt) where
            pub taking_less : bytes ≤ length test_file - at → length test_file - (at + bytes * r.taken) < length test_file - at
            unfolding C
            taking_less h =
                let k : 1 ≤ r.taken = ((here C s.tables m₀).onward q).some (omega (arith, length-is C s.tables, length-drop at test_file)) in
                omega (arith, at_least bytes r.taken (omega (arith, eb)), block_within)

            pub taking_next : TakingBlocks risingLists' fallingLists' ws' work' (at + bytes * r.taken) (taken + r.taken)
            taking_next = record {
              short = g.short;
              within = block_within;
              few = block-count;
              same_rising = d.kept.same_rising ∙ g.same_rising;
              same_falling = d.kept.same_falling ∙ g.same_falling;
              same_store = d.store_length ∙ g.same_store;
              goes = λ N t m.
                  let before = g.goes N t m in
                  let o = (here N t before.memory).onward q in
                  let far : drop (record_length N * r.taken) (drop at test_file) ≡ drop (at + bytes * r.taken) test_file =
                  drop-drop (record_length N * r.taken) at test_file ∙ ap (λ b. drop (at + b * r.taken) test_file) (sym (length-is N t)) in
                  record {
                    memory = o.memory;
                    rest = ap (λ (x : List ℕ). test_all N c (file_records N x) ws') (sym far) ∙ o.rest ∙ before.rest;
                    counted = later taken r.taken (ap (λ (x : List ℕ). taken_of N c (file_records N x) ws') far) o.counted before.counted;
                  };
              same_length_of = d.kept.same_length_of ∙ g.same_length_of;
              past_work = d.kept.past_work ∙ g.past_work;
            }
              where
                later : (a b : ℕ) {x y u v : ℕ} → x ≡ y → b + x ≡ u → a + u ≡ v → (a + b) + y ≡ v
                later a b e f h = omega arith

pub ruleset blocks-cases = (taking_start, file-inputs, taking_ready, taking_end, block-fits, end_fits, count_fits, taking_refused, taking_less, taking_next, rules)
