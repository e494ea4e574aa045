-- All pairs on the tables of a netlist: those of one V1 as a block of tests, then one V1 after the other.
use Rattle.model.proofs.Prelude.{ℕ, ◌≤◌, ◌<◌, ◌+◌, ◌-◌, suc, ◌^◌, ◌≡◌, ◌∙◌, ap, refl, sym, subst, List, length, get_or, drop, replicate, arith, rules}
use Rattle.model.specs.Base.{refused, value, ◌into◌, ◌then◌}
use Rattle.model.specs.Netlist.{Netlist}
use Rattle.model.specs.Detect.{Class, Test}
use Rattle.model.specs.Read.{class_of, test_of}
use Rattle.model.specs.Refusals.{refusal_number_of}
use Rattle.model.specs.declared.Refusal.{Refusal}
use Rattle.model.specs.Calls.{work_words_count}
use Rattle.model.specs.Report.{test_all}
use Rattle.model.proofs.PieceLaws.{test_all-append}
use Rattle.model.proofs.ReadLaws.{limits, in_class_lem}
use Rattle.block_activity.specs.declared.inner.Batch.{Batch}
use Rattle.store_coverage.specs.Stage.{MemoryReady}
use Rattle.block_stage.specs.declared.inner.Applied.{Applied}
use Rattle.audit_block.specs.RecordsTaken.{file_of, left_store}
use Rattle.audit_block.specs.FileBlocks.{BlockTables, BlocksReady}
use Rattle.audit_block.specs.VectorBlocks.{TestsAt, TestsReady, TestsTaken}
use Rattle.audit_block.specs.declared.inner.FileNumbers.{FileNumbers}
use Rattle.audit_block.proofs.MemoryLaws.{emptied, all-memory}
use Rattle.audit_block.proofs.BlockFileLaws.{block-all}
use Rattle.exhaust_pairs.specs.AllPairs.{pairs_with, pairs_from, all_pairs}
use Rattle.exhaust_pairs.specs.HeldPairs.{held_pair, held_pairs}
use Rattle.exhaust_pairs.proofs.PairVectorLaws.{first_bit, second-bit}
use Rattle.exhaust_pairs.proofs.HeldPairLaws.{held-legal}
use Rattle.exhaust.specs.PairsTaken.{WithTaken, AllTaken}
use Rattle.std.specs.Prelude.{Result, Ok, Err}
use Rattle.model.specs.Returned.{answer_of}

module _ {table offsets : List ℕ} {numbers : FileNumbers} {risingLists fallingLists ws work : List ℕ} (s : BlocksReady table offsets numbers risingLists fallingLists ws work)
    (few : numbers.inputs ≤ 6) where
  abbrev c : Class
  c = class_of numbers.class

  low : (N : Netlist) → BlockTables N table offsets numbers → 1 ≤ N.inputs
  low N t = (limits t.circuit.file N t.circuit.legal).some_input

  high : (N : Netlist) → BlockTables N table offsets numbers → N.inputs ≤ 6
  high N t = omega (arith, t.circuit.inputs_are, few)

  -- the pairs of one V1, in words
  module _ (first : ℕ) (below : first < 2 ^ numbers.inputs) (vectors : List ℕ) {n : ℕ} (most : n ≤ 64)
      (held : held_pairs vectors n ≡ pairs_with first 0 (2 ^ numbers.inputs)) where
    abbrev batch : Batch
    batch = record { inputs = numbers.inputs; nets = numbers.nets; outputs = numbers.outputs; records = n; class = numbers.class }

    abbrev tests : Netlist → ℕ → Test
    tests N i = test_of N c (held_pair vectors i)

    pairs-at : (N : Netlist) → BlockTables N table offsets numbers → TestsAt N (tests N) table offsets batch vectors
    pairs-at N t = record {
      circuit = t.circuit;
      placed = t.placed;
      outputs_are = t.outputs_are;
      block = record { few = most; in_class = λ i h. in_class_lem N c _ };
      vectors_are = record {
        first = λ i j h b. first_bit N (low N t) (high N t) c (get_or vectors i 0) (get_or vectors (64 + i) 0) j b;
        second = λ i j h b. second-bit N (low N t) (high N t) c (get_or vectors i 0) (get_or vectors (64 + i) 0) j b;
      };
    }

    pub pairs-ready : TestsReady table offsets batch vectors risingLists fallingLists ws work
    pairs-ready = record {
      netlist = s.netlist;
      tests = tests s.netlist;
      given = pairs-at s.netlist s.tables;
      memory = s.memory;
      up_room_of = s.up_room_of;
      down_room = s.down_room;
    }

    module _ {r : Applied} {risingLists' fallingLists' ws' work' : List ℕ}
        (done : TestsTaken r table offsets batch vectors risingLists risingLists' fallingLists fallingLists' ws ws' work work') where
      pub pairs-with : WithTaken r.answer table offsets numbers first risingLists risingLists' fallingLists fallingLists' ws ws' work work'
      unfolding held_pairs
      pairs-with = record {
        store_length = done.store_length;
        kept = done.kept;
        of_circuit = λ N t m.
            let inputs = t.circuit.inputs_are in
            let are : held_pairs vectors n ≡ pairs_with first 0 (2 ^ N.inputs) = held ∙ ap (λ (i : ℕ). pairs_with first 0 (2 ^ i)) inputs in
            let legal = held-legal N (low N t) (high N t) first (subst (λ (i : ℕ). first < 2 ^ i) inputs below) vectors n are in
            file-is r.answer ∙ (done.of_tests N (tests N) (pairs-at N t) m).answer
            ∙ sym (block-all N c (held_pair vectors) work n m legal) ∙ ap (λ (rs : List (List ℕ)). test_all N c rs ws) are;
      }
        where
          file-is : (a : Result (Unit {0}) Refusal) → file_of a ws' ≡ (answer_of a then value ws')
          file-is (Ok tt) = refl
          file-is (Err w) = refl

-- one V1 after the other: of one netlist, the pairs from V1 `first` on, from the store so far, give the whole
pub record Going (N : Netlist) (c : Class) (ws₀ ws work : List ℕ) (first : ℕ) : Type 0 where
  pub memory : MemoryReady N ws work
  pub rest : test_all N c (pairs_from (2 ^ N.inputs) first (2 ^ N.inputs - first)) ws ≡ test_all N c (all_pairs N.inputs) ws₀

module _ (table offsets : List ℕ) (numbers : FileNumbers) (risingLists₀ fallingLists₀ ws₀ work₀ : List ℕ) where
  abbrev cl : Class
  cl = class_of numbers.class

  -- The pairs of the V1 below `first` are taken
  pub record TakingPairs (risingLists fallingLists ws work : List ℕ) (first : ℕ) : Type 0 where
    pub within : first ≤ 2 ^ numbers.inputs
    pub same_rising : length risingLists ≡ length risingLists₀
    pub same_falling : length fallingLists ≡ length fallingLists₀
    pub same_store : length ws ≡ length ws₀
    pub goes : (N : Netlist) → BlockTables N table offsets numbers → MemoryReady N ws₀ work₀ → Going N cl ws₀ ws work first
    pub same_length_of : length work ≡ length work₀
    pub past_work : drop work_words_count work ≡ drop work_words_count work₀

  pub taking_start : TakingPairs risingLists₀ fallingLists₀ ws₀ work₀ 0
  unfolding all_pairs
  taking_start = record {
    within = omega arith;
    same_rising = refl;
    same_falling = refl;
    same_store = refl;
    goes = λ N t m.
        let all : 2 ^ N.inputs - 0 ≡ 2 ^ N.inputs = omega arith in
        record { memory = m; rest = ap (λ (k : ℕ). test_all N cl (pairs_from (2 ^ N.inputs) 0 k) ws₀) all };
    same_length_of = refl;
    past_work = refl;
  }

  module _ {count : ℕ} (ec : (count ≡ 2 ^ numbers.inputs) × (count ≤ 64)) {risingLists fallingLists ws work : List ℕ} {first : ℕ}
      (g : TakingPairs risingLists fallingLists ws work first) where
    count-is : (N : Netlist) → BlockTables N table offsets numbers → count ≡ 2 ^ N.inputs
    count-is N t = ec.0 ∙ ap (λ (i : ℕ). 2 ^ i) t.circuit.inputs_are

    pub taking_end : count ≤ first → AllTaken (Ok tt) table offsets numbers ws₀ ws work₀ work
    unfolding left_store test_all pairs_from
    taking_end h =
        let left : (N : Netlist) → BlockTables N table offsets numbers → MemoryReady N ws₀ work₀ → value ws ≡ test_all N cl (all_pairs N.inputs) ws₀ =
        λ N t m.
        let none : 2 ^ N.inputs - first ≡ 0 = omega (arith, count-is N t, h) in
        ap (λ (k : ℕ). test_all N cl (pairs_from (2 ^ N.inputs) first k) ws) (sym none) ∙ (g.goes N t m).rest in
        record {
          of_circuit = λ N t m. record { answer = left N t m; store = ap left_store (left N t m) };
          same_length_of = g.same_length_of;
          past_work = g.past_work;
        }

    module _ (s : BlocksReady table offsets numbers risingLists₀ fallingLists₀ ws₀ work₀) where
      pub taking_ready : BlocksReady table offsets numbers risingLists fallingLists ws work
      taking_ready = record {
        netlist = s.netlist;
        tables = s.tables;
        memory = (g.goes s.netlist s.tables s.memory).memory;
        up_room_of = omega (arith, g.same_rising, s.up_room_of);
        down_room = omega (arith, g.same_falling, s.down_room);
      }

      pub taking_below : first < count → first < 2 ^ numbers.inputs
      taking_below h = omega (arith, ec.0)

      module _ (more : first < count) {r : (Result (Unit {0}) Refusal)} {risingLists' fallingLists' ws' work' : List ℕ}
          (d : WithTaken r table offsets numbers first risingLists risingLists' fallingLists fallingLists' ws ws' work work') where
        -- the pairs of this V1, then those of the others
        module _ (N : Netlist) (t : BlockTables N table offsets numbers) (m : MemoryReady N ws₀ work₀) where
          abbrev m₀ : ℕ
          m₀ = 2 ^ N.inputs

          abbrev others : List (List ℕ)
          others = pairs_from m₀ (first + 1) (m₀ - (first + 1))

          split : test_all N cl (all_pairs N.inputs) ws₀ ≡ (file_of r ws' into λ left. test_all N cl others left)
          unfolding pairs_from
          split =
              let k : m₀ - first ≡ suc (m₀ - (first + 1)) = omega (arith, count-is N t, more) in
              let one : suc first ≡ first + 1 = omega arith in
              sym (g.goes N t m).rest ∙ ap (λ (j : ℕ). test_all N cl (pairs_from m₀ first j) ws) k
              ∙ test_all-append N cl (pairs_with first 0 m₀) (pairs_from m₀ (suc first) (m₀ - (first + 1))) ws
              ∙ ap (λ (j : ℕ). test_all N cl (pairs_with first 0 m₀) ws into λ left. test_all N cl (pairs_from m₀ j (m₀ - (first + 1))) left) one
              ∙ ap (λ x. x into λ left. test_all N cl others left) (sym (d.of_circuit N t (g.goes N t m).memory))

        pub taking_refused : {w : Refusal} → r ≡ Err w → {ws'' : List ℕ} → ws'' ≡ replicate (length ws') 0
            → AllTaken (Err w) table offsets numbers ws₀ ws'' work₀ work'
        unfolding left_store
        taking_refused {w} q {ws''} z =
            let x : (N : Netlist) → BlockTables N table offsets numbers → MemoryReady N ws₀ work₀ → test_all N cl (all_pairs N.inputs) ws₀ ≡ refused (refusal_number_of w) =
            λ N t m. split N t m ∙ rw q refl in
            record {
              of_circuit = λ N t m. record { answer = sym (x N t m); store = emptied ws'' (length ws') z d.store_length ∙ sym (ap left_store (x N t m)) };
              same_length_of = d.kept.same_length_of ∙ g.same_length_of;
              past_work = d.kept.past_work ∙ g.past_work;
            }

        module _ (q : r ≡ Ok tt) where
          pub taking_next : TakingPairs risingLists' fallingLists' ws' work' (first + 1)
          taking_next = record {
            within = omega (arith, more, ec.0);
            same_rising = d.kept.same_rising ∙ g.same_rising;
            same_falling = d.kept.same_falling ∙ g.same_falling;
            same_store = d.store_length ∙ sym s.memory.store_length;
            goes = λ N t m.
                let before = g.goes N t m in
                let taken : test_all N cl (pairs_with first 0 (2 ^ N.inputs)) ws ≡ value ws' = sym (d.of_circuit N t before.memory) ∙ ap (λ (a : Result (Unit {0}) Refusal). file_of a ws') q in
                record {
                  memory = all-memory N cl ws work work' before.memory d.kept.same_length_of (pairs_with first 0 (2 ^ N.inputs)) ws' taken;
                  rest = sym (split N t m ∙ rw q refl);
                };
            same_length_of = d.kept.same_length_of ∙ g.same_length_of;
            past_work = d.kept.past_work ∙ g.past_work;
          }

pub ruleset all-cases = (taking_start, taking_end, taking_ready, taking_below, taking_refused, taking_next, rules)
