-- The public calls together are the audit of the whole file: what a caller keeps after each piece is the state of the test calls so far, and the
-- store passes its rules.
use Rattle.model.proofs.Prelude.{ℕ, ◌≤◌, ◌<◌, ◌+◌, suc, zero, ◌≡◌, ◌∙◌, ap, refl, sym, subst, ap₂, true, Bool, false, List, [], ◌∷◌, length, eqb}
use Rattle.model.proofs.Prelude.{arith, ne_eqb, eq-eqb}
use Rattle.model.specs.Base.{Answer, refused, value, ◌into◌, checks, passes}
use Rattle.model.specs.Netlist.{Netlist, path_total}
use Rattle.model.specs.Detect.{Class}
use Rattle.model.specs.Read.{within, read_netlist, class_of}
use Rattle.model.specs.Refusals.{refusal_number_of}
use Rattle.model.specs.Store.{store_words_count, empty_store, store_rules}
use Rattle.model.specs.Calls.{work_words_count, store_rule, before_test}
use Rattle.model.specs.Report.{file_records, test_all}
use Rattle.model.specs.declared.Refusal.{Refusal}
use Rattle.model.proofs.AnswerLaws.{not_refused, value_inj}
use Rattle.model.proofs.RefusalLaws.{refused_over, all-over}
use Rattle.store_coverage.specs.Stage.{MemoryReady}
use Rattle.store_coverage.proofs.TestCallLaws.{refused-by, taken-by}
use Rattle.audit_block.specs.RecordsTaken.{left_store, taken_of}
use Rattle.audit_pieces.specs.declared.PieceAnswer.{PieceAnswer}
use Rattle.audit_pieces.specs.declared.PieceAnswer.TheVariants as piece
use Rattle.audit_piece_steps.specs.Steps.{lent_rules, with_piece, taken_with, end_of}
use Rattle.audit_pieces.specs.Calls.{RecordsSaid, piece_of, records_said, piece_answer, piece_call, piece_left, PieceTrue, end_stage, end_call, end_answer, end_store, EndTrue}
use Rattle.audit_judging.specs.FileJudging.{store_checked, so_far, end_legal_of}
use Rattle.audit_piece_steps.specs.JoinedPieces.{joined, with_pieces}
use Rattle.audit_pieces.specs.Together.{MadeCall, call_bytes, first_of, taken_in_of, HandedOver, last_first, last_taken_of, last_store, OnlyByRecords, PiecesMade, WholeAudit}
use Rattle.audit_piece_steps.proofs.StepCases.{lent-passed}
use Rattle.audit_block.proofs.MemoryLaws.{left-memory}
use Rattle.audit_piece_steps.proofs.JoinedPieceLaws.{pieces-joined}
use Rattle.audit_pieces.proofs.TogetherHolds.{end-answer, end-store, begun-lent, begun-known, begun-before, begun-empty, begun-memory}
use Rattle.audit_pieces.proofs.TakenLaws.{taken_withs, taken-whole}
use Rattle.std.specs.Prelude.{Result}

-- One call on a legal netlist and a store that no rule refuses
module _ (netlist : List ℕ) (N : Netlist) (e : read_netlist netlist ≡ value N) (class : ℕ) (known : within 1 2 class ≡ true)
    (bytes ws ws' work work' : List ℕ) (m : MemoryReady N ws work) (r : PieceAnswer) (t : PieceTrue r netlist class bytes ws ws' work work') where
  abbrev c : Class
  c = class_of class

  abbrev tests : Answer (List ℕ)
  tests = test_all N c (file_records N bytes) ws

  lent : lent_rules ws work ≡ value tt
  lent = lent-passed ws work m.store_length m.work_length

  said : piece_of r ≡ value (records_said N c bytes ws)
  unfolding piece_answer
  said = t.answer ∙ rw (lent, e) (rw known (rw m.sound refl))

  left_is : ws' ≡ left_store tests
  unfolding piece_left piece_call
  left_is = t.store ∙ rw (lent, e) (rw known (rw m.sound refl))

  pub memory-then : MemoryReady N ws' work'
  memory-then = subst (λ (s : List ℕ). MemoryReady N s work') (sym left_is) (left-memory N c ws work work' m t.memory.same_length_of (file_records N bytes))

  -- it is not refused before its records
  pub not_before_lem : (w : Refusal) → r ≡ piece.Refused w → ⊥
  not_before_lem w q = not_refused (sym (ap piece_of q) ∙ said)

  state-by : (a : PieceAnswer) → piece_of a ≡ value (records_said N c bytes ws) → so_far (first_of a) ws' ≡ tests
  unfolding records_said so_far left_store
  state-by (piece.Taken k) q =
      let p : value tt ≡ passes tests = ap (λ (x : RecordsSaid). x.said) (value_inj q) in
      let g = taken-by tests p in
      ap (λ (s : List ℕ). value s) (left_is ∙ ap left_store g.is) ∙ sym g.is
  state-by (piece.RecordRefused k w) q =
      let p : refused (refusal_number_of w) ≡ passes tests = ap (λ (x : RecordsSaid). x.said) (value_inj q) in
      let g : tests ≡ refused (refusal_number_of w) = refused-by tests (refusal_number_of w) p in
      let o : 2 < refusal_number_of w = refused_over 2 (refusal_number_of w) tests (all-over N c (file_records N bytes) ws) g in
      let z : eqb (refusal_number_of w) 0 ≡ false = ne_eqb (refusal_number_of w) 0 (λ h. absurd (omega (arith, o, h))) in
      rw (z, so_far) (sym g)
  state-by (piece.Refused w) q = absurd (not_refused q)

  pub state-then : so_far (first_of r) ws' ≡ with_piece N c bytes (value ws)
  unfolding with_piece
  state-then = state-by r said

  taken-by-answer : (a : PieceAnswer) → piece_of a ≡ value (records_said N c bytes ws) → taken_in_of a ≡ taken_of N c (file_records N bytes) ws
  unfolding records_said
  taken-by-answer (piece.Taken k) q = ap (λ (x : RecordsSaid). x.taken) (value_inj q)
  taken-by-answer (piece.RecordRefused k w) q = ap (λ (x : RecordsSaid). x.taken) (value_inj q)
  taken-by-answer (piece.Refused w) q = absurd (not_refused q)

  pub taken_then : taken_in_of r ≡ taken_of N c (file_records N bytes) ws
  taken_then = taken-by-answer r said

-- other working memory, as long as it needs to be
with-work : (N : Netlist) (ws work other : List ℕ) → MemoryReady N ws work → work_words_count ≤ length other → MemoryReady N ws other
with-work N ws work other m l = record { store_length = m.store_length; sound = m.sound; work_length = l }

-- What holds after a list of calls
record AfterCalls (N : Netlist) (c : Class) (first : ℕ) (ws work : List ℕ) (ms : List MadeCall) : Type 0 where
  pub state : so_far (last_first first ms) (last_store ws ms) ≡ with_pieces N c (call_bytes ms) (so_far first ws)
  pub memory : MemoryReady N (last_store ws ms) work
  pub taken : (k : ℕ) → last_taken_of first k ms ≡ taken_withs N c (call_bytes ms) (so_far first ws) k
  pub by_records : OnlyByRecords first ms

-- once there is a refusal, nothing changes
module _ (N : Netlist) (c : Class) (n : ℕ) where
  refused-so_far : (ws : List ℕ) → so_far (suc n) ws ≡ refused (suc n)
  unfolding so_far
  refused-so_far ws = rw (ne_eqb (suc n) 0 (λ h. absurd (omega (arith, h))), so_far) refl

  kept-state : (bytes ws left : List ℕ) → so_far (suc n) left ≡ with_piece N c bytes (so_far (suc n) ws)
  unfolding with_piece
  kept-state bytes ws left = refused-so_far left ∙ sym (ap (with_piece N c bytes) (refused-so_far ws))

  kept-taken : (bytes ws : List ℕ) (k : ℕ) → k ≡ taken_with N c bytes (so_far (suc n) ws) k
  unfolding taken_with
  kept-taken bytes ws k = sym (ap (λ (x : Answer (List ℕ)). taken_with N c bytes x k) (refused-so_far ws))

after-calls : (netlist : List ℕ) (N : Netlist) → read_netlist netlist ≡ value N → (class : ℕ) → within 1 2 class ≡ true
    → (ms : List MadeCall) (first : ℕ) (ws work : List ℕ)
    → MemoryReady N ws work → HandedOver netlist class first ws ms → AfterCalls N (class_of class) first ws work ms
unfolding with_pieces with_piece taken_with so_far
after-calls netlist N e class known [] zero ws work m p = record { state = refl; memory = m; taken = λ k. refl; by_records = tt }
after-calls netlist N e class known [] (suc n) ws work m p = record { state = refl; memory = m; taken = λ k. refl; by_records = tt }
after-calls netlist N e class known (c ∷ cs) zero ws work m p =
    let t = p.1 in
    let own = with-work N ws work c.work m p.0 in
    let s = state-then netlist N e class known c.bytes ws c.left c.work c.work_left own c.answer t in
    let then = memory-then netlist N e class known c.bytes ws c.left c.work c.work_left own c.answer t in
    let i = after-calls netlist N e class known cs (first_of c.answer) c.left work (with-work N c.left c.work_left work then m.work_length) p.2 in
    record {
      state = i.state ∙ ap (with_pieces N (class_of class) (call_bytes cs)) s;
      memory = i.memory;
      taken = λ k. i.taken (k + taken_in_of c.answer)
          ∙ ap₂ (λ x j. taken_withs N (class_of class) (call_bytes cs) x (k + j)) s (taken_then netlist N e class known c.bytes ws c.left c.work c.work_left own c.answer t);
      by_records = (not_before_lem netlist N e class known c.bytes ws c.left c.work c.work_left own c.answer t, i.by_records);
    }
after-calls netlist N e class known (c ∷ cs) (suc n) ws work m p =
    let m' = subst (λ (s : List ℕ). MemoryReady N s work) (sym p.0) m in
    let i = after-calls netlist N e class known cs (suc n) c.left work m' p.1 in
    record {
      state = i.state ∙ ap (with_pieces N (class_of class) (call_bytes cs)) (kept-state N (class_of class) n c.bytes ws c.left);
      memory = i.memory;
      taken = λ k. i.taken k
          ∙ ap₂ (λ x j. taken_withs N (class_of class) (call_bytes cs) x j) (kept-state N (class_of class) n c.bytes ws c.left) (kept-taken N (class_of class) n c.bytes ws k);
      by_records = i.by_records;
    }

-- a store that no rule refuses is taken as it is
checked_state : (b : Bool) (paths first : ℕ) (ws : List ℕ) → checks (store_rules paths ws) ≡ value tt
    → (elim b [ true ↦ value ws | false ↦ refused first ] into λ left. store_checked paths left) ≡ elim b [ true ↦ value ws | false ↦ refused first ]
checked_state true paths first ws s = rw s refl
checked_state false paths first ws s = refl

-- The end of such calls
module _ (netlist : List ℕ) (N : Netlist) (e : read_netlist netlist ≡ value N) (total first : ℕ) (report ws work : List ℕ) (m : MemoryReady N ws work) where
  pub end_is : end_call netlist total first report ws ≡ end_of N total report (so_far first ws)
  unfolding end_call end_stage end_legal_of so_far
  end_is =
      let l : checks (store_rule ws ∷ []) ≡ value tt = rw (eq-eqb (length ws) store_words_count m.store_length) refl in
      rw (l, e) (ap (λ (x : Answer (List ℕ)). end_of N total report x) (checked_state (eqb first 0) (path_total N) first ws m.sound))

  pub end-left-is : end_store netlist total first report ws ≡ left_store (end_of N total report (so_far first ws))
  unfolding end_store
  end-left-is =
      let l : checks (store_rule ws ∷ []) ≡ value tt = rw (eq-eqb (length ws) store_words_count m.store_length) refl in
      rw l (ap left_store end_is)

-- The pieces that were made
module _ (netlist : List ℕ) (class : ℕ) (ms : List MadeCall) (ws work : List ℕ) (p : PiecesMade netlist class ms ws work) where
  lent-then : lent_rules ws work ≡ value tt
  lent-then = begun-lent netlist class ws p.emptied work p.begins.answer

  empty-then : p.emptied ≡ empty_store
  empty-then = begun-empty netlist class ws p.emptied work p.begins.answer p.begins.store

  before-then : before_test netlist class ws work ≡ value p.circuit
  before-then = begun-before netlist class ws p.emptied work p.begins.answer p.circuit p.legal

  known-then : within 1 2 class ≡ true
  known-then = begun-known netlist class ws p.emptied work p.begins.answer

  done : AfterCalls p.circuit (class_of class) 0 p.emptied work ms
  done = after-calls netlist p.circuit p.legal class known-then ms 0 p.emptied work
      (begun-memory netlist class ws p.emptied work p.begins.answer p.circuit p.begins.store) p.takes

  pub never-for_store : OnlyByRecords 0 ms
  never-for_store = done.by_records

  pub call-places : last_taken_of 0 0 ms ≡ taken_of p.circuit (class_of class) (file_records p.circuit (joined (call_bytes ms))) empty_store
  unfolding so_far
  call-places =
      done.taken 0
      ∙ ap (λ (s : List ℕ). taken_withs p.circuit (class_of class) (call_bytes ms) (value s) 0) empty-then
      ∙ taken-whole p.circuit (class_of class) (call_bytes ms) p.whole empty_store

  state-last : so_far (last_first 0 ms) (last_store p.emptied ms) ≡ with_piece p.circuit (class_of class) (joined (call_bytes ms)) (value empty_store)
  unfolding so_far
  state-last =
      done.state
      ∙ pieces-joined p.circuit (class_of class) (call_bytes ms) p.whole (value p.emptied)
      ∙ ap (λ (s : List ℕ). with_piece p.circuit (class_of class) (joined (call_bytes ms)) (value s)) empty-then

  -- and the end
  module _ (report ws' : List ℕ) (r : Result (Unit {0}) ℕ)
      (t : EndTrue r netlist (length (joined (call_bytes ms))) (last_first 0 ms) report (last_store p.emptied ms) ws') where
    pub calls-made : WholeAudit r netlist class (joined (call_bytes ms)) report ws ws' work
    unfolding end_answer
    calls-made =
        let N : Netlist = p.circuit in
        let test_file : List ℕ = joined (call_bytes ms) in
        let total : ℕ = length test_file in
        let left : List ℕ = last_store p.emptied ms in
        let is = end_is netlist N p.legal total (last_first 0 ms) report left work done.memory in
        let left_is = end-left-is netlist N p.legal total (last_first 0 ms) report left work done.memory in
        record {
          answer = t.answer ∙ ap (λ (x : Answer (List ℕ)). passes x) (is ∙ ap (λ (x : Answer (List ℕ)). end_of N total report x) state-last)
              ∙ end-answer netlist class test_file report ws work N lent-then before-then;
          store = t.store ∙ left_is ∙ ap (λ (x : Answer (List ℕ)). left_store (end_of N total report x)) state-last
              ∙ end-store netlist class test_file report ws work N lent-then before-then;
        }
