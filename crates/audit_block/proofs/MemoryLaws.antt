-- The netlist of a file, and the lent memory between test calls: an empty store passes its rules, and so does what test calls leave of a store that passes.
use Rattle.model.proofs.Prelude.{ℕ, ◌≤◌, ◌^◌, ◌≡◌, ◌∙◌, ap, refl, sym, subst, List, [], length, replicate, arith}
use Rattle.model.specs.Base.{Answer, refused, value}
use Rattle.model.specs.Netlist.{Netlist, path_total}
use Rattle.model.specs.Detect.{Class, nonRobust}
use Rattle.model.specs.Read.{read_netlist}
use Rattle.model.specs.Runs.{in_runs}
use Rattle.model.specs.Store.{store_words_count, empty_store, store_runs, store_rules}
use Rattle.model.specs.Calls.{work_words_count}
use Rattle.model.specs.Report.{test_all}
use Rattle.model.proofs.AnswerLaws.{AllPass, value_inj, checks→, →checks}
use Rattle.model.proofs.ReadLaws.{limits}
use Rattle.model.proofs.HoldingLaws.{holding-own, holding-length, holding-passes}
use Rattle.model.proofs.FileLaws.{all-holding, left-length, left-passes}
use Rattle.store_words.specs.Sound.{SoundWords}
use Rattle.store_words.proofs.SoundLaws.{sound-words, sound_more}
use Rattle.store_coverage.specs.Stage.{MemoryReady}
use Rattle.audit_block.specs.RecordsTaken.{left_store}

-- what is claimed of the netlist that the file holds
pub of_netlist_lem : (netlist : List ℕ) {C : Netlist} → read_netlist netlist ≡ value C
    → (P : Netlist → Type 0) → P C → (N : Netlist) → read_netlist netlist ≡ value N → P N
of_netlist_lem netlist legal P p N e = subst P (value_inj (sym legal ∙ e)) p

-- all words zero, of a store's length
pub emptied : (ws : List ℕ) (k : ℕ) → ws ≡ replicate k 0 → k ≡ store_words_count → ws ≡ empty_store
emptied ws k e l = e ∙ ap (λ (j : ℕ). replicate j 0) l

pub empty-memory : (N : Netlist) (work : List ℕ) → work_words_count ≤ length work → MemoryReady N empty_store work
unfolding test_all
empty-memory N work h = record {
  store_length = left-length N nonRobust [] empty_store refl;
  sound = →checks (store_rules (path_total N) empty_store) (left-passes N nonRobust [] empty_store refl);
  work_length = h;
}

module _ (N : Netlist) (c : Class) (ws work work' : List ℕ) (m : MemoryReady N ws work) (l : length work' ≡ length work) (recs : List (List ℕ)) where
  pub all-memory : (left : List ℕ) → test_all N c recs ws ≡ value left → MemoryReady N left work'
  all-memory left q =
      let p : AllPass (store_rules (path_total N) ws) = checks→ (store_rules (path_total N) ws) (record { got = tt; is = m.sound }) in
      let h = all-holding N c recs ws (λ e. in_runs (store_runs ws e)) left (holding-own N ws m.store_length p) q in
      record {
        store_length = holding-length N left _ h;
        sound = →checks (store_rules (path_total N) left) (holding-passes N left _ h);
        work_length = omega (arith, l, m.work_length);
      }

  memory-after : (x : Answer (List ℕ)) → test_all N c recs ws ≡ x → MemoryReady N (left_store x) work'
  unfolding left_store
  memory-after (refused n) q = empty-memory N work' (omega (arith, l, m.work_length))
  memory-after (value left) q = all-memory left q

  -- whatever they answer
  pub left-memory : MemoryReady N (left_store (test_all N c recs ws)) work'
  left-memory = memory-after (test_all N c recs ws) refl

-- such a store has runs of path numbers up to 2^62
pub memory-sound : (netlist : List ℕ) (N : Netlist) → read_netlist netlist ≡ value N → (ws work : List ℕ) → MemoryReady N ws work → SoundWords (2 ^ 62) ws
memory-sound netlist N legal ws work m =
    sound_more (path_total N) (2 ^ 62) ws (omega (arith, (limits netlist N legal).total_fits)) (sound-words (path_total N) ws m.store_length (sym m.sound))
