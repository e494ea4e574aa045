-- Both edges of a store as the code goes through them: what each step is handed, and what it made of a store's runs.
use Rattle.model.proofs.Prelude.{ℕ, ◌≤◌, ◌+◌, ◌*◌, ◌^◌, ◌/◌, ◌≡◌, ◌∙◌, ap, sym, subst, List, length, arith}
use Rattle.model.specs.Base.{value}
use Rattle.model.specs.Netlist.{Netlist, path_total}
use Rattle.model.specs.Path.{Edge}
use Rattle.model.specs.Read.{read_netlist}
use Rattle.model.specs.Runs.{Run}
use Rattle.model.specs.Store.{max_runs, run_count, store_runs}
use Rattle.model.proofs.AnswerLaws.{value_inj}
use Rattle.model.proofs.ReadLaws.{legal, limits}
use Rattle.netlist.specs.Tables.{CircuitTables}
use Rattle.netlist.specs.declared.inner.Shape.{Shape}
use Rattle.run_lists.specs.RunLists.{Sound, runs_in_words}
use Rattle.run_lists.proofs.MemberLaws.{sound-mono}
use Rattle.store_words.specs.Sound.{FewRuns, SoundWords, edge_words}
use Rattle.store_words.proofs.RunPlaceLaws.{edge-words-runs, edge-words-fit}
use Rattle.store_words.proofs.SoundLaws.{sound-words, edge-sound, edge_few}
use Rattle.detection.specs.Cases.{Case}
use Rattle.detection.specs.Walks.{Detects}
use Rattle.store_coverage.specs.Covers.{held_runs, JoinReady, Covers}
use Rattle.store_coverage.specs.Stage.{MemoryReady, StageReady}
use Rattle.store_coverage.specs.declared.inner.edges.Over.{Over}
use Rattle.store_writing.specs.declared.inner.Change.{Change}
use Rattle.store_coverage.proofs.CoverLaws.{found-few, found-sound}
use Rattle.std.specs.Prelude.{Option, Result}

-- a netlist is what its bytes are
pub same_memory : {file ps cs : List ℕ} {shape : Shape} {ws work : List ℕ} → StageReady file ps cs shape ws work → {N : Netlist}
    → CircuitTables N file ps cs shape → MemoryReady N ws work
same_memory {ws = ws} {work = work} h c = subst (λ M. MemoryReady M ws work) (value_inj (sym h.tables.legal ∙ c.legal)) h.memory

pub few-paths : {N : Netlist} {file ps cs : List ℕ} {shape : Shape} → CircuitTables N file ps cs shape → path_total N ≤ 2 ^ 62
few-paths {N = N} {file = file} c = (limits file N c.legal).total_fits

-- the runs of an edge of a sound store
pub memory-sound : {N : Netlist} {ws work : List ℕ} → MemoryReady N ws work → SoundWords (path_total N) ws
memory-sound {N = N} {ws = ws} m = sound-words (path_total N) ws m.store_length (sym m.sound)

module _ {ws held : List ℕ} (e : Edge) (f : FewRuns ws) (is : held ≡ edge_words ws e) where
  pub held-half : length held / 2 ≡ run_count ws e
  held-half =
      let l : length held ≡ 2 * run_count ws e = ap (λ (x : List ℕ). length x) is ∙ edge-words-fit ws e f in
      omega arith

  pub held-are : held_runs held ≡ store_runs ws e
  held-are = ap (λ (k : ℕ). runs_in_words held 0 k) held-half ∙ ap (λ (x : List ℕ). runs_in_words x 0 (run_count ws e)) is ∙ edge-words-runs ws e

pub memory-few : {N : Netlist} {ws work : List ℕ} → MemoryReady N ws work → FewRuns ws
memory-few m = (memory-sound m).few

-- One edge of a sound store, from the detected runs of a case of its netlist
module _ {K : Case} {work₁ work₂ : List ℕ} {q : (Option ℕ)} (d : Detects K work₁ work₂ q) {ws work : List ℕ} (m : MemoryReady K.netlist ws work)
    (e : Edge) {held : List ℕ} (is : held ≡ edge_words ws e) {target : ℕ} where
  -- what joining is handed
  pub ready-to-join : (file : List ℕ) → read_netlist file ≡ value K.netlist → length work₂ ≡ length work → 2 * max_runs ≤ target → target + max_runs ≤ 4 * max_runs
      → JoinReady q held work₂ target
  ready-to-join file l same low high =
      let few : length held / 2 ≡ run_count ws e = held-half e (memory-few m) is in
      let paths = (limits file K.netlist l).total_fits in
      record {
        few_found = λ n c. found-few d c (legal file K.netlist l);
        sound_found = λ n c. found-sound d c paths;
        few_held = omega (arith, edge_few (memory-few m) e);
        sound_held = subst (Sound (2 ^ 62)) (sym (held-are e (memory-few m) is))
            (sound-mono 1 (path_total K.netlist) (2 ^ 62) (store_runs ws e) paths (edge-sound (memory-sound m) e));
        high = low;
        room = omega (arith, m.work_length);
      }

  pub edge-covered : {work₃ : List ℕ} {a : Result Change Over}
      → ((K : Case) (w : List ℕ) → Detects K w work₂ q → Sound (path_total K.netlist) (held_runs held) → Covers K (held_runs held) w work₃ target a)
      → Covers K (store_runs ws e) work₁ work₃ target a
  edge-covered {work₃ = work₃} {a = a} joins =
      let runs = held-are e (memory-few m) is in
      subst (λ (x : List Run). Covers K x work₁ work₃ target a) runs
      (joins K work₁ d (subst (Sound (path_total K.netlist)) (sym runs) (edge-sound (memory-sound m) e)))
