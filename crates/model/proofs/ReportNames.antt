-- What a report names, read from its bytes: of a store's report exactly the numbers that the store holds.
-- The idea: no number in a store's report is too large for its field, so that each field reads back what was written.
use Rattle.model.proofs.Prelude.{ℕ, ◌≤◌, ◌<◌, ◌+◌, ◌*◌, ◌^◌, ◌≡◌, ◌∙◌, ap, refl, sym, subst, ap₂, List, [], ◌∷◌, ◌++◌, append-nil, length}
use Rattle.model.proofs.Prelude.{drop, drop-drop, drop_at, arith}
use Rattle.model.specs.Base.{little_endian, from_little_endian, field}
use Rattle.model.specs.Netlist.{Netlist, path_total, max_count}
use Rattle.model.specs.Path.{Edge, rising, falling}
use Rattle.model.specs.Detect.{Test}
use Rattle.model.specs.Runs.{Run, Separated}
use Rattle.model.specs.Store.{ByEdge, of_edge, max_runs}
use Rattle.model.specs.Report.{run_bytes, report_head, report_record, runs_in, named_runs}
use Rattle.model.specs.Demand3.{RunsOfDetected}
use Rattle.model.proofs.RunLaws.{separated→}
use Rattle.model.proofs.ReportLaws.{length-run_bytes, little_endian-back, count-field}

runs-back : (paths : ℕ) → paths < 256 ^ 8 → (rs : List Run) (least : ℕ) → Separated paths least rs → (post : List ℕ)
    → runs_in (run_bytes rs ++ post) (length rs) ≡ rs
unfolding runs_in
runs-back paths h [] least a post = refl
runs-back paths h (r ∷ rs) least a post =
    let l : from_little_endian (little_endian 8 r.low) ≡ r.low = little_endian-back 8 r.low (omega arith) in
    let g : from_little_endian (little_endian 8 r.high) ≡ r.high = little_endian-back 8 r.high (omega arith) in
    ap₂ {C = List Run} (λ x xs. x ∷ xs) (λ i. record { low = l i; high = g i }) (runs-back paths h rs (r.high + 2) a.3 post)

module _ (n paths : ℕ) (s : ByEdge (List Run)) (fits : (d : Edge) → length (of_edge s d) ≤ max_runs) where
  -- The fields of the record
  pub field-tests : n < 256 ^ 4 → field 2 4 (report_record n paths s) ≡ n
  field-tests h = (count-field n paths s).0 h

  pub field-paths : paths ≤ max_count → field 6 8 (report_record n paths s) ≡ paths
  unfolding report_record report_head
  field-paths h = little_endian-back 8 paths (omega arith)

  pub field-rising : field 14 2 (report_record n paths s) ≡ length s.on_rising
  unfolding report_record report_head
  field-rising = little_endian-back 2 (length s.on_rising) (omega (arith, fits rising))

  pub field-falling : field 16 2 (report_record n paths s) ≡ length s.on_falling
  unfolding report_record report_head
  field-falling = little_endian-back 2 (length s.on_falling) (omega (arith, fits falling))

  after-head : drop 34 (report_record n paths s) ≡ run_bytes s.on_rising ++ run_bytes s.on_falling
  unfolding report_record report_head
  after-head = refl

  -- The runs that the record names are those that it was made of
  module _ (a : (d : Edge) → Separated paths 1 (of_edge s d)) (h : paths ≤ max_count) where
    pub named_back : (d : Edge) → named_runs (report_record n paths s) d ≡ of_edge s d
    unfolding named_runs
    named_back rising =
        ap₂ runs_in after-head field-rising ∙ runs-back paths (omega arith) s.on_rising 1 (a rising) (run_bytes s.on_falling)
    named_back falling =
        let p : drop (34 + 16 * length s.on_rising) (report_record n paths s) ≡ run_bytes s.on_falling ++ [] =
        sym (drop-drop (16 * length s.on_rising) 34 (report_record n paths s))
        ∙ ap (drop (16 * length s.on_rising)) after-head
        ∙ drop_at (run_bytes s.on_rising) (run_bytes s.on_falling) (16 * length s.on_rising) (length-run_bytes s.on_rising)
        ∙ sym (append-nil (run_bytes s.on_falling)) in
        ap₂ (λ k m. runs_in (drop (34 + 16 * k) (report_record n paths s)) m) field-rising field-falling
        ∙ ap (λ bs. runs_in bs (length s.on_falling)) p
        ∙ runs-back paths (omega arith) s.on_falling 1 (a falling) []

-- A report of runs that hold exactly the detected numbers names exactly the faults that the tests detect
module _ (N : Netlist) (h : path_total N ≤ max_count) (ts : List Test) (s : ByEdge (List Run)) (a : (d : Edge) → RunsOfDetected N ts d (of_edge s d))
    (fits : (d : Edge) → length (of_edge s d) ≤ max_runs) where
  pub names-exactly : (n : ℕ) (d : Edge) → RunsOfDetected N ts d (named_runs (report_record n (path_total N) s) d)
  names-exactly n d =
      subst (λ rs. RunsOfDetected N ts d rs)
      (sym (named_back n (path_total N) s fits (λ g. separated→ (path_total N) 1 (of_edge s g) (a g).runs) h d))
      (a d)
