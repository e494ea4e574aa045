-- A report written from a store's words.
use Rattle.std.specs.Prelude.{◌≡◌, List, ℕ, length}
use Rattle.std.proofs.lemmas.List.Edits.{sets}
use Rattle.model.specs.Store.{runs_by_edge}
use Rattle.model.specs.Report.{report_record}

-- a store's report is written, and no byte past it; its length
pub record ReportPut (r testCount paths : ℕ) (ws buffer buffer' : List ℕ) : Type 0 where
  pub bytes : buffer' ≡ sets buffer 0 (report_record testCount paths (runs_by_edge ws))
  pub size : r ≡ length (report_record testCount paths (runs_by_edge ws))
