-- A test's case: the sets of its nets, its detected path numbers and its working runs are the model's.
use Rattle.model.proofs.Prelude.{ℕ, ◌≡◌, refl, get_or}
use Rattle.model.specs.Netlist.{Netlist, counts, path_total}
use Rattle.model.specs.Path.{Edge}
use Rattle.model.specs.Detect.{Test, detects, in_net_set, detects_number}
use Rattle.model.specs.Runs.{runs_among, working_runs}
use Rattle.detection.specs.Cases.{case_of, in_set, detects_path, set_runs_of, detected, working}

module _ (N : Netlist) (t : Test) (e : Edge) where
  pub case-set : (net k : ℕ) → in_set (case_of N t e) net k ≡ in_net_set N t e net k
  unfolding in_set in_net_set
  case-set net k = refl

  pub case-number : (k : ℕ) → detects_path (case_of N t e) k ≡ detects_number N t e k
  unfolding detects_path detects_number detects
  case-number k = refl

  pub case-runs : (net : ℕ) → set_runs_of (case_of N t e) net ≡ runs_among (in_net_set N t e net) (get_or (counts N) net 0)
  unfolding set_runs_of in_set in_net_set
  case-runs net = refl

  pub case-detected : detected (case_of N t e) ≡ runs_among (detects_number N t e) (path_total N)
  unfolding detected detects_path detects_number detects
  case-detected = refl

  pub case-working : working (case_of N t e) ≡ working_runs N t e
  unfolding working set_runs_of in_set in_net_set working_runs
  case-working = refl
