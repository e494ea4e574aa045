-- What a survey and the tables by value say to the crates that ask for them, by their answer.
use Rattle.model.proofs.Prelude.{ℕ, ◌≤◌, ◌^◌, ◌≡◌, ap, refl, sym, subst, List, length, arith}
use Rattle.model.specs.Base.{Answer, refused, value, ◌into◌}
use Rattle.model.specs.Netlist.{Netlist, counts, path_total}
use Rattle.model.specs.Read.{read_netlist}
use Rattle.model.specs.Refusals.{refusal_number_of}
use Rattle.model.specs.Calls.{padded, Survey, survey_call, survey_of}
use Rattle.model.specs.declared.Refusal.{Refusal}
use Rattle.model.proofs.AnswerLaws.{not_refused, value_inj}
use Rattle.model.proofs.ReadLaws.{limits}
use Rattle.netlist.specs.Answers.{survey_in, surveyed_of, LegalLoad, LoadedTrue}
use Rattle.netlist.specs.declared.NetlistSurvey.{NetlistSurvey}
use Rattle.netlist.specs.declared.inner.Loaded.{Loaded}
use Rattle.std.specs.Prelude.{Result, Ok, Err}

-- A survey that is legal: the netlist, and its numbers
pub record LegalSurvey (file : List ℕ) (d : NetlistSurvey) : Type 0 where
  pub netlist : Netlist
  pub is_read : read_netlist file ≡ value netlist
  pub inputs_are : d.inputs ≡ netlist.inputs
  pub gates_are : d.gates ≡ length netlist.gates
  pub outputs_are : d.outputs ≡ length netlist.outputs
  pub counts_are : d.counts ≡ padded (counts netlist)
  pub total_is : d.total ≡ path_total netlist

module _ (file : List ℕ) (x : Result NetlistSurvey Refusal) (ax : surveyed_of x ≡ survey_call file) where
  pub legal-survey : (d : NetlistSurvey) → x ≡ Ok d → LegalSurvey file d
  unfolding survey_call survey_of
  legal-survey d l = go (read_netlist file) refl (rw l at ax)
    where
      go : (y : Answer Netlist) → read_netlist file ≡ y → value (survey_in d) ≡ (y into λ N. value (survey_of N)) → LegalSurvey file d
      go (refused n) e a = absurd (not_refused (sym a))
      go (value N) e a =
          let b : survey_in d ≡ survey_of N = value_inj a in
          record {
            netlist = N;
            is_read = e;
            inputs_are = ap (λ (z : Survey). z.inputs) b;
            gates_are = ap (λ (z : Survey). z.gates) b;
            outputs_are = ap (λ (z : Survey). z.outputs) b;
            counts_are = ap (λ (z : Survey). z.net_counts) b;
            total_is = ap (λ (z : Survey). z.paths) b;
          }

  -- a legal netlist has at most 2^62 paths
  pub paths-fit : (d : NetlistSurvey) → x ≡ Ok d → d.total ≤ 2 ^ 62
  paths-fit d e = let s = legal-survey d e in omega (arith, s.total_is, (limits file s.netlist s.is_read).total_fits)

  pub refused-survey : (w : Refusal) → x ≡ Err w → read_netlist file ≡ refused (refusal_number_of w)
  unfolding survey_call
  refused-survey w l = go (read_netlist file) (rw l at ax)
    where
      go : (y : Answer Netlist) → refused (refusal_number_of w) ≡ (y into λ N. value (survey_of N)) → y ≡ refused (refusal_number_of w)
      go (refused n) a = let z : n ≡ refusal_number_of w = cc in ap (λ m. refused m) z
      go (value N) a = absurd (not_refused a)

-- The tables by value, by the answer
module _ (r : Result Loaded Refusal) (file : List ℕ) (t : LoadedTrue r file) where
  pub loaded_legal : (d : Loaded) → r ≡ Ok d → LegalLoad file d.counts d.positions d.shape d.total
  loaded_legal d l = subst (λ (x : Result Loaded Refusal). LoadedTrue x file) l t

  pub loaded_refused : (w : Refusal) → r ≡ Err w → read_netlist file ≡ refused (refusal_number_of w)
  loaded_refused w l = subst (λ (x : Result Loaded Refusal). LoadedTrue x file) l t
