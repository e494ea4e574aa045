-- A net's set by the model: the numbers of its partial paths through open pins.
use Rattle.model.proofs.Prelude.{ℕ, ◌≤◌, ◌<◌, ◌∙◌, ap, sym, subst, ◌↔◌, get_or, T, arith}
use Rattle.model.specs.Netlist.{Netlist, counts, nets}
use Rattle.model.specs.Path.{Edge, path_at}
use Rattle.model.specs.Detect.{Test, open_pin, has_edge, all_open, in_net_set}
use Rattle.model.specs.Numbering.{OpenPath}
use Rattle.model.proofs.WellFormed.{WellFormed}
use Rattle.model.proofs.NumberLaws.{number-back, path-back}

module _ (N : Netlist) (w : WellFormed N) where
  -- A number is in a net's set exactly when it is that of a partial path through open pins from an input that makes the edge
  pub set-means : (t : Test) (e : Edge) (net k : ℕ) → net < nets N → 1 ≤ k → k ≤ get_or (counts N) net 0
      → T (in_net_set N t e net k) ↔ OpenPath N t e net k
  unfolding in_net_set
  set-means t e net k l m h = (
    λ q. let b = number-back N w net net k (omega arith) l m h in
        record { pins = path_at N net net k; is_path = b.is_valid; number = b.same_number_of; opens = q },
    λ p. subst (λ ps. T (all_open N (open_pin N t) (has_edge t e) net ps))
        (sym (path-back N w p.pins net net (omega arith) l p.is_path) ∙ ap (path_at N net net) p.number) p.opens,
  )
