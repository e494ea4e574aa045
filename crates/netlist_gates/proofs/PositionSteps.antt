-- The positions of the gates' records, one at a time.
use Rattle.model.proofs.Prelude.{ℕ, ◌≤◌, ◌<◌, ◌+◌, ◌-◌, suc, zero, ◌≡◌, ◌∙◌, ap, refl, sym, List, [], ◌∷◌, ◌++◌, append_assoc, append-nil, length}
use Rattle.model.proofs.Prelude.{length-append, set, replicate, length-replicate, sub-one, arith}
use lib.ListN.{replicate-append-replicate}
use Rattle.model.specs.Calls.{padded}
use Rattle.netlist_gates.specs.GateReading.{size_at, starts, zeros}
use Rattle.netlist_gates.proofs.PaddedLaws.{pad_set}

-- the positions found so far, with those that are left
pub record PositionsLeft (left net at : ℕ) (array s whole : List ℕ) : Type 0 where
  pub done : List ℕ
  pub nets : length done ≡ net
  pub array_is : array ≡ padded done
  pub rest-is : done ++ starts left at s ≡ whole

pub positions-start : (gates inputs : ℕ) (array s : List ℕ) → inputs + gates ≤ 512 → array ≡ zeros
    → PositionsLeft gates inputs 8 array s (replicate inputs 0 ++ starts gates 8 s)
unfolding padded zeros
positions-start gates inputs array s h e =
    let z : inputs + (512 - inputs) ≡ 512 = omega arith in
    record {
      done = replicate inputs 0;
      nets = length-replicate inputs 0;
      array_is = e ∙ ap (λ n. replicate n 0) (sym z) ∙ sym (replicate-append-replicate {A = ℕ} inputs (512 - inputs) 0)
          ∙ ap (λ n. replicate inputs 0 ++ replicate (512 - n) 0) (sym (length-replicate {A = ℕ} inputs 0));
      rest-is = refl;
    }

pub positions-end : (left net at : ℕ) (array s whole : List ℕ) → left ≤ 0 → PositionsLeft left net at array s whole → array ≡ padded whole
unfolding starts
positions-end zero net at array s whole h l = l.array_is ∙ ap padded (sym (append-nil l.done) ∙ l.rest-is)
positions-end (suc left) net at array s whole h l = absurd (omega arith)

starts-step : (left at : ℕ) (s : List ℕ) → 0 < left → starts left at s ≡ at ∷ starts (left - 1) (at + size_at s at) s
unfolding starts
starts-step zero at s h = absurd (omega arith)
starts-step (suc left) at s h = rw (sub-one (suc left)) refl

pub positions-again : (left net at size : ℕ) (array s whole : List ℕ) → 0 < left → net + left ≤ 512 → size_at s at ≡ size
    → PositionsLeft left net at array s whole → PositionsLeft (left - 1) (net + 1) (at + size) (set array net at) s whole
positions-again left net at size array s whole more b e l = record {
  done = l.done ++ (at ∷ []);
  nets = simp length-append (omega (arith, l.nets));
  array_is = rw l.array_is (pad_set l.done net at l.nets (omega arith));
  rest-is = append_assoc l.done (at ∷ []) (starts (left - 1) (at + size) s)
      ∙ ap (λ (x : List ℕ). l.done ++ x) (ap (λ k. at ∷ starts (left - 1) (at + k) s) (sym e) ∙ sym (starts-step left at s more)) ∙ l.rest-is;
}
