-- The working runs: those of the inputs, one for each that makes the edge, are at most 64 and are counted only where that decides.
use Rattle.model.proofs.Prelude.{ℕ, ◌≤◌, ◌<◌, ◌+◌, ◌-◌, suc, ◌^◌, zero, ◌/◌, ◌≡◌, ◌∙◌, ap, refl, sym, true, Bool, false, not, [], ◌∷◌, length, leb}
use Rattle.model.proofs.Prelude.{ltb, add-zero, arith, rules, le-leb, lt-leb, lt-ltb, le-ltb}
use lib.Bits.{bit_and}
use mir.Val.{Fits}
use mir.Syntax.{w64}
use Rattle.model.specs.Base.{bit}
use Rattle.model.specs.Store.{max_runs}
use Rattle.model.proofs.BoolLaws.{cases}
use Rattle.model.specs.Runs.{run}
use Rattle.gate_packed_pins.specs.Packed.{one_where_of}
use Rattle.run_lists.specs.RunLists.{only_if}
use Rattle.detection.specs.Walks.{input_runs_of, runs_before}
use Rattle.detection.proofs.KeptLaws.{runs-next}
use Rattle.block_words.proofs.PackCases.{bit-number, bit-small}

many-only : (b : Bool) → length (only_if b (run 1 1 ∷ [])) ≡ one_where_of b
many-only true = refl
many-only false = refl

-- an input's digit is how many runs it has
digit-runs : (edges input : ℕ) → bit_and (edges / 2 ^ input) 1 ≡ length (input_runs_of edges input)
unfolding input_runs_of
digit-runs edges input = bit-number edges input ∙ add-zero (one_where_of (bit edges input)) ∙ sym (many-only (bit edges input))

few-runs : (edges n : ℕ) → runs_before (input_runs_of edges) n ≤ n
few-runs edges zero = omega arith
few-runs edges (suc n) = omega (arith, few-runs edges n, digit-runs edges n, bit-small edges n)

module _ (total edges inputs : ℕ) where
  pub few-working : inputs ≤ 64 → total ≤ max_runs - 64 → false ≡ not (leb (runs_before (input_runs_of edges) inputs + total) max_runs)
  few-working h l = sym (ap not (le-leb (runs_before (input_runs_of edges) inputs + total) max_runs (omega (arith, few-runs edges inputs))))

  pub many-working : max_runs < total → true ≡ not (leb (runs_before (input_runs_of edges) inputs + total) max_runs)
  many-working l = sym (ap not (lt-leb (runs_before (input_runs_of edges) inputs + total) max_runs (omega arith)))

-- the sum is `total` and the runs of the inputs so far
pub record InputsSummed (total edges inputs input sum : ℕ) : Type 0 where
  pub few : inputs ≤ 64
  pub used : total ≤ max_runs
  pub within : input ≤ inputs
  pub summed : sum ≡ runs_before (input_runs_of edges) input + total

pub sum-start : (total edges inputs : ℕ) → inputs ≤ 64 → total ≤ max_runs → InputsSummed total edges inputs 0 total
sum-start total edges inputs h l = record { few = h; used = l; within = omega arith; summed = omega arith }

module _ {total edges inputs input sum : ℕ} (x : InputsSummed total edges inputs input sum) where
  pub sum-place : input < inputs → input < 64
  sum-place h = omega (arith, x.few)

  pub sum_fits : input < inputs → Fits w64 (sum + bit_and (edges / 2 ^ input) 1)
  sum_fits h = record { fits = omega (arith, x.summed, x.used, x.few, few-runs edges input, bit-small edges input) }

  pub sum_more : input < inputs → InputsSummed total edges inputs (input + 1) (sum + bit_and (edges / 2 ^ input) 1)
  sum_more h = record {
    few = x.few;
    used = x.used;
    within = omega arith;
    summed = omega (arith, x.summed, runs-next (input_runs_of edges) input, digit-runs edges input);
  }

  pub sum-end : inputs ≤ input → ltb 1024 sum ≡ not (leb (runs_before (input_runs_of edges) inputs + total) max_runs)
  sum-end h =
      let e : input ≡ inputs = omega (arith, x.within) in
      let s : sum ≡ runs_before (input_runs_of edges) inputs + total = x.summed ∙ ap (λ n. runs_before (input_runs_of edges) n + total) e in
      cases (runs_before (input_runs_of edges) inputs + total) max_runs
      (λ l. le-ltb 1024 sum (omega arith) ∙ sym (ap not (le-leb (runs_before (input_runs_of edges) inputs + total) max_runs l)))
      (λ l. lt-ltb 1024 sum (omega arith) ∙ sym (ap not (lt-leb (runs_before (input_runs_of edges) inputs + total) max_runs l)))

pub ruleset working-cases = (few-working, many-working, sum-start, sum-place, sum_fits, sum_more, sum-end, rules)
