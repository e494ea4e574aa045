-- The outputs read with the counts in an array of 512 are those read with the counts alone.
use Rattle.model.proofs.Prelude.{ℕ, ◌<◌, suc, zero, ◌≡◌, refl, ap₂, true, Bool, false, List, [], ◌∷◌, map, length, leb, T, ltb, ltb→lt, ltb-true}
use Rattle.model.specs.Base.{Answer, refused, value, checks, all_of, field}
use Rattle.model.specs.Netlist.{output_count}
use Rattle.model.specs.Read.{output_rules, read_outputs_of}
use Rattle.model.specs.Calls.{padded}
use Rattle.model.proofs.AnswerLaws.{checks→}
use Rattle.model.proofs.BoolLaws.{and_left, T→true}
use Rattle.model.proofs.ListLaws.{all_of_head, all_of_tail}
use Rattle.model.proofs.NetLaws.{output-count-same}
use Rattle.netlist_gates.proofs.PaddedLaws.{pad_get_d}

-- the paths that end at outputs
pub pad_count : (inputs : ℕ) (cs : List ℕ) (net : ℕ) → net < length cs → output_count inputs (padded cs) net ≡ output_count inputs cs net
pad_count inputs cs net h = output-count-same (padded cs) cs net refl (pad_get_d cs net h)

pub pad_counts : (inputs : ℕ) (cs us : List ℕ) → T (all_of (λ p. ltb p (length cs)) us)
    → map (output_count inputs (padded cs)) us ≡ map (output_count inputs cs) us
pad_counts inputs cs [] h = refl
pad_counts inputs cs (u ∷ us) h =
    let below : ℕ → Bool = λ q. ltb q (length cs) in
    ap₂ (λ x xs. x ∷ xs) (pad_count inputs cs u (ltb→lt u (length cs) (all_of_head below u us h))) (pad_counts inputs cs us (all_of_tail below u us h))

-- the readings
output-pad : (inputs : ℕ) (cs s : List ℕ) → ltb (field 2 2 s) (length cs) ≡ true
    → output_count inputs (padded cs) (field 2 2 s) ≡ output_count inputs cs (field 2 2 s)
output-pad inputs cs s e = pad_count inputs cs (field 2 2 s) (ltb-true (field 2 2 s) (length cs) e)

rules-pad : (inputs : ℕ) (cs s : List ℕ) (low total : ℕ)
    → checks (output_rules inputs (length cs) (padded cs) low total s) ≡ checks (output_rules inputs (length cs) cs low total s)
rules-pad inputs cs s low total = go (ltb (field 2 2 s) (length cs)) refl
  where
    go : (b : Bool) → ltb (field 2 2 s) (length cs) ≡ b
        → checks (output_rules inputs (length cs) (padded cs) low total s) ≡ checks (output_rules inputs (length cs) cs low total s)
    go true e = simp (output-pad inputs cs s e)
    go false e = simp e

pub outputs-pad : (left inputs : ℕ) (cs : List ℕ) (low total : ℕ) (s : List ℕ)
    → read_outputs_of left inputs (length cs) (padded cs) low total s ≡ read_outputs_of left inputs (length cs) cs low total s
unfolding read_outputs_of
outputs-pad zero inputs cs low total s = refl
outputs-pad (suc left) inputs cs low total s = go (checks (output_rules inputs (length cs) cs low total s)) refl (outputs-pad left inputs cs)
  where
    go : (c : Answer (Unit {0})) → checks (output_rules inputs (length cs) cs low total s) ≡ c
        → ((low total : ℕ) (s : List ℕ) → read_outputs_of left inputs (length cs) (padded cs) low total s ≡ read_outputs_of left inputs (length cs) cs low total s)
        → read_outputs_of (suc left) inputs (length cs) (padded cs) low total s ≡ read_outputs_of (suc left) inputs (length cs) cs low total s
    go (refused n) e ih = rw (rules-pad inputs cs s low total, e) refl
    go (value u) e ih =
        let a = checks→ (output_rules inputs (length cs) cs low total s) (record { got = u; is = e }) in
        let l = T→true (ltb (field 2 2 s) (length cs)) (and_left (ltb (field 2 2 s) (length cs)) (leb low (field 2 2 s)) a.1.0) in
        rw (rules-pad inputs cs s low total, e, output-pad inputs cs s l, ih) refl
