-- Counts in an array of 512: a store at the next net, and what is read of it.
use Rattle.model.proofs.Prelude.{ℕ, ◌<◌, ◌-◌, suc, ◌≡◌, ap, refl, ap₂, Bool, List, [], ◌∷◌, ◌++◌, append_assoc, length, get_or, length-append, set}
use Rattle.model.proofs.Prelude.{replicate, List·getD-append, set_at, T, ltb, ltb→lt, arith}
use Rattle.model.specs.Base.{all_of, sum_of}
use Rattle.model.specs.Netlist.{at_nets}
use Rattle.model.specs.Calls.{padded}
use Rattle.model.proofs.ListLaws.{all_of_head, all_of_tail}

pub pad_set : (cs : List ℕ) (net c : ℕ) → length cs ≡ net → net < 512 → set (padded cs) net c ≡ padded (cs ++ (c ∷ []))
unfolding padded
pad_set cs net c e h =
    let d : 512 - length cs ≡ suc (511 - length cs) = omega arith in
    let r : 512 - length (cs ++ (c ∷ [])) ≡ 511 - length cs = simp length-append (omega arith) in
    rw (d, r, append_assoc) (set_at cs 0 (replicate (511 - length cs) 0) c net e)

pub pad_get_d : (cs : List ℕ) (net : ℕ) → net < length cs → get_or (padded cs) net 0 ≡ get_or cs net 0
unfolding padded
pad_get_d cs net h = List·getD-append cs (replicate (512 - length cs) 0) 0 net h

-- counts past the last net do not matter
pub pad_pins : (cs ps : List ℕ) → T (all_of (λ p. ltb p (length cs)) ps) → at_nets (padded cs) 0 ps ≡ at_nets cs 0 ps
pad_pins cs [] h = refl
pad_pins cs (p ∷ ps) h =
    let below : ℕ → Bool = λ q. ltb q (length cs) in
    ap₂ (λ x xs. x ∷ xs) (pad_get_d cs p (ltb→lt p (length cs) (all_of_head below p ps h))) (pad_pins cs ps (all_of_tail below p ps h))

pub pad_sum : (cs ps : List ℕ) → T (all_of (λ p. ltb p (length cs)) ps) → sum_of (at_nets (padded cs) 0 ps) ≡ sum_of (at_nets cs 0 ps)
pad_sum cs ps h = ap sum_of (pad_pins cs ps h)
