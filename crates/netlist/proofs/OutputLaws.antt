-- The outputs of a legal netlist are the last bytes of its file, and their nets are nets of the netlist.
use Rattle.model.proofs.Prelude.{ℕ, ◌≤◌, ◌<◌, ◌+◌, ◌-◌, ◌*◌, suc, zero, ◌≡◌, ◌∙◌, ap, refl, sym, subst, ap₂, List, [], ◌∷◌, length, get_or, drop, take}
use Rattle.model.proofs.Prelude.{length-drop, drop-drop, get_or-drop, leb, T, leb→le, ltb, not-suc-le-zero, le_of_suc-le-suc, arith}
use Rattle.model.specs.Base.{value, ◌then◌, checks, all_of, field}
use Rattle.model.specs.Netlist.{Netlist, Gate, net_by_net, gate_count, output_count}
use Rattle.model.specs.Read.{read_gates, read_outputs_of, output_rules, inputs_in, gates_in, outputs_in, input_counts, marked}
use Rattle.model.proofs.AnswerLaws.{steps, then-first, then-second, checks→, value_inj}
use Rattle.model.proofs.BoolLaws.{and_left, and3, both}
use Rattle.model.proofs.ReadLaws.{Parts, first, next_counts, outputs-fit}
use Rattle.model.proofs.WellFormed.{ascending_nets}
use Rattle.record_bytes.proofs.PartLaws.{part-rest}
use Rattle.netlist_gates.specs.GateReading.{size_at}
use Rattle.netlist.specs.Places.{outputs_from}
use Rattle.netlist.specs.Tables.{output_in, output_at}
use Rattle.netlist.proofs.PlaceLaws.{long-file, few-nets, next-at}

pub below : (n least : ℕ) (us : List ℕ) → T (ascending_nets n least us) → T (all_of (λ p. ltb p n) us)
unfolding ascending_nets
below n least [] t = tt
below n least (u ∷ us) t =
    let q = and3 (leb least u) (ltb u n) (ascending_nets n (suc u) us) t in
    both (ltb u n) (all_of (λ p. ltb p n) us) q.1 (below n (suc u) us q.2)

-- the bytes after the gates are the rest of the file from some position on
record Rest (s : List ℕ) (bs : List ℕ) : Type 0 where
  at : ℕ
  is : bs ≡ drop at s
  within : at ≤ length s

gates-rest : (n : ℕ) (cs s : List ℕ) (at : ℕ) (r : List Gate × List ℕ) → at ≤ length s → read_gates n cs (drop at s) ≡ value r → Rest s r.1
unfolding read_gates
gates-rest zero cs s at r h e = record { at = at; is = ap (λ (x : List Gate × List ℕ). x.1) (sym (value_inj e)); within = h }
gates-rest (suc n) cs s at r h e =
    let f = first n cs (drop at s) r e in
    let q : get_or (drop at s) 3 0 ≡ get_or s (at + 3) 0 = get_or-drop at s 3 0 in
    let l = leb→le (4 + 2 * get_or (drop at s) 3 0) (length (drop at s)) f.passes.1.1.1.0 in
    let room : at + size_at s at ≤ length s = omega (arith, l, q, length-drop at s) in
    subst (λ (x : List Gate × List ℕ). Rest s x.1) f.is
    (gates-rest n (next_counts cs (drop at s)) s (at + size_at s at) f.rest room
    (subst (λ (b : List ℕ). read_gates n (next_counts cs (drop at s)) b ≡ value f.rest) (next-at s at) f.others))

record Outs (n nets : ℕ) (s : List ℕ) (at : ℕ) (r : List ℕ × List ℕ) : Type 0 where
  outputs-are : r.0 ≡ outputs_from n (drop at s)
  rest-is : r.1 ≡ drop (at + 4 * n) s
  inside : at + 4 * n ≤ length s

outs : (n inputs nets : ℕ) (cs : List ℕ) (least t : ℕ) (s : List ℕ) (at : ℕ) (r : List ℕ × List ℕ) → nets ≤ 512 → at ≤ length s
    → read_outputs_of n inputs nets cs least t (drop at s) ≡ value r → Outs n nets s at r
unfolding read_outputs_of outputs_from
outs zero inputs nets cs least t s at r b h e = let z : at ≡ at + 4 * 0 = omega arith in record {
  outputs-are = ap (λ (x : List ℕ × List ℕ). x.0) (sym (value_inj e));
  rest-is = ap (λ (x : List ℕ × List ℕ). x.1) (sym (value_inj e)) ∙ ap (λ k. drop k s) z;
  inside = omega arith;
}
outs (suc n) inputs nets cs least t s at r b h e =
    let bs = drop at s in
    let o = field 2 2 bs in
    let rules = output_rules inputs nets cs least t bs in
    let next = t + output_count inputs cs o in
    let m = read_outputs_of n inputs nets cs (suc o) next (drop 4 bs) in
    let p = steps (checks rules then m) (λ r. value (field 2 2 bs ∷ r.0, r.1)) e in
    let a = checks→ rules (then-first (checks rules) m p.first) in
    let room = leb→le 4 (length bs) (and_left (leb 4 (length bs)) (marked 0x4F 0x55 bs) a.0) in
    let far : at + 4 ≤ length s = omega (arith, room, length-drop at s) in
    let d : drop 4 (drop at s) ≡ drop (at + 4) s = drop-drop 4 at s in
    let ih = outs n inputs nets cs (suc o) next s (at + 4) p.got b far
    (subst (λ (x : List ℕ). read_outputs_of n inputs nets cs (suc o) next x ≡ value p.got) d (then-second (checks rules) m p.first)) in
    let step : at + 4 + 4 * n ≡ at + 4 * suc n = omega arith in
    subst (Outs (suc n) nets s at) (value_inj p.second)
    (record {
      outputs-are = ap (λ (x : List ℕ). o ∷ x) (ih.outputs-are ∙ ap (outputs_from n) (sym d));
      rest-is = ih.rest-is ∙ ap (λ k. drop k s) step;
      inside = omega (arith, ih.inside);
    })

-- What the outputs of a legal netlist have: their records are the last of the file
pub record Outputs (file : List ℕ) (N : Netlist) : Type 0 where
  pub outputs-are : N.outputs ≡ outputs_from (length N.outputs) (drop (length file - 4 * length N.outputs) file)
  pub room : 4 * length N.outputs ≤ length file

pub outputs : (file : List ℕ) (N : Netlist) → Parts file N → Outputs file N
outputs bs N p =
    let few = few-nets bs N p in
    let r = gates-rest (gates_in bs) (input_counts bs) bs 8 (N.gates, p.after_gates) (long-file bs N p) p.gates_read in
    let cs = net_by_net gate_count 0 (input_counts bs) N.gates in
    let o = outs (outputs_in bs) (inputs_in bs) (inputs_in bs + gates_in bs) cs 0 0 bs r.at (N.outputs, p.after_outputs) few r.within
    (subst (λ (x : List ℕ). read_outputs_of (outputs_in bs) (inputs_in bs) (inputs_in bs + gates_in bs) cs 0 0 x ≡ value (N.outputs, p.after_outputs)) r.is p.outputs_read) in
    let n : length N.outputs ≡ outputs_in bs =
    (outputs-fit (outputs_in bs) (inputs_in bs) (inputs_in bs + gates_in bs) cs 0 0 p.after_gates (N.outputs, p.after_outputs) p.outputs_read (omega arith)).0 in
    let last : length (drop (r.at + 4 * outputs_in bs) bs) ≡ 0 = ap (λ (x : List ℕ). length x) (sym o.rest-is) ∙ p.no_more in
    let at-is : r.at ≡ length bs - 4 * length N.outputs = omega (arith, last, length-drop (r.at + 4 * outputs_in bs) bs, o.inside) in
    record {
      outputs-are = o.outputs-are ∙ ap₂ (λ k x. outputs_from k (drop x bs)) (sym n) at-is;
      room = omega (arith, n, o.inside);
    }

-- the nets that the records name, each out of the part that begins with its record
pub length-outputs : (n : ℕ) (bs : List ℕ) → length (outputs_from n bs) ≡ n
unfolding outputs_from
length-outputs zero bs = refl
length-outputs (suc n) bs = ap suc (length-outputs n (drop 4 bs))

pub outputs-at : (n : ℕ) (part : List ℕ) (o : ℕ) → o < n → get_or (outputs_from n part) o 0 ≡ output_at part o
unfolding outputs_from
outputs-at zero part o h = absurd (not-suc-le-zero h)
outputs-at (suc n) part zero h = refl
outputs-at (suc n) part (suc o) h =
    let z : 4 + 4 * o ≡ 4 * suc o = omega arith in
    outputs-at n (drop 4 part) o (le_of_suc-le-suc h) ∙ ap output_in (drop-drop (4 * o) 4 part) ∙ ap (λ j. output_in (drop j part)) z

-- the part of an output's record, as the code makes it
module _ (part : List ℕ) (o : ℕ) where
  pub output-here : (net : ℕ) → net ≡ output_in (take (length part - 4 * o) (drop (4 * o) part)) → net ≡ output_at part o
  output-here net e = e ∙ ap output_in (part-rest (4 * o) part)

  pub output-long : (outputs : ℕ) → 4 * outputs ≤ length part → o < outputs → 4 ≤ length (take (length part - 4 * o) (drop (4 * o) part))
  output-long outputs h l = omega (arith, ap length (part-rest (4 * o) part), length-drop (4 * o) part)
