-- The gates, one at a time.
use Rattle.model.proofs.Prelude.{ℕ, ◌≤◌, ◌<◌, ◌+◌, ◌-◌, ◌*◌, suc, ◌^◌, zero, ◌≡◌, ◌∙◌, ap, refl, sym, subst, true, Bool, false, List, [], ◌∷◌, ◌++◌}
use Rattle.model.proofs.Prelude.{append-nil, length, get_or, drop, take, length-append, set, replicate, length-drop, length-replicate, drop-drop}
use Rattle.model.proofs.Prelude.{get_or-drop, leb, leb→le, ltb, sub-one, arith, rules}
use mir.Val.{Fits}
use mir.Syntax.{w16, w64}
use Rattle.model.specs.Base.{Answer, refused, value, ◌into◌, ◌then◌, checks, all_of}
use Rattle.model.specs.Netlist.{Gate, net_by_net, gate_count, at_nets}
use Rattle.model.specs.Read.{read_gates, gate_rules, gate_in, count_in, net_fields}
use Rattle.model.proofs.AnswerLaws.{then-first, then-second, checks→, value_inj, not_refused}
use Rattle.model.proofs.BoolLaws.{true→T, and_right}
use Rattle.model.proofs.ReadLaws.{pins-fit}
use Rattle.netlist_gates.specs.GateReading.{size_at, starts, gate_step, GatesEnd}
use Rattle.netlist_gates.specs.declared.inner.GateSize.{GateSize}
use Rattle.model.specs.Calls.{padded}
use Rattle.model.specs.Refusals.{refusal_number_of}
use Rattle.model.specs.declared.Refusal.{Refusal}
use Rattle.record_bytes.proofs.AheadLaws.{ahead, ahead-next, ahead_none}
use Rattle.record_bytes.proofs.PartLaws.{part-rest}
use Rattle.netlist_gates.proofs.PaddedLaws.{pad_set, pad_sum}
use Rattle.netlist_gates.proofs.PositionSteps.{PositionsLeft, positions-start, positions-end, positions-again}
use Rattle.std.specs.Prelude.{Result, Ok, Err}
use Rattle.model.specs.Returned.{answer_of}

-- the counts past the gate's net do not matter
rules-pad : (cs s : List ℕ) → checks (gate_rules (length cs) (padded cs) s) ≡ checks (gate_rules (length cs) cs s)
rules-pad cs s = go (all_of (λ p. ltb p (length cs)) (net_fields (get_or s 3 0) (drop 4 s))) refl
  where
    go : (b : Bool) → all_of (λ p. ltb p (length cs)) (net_fields (get_or s 3 0) (drop 4 s)) ≡ b
        → checks (gate_rules (length cs) (padded cs) s) ≡ checks (gate_rules (length cs) cs s)
    go true e = simp (pad_sum cs (net_fields (get_or s 3 0) (drop 4 s)) (true→T _ e))
    go false e = simp e

-- what a gate that was taken passed
pub record GateTaken (cs s : List ℕ) (count size : ℕ) : Type 0 where
  pub passed : checks (gate_rules (length cs) cs s) ≡ value tt
  pub count-is : count_in cs s ≡ count
  pub size_is : 4 + 2 * get_or s 3 0 ≡ size
  pub room : size ≤ length s
  pub few : size ≤ 20

pub gate-legal : (cs s : List ℕ) (count size : ℕ) → gate_step (length cs) (padded cs) s ≡ value (record { count = count; size = size }) → GateTaken cs s count size
unfolding gate_step
gate-legal cs s count size e =
    let found : GateSize = record { count = count_in (padded cs) s; size = 4 + 2 * get_or s 3 0 } in
    let rules = checks (gate_rules (length cs) (padded cs) s) in
    let q : checks (gate_rules (length cs) cs s) ≡ value tt = sym (rules-pad cs s) ∙ (then-first rules (value found) e).is in
    let a = checks→ (gate_rules (length cs) cs s) (record { got = tt; is = q }) in
    let z : found ≡ record { count = count; size = size } = value_inj (then-second rules (value found) e) in
    let n : 4 + 2 * get_or s 3 0 ≡ size = ap (λ (x : GateSize). x.size) z in
    let pins = pins-fit (get_or s 2 0) (get_or s 3 0) a.1.1.0 in
    record {
      passed = q;
      count-is = sym (pad_sum cs (net_fields (get_or s 3 0) (drop 4 s)) a.1.1.1.1.0) ∙ ap (λ (x : GateSize). x.count) z;
      size_is = n;
      room = subst (λ k. k ≤ length s) n (leb→le (4 + 2 * get_or s 3 0) (length s) a.1.1.1.0);
      few = omega (arith, n, leb→le (get_or s 3 0) 8 (and_right (leb 1 (get_or s 3 0)) (leb (get_or s 3 0) 8) pins));
    }

counts-next : (cs : List ℕ) (gs : List Gate) (g : Gate)
    → net_by_net gate_count 0 cs (gs ++ (g ∷ [])) ≡ net_by_net gate_count 0 cs gs ++ (gate_count g (at_nets (net_by_net gate_count 0 cs gs) 0 g.pins) ∷ [])
counts-next cs [] g = refl
counts-next cs (h ∷ gs) g = counts-next (cs ++ (gate_count h (at_nets cs 0 h.pins) ∷ [])) gs g

-- the state of the loop: the gates read so far, with the readings that are left
pub record GatesLeft (left net at : ℕ) (array s : List ℕ) (inputs number : ℕ) : Type 0 where
  pub gates : List Gate
  pub counts : List ℕ
  pub counts-are : counts ≡ net_by_net gate_count 0 (replicate inputs 1) gates
  pub nets : length counts ≡ net
  pub array_is : array ≡ padded counts
  pub rest-is : ahead gates (read_gates left counts (drop at s)) ≡ read_gates number (replicate inputs 1) (drop 8 s)

pub gates-start : (number inputs : ℕ) (array s : List ℕ) → array ≡ padded (replicate inputs 1) → GatesLeft number inputs 8 array s inputs number
gates-start number inputs array s e = record {
  gates = [];
  counts = replicate inputs 1;
  counts-are = refl;
  nets = length-replicate inputs 1;
  array_is = e;
  rest-is = ahead_none _;
}

pub gates-end : (left net at : ℕ) (array places s : List ℕ) (inputs number : ℕ) → left ≤ 0 → at ≤ length s → GatesLeft left net at array s inputs number
    → PositionsLeft left net at places s (replicate inputs 0 ++ starts number 8 s) → GatesEnd at array places s inputs number
unfolding read_gates ahead
gates-end zero net at array places s inputs number h w l p = record {
  gates = l.gates;
  read = sym l.rest-is ∙ ap (λ (x : List Gate). value (x, drop at s)) (append-nil l.gates);
  counts-are = l.array_is ∙ ap padded l.counts-are;
  positions-are = positions-end zero net at places s (replicate inputs 0 ++ starts number 8 s) h p;
  within = w;
}
gates-end (suc left) net at array places s inputs number h w l p = absurd (omega arith)

gates-step : (left : ℕ) (cs s : List ℕ) (count size : ℕ) → 0 < left → GateTaken cs s count size
    → read_gates left cs s ≡ (read_gates (left - 1) (cs ++ (count ∷ [])) (drop size s) into λ r. value (gate_in s ∷ r.0, r.1))
unfolding read_gates
gates-step zero cs s count size h t = absurd (omega arith)
gates-step (suc left) cs s count size h t = rw (t.passed, sub-one (suc left), ← t.count-is, ← t.size_is) refl

gates-refused : (left : ℕ) (cs s : List ℕ) (n : ℕ) → 0 < left → gate_step (length cs) (padded cs) s ≡ refused n → read_gates left cs s ≡ refused n
unfolding read_gates gate_step
gates-refused zero cs s n h t = absurd (omega arith)
gates-refused (suc left) cs s n h t =
    let v : GateSize = record { count = count_in (padded cs) s; size = 4 + 2 * get_or s 3 0 } in
    go (checks (gate_rules (length cs) cs s)) v _ _ (subst (λ (c : Answer (Unit {0})). (c then value v) ≡ refused n) (rules-pad cs s) t)
  where
    go : (c : Answer (Unit {0})) (v : GateSize) (r : Answer (List Gate × List ℕ)) (f : List Gate × List ℕ → Answer (List Gate × List ℕ))
        → (c then value v) ≡ refused n → ((c then r) into f) ≡ refused n
    go (refused k) v r f e = let z : k ≡ n = cc in ap (λ m. refused m) z
    go (value u) v r f e = absurd (not_refused (sym e))

module _ (left net at : ℕ) (array s : List ℕ) (inputs number : ℕ) (l : GatesLeft left net at array s inputs number) (more : 0 < left)
    (a : Result GateSize Refusal) (part : answer_of a ≡ gate_step net array (take (length s - at) (drop at s))) where
  e : answer_of a ≡ gate_step (length l.counts) (padded l.counts) (drop at s)
  e = rw (part-rest, l.array_is, ← l.nets) at part

  pub gates-stop : (w : Refusal) → a ≡ Err w → read_gates number (replicate inputs 1) (drop 8 s) ≡ refused (refusal_number_of w)
  unfolding ahead
  gates-stop w h =
      sym l.rest-is ∙ ap (ahead l.gates) (gates-refused left l.counts (drop at s) (refusal_number_of w) more (sym (rw h at e)))

  module _ (g0 : GateSize) (h : a ≡ Ok g0) where
    is : GateTaken l.counts (drop at s) g0.count g0.size
    is = gate-legal l.counts (drop at s) g0.count g0.size (sym (rw h at e))

    pub gates-size : at ≤ length s → at + g0.size ≤ length s
    gates-size w = omega (arith, is.room, length-drop at s)

    pub gates-fit : at ≤ length s → length s < 2 ^ 64 → Fits w64 (at + g0.size)
    gates-fit w f = record { fits = omega (arith, gates-size w) }

    -- a record has at most 20 bytes
    pub gates-bound : at + 20 * left ≤ 8 + 20 * number → at + g0.size + 20 * (left - 1) ≤ 8 + 20 * number
    gates-bound b = omega (arith, is.few)

    pub gates-place : (places : List ℕ) → net + left ≤ 512 → PositionsLeft left net at places s (replicate inputs 0 ++ starts number 8 s)
        → PositionsLeft (left - 1) (net + 1) (at + g0.size) (set places net at) s (replicate inputs 0 ++ starts number 8 s)
    gates-place places b p =
        let long : size_at s at ≡ g0.size = ap (λ k. 4 + 2 * k) (sym (get_or-drop at s 3 0)) ∙ is.size_is in
        positions-again left net at g0.size places s (replicate inputs 0 ++ starts number 8 s) more b long p

    pub gates-again : net + left ≤ 512 → GatesLeft (left - 1) (net + 1) (at + g0.size) (set array net g0.count) s inputs number
    gates-again b =
        let g = gate_in (drop at s) in
        let next = l.counts ++ (g0.count ∷ []) in
        record {
          gates = l.gates ++ (g ∷ []);
          counts = next;
          counts-are = sym (counts-next (replicate inputs 1) l.gates g ∙ rw (← l.counts-are) (ap (λ c. l.counts ++ (c ∷ [])) is.count-is));
          nets = simp length-append (omega (arith, l.nets));
          array_is = rw l.array_is (pad_set l.counts net g0.count l.nets (omega arith));
          rest-is = sym (ap (ahead l.gates) (gates-step left l.counts (drop at s) g0.count g0.size more is) ∙ ahead-next l.gates g _
              ∙ ap (λ (b : List ℕ). ahead (l.gates ++ (g ∷ [])) (read_gates (left - 1) next b)) (drop-drop g0.size at s)) ∙ l.rest-is;
        }

-- the position of a record fits a word
pub place-fits : (left at number : ℕ) → at + 20 * left ≤ 8 + 20 * number → number ≤ 512 → Fits w16 at
place-fits left at number b h = record { fits = omega arith }

pub ruleset read-gates-cases = (gates-start, positions-start, gates-stop, gates-size, gates-fit, gates-bound, gates-place, gates-again, gates-end, place-fits, rules)
