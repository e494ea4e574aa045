-- The cases of an output's record, and the outputs one at a time.
use Rattle.model.proofs.Prelude.{ℕ, ◌≤◌, ◌<◌, ◌+◌, ◌-◌, suc, ◌^◌, zero, ◌≡◌, ◌∙◌, ap, refl, sym, subst, true, Bool, false, ◌&&◌, List, [], ◌∷◌, ◌++◌}
use Rattle.model.proofs.Prelude.{map, length, get_or, drop, take, length-drop, drop-drop, leb, eqb, leb→le, ltb, ltb→lt, add-one, sub-one, arith, rules}
use Rattle.model.proofs.Prelude.{le-leb, lt-leb, not-true, not-false, lt-ltb, le-ltb}
use mir.Val.{Fits}
use mir.Syntax.{w64}
use Rattle.model.specs.Base.{Answer, refused, value, ◌into◌, ◌then◌, checks, field, sum_of}
use Rattle.model.specs.Netlist.{output_count}
use Rattle.model.specs.Read.{output_rules, read_outputs_of, marked}
use Rattle.model.proofs.AnswerLaws.{then-first, then-second, checks→, value_inj}
use Rattle.model.proofs.BoolLaws.{and_left}
use Rattle.model.proofs.NetLaws.{output-count-wire, output-count-gate}
use Rattle.netlist_outputs.specs.OutputReading.{output_step, OutputsEnd}
use Rattle.netlist_outputs.specs.declared.inner.OutputRead.{OutputRead}
use Rattle.model.specs.Refusals.{refusal_number_of}
use Rattle.model.specs.declared.Refusal.{Refusal}
use Rattle.record_bytes.proofs.AheadLaws.{ahead, ahead-next, ahead_none}
use Rattle.record_bytes.proofs.PartLaws.{part-rest, begins-long}
use Rattle.std.specs.Prelude.{Result, Ok, Err}
use Rattle.model.specs.Returned.{answer_of}

-- the paths that end at an output, at an input net and at a gate's
pub paths-wire : (inputs : ℕ) (cs : List ℕ) (net : ℕ) → net < inputs → 0 ≡ output_count inputs cs net
paths-wire inputs cs net h = sym (output-count-wire inputs cs net h)

pub paths-gate : (inputs : ℕ) (cs : List ℕ) (net : ℕ) → inputs ≤ net → get_or cs net 0 ≡ output_count inputs cs net
paths-gate inputs cs net h = sym (output-count-gate inputs cs net h)

pub ruleset paths-cases = (paths-wire, paths-gate, rules)

module _ (inputs nets low total : ℕ) (counts s : List ℕ) (m : Bool) (em : m ≡ leb 4 (length s) && marked 0x4F 0x55 s) where
  pub output-mark : m ≡ false → refused 18 ≡ output_step inputs nets counts low total s
  unfolding output_step
  output-mark h = simp (← em, h)

  module _ (t : m ≡ true) where
    pub output-net-in : 3 < length s
    output-net-in = omega (arith, begins-long 4 0x4F 0x55 s m em t)

    module _ (net : ℕ) (en : net ≡ field 2 2 s) where
      pub output-none : nets ≤ net → refused 19 ≡ output_step inputs nets counts low total s
      unfolding output_step
      output-none h = simp (← em, t, ← en, le-ltb net nets h)

      module _ (there : net < nets) where
        pub output-low : net < low → refused 19 ≡ output_step inputs nets counts low total s
        unfolding output_step
        output-low h = simp (← em, t, ← en, lt-ltb net nets there, lt-leb low net h)

        module _ (high : low ≤ net) where
          module _ (small : total ≤ 2 ^ 62) (count : ℕ) (ec : count ≡ output_count inputs counts net) where
            pub output-over : 2 ^ 62 - total < count → refused 21 ≡ output_step inputs nets counts low total s
            unfolding output_step
            output-over h =
                simp (← em, t, ← en, ← ec, lt-ltb net nets there, le-leb low net high, lt-leb (total + count) (2 ^ 62) (omega arith))

            pub output-taken : count ≤ 2 ^ 62 - total → value (record { net = net; total = total + count }) ≡ output_step inputs nets counts low total s
            unfolding output_step
            output-taken h =
                simp (← em, t, ← en, ← ec, lt-ltb net nets there, le-leb low net high, le-leb (total + count) (2 ^ 62) (omega arith))

pub ruleset output-cases = (output-mark, output-net-in, output-none, output-low, output-over, output-taken, not-true, not-false, rules)

-- what an output that was taken passed
pub record OutputLegal (nets low : ℕ) (s : List ℕ) (net total : ℕ) : Type 0 where
  pub room : 4 ≤ length s
  pub there : net < nets
  pub small : total ≤ 2 ^ 62

pub record OutputTaken (inputs nets low total : ℕ) (counts s : List ℕ) (o : OutputRead) : Type 0 where
  pub passed : checks (output_rules inputs nets counts low total s) ≡ value tt
  pub net-is : field 2 2 s ≡ o.net
  pub total-is : total + output_count inputs counts (field 2 2 s) ≡ o.total
  pub legal : OutputLegal nets low s o.net o.total

pub output-legal : (inputs nets low total : ℕ) (counts s : List ℕ) (o : OutputRead) → output_step inputs nets counts low total s ≡ value o → OutputTaken inputs nets low total counts s o
unfolding output_step
output-legal inputs nets low total counts s o e =
    let v : Answer OutputRead = value (record { net = field 2 2 s; total = total + output_count inputs counts (field 2 2 s) }) in
    let p = then-first (checks (output_rules inputs nets counts low total s)) v e in
    let a = checks→ (output_rules inputs nets counts low total s) p in
    let z : record { net = field 2 2 s; total = total + output_count inputs counts (field 2 2 s) } ≡ o = value_inj (then-second (checks (output_rules inputs nets counts low total s)) v e) in
    let n : field 2 2 s ≡ o.net = ap (λ (x : OutputRead). x.net) z in
    let t : total + output_count inputs counts (field 2 2 s) ≡ o.total = ap (λ (x : OutputRead). x.total) z in
    record {
      passed = p.is;
      net-is = n;
      total-is = t;
      legal = record {
        room = leb→le 4 (length s) (and_left (leb 4 (length s)) (eqb (get_or s 0 0) 0x4F && eqb (get_or s 1 0) 0x55) a.0);
        there = subst (λ x. x < nets) n (ltb→lt (field 2 2 s) nets (and_left (ltb (field 2 2 s) nets) (leb low (field 2 2 s)) a.1.0));
        small = subst (λ x. x ≤ 2 ^ 62) t (leb→le (total + output_count inputs counts (field 2 2 s)) (2 ^ 62) a.1.1.0);
      };
    }

sum-snoc : (f : ℕ → ℕ) (us : List ℕ) (u : ℕ) → sum_of (map f (us ++ (u ∷ []))) ≡ sum_of (map f us) + f u
sum-snoc f [] u = omega arith
sum-snoc f (x ∷ us) u = omega (arith, sum-snoc f us u)

-- the state of the loop: the outputs read so far, with the readings that are left
pub record OutputsLeft (left inputs nets low total at : ℕ) (counts s : List ℕ) (whole : Answer (List ℕ × List ℕ)) : Type 0 where
  pub outputs : List ℕ
  pub total-is : total ≡ sum_of (map (output_count inputs counts) outputs)
  pub rest-is : ahead outputs (read_outputs_of left inputs nets counts low total (drop at s)) ≡ whole

pub outputs-start : (left inputs nets at : ℕ) (counts s : List ℕ) → OutputsLeft left inputs nets 0 0 at counts s (read_outputs_of left inputs nets counts 0 0 (drop at s))
outputs-start left inputs nets at counts s = record { outputs = []; total-is = refl; rest-is = ahead_none _ }

pub outputs-end : (left inputs nets low total at : ℕ) (counts s : List ℕ) (whole : Answer (List ℕ × List ℕ)) → left ≤ 0 → at ≤ length s
    → OutputsLeft left inputs nets low total at counts s whole → OutputsEnd at total s inputs counts whole
unfolding read_outputs_of ahead
outputs-end zero inputs nets low total at counts s whole h w l =
    record { outputs = l.outputs; read = sym l.rest-is ∙ ap (λ (x : List ℕ). value (x, drop at s)) (mathlib.Core.List.append-nil l.outputs); total-is = l.total-is; within = w }
outputs-end (suc left) inputs nets low total at counts s whole h w l = absurd (omega arith)

-- one more reading
outputs-step : (left inputs nets low total : ℕ) (counts s : List ℕ) (o : OutputRead) → 0 < left → OutputTaken inputs nets low total counts s o
    → read_outputs_of left inputs nets counts low total s ≡ (read_outputs_of (left - 1) inputs nets counts (o.net + 1) o.total (drop 4 s) into λ r. value (o.net ∷ r.0, r.1))
unfolding read_outputs_of
outputs-step zero inputs nets low total counts s o h t = absurd (omega arith)
outputs-step (suc left) inputs nets low total counts s o h t =
    rw (t.passed, sub-one (suc left), ← t.net-is, ← t.total-is, add-one (field 2 2 s)) refl

outputs-refused : (left inputs nets low total : ℕ) (counts s : List ℕ) (n : ℕ) → 0 < left → output_step inputs nets counts low total s ≡ refused n
    → read_outputs_of left inputs nets counts low total s ≡ refused n
unfolding read_outputs_of output_step
outputs-refused zero inputs nets low total counts s n h t = absurd (omega arith)
outputs-refused (suc left) inputs nets low total counts s n h t = go (checks (output_rules inputs nets counts low total s)) _ _ _ t
  where
    go : (c : Answer (Unit {0})) (v : OutputRead) (r : Answer (List ℕ × List ℕ)) (f : List ℕ × List ℕ → Answer (List ℕ × List ℕ))
        → (c then value v) ≡ refused n → ((c then r) into f) ≡ refused n
    go (refused k) v r f e = let z : k ≡ n = cc in ap (λ m. refused m) z
    go (value u) v r f e = absurd (Rattle.model.proofs.AnswerLaws.not_refused (sym e))

module _ (left inputs nets low total at : ℕ) (counts s : List ℕ) (whole : Answer (List ℕ × List ℕ))
    (l : OutputsLeft left inputs nets low total at counts s whole) (more : 0 < left) (a : Result OutputRead Refusal)
    (part : answer_of a ≡ output_step inputs nets counts low total (take (length s - at) (drop at s))) where
  e : answer_of a ≡ output_step inputs nets counts low total (drop at s)
  e = rw part-rest at part

  pub outputs-stop : (w : Refusal) → a ≡ Err w → whole ≡ refused (refusal_number_of w)
  unfolding ahead
  outputs-stop w h =
      let n : output_step inputs nets counts low total (drop at s) ≡ refused (refusal_number_of w) = sym (rw h at e) in
      sym l.rest-is ∙ ap (ahead l.outputs) (outputs-refused left inputs nets low total counts (drop at s) (refusal_number_of w) more n)

  module _ (r : OutputRead) (h : a ≡ Ok r) where
    is : OutputTaken inputs nets low total counts (drop at s) (record { net = r.net; total = r.total })
    is = output-legal inputs nets low total counts (drop at s) (record { net = r.net; total = r.total }) (sym (rw h at e))

    pub outputs-fit : nets ≤ 512 → Fits w64 (r.net + 1)
    outputs-fit b = record { fits = omega (arith, is.legal.there) }

    pub outputs-small : r.total ≤ 2 ^ 62
    outputs-small = is.legal.small

    pub outputs-within : at ≤ length s → at + 4 ≤ length s
    outputs-within w = omega (arith, is.legal.room, length-drop at s)

    pub outputs-again : OutputsLeft (left - 1) inputs nets (r.net + 1) r.total (at + 4) counts s whole
    outputs-again = record {
      outputs = l.outputs ++ (r.net ∷ []);
      total-is = omega (arith, sum-snoc (output_count inputs counts) l.outputs r.net, l.total-is, is.total-is, ap (output_count inputs counts) is.net-is);
      rest-is = sym (ap (ahead l.outputs) (outputs-step left inputs nets low total counts (drop at s) (record { net = r.net; total = r.total }) more is)
          ∙ ahead-next l.outputs r.net _
          ∙ ap (λ (b : List ℕ). ahead (l.outputs ++ (r.net ∷ [])) (read_outputs_of (left - 1) inputs nets counts (r.net + 1) r.total b)) (drop-drop 4 at s)) ∙ l.rest-is;
    }
