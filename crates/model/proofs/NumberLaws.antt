-- Numbers and paths: each is the other's inverse on the paths of a netlist and the numbers 1 to T.
use Rattle.model.proofs.Prelude.{ℕ, ◌≤◌, ◌<◌, ◌+◌, ◌-◌, suc, zero, ◌≡◌, ◌∙◌, ap, refl, ⊎_elim, not, List, [], ◌∷◌, length, get_or, length-map}
use Rattle.model.proofs.Prelude.{take_all, leb, T, ltb, ltb→lt, lt→ltb, not-suc-le-zero, le_of_suc-le-suc, add-zero, arith, le-leb, lt-leb}
use lib.Dec.{nltb→le}
use lib.Arith.{le→nltb}
use Rattle.model.specs.Base.{all_of, sum_of}
use Rattle.model.specs.Netlist.{Netlist, Gate, no_gate, counts, pins_of, pin_net, nets, is_input, pin_counts, output_count, output_counts, output_net, path_total}
use Rattle.model.specs.Path.{CircuitPath, counts_before, split, valid_at, number_at, path_at, valid, number_of, path_of}
use Rattle.model.specs.Numbering.{PathNumbered}
use Rattle.model.proofs.WellFormed.{lower, WellFormed, ascending_nets}
use Rattle.model.proofs.BoolLaws.{and_left, and_right, T→true, le_or_lt, and3, all3}
use Rattle.model.proofs.ListLaws.{get_d_map-in, all_of_at}
use Rattle.model.proofs.NetLaws.{count-input, count-gate, output-count-wire, output-count-gate}

-- which place a number falls into
pub record Splits (cs : List ℕ) (k : ℕ) (s : ℕ × ℕ) : Type 0 where
  pub place : s.0 < length cs
  pub low : 1 ≤ s.1
  pub high : s.1 ≤ get_or cs s.0 0
  pub whole : s.1 + counts_before s.0 cs ≡ k

pub split-here : (c : ℕ) (cs : List ℕ) (k : ℕ) → k ≤ c → split (c ∷ cs) k ≡ (0, k)
unfolding split
split-here c cs k h = rw (le-leb k c h, split)

pub split-there : (c : ℕ) (cs : List ℕ) (k : ℕ) → c < k → split (c ∷ cs) k ≡ (suc (split cs (k - c)).0, (split cs (k - c)).1)
unfolding split
split-there c cs k h = rw (lt-leb k c h, split)

pub splits : (cs : List ℕ) (k : ℕ) → 1 ≤ k → k ≤ sum_of cs → Splits cs k (split cs k)
splits [] k l h = absurd (omega arith)
splits (c ∷ cs) k l h =
    ⊎_elim
    (λ m. rw (split-here c cs k m) (record { place = omega arith; low = l; high = m; whole = omega arith }))
    (λ m.
    let ih : Splits cs (k - c) (split cs (k - c)) = splits cs (k - c) (omega arith) (omega arith) in
    rw (split-there c cs k m) (record { place = omega (arith, ih.place); low = ih.low; high = ih.high; whole = omega (arith, ih.whole) }))
    (le_or_lt k c)

pub split-back : (cs : List ℕ) (p r : ℕ) → p < length cs → 1 ≤ r → r ≤ get_or cs p 0 → split cs (r + counts_before p cs) ≡ (p, r)
split-back [] p r h l m = absurd (not-suc-le-zero h)
split-back (c ∷ cs) zero r h l m = rw add-zero (split-here c cs r m)
split-back (c ∷ cs) (suc p) r h l m =
    let e : (r + (c + counts_before p cs)) - c ≡ r + counts_before p cs = omega arith in
    split-there c cs (r + (c + counts_before p cs)) (omega arith) ∙ rw e (rw (split-back cs p r (le_of_suc-le-suc h) l m))

pub counts_before-le : (cs : List ℕ) (p : ℕ) → p < length cs → get_or cs p 0 + counts_before p cs ≤ sum_of cs
counts_before-le [] p h = absurd (not-suc-le-zero h)
counts_before-le (c ∷ cs) zero h = omega arith
counts_before-le (c ∷ cs) (suc p) h = omega (arith, counts_before-le cs p (le_of_suc-le-suc h))

-- one more place, and all of them
pub counts_before-suc : (cs : List ℕ) (p : ℕ) → p < length cs → counts_before (suc p) cs ≡ counts_before p cs + get_or cs p 0
counts_before-suc [] p h = absurd (not-suc-le-zero h)
counts_before-suc (c ∷ cs) zero h = omega arith
counts_before-suc (c ∷ cs) (suc p) h = omega (arith, counts_before-suc cs p (le_of_suc-le-suc h))

pub counts_before-all : (cs : List ℕ) → counts_before (length cs) cs ≡ sum_of cs
counts_before-all cs = ap sum_of (take_all (length cs) cs (omega arith))

lower-at : (gs : List Gate) (m : ℕ) → T (lower m gs) → (j : ℕ) → j < length gs → T (all_of (λ n. ltb n (m + j)) (get_or gs j no_gate).pins)
unfolding lower
lower-at [] m t j h = absurd (not-suc-le-zero h)
lower-at (g ∷ gs) m t zero h = rw add-zero (and_left (all_of (λ n. ltb n m) g.pins) (lower (suc m) gs) t)
lower-at (g ∷ gs) m t (suc j) h =
    let e : m + suc j ≡ suc m + j = omega arith in
    rw e (lower-at gs (suc m) (and_right (all_of (λ n. ltb n m) g.pins) (lower (suc m) gs) t) j (le_of_suc-le-suc h))

pub ascending-at : (n : ℕ) (os : List ℕ) (least : ℕ) → T (ascending_nets n least os) → (o : ℕ) → o < length os → get_or os o 0 < n
unfolding ascending_nets
ascending-at n [] least t o h = absurd (not-suc-le-zero h)
ascending-at n (x ∷ os) least t zero h = ltb→lt _ _ (and3 (leb least x) (ltb x n) (ascending_nets n (suc x) os) t).1
ascending-at n (x ∷ os) least t (suc o) h =
    ascending-at n os (suc x) (and3 (leb least x) (ltb x n) (ascending_nets n (suc x) os) t).2 o (le_of_suc-le-suc h)

module _ (N : Netlist) (w : WellFormed N) where
  -- a gate's pin is at a lower net
  pub pin-lower : (net p : ℕ) → N.inputs ≤ net → net < nets N → p < length (pins_of N net) → pin_net N net p < net
  pin-lower net p h l i =
      let e : N.inputs + (net - N.inputs) ≡ net = omega arith in
      ltb→lt _ _ (all_of_at (λ n. ltb n net) (pins_of N net) 0
      (rw e at (lower-at N.gates N.inputs w.lower_pins (net - N.inputs) (omega arith))) p i)

  pub length-pin_counts : (net : ℕ) → length (pin_counts N net) ≡ length (pins_of N net)
  length-pin_counts net = length-map (pins_of N net) (λ n. get_or (counts N) n 0)

  pub pin_counts-at : (net p : ℕ) → p < length (pins_of N net) → get_or (pin_counts N net) p 0 ≡ get_or (counts N) (pin_net N net p) 0
  pin_counts-at net p h = get_d_map-in (λ n. get_or (counts N) n 0) (pins_of N net) p 0 0 h

  -- the parts of a valid partial path
  input_of : (net : ℕ) → T (valid_at N net []) → net < N.inputs
  unfolding valid_at
  input_of net v = ltb→lt _ _ v

  pub gate-of : (net p : ℕ) (ps : List ℕ) → T (valid_at N net (p ∷ ps)) → (N.inputs ≤ net) × (p < length (pins_of N net)) × T (valid_at N (pin_net N net p) ps)
  unfolding valid_at
  gate-of net p ps v =
      let t = and3 (not (is_input N net)) (ltb p (length (pins_of N net))) (valid_at N (pin_net N net p) ps) v in
      (nltb→le net N.inputs t.0, ltb→lt _ _ t.1, t.2)

  of_gate : (net p : ℕ) (ps : List ℕ) → N.inputs ≤ net → p < length (pins_of N net) → T (valid_at N (pin_net N net p) ps) → T (valid_at N net (p ∷ ps))
  unfolding valid_at
  of_gate net p ps h i v =
      all3 (not (is_input N net)) (ltb p (length (pins_of N net))) (valid_at N (pin_net N net p) ps) (le→nltb _ _ h) (lt→ltb _ _ i) v

  -- A partial path's number is 1 to the net's count
  pub number-bounds : (ps : List ℕ) (net : ℕ) → net < nets N → T (valid_at N net ps)
      → (1 ≤ number_at N net ps) × (number_at N net ps ≤ get_or (counts N) net 0)
  unfolding number_at
  number-bounds [] net l v = omega (arith, count-input N net (input_of net v))
  number-bounds (p ∷ ps) net l v =
      let g = gate-of net p ps v in
      let low = pin-lower net p g.0 l g.1 in
      let ih = number-bounds ps (pin_net N net p) (omega arith) g.2 in
      omega (
        arith,
        ih.0,
        ih.1,
        pin_counts-at net p g.1,
        count-gate N w.lower_pins net g.0 l,
        counts_before-le (pin_counts N net) p (rw length-pin_counts g.1),
      )

  -- the path of a number, at an input and at a gate
  pub path_at-input : (fuel net k : ℕ) → net < N.inputs → path_at N fuel net k ≡ []
  unfolding path_at
  path_at-input zero net k h = refl
  path_at-input (suc fuel) net k h = rw (T→true (is_input N net) (lt→ltb _ _ h), path_at)

  pub path_at-gate : (fuel net k : ℕ) → N.inputs ≤ net
      → path_at N (suc fuel) net k ≡ (split (pin_counts N net) k).0 ∷ path_at N fuel (pin_net N net (split (pin_counts N net) k).0) (split (pin_counts N net) k).1
  unfolding path_at
  path_at-gate fuel net k h = rw (lt-leb (suc net) N.inputs (omega arith), path_at)

  -- the path of a partial path's number is that path
  pub path-back : (ps : List ℕ) (fuel net : ℕ) → net ≤ fuel → net < nets N → T (valid_at N net ps) → path_at N fuel net (number_at N net ps) ≡ ps
  unfolding number_at
  path-back [] fuel net f l v = path_at-input fuel net _ (input_of net v)
  path-back (p ∷ ps) zero net f l v = absurd (omega (arith, ltb→lt 0 N.inputs w.some_input, (gate-of net p ps v).0))
  path-back (p ∷ ps) (suc fuel) net f l v =
      let g = gate-of net p ps v in
      let low = pin-lower net p g.0 l g.1 in
      let b = number-bounds ps (pin_net N net p) (omega arith) g.2 in
      path_at-gate fuel net _ g.0
      ∙ ap (λ s. s.0 ∷ path_at N fuel (pin_net N net s.0) s.1)
      (split-back (pin_counts N net) p (number_at N (pin_net N net p) ps) (rw length-pin_counts g.1) b.0 (rw (pin_counts-at net p g.1) b.1))
      ∙ ap (λ r. p ∷ r) (path-back ps fuel (pin_net N net p) (omega arith) (omega arith) g.2)

  -- the number of a number's path is that number, and the path is one of the netlist
  pub record Back (net k : ℕ) (ps : List ℕ) : Type 0 where
    pub is_valid : T (valid_at N net ps)
    pub same_number_of : number_at N net ps ≡ k

  back-input : (fuel net k : ℕ) → net < N.inputs → 1 ≤ k → k ≤ get_or (counts N) net 0 → Back net k (path_at N fuel net k)
  unfolding valid_at number_at
  back-input fuel net k i m h =
      rw (path_at-input fuel net k i) (record { is_valid = lt→ltb _ _ i; same_number_of = omega (arith, count-input N net i) })

  back-gate : (net p k n : ℕ) (ps : List ℕ) → N.inputs ≤ net → p < length (pins_of N net) → n + counts_before p (pin_counts N net) ≡ k
      → Back (pin_net N net p) n ps → Back net k (p ∷ ps)
  unfolding number_at
  back-gate net p k n ps i j e b = record { is_valid = of_gate net p ps i j b.is_valid; same_number_of = omega (arith, b.same_number_of) }

  pub number-back : (fuel net k : ℕ) → net ≤ fuel → net < nets N → 1 ≤ k → k ≤ get_or (counts N) net 0 → Back net k (path_at N fuel net k)
  number-back zero net k f l m h = back-input zero net k (omega (arith, ltb→lt 0 N.inputs w.some_input)) m h
  number-back (suc fuel) net k f l m h =
      ⊎_elim
      (λ i.
      let s = splits (pin_counts N net) k m (omega (arith, count-gate N w.lower_pins net i l)) in
      let j : (split (pin_counts N net) k).0 < length (pins_of N net) = rw length-pin_counts at s.place in
      let low = pin-lower net (split (pin_counts N net) k).0 i l j in
      rw (path_at-gate fuel net k i)
      (back-gate net _ k _ _ i j s.whole
      (number-back fuel _ _ (omega arith) (omega arith) s.low (omega (arith, s.high, pin_counts-at net _ j)))))
      (λ i. back-input (suc fuel) net k i m h)
      (le_or_lt N.inputs net)

  -- The same for whole paths
  pub output-net : (o : ℕ) → o < length N.outputs → output_net N o < nets N
  output-net o h = ascending-at (nets N) N.outputs 0 w.outputs_ok o h

  pub length-output_counts : length (output_counts N) ≡ length N.outputs
  length-output_counts = length-map N.outputs (output_count N.inputs (counts N))

  -- the count of an output: that of its net at a gate's net, none at an input net
  pub output_counts-is : (o : ℕ) → o < length N.outputs → get_or (output_counts N) o 0 ≡ output_count N.inputs (counts N) (output_net N o)
  output_counts-is o h = get_d_map-in (output_count N.inputs (counts N)) N.outputs o 0 0 h

  pub output_counts-at : (o : ℕ) → o < length N.outputs → N.inputs ≤ output_net N o → get_or (output_counts N) o 0 ≡ get_or (counts N) (output_net N o) 0
  output_counts-at o h i = output_counts-is o h ∙ output-count-gate N.inputs (counts N) (output_net N o) i

  pub output_counts-none : (o : ℕ) → o < length N.outputs → output_net N o < N.inputs → get_or (output_counts N) o 0 ≡ 0
  output_counts-none o h i = output_counts-is o h ∙ output-count-wire N.inputs (counts N) (output_net N o) i

  -- an output that has a path is at a gate's net
  pub output-gate : (o : ℕ) → o < length N.outputs → 1 ≤ get_or (output_counts N) o 0 → N.inputs ≤ output_net N o
  output-gate o h m = ⊎_elim (λ i. i) (λ i. absurd (omega (arith, output_counts-none o h i))) (le_or_lt N.inputs (output_net N o))

  -- a partial path has a pin exactly where its net is a gate's
  pins-gate : (net : ℕ) (ps : List ℕ) → T (ltb 0 (length ps)) → T (valid_at N net ps) → N.inputs ≤ net
  unfolding valid_at
  pins-gate net [] s v = absurd s
  pins-gate net (p ∷ ps) s v = nltb→le net N.inputs (and3 (not (is_input N net)) (ltb p (length (pins_of N net))) (valid_at N (pin_net N net p) ps) v).0

  gate-pins : (net : ℕ) (ps : List ℕ) → N.inputs ≤ net → T (valid_at N net ps) → T (ltb 0 (length ps))
  unfolding valid_at
  gate-pins net [] i v = absurd (omega (arith, ltb→lt net N.inputs v))
  gate-pins net (p ∷ ps) i v = lt→ltb 0 (length (p ∷ ps)) (omega arith)

  pub valid-parts : (p : CircuitPath) → T (valid N p) → (p.output < length N.outputs) × T (valid_at N (output_net N p.output) p.pins)
  unfolding valid
  valid-parts p v =
      let q = and3 (ltb p.output (length N.outputs)) (ltb 0 (length p.pins)) (valid_at N (output_net N p.output) p.pins) v in
      (ltb→lt _ _ q.0, q.2)

  pub valid-gate : (p : CircuitPath) → T (valid N p) → N.inputs ≤ output_net N p.output
  unfolding valid
  valid-gate p v =
      let q = and3 (ltb p.output (length N.outputs)) (ltb 0 (length p.pins)) (valid_at N (output_net N p.output) p.pins) v in
      pins-gate (output_net N p.output) p.pins q.1 q.2

  of_valid : (p : CircuitPath) → p.output < length N.outputs → N.inputs ≤ output_net N p.output → T (valid_at N (output_net N p.output) p.pins)
      → T (valid N p)
  unfolding valid
  of_valid p o i v =
      all3 (ltb p.output (length N.outputs)) (ltb 0 (length p.pins)) (valid_at N (output_net N p.output) p.pins)
      (lt→ltb _ _ o) (gate-pins (output_net N p.output) p.pins i v) v

  -- Numbers run from 1 to T
  pub numbers-bounds : (p : CircuitPath) → T (valid N p) → (1 ≤ number_of N p) × (number_of N p ≤ path_total N)
  unfolding number_of path_total
  numbers-bounds p v =
      let q = valid-parts p v in
      let b = number-bounds p.pins (output_net N p.output) (output-net p.output q.0) q.1 in
      let c = output_counts-at p.output q.0 (valid-gate p v) in
      omega (arith, b.0, b.1, c, counts_before-le (output_counts N) p.output (rw length-output_counts q.0))

  -- The path of a path's number is that path
  pub path-of_number : (p : CircuitPath) → T (valid N p) → path_of N (number_of N p) ≡ p
  unfolding number_of path_of
  path-of_number p v =
      let q = valid-parts p v in
      let b = number-bounds p.pins (output_net N p.output) (output-net p.output q.0) q.1 in
      ap {B = CircuitPath} (λ s. record { output = s.0; pins = path_at N (output_net N s.0) (output_net N s.0) s.1 })
      (split-back (output_counts N) p.output (number_at N (output_net N p.output) p.pins) (rw length-output_counts q.0) b.0
      (rw (output_counts-at p.output q.0 (valid-gate p v)) b.1))
      ∙ ap {B = CircuitPath} (λ r. record { output = p.output; pins = r })
      (path-back p.pins (output_net N p.output) (output_net N p.output) (omega arith) (output-net p.output q.0) q.1)

  -- Each number from 1 to T is that of its path
  pub number-of_path : (k : ℕ) → 1 ≤ k → k ≤ path_total N → PathNumbered N k (path_of N k)
  unfolding number_of path_of path_total
  number-of_path k l h =
      let s = splits (output_counts N) k l h in
      let o : (split (output_counts N) k).0 < length N.outputs = rw length-output_counts at s.place in
      let g : N.inputs ≤ output_net N (split (output_counts N) k).0 = output-gate (split (output_counts N) k).0 o (omega (arith, s.low, s.high)) in
      let b = number-back (output_net N (split (output_counts N) k).0) (output_net N (split (output_counts N) k).0) (split (output_counts N) k).1
      (omega arith) (output-net _ o) s.low (omega (arith, s.high, output_counts-at _ o g)) in
      record { is_path = of_valid _ o g b.is_valid; number = omega (arith, b.same_number_of, s.whole) }
