-- The number of paths: as many as the numbers 1 to T that pass a test. Each path has one fault of an edge, and those are counted in `model`.
-- So with the paths of a length, those of them that the store holds, and those that are too long.
use Rattle.model.proofs.Prelude.{ℕ, ◌≤◌, ◌≡◌, ◌∙◌, ap, refl, sym, subst, ⊎_elim, Bool, false, ◌&&◌, List, [], ◌∷◌, map, List·Memᴰ·not-nil, List-as-Memᴰ}
use Rattle.model.proofs.Prelude.{List·Memᴰ·cases-cons, List·Memᴰ·head, List·Memᴰ·tail, length, length-map, leb, T, eqb, leb→le, eqb→eq, le→leb, arith}
use Rattle.model.proofs.Prelude.{eqb-false}
use mathlib.Core.Logic.{∥∥₁_elim}
use mathlib.Core.HLevel.{⊥_prop}
use mathlib.Core.List.Memᴰ
use mathlib.Core.List.{Nodup, Nodup-nil, Nodup-cons}
use Rattle.model.specs.Netlist.{Netlist, path_total}
use Rattle.model.specs.Path.{CircuitPath, Edge, rising, Fault, valid, number_of}
use Rattle.model.specs.Runs.{in_runs, how_many}
use Rattle.model.specs.Store.{store_runs}
use Rattle.model.proofs.BoolLaws.{and_left, and_right, both, eq→eqb, not→false}
use Rattle.model.proofs.WellFormed.{WellFormed}
use Rattle.model.proofs.NumberLaws.{numbers-bounds, path-of_number}
use Rattle.model.proofs.FaultLaws.{count_of_passes}
use Rattle.length_rows.specs.Lengths.{lengths, length_of, of_length, paths_up_to, held_up_to, length_rule, PathCount, PathOfLength, HeldOfLength, LongPath}
use Rattle.length_rows.proofs.HowManyLaws.{how_many-zero}

abbrev paths_of : List Fault → List CircuitPath
paths_of fs = map (λ f. f.path) fs

-- a fault of a list that has the path
record FaultOn (fs : List Fault) (p : CircuitPath) : Type 0 where
  fault : Fault
  is_in : List-as-Memᴰ fault fs
  has : fault.path ≡ p

path→ : (fs : List Fault) (p : CircuitPath) → List-as-Memᴰ p (paths_of fs) → FaultOn fs p
path→ [] p m = absurd (List·Memᴰ·not-nil m)
path→ (f ∷ fs) p m =
    ⊎_elim
    (λ (q : p ≡ f.path). record { fault = f; is_in = List·Memᴰ·head refl; has = sym q })
    (λ (s : List-as-Memᴰ p (paths_of fs)). let x = path→ fs p s in record { fault = x.fault; is_in = List·Memᴰ·tail x.is_in; has = x.has })
    (List·Memᴰ·cases-cons m)

→path : (fs : List Fault) (f : Fault) → List-as-Memᴰ f fs → List-as-Memᴰ f.path (paths_of fs)
→path [] f m = absurd (List·Memᴰ·not-nil m)
→path (g ∷ gs) f m =
    ⊎_elim
    (λ (q : f ≡ g). List·Memᴰ·head (ap (λ (x : Fault). x.path) q))
    (λ (s : List-as-Memᴰ f gs). List·Memᴰ·tail (→path gs f s))
    (List·Memᴰ·cases-cons m)

-- distinct faults of one edge have distinct paths
distinct-paths : (e : Edge) (fs : List Fault) → ((f : Fault) → List-as-Memᴰ f fs → f.edge ≡ e) → Nodup fs → Nodup (paths_of fs)
distinct-paths e [] h d = Nodup-nil
distinct-paths e (f ∷ fs) h d =
    Nodup-cons.1 (λ m. ∥∥₁_elim m ⊥_prop again, distinct-paths e fs (λ g m. h g (List·Memᴰ·tail m)) (Nodup-cons.0 d).1)
  where
    again : List-as-Memᴰ f.path (paths_of fs) → ⊥
    again m =
        let x = path→ fs f.path m in
        let edges : x.fault.edge ≡ f.edge = h x.fault (List·Memᴰ·tail x.is_in) ∙ sym (h f (List·Memᴰ·head refl)) in
        let same : x.fault ≡ f = λ i. record { path = x.has i; edge = edges i } in
        (Nodup-cons.0 d).0 ∣ Memᴰ.cast (sym same) x.is_in ∣₁

module _ (N : Netlist) (w : WellFormed N) where
  -- the paths whose number passes a test, by whatever says the same of a path
  counted : (Q : ℕ → Bool) (P : CircuitPath → Type 0)
      → ((p : CircuitPath) → T (valid N p) → T (Q (number_of N p)) → P p) → ((p : CircuitPath) → P p → T (valid N p) × T (Q (number_of N p)))
      → PathCount P (how_many Q (path_total N))
  counted Q P to from =
      let c = count_of_passes N w rising Q in
      record {
        paths = paths_of c.faults;
        distinct = distinct-paths rising c.faults (λ f m. ((c.these f).0 m).edge) c.distinct;
        these = λ p. (
          λ m.
              let x = path→ c.faults p m in
              let y = (c.these x.fault).0 x.is_in in
              subst P x.has (to x.fault.path y.of_netlist y.passes),
          λ h.
              let y = from p h in
              let f : Fault = record { path = p; edge = rising } in
              →path c.faults f ((c.these f).1 (record { edge = refl; of_netlist = y.0; passes = y.1 })),
        );
        many = length-map c.faults (λ f. f.path) ∙ c.many;
      }

  -- the length of a path, by its number and by its pins
  pub length-of_path : (p : CircuitPath) → T (valid N p) → length_of N (number_of N p) ≡ length p.pins
  unfolding length_of
  length-of_path p v = ap (λ (q : CircuitPath). length q.pins) (path-of_number N w p v)

  pub paths-counted : (l : ℕ) → PathCount (PathOfLength N l) (paths_up_to N l (path_total N))
  unfolding paths_up_to
  paths-counted l =
      counted (of_length N l) (PathOfLength N l)
      (λ p v q. record { of_netlist = v; gates = sym (length-of_path p v) ∙ eqb→eq (length_of N (number_of N p)) l q })
      (λ p h. (h.of_netlist, eq→eqb (length_of N (number_of N p)) l (length-of_path p h.of_netlist ∙ h.gates)))

  pub held-counted : (ws : List ℕ) (e : Edge) (l : ℕ) → PathCount (HeldOfLength N ws e l) (held_up_to N (in_runs (store_runs ws e)) l (path_total N))
  unfolding held_up_to
  held-counted ws e l =
      let held : CircuitPath → Bool = λ p. in_runs (store_runs ws e) (number_of N p) in
      let long : CircuitPath → Bool = λ p. of_length N l (number_of N p) in
      counted (λ k. of_length N l k && in_runs (store_runs ws e) k) (HeldOfLength N ws e l)
      (λ p v q. record {
        path = record { of_netlist = v; gates = sym (length-of_path p v) ∙ eqb→eq (length_of N (number_of N p)) l (and_left (long p) (held p) q) };
        held = and_right (long p) (held p) q;
      })
      (λ p h. (
        h.path.of_netlist,
        both (long p) (held p) (eq→eqb (length_of N (number_of N p)) l (length-of_path p h.path.of_netlist ∙ h.path.gates)) h.held,
      ))

  -- some path is too long exactly where the rule of 84 fails
  abbrev over : ℕ → Bool
  over k = leb lengths (length_of N k)

  pub long→ : (length_rule N).1 ≡ false → LongPath N
  long→ q =
      let Long : CircuitPath → Type 0 = λ p. T (valid N p) × (lengths ≤ length p.pins) in
      let c =
      counted over Long
      (λ p v t. (v, omega (arith, leb→le lengths (length_of N (number_of N p)) t, length-of_path p v)))
      (λ p h. (h.0, le→leb lengths (length_of N (number_of N p)) (omega (arith, h.1, length-of_path p h.0)))) in
      first c.paths c.many (λ p. (c.these p).0)
    where
      first : (ps : List CircuitPath) → length ps ≡ how_many over (path_total N)
          → ((p : CircuitPath) → List-as-Memᴰ p ps → T (valid N p) × (lengths ≤ length p.pins)) → LongPath N
      first [] n h = absurd (eqb-false (how_many over (path_total N)) 0 q (sym n))
      first (p ∷ ps) n h = let x = h p (List·Memᴰ·head refl) in record { path = p; of_netlist = x.0; long = x.1 }

  pub →long : LongPath N → (length_rule N).1 ≡ false
  →long h =
      let many : ℕ = how_many over (path_total N) in
      let k : ℕ = number_of N h.path in
      let b = numbers-bounds N w h.path h.of_netlist in
      not→false (eqb many 0)
      (λ t. subst T (how_many-zero over (path_total N) (eqb→eq many 0 t) k b.0 b.1)
      (le→leb lengths (length_of N k) (omega (arith, h.long, length-of_path h.path h.of_netlist))))
