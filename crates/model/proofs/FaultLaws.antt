-- The number of distinct faults: as many as the numbers 1 to T of their paths that pass a test.
use Rattle.model.proofs.Prelude.{ℕ, ◌≤◌, ◌<◌, ◌+◌, suc, zero, ◌≡◌, ◌∙◌, ap, refl, sym, subst, ap₂, ⊎_elim, ◌↔◌, true, Bool, false, ◌&&◌, not}
use Rattle.model.proofs.Prelude.{◌||◌, List, [], ◌∷◌, List·Memᴰ·not-nil, List-as-Memᴰ, List·Memᴰ·cases-cons, List·Memᴰ·head, List·Memᴰ·tail}
use Rattle.model.proofs.Prelude.{length, T, T_not, arith}
use mathlib.Core.Logic.{∥∥₁_elim}
use mathlib.Core.HLevel.{⊥_prop}
use mathlib.Core.List.Memᴰ
use mathlib.Core.List.{Nodup, Nodup-nil, Nodup-cons}
use lib.Dec.{not_T}
use Rattle.model.specs.Base.{any_of}
use Rattle.model.specs.Netlist.{Netlist, path_total}
use Rattle.model.specs.Path.{Edge, Fault, valid, number_of, path_of}
use Rattle.model.specs.Detect.{Test, detects, detects_number}
use Rattle.model.specs.Runs.{how_many_from, how_many, runs_among, in_runs}
use Rattle.model.specs.Demand3.{CountOf, Detected, DetectedNumber, RunsOfDetected, detected_by}
use Rattle.model.proofs.WellFormed.{WellFormed}
use Rattle.model.proofs.BoolLaws.{T→true, true→T, bool_cases, le_or_lt, and_left, and_right, both, or_left, or-false}
use Rattle.model.proofs.NumberLaws.{numbers-bounds, path-of_number, number-of_path}
use Rattle.model.proofs.RunLaws.{runs-separated, runs→, →runs, →separated, in→, →in}
use Rattle.model.proofs.RunSizeLaws.{many-true, many-false}

-- a property with the same faults
pub count_of_iff : {P Q : Fault → Type 0} {n : ℕ} → ((f : Fault) → P f ↔ Q f) → CountOf P n → CountOf Q n
count_of_iff h m = record {
  faults = m.faults;
  distinct = m.distinct;
  these = λ f. (λ t. (h f).0 ((m.these f).0 t), λ t. (m.these f).1 ((h f).1 t));
  many = m.many;
}

module _ (N : Netlist) (w : WellFormed N) (e : Edge) (P : ℕ → Bool) where
  fault_of : ℕ → Fault
  fault_of k = record { path = path_of N k; edge = e }

  faults_from : ℕ → ℕ → List Fault
  faults_from k zero = []
  faults_from k (suc n) = elim (P k) [ true ↦ fault_of k ∷ faults_from (suc k) n | false ↦ faults_from (suc k) n ]

  faults-true : (k n : ℕ) → P k ≡ true → faults_from k (suc n) ≡ fault_of k ∷ faults_from (suc k) n
  unfolding faults_from
  faults-true k n q = rw (q, faults_from)

  faults-false : (k n : ℕ) → P k ≡ false → faults_from k (suc n) ≡ faults_from (suc k) n
  unfolding faults_from
  faults-false k n q = rw (q, faults_from)

  record Has (k n : ℕ) (f : Fault) : Type 0 where
    at : ℕ
    low : k ≤ at
    high : at < k + n
    passes : T (P at)
    is : f ≡ fault_of at

  mem→ : (n k : ℕ) (f : Fault) → List-as-Memᴰ f (faults_from k n) → Has k n f
  unfolding faults_from
  mem→ zero k f m = absurd (List·Memᴰ·not-nil m)
  mem→ (suc n) k f m =
      ⊎_elim
      (λ (q : P k ≡ true).
      ⊎_elim
      (λ (s : f ≡ fault_of k). record { at = k; low = omega arith; high = omega arith; passes = true→T (P k) q; is = s })
      (λ (s : List-as-Memᴰ f (faults_from (suc k) n)). wider n k f (mem→ n (suc k) f s))
      (List·Memᴰ·cases-cons (rw (faults-true k n q) at m)))
      (λ (q : P k ≡ false). wider n k f (mem→ n (suc k) f (rw (faults-false k n q) at m)))
      (bool_cases (P k))
    where
      wider : (n k : ℕ) (f : Fault) → Has (suc k) n f → Has k (suc n) f
      wider n k f h = record { at = h.at; low = omega (arith, h.low); high = omega (arith, h.high); passes = h.passes; is = h.is }

  →mem : (n k j : ℕ) → k ≤ j → j < k + n → T (P j) → List-as-Memᴰ (fault_of j) (faults_from k n)
  unfolding faults_from
  →mem zero k j h l t = absurd (omega arith)
  →mem (suc n) k j h l t =
      ⊎_elim
      (λ (m : j ≤ k).
      let q : j ≡ k = omega arith in
      rw (faults-true k n (T→true (P k) (rw q at t))) (List·Memᴰ·head (ap fault_of q)))
      (λ (m : k < j).
      let ih : List-as-Memᴰ (fault_of j) (faults_from (suc k) n) = →mem n (suc k) j m (omega arith) t in
      ⊎_elim
      (λ (q : P k ≡ true). rw (faults-true k n q) (List·Memᴰ·tail ih))
      (λ (q : P k ≡ false). rw (faults-false k n q) ih)
      (bool_cases (P k)))
      (le_or_lt j k)

  number-fault_of : (k : ℕ) → 1 ≤ k → k ≤ path_total N → number_of N (fault_of k).path ≡ k
  unfolding fault_of
  number-fault_of k l h = (number-of_path N w k l h).number

  -- a number's fault is none of those of higher numbers
  later : (k n : ℕ) → 1 ≤ k → k + suc n ≤ suc (path_total N) → List-as-Memᴰ (fault_of k) (faults_from (suc k) n) → ⊥
  later k n l h m =
      let s = mem→ n (suc k) (fault_of k) m in
      let a = number-fault_of k l (omega arith) in
      let b = number-fault_of s.at (omega (arith, s.low)) (omega (arith, s.high)) in
      omega (arith, s.low, a, b, ap (λ f. number_of N f.path) s.is)

  distinct_from : (n k : ℕ) → 1 ≤ k → k + n ≤ suc (path_total N) → Nodup (faults_from k n)
  unfolding faults_from
  distinct_from zero k l h = Nodup-nil
  distinct_from (suc n) k l h =
      let ih : Nodup (faults_from (suc k) n) = distinct_from n (suc k) (omega arith) (omega arith) in
      ⊎_elim
      (λ (q : P k ≡ true).
      rw (faults-true k n q)
      (Nodup-cons.1 (λ m. ∥∥₁_elim m ⊥_prop (later k n l h), ih)))
      (λ (q : P k ≡ false). rw (faults-false k n q) ih)
      (bool_cases (P k))

  length_from : (n k : ℕ) → length (faults_from k n) ≡ how_many_from P k n
  unfolding faults_from how_many_from
  length_from zero k = refl
  length_from (suc n) k =
      ⊎_elim
      (λ (q : P k ≡ true). rw (faults-true k n q, many-true P k n q) (ap suc (length_from n (suc k))))
      (λ (q : P k ≡ false). rw (faults-false k n q, many-false P k n q) (length_from n (suc k)))
      (bool_cases (P k))

  -- a fault of the netlist, of the edge, whose path's number passes the test
  pub record Passes (f : Fault) : Type 0 where
    pub edge : f.edge ≡ e
    pub of_netlist : T (valid N f.path)
    pub passes : T (P (number_of N f.path))

  there : (f : Fault) → List-as-Memᴰ f (faults_from 1 (path_total N)) → Passes f
  unfolding fault_of
  there f m =
      let s = mem→ (path_total N) 1 f m in
      let b = number-of_path N w s.at s.low (omega (arith, s.high)) in
      rw s.is (record { edge = refl; of_netlist = b.is_path; passes = rw b.number s.passes })

  here : (f : Fault) → Passes f → List-as-Memᴰ f (faults_from 1 (path_total N))
  unfolding fault_of
  here f p =
      let b = numbers-bounds N w f.path p.of_netlist in
      let q : fault_of (number_of N f.path) ≡ f = λ i. record { path = path-of_number N w f.path p.of_netlist i; edge = sym p.edge i } in
      Memᴰ.cast (sym q) (→mem (path_total N) 1 (number_of N f.path) b.0 (omega (arith, b.1)) p.passes)

  pub count_of_passes : CountOf Passes (how_many P (path_total N))
  unfolding how_many
  count_of_passes = record {
    faults = faults_from 1 (path_total N);
    distinct = distinct_from (path_total N) 1 (omega arith) (omega arith);
    these = λ f. (there f, here f);
    many = length_from (path_total N) 1;
  }

-- one of the tests detects the fault of path number k and edge e
unfoldable pub detected_at : Netlist → List Test → Edge → ℕ → Bool
detected_at N ts e k = any_of (λ t. detects_number N t e k) ts

module _ (N : Netlist) (w : WellFormed N) (e : Edge) where
  -- by number and by pins it is the same
  detects-same : (t : Test) (f : Fault) → f.edge ≡ e → T (valid N f.path) → detects_number N t e (number_of N f.path) ≡ detects N t f
  unfolding detects_number
  detects-same t f q v =
      ap (detects N t) (λ i. record { path = path-of_number N w f.path v i; edge = sym q i })

  detected-same : (ts : List Test) (f : Fault) → f.edge ≡ e → T (valid N f.path) → detected_at N ts e (number_of N f.path) ≡ detected_by N ts f
  unfolding detected_at detected_by
  detected-same [] f q v = refl
  detected-same (t ∷ ts) f q v = ap₂ (λ a b. a || b) (detects-same t f q v) (detected-same ts f q v)

  pub count_of_detected : (ts : List Test) → CountOf (Detected N ts e) (how_many (detected_at N ts e) (path_total N))
  count_of_detected ts =
      count_of_iff
      (λ f. (
        λ p. record { edge = p.edge; of_netlist = p.of_netlist; detected = subst T (detected-same ts f p.edge p.of_netlist) p.passes },
        λ d. record { edge = d.edge; of_netlist = d.of_netlist; passes = subst T (sym (detected-same ts f d.edge d.of_netlist)) d.detected },
      ))
      (count_of_passes N w e (detected_at N ts e))

  -- the runs of the numbers of detected faults
  pub runs-detected : (ts : List Test) → RunsOfDetected N ts e (runs_among (detected_at N ts e) (path_total N))
  runs-detected ts = record {
    runs = →separated (path_total N) 1 _ (runs-separated (detected_at N ts e) (path_total N));
    exactly = λ k. (λ t. from_little_endian k t, λ d. run k d);
  }
    where
      from_little_endian : (k : ℕ) → T (in_runs (runs_among (detected_at N ts e) (path_total N)) k) → DetectedNumber N ts e k
      from_little_endian k t =
          let q = runs→ (detected_at N ts e) (path_total N) k (in→ _ k t) in
          let b = number-of_path N w k q.0 q.1 in
          record {
            path = path_of N k;
            number = b.number;
            detected = record {
              edge = refl;
              of_netlist = b.is_path;
              detected = subst T (ap (detected_at N ts e) (sym b.number) ∙ detected-same ts (record { path = path_of N k; edge = e }) refl b.is_path) q.2;
            };
          }

      run : (k : ℕ) → DetectedNumber N ts e k → T (in_runs (runs_among (detected_at N ts e) (path_total N)) k)
      run k d =
          let b = numbers-bounds N w d.path d.detected.of_netlist in
          →in _ k (→runs (detected_at N ts e) (path_total N) k (omega (arith, b.0, d.number)) (omega (arith, b.1, d.number))
          (subst T (sym (detected-same ts (record { path = d.path; edge = e }) refl d.detected.of_netlist) ∙ ap (detected_at N ts e) d.number) d.detected.detected))

  -- what a test detects and the tests before it do not
  pub count_of_new : (t : Test) (ts : List Test)
      → CountOf (λ f. Detected N (t ∷ []) e f × (T (detected_by N ts f) → ⊥)) (how_many (λ k. detects_number N t e k && not (detected_at N ts e k)) (path_total N))
  unfolding detected_by
  count_of_new t ts =
      count_of_iff
      (λ f. (
        λ p.
            let v = p.of_netlist in
            let a : T (detects_number N t e (number_of N f.path)) = and_left (detects_number N t e (number_of N f.path)) (not (detected_at N ts e (number_of N f.path))) p.passes in
            let b : T (not (detected_at N ts e (number_of N f.path))) = and_right (detects_number N t e (number_of N f.path)) (not (detected_at N ts e (number_of N f.path))) p.passes in (
              record { edge = p.edge; of_netlist = v; detected = or_left (detects N t f) false (subst T (detects-same t f p.edge v) a) },
              λ u. T_not (detected_at N ts e (number_of N f.path)) b (subst T (sym (detected-same ts f p.edge v)) u),
            ),
        λ d.
            let v = d.0.of_netlist in
            record {
              edge = d.0.edge;
              of_netlist = v;
              passes = both (detects_number N t e (number_of N f.path)) (not (detected_at N ts e (number_of N f.path)))
                  (subst T (sym (detects-same t f d.0.edge v)) (or-false (detects N t f) d.0.detected))
                  (not_T (detected_at N ts e (number_of N f.path)) (λ u. d.1 (subst T (detected-same ts f d.0.edge v) u)));
            },
      ))
      (count_of_passes N w e (λ k. detects_number N t e k && not (detected_at N ts e k)))
