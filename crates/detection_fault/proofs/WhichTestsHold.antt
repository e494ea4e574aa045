-- The places of the tests that detect a fault are those places, and no others.
use Rattle.model.proofs.Prelude.{ℕ, ◌≤◌, ◌<◌, ◌+◌, ◌-◌, suc, ◌≡◌, ◌∙◌, ap, refl, sym, subst, ⊎_elim, true, false, List, [], ◌∷◌, List·Memᴰ·not-nil}
use Rattle.model.proofs.Prelude.{List-as-Memᴰ, List·Memᴰ·cases-cons, List·Memᴰ·head, List·Memᴰ·tail, length, get_or, arith}
use Rattle.model.specs.Netlist.{Netlist}
use Rattle.model.specs.Detect.{Test}
use Rattle.model.proofs.BoolLaws.{bool_cases, cases}
use Rattle.detection_fault.specs.Detection.{detects_fault}
use Rattle.detection_fault.specs.WhichTests.{places_from, no_test, PlacesTrue}

module _ (N : Netlist) (fault : ℕ) where
  -- a place of the list, by the number of the first place
  record Place (k p : ℕ) (ts : List Test) : Type 0 where
    low : k ≤ p
    high : p < k + length ts
    finds : detects_fault N (get_or ts (p - k) no_test) fault ≡ true

  hit : (k : ℕ) (t : Test) (ts : List Test) → detects_fault N t fault ≡ true → places_from N fault k (t ∷ ts) ≡ k ∷ places_from N fault (suc k) ts
  unfolding places_from
  hit k t ts q = rw (q, places_from) refl

  miss : (k : ℕ) (t : Test) (ts : List Test) → detects_fault N t fault ≡ false → places_from N fault k (t ∷ ts) ≡ places_from N fault (suc k) ts
  unfolding places_from
  miss k t ts q = rw (q, places_from) refl

  later : (k p : ℕ) (t : Test) (ts : List Test) → Place (suc k) p ts → Place k p (t ∷ ts)
  later k p t ts x =
      let z : p - k ≡ suc (p - suc k) = omega (arith, x.low) in
      record {
        low = omega (arith, x.low);
        high = omega (arith, x.high);
        finds = ap (λ i. detects_fault N (get_or (t ∷ ts) i no_test) fault) z ∙ x.finds;
      }

  first : (k : ℕ) (t : Test) (ts : List Test) → detects_fault N t fault ≡ true → Place k k (t ∷ ts)
  first k t ts q =
      let z : k - k ≡ 0 = omega arith in
      record { low = omega arith; high = omega arith; finds = ap (λ i. detects_fault N (get_or (t ∷ ts) i no_test) fault) z ∙ q }

  forth : (ts : List Test) (k p : ℕ) → List-as-Memᴰ p (places_from N fault k ts) → Place k p ts
  unfolding places_from
  forth [] k p m = absurd (List·Memᴰ·not-nil m)
  forth (t ∷ ts) k p m =
      ⊎_elim
      (λ (q : detects_fault N t fault ≡ true).
      ⊎_elim
      (λ (e : p ≡ k). subst (λ i. Place k i (t ∷ ts)) (sym e) (first k t ts q))
      (λ (n : List-as-Memᴰ p (places_from N fault (suc k) ts)). later k p t ts (forth ts (suc k) p n))
      (List·Memᴰ·cases-cons (subst (List-as-Memᴰ p) (hit k t ts q) m)))
      (λ (q : detects_fault N t fault ≡ false). later k p t ts (forth ts (suc k) p (subst (List-as-Memᴰ p) (miss k t ts q) m)))
      (bool_cases (detects_fault N t fault))

  back : (ts : List Test) (k p : ℕ) → Place k p ts → List-as-Memᴰ p (places_from N fault k ts)
  back [] k p x = absurd (omega (arith, x.low, x.high))
  back (t ∷ ts) k p x =
      cases p k
      (λ h.
      let e : p ≡ k = omega (arith, x.low) in
      let z : p - k ≡ 0 = omega arith in
      let q : detects_fault N t fault ≡ true = sym (ap (λ i. detects_fault N (get_or (t ∷ ts) i no_test) fault) z) ∙ x.finds in
      subst (List-as-Memᴰ p) (sym (hit k t ts q)) (List·Memᴰ·head e))
      (λ h.
      let z : p - k ≡ suc (p - suc k) = omega arith in
      let y : Place (suc k) p ts =
      record { low = h; high = omega (arith, x.high); finds = sym (ap (λ i. detects_fault N (get_or (t ∷ ts) i no_test) fault) z) ∙ x.finds } in
      let m : List-as-Memᴰ p (places_from N fault (suc k) ts) = back ts (suc k) p y in
      ⊎_elim
      (λ (q : detects_fault N t fault ≡ true). subst (List-as-Memᴰ p) (sym (hit k t ts q)) (List·Memᴰ·tail m))
      (λ (q : detects_fault N t fault ≡ false). subst (List-as-Memᴰ p) (sym (miss k t ts q)) m)
      (bool_cases (detects_fault N t fault)))

pub places-true : (N : Netlist) (fault : ℕ) (ts : List Test) → PlacesTrue N fault ts
places-true N fault ts = record {
  these = λ p. (
    λ m. let x = forth N fault ts 1 p m in (x.low, omega (arith, x.high), x.finds),
    λ f. back N fault ts 1 p (record { low = f.0; high = omega (arith, f.1); finds = f.2 }),
  );
}
