-- A gate's statement: its kind is one of the eight, and it has a pin.
use Rattle.model.proofs.Prelude.{ℕ, ◌≤◌, ◌<◌, suc, zero, ◌≡◌, ap, refl, true, Bool, false, List, [], ◌∷◌, ◌++◌, length, length-append, eqb, arith}
use Rattle.bench_lines.specs.Text.{Token, name, sign, blank, gate, other, place, is_in, kind_names, io_names, statement_of, ending, pins_from, gate_from, io_of, io_from}
use Rattle.bench_lines.proofs.NamePlaceLaws.{in_lt}

pub other≢gate : {P : Type 0} (x : List ℕ) (k : ℕ) (ys : List (List ℕ)) → other ≡ gate x k ys → P
other≢gate x k ys e = let z : ◌≡◌ {A = ℕ} 0 1 = cc in absurd (omega arith)

pub same-pins : (x : List ℕ) (k : ℕ) (xs ys : List (List ℕ)) → gate x k xs ≡ gate x k ys → xs ≡ ys
same-pins x k xs ys e = cc

ending-gate : (x : List ℕ) (k : ℕ) (xs : List (List ℕ)) (ts : List Token) (x' : List ℕ) (k' : ℕ) (ys : List (List ℕ))
    → ending (gate x k xs) ts ≡ gate x' k' ys → (k ≡ k') × (xs ≡ ys)
unfolding ending
ending-gate x k xs [] x' k' ys e = (cc, cc)
ending-gate x k xs (t ∷ ts) x' k' ys e = other≢gate x' k' ys e

pub record SameGate (k : ℕ) (xs : List (List ℕ)) (k' : ℕ) (ys : List (List ℕ)) : Type 0 where
  pub kind : k ≡ k'
  pub more : length xs < length ys

-- a gate's statement has the kind that was read, and more pins than before
pub pins-say : (x : List ℕ) (k : ℕ) (xs : List (List ℕ)) (ts : List Token) (x' : List ℕ) (k' : ℕ) (ys : List (List ℕ))
    → pins_from x k xs ts ≡ gate x' k' ys → SameGate k xs k' ys
unfolding pins_from
pins-say x k xs [] x' k' ys e = other≢gate x' k' ys e
pins-say x k xs (sign s ∷ ts) x' k' ys e = other≢gate x' k' ys e
pins-say x k xs (name y ∷ []) x' k' ys e = other≢gate x' k' ys e
pins-say x k xs (name y ∷ name z ∷ ts) x' k' ys e = other≢gate x' k' ys e
pins-say x k xs (name y ∷ sign s ∷ ts) x' k' ys e =
    go (eqb s 0x2C) (eqb s 0x29) e
    (pins-say x k (xs ++ (y ∷ [])) ts x' k' ys)
  where
    longer : xs ++ (y ∷ []) ≡ ys → length xs < length ys
    longer q = omega (arith, length-append xs (y ∷ []), ap length q)

    go : (a b : Bool)
        → elim a [ true ↦ pins_from x k (xs ++ (y ∷ [])) ts | false ↦ elim b [ true ↦ ending (gate x k (xs ++ (y ∷ []))) ts | false ↦ other ] ] ≡ gate x' k' ys
        → (pins_from x k (xs ++ (y ∷ [])) ts ≡ gate x' k' ys → SameGate k (xs ++ (y ∷ [])) k' ys) → SameGate k xs k' ys
    go true b q ih = let r = ih q in record { kind = r.kind; more = omega (arith, r.more, length-append xs (y ∷ [])) }
    go false true q ih =
        let r = ending-gate x k (xs ++ (y ∷ [])) ts x' k' ys q in record { kind = r.0; more = longer r.1 }
    go false false q ih = other≢gate x' k' ys q

io_no-gate : (n : ℕ) (z : List ℕ) (ts : List Token) (x : List ℕ) (k : ℕ) (ys : List (List ℕ))
    → ending (io_of n z) ts ≡ gate x k ys → ⊥
unfolding ending io_of
io_no-gate zero z [] x k ys e = let q : ◌≡◌ {A = ℕ} 0 1 = cc in absurd (omega arith)
io_no-gate (suc zero) z [] x k ys e = let q : ◌≡◌ {A = ℕ} 0 1 = cc in absurd (omega arith)
io_no-gate (suc (suc n)) z [] x k ys e = other≢gate x k ys e
io_no-gate n z (t ∷ ts) x k ys e = other≢gate x k ys e

io_from-no-gate : (w : List ℕ) (ts : List Token) (x : List ℕ) (k : ℕ) (ys : List (List ℕ)) → io_from w ts ≡ gate x k ys
    → ⊥
unfolding io_from
io_from-no-gate w [] x k ys e = other≢gate x k ys e
io_from-no-gate w (sign s ∷ ts) x k ys e = other≢gate x k ys e
io_from-no-gate w (name z ∷ []) x k ys e = other≢gate x k ys e
io_from-no-gate w (name z ∷ name z' ∷ ts) x k ys e = other≢gate x k ys e
io_from-no-gate w (name z ∷ sign s ∷ ts) x k ys e = go (eqb s 0x29) e
  where
    go : (a : Bool) → elim a [ true ↦ ending (io_of (place w io_names) z) ts | false ↦ other ] ≡ gate x k ys → ⊥
    go true q = io_no-gate (place w io_names) z ts x k ys q
    go false q = other≢gate x k ys q

gate-from-kind : (w : List ℕ) (ts : List Token) (x : List ℕ) (k : ℕ) (ys : List (List ℕ)) → gate_from w ts ≡ gate x k ys
    → (1 ≤ k) × (k ≤ 8)
unfolding gate_from kind_names
gate-from-kind w [] x k ys e = other≢gate x k ys e
gate-from-kind w (sign s ∷ ts) x k ys e = other≢gate x k ys e
gate-from-kind w (name z ∷ []) x k ys e = other≢gate x k ys e
gate-from-kind w (name z ∷ name z' ∷ ts) x k ys e = other≢gate x k ys e
gate-from-kind w (name z ∷ sign s ∷ ts) x k ys e = go (eqb s 0x28) (is_in z kind_names) refl e
  where
    go : (a b : Bool) → is_in z kind_names ≡ b
        → elim a [ true ↦ elim b [ true ↦ pins_from w (suc (place z kind_names)) [] ts | false ↦ other ] | false ↦ other ] ≡ gate x k ys
        → (1 ≤ k) × (k ≤ 8)
    go true true i q =
        let r = pins-say w (suc (place z kind_names)) [] ts x k ys q in
        let l : place z kind_names < 8 = in_lt z kind_names i in
        (omega (arith, r.kind), omega (arith, r.kind))
    go true false i q = other≢gate x k ys q
    go false b i q = other≢gate x k ys q

pub gate-kind : (ts : List Token) (x : List ℕ) (k : ℕ) (ys : List (List ℕ)) → statement_of ts ≡ gate x k ys
    → (1 ≤ k) × (k ≤ 8)
unfolding statement_of
gate-kind [] x k ys e = let q : ◌≡◌ {A = ℕ} 0 1 = cc in absurd (omega arith)
gate-kind (sign s ∷ ts) x k ys e = go (eqb s 0x23) e
  where
    go : (a : Bool) → elim a [ true ↦ blank | false ↦ other ] ≡ gate x k ys → (1 ≤ k) × (k ≤ 8)
    go true q = let z : ◌≡◌ {A = ℕ} 0 1 = cc in absurd (omega arith)
    go false q = other≢gate x k ys q
gate-kind (name w ∷ []) x k ys e = other≢gate x k ys e
gate-kind (name w ∷ name z ∷ ts) x k ys e = other≢gate x k ys e
gate-kind (name w ∷ sign s ∷ ts) x k ys e = go (eqb s 0x28) (eqb s 0x3D) e
  where
    go : (a b : Bool)
        → elim a [ true ↦ io_from w ts | false ↦ elim b [ true ↦ gate_from w ts | false ↦ other ] ] ≡ gate x k ys
        → (1 ≤ k) × (k ≤ 8)
    go true b q = absurd (io_from-no-gate w ts x k ys q)
    go false true q = gate-from-kind w ts x k ys q
    go false false q = other≢gate x k ys q
