-- The records of a file cut by their length: the first and those after it, none at the end, and a file in two parts of which the first is whole records.
use Rattle.model.proofs.Prelude.{ℕ, ◌≤◌, ◌<◌, ◌+◌, ◌-◌, ◌*◌, suc, zero, ◌/◌, min, ◌≡◌, ◌∙◌, ap, sym, ap₂, ⊎_elim, List, [], ◌∷◌, ◌++◌, length, drop}
use Rattle.model.proofs.Prelude.{take, length-append, length-drop, drop_of_length-le, drop-drop, take_all, div-eq_of_lt, suc-mul, min-eq_left}
use Rattle.model.proofs.Prelude.{min-eq_right, add-one, arith}
use native.Mathlib.Nat.{div-eq-sub-div}
use lib.Seq.{take-append-le, drop-append-le}
use Rattle.model.proofs.BoolLaws.{le_or_lt}
use Rattle.model.specs.Netlist.{Netlist}
use Rattle.model.specs.Read.{record_length}
use Rattle.model.specs.Report.{records}
use Rattle.listing_text.specs.Listing.{listed_count, listed_records}

abbrev cut : ℕ → List ℕ → List (List ℕ)
cut len bs = records len (listed_count len bs) bs

-- as many records as begin in a file that has a byte
count_next : (len : ℕ) (bs : List ℕ) → 0 < len → 0 < length bs → listed_count len bs ≡ suc (listed_count len (drop len bs))
count_next len bs p h =
    let n : ℕ = length bs in
    let e : (n + (len - 1)) / len ≡ (n + (len - 1) - len) / len + 1 = div-eq-sub-div {m = len} {n = n + (len - 1)} p (omega arith) in
    let d : length (drop len bs) ≡ n - len = length-drop len bs in
    let rest : (n + (len - 1) - len) / len ≡ (length (drop len bs) + (len - 1)) / len =
    ⊎_elim (λ (a : len ≤ n). let q : n + (len - 1) - len ≡ length (drop len bs) + (len - 1) = omega arith in ap (λ (k : ℕ). k / len) q)
    (λ (a : n < len).
    let u : (n + (len - 1) - len) / len ≡ 0 = div-eq_of_lt {n = n + (len - 1) - len} {m = len} (omega arith) in
    let v : (length (drop len bs) + (len - 1)) / len ≡ 0 = div-eq_of_lt {n = length (drop len bs) + (len - 1)} {m = len} (omega arith) in
    u ∙ sym v) (le_or_lt len n) in
    e ∙ add-one ((n + (len - 1) - len) / len) ∙ ap suc rest

cut-next : (len : ℕ) (bs : List ℕ) → 0 < len → 0 < length bs → cut len bs ≡ take len bs ∷ cut len (drop len bs)
cut-next len bs p h = ap (λ (n : ℕ). records len n bs) (count_next len bs p h)

cut-end : (len : ℕ) (bs : List ℕ) → 0 < len → length bs ≤ 0 → cut len bs ≡ []
cut-end len bs p h = ap (λ (n : ℕ). records len n bs) (div-eq_of_lt {n = length bs + (len - 1)} {m = len} (omega arith))

-- the record that begins at a place of a file ends `len` bytes on, or with the file
module _ (len : ℕ) (bs : List ℕ) (at next : ℕ) (p : 0 < len) (h : at < length bs) (e : next ≡ min (at + len) (length bs)) where
  part_same : take len (drop at bs) ≡ take (next - at) (drop at bs)
  part_same =
      ⊎_elim (λ (a : at + len ≤ length bs). let k : len ≡ next - at = omega (arith, e ∙ min-eq_left a) in ap (λ (n : ℕ). take n (drop at bs)) k)
      (λ (a : length bs < at + len).
      let k : next ≡ length bs = e ∙ min-eq_right {n = length bs} {m = at + len} (omega arith) in
      let l : length (drop at bs) ≡ length bs - at = length-drop at bs in
      take_all len (drop at bs) (omega arith) ∙ sym (take_all (next - at) (drop at bs) (omega arith))) (le_or_lt (at + len) (length bs))

  rest-same : drop len (drop at bs) ≡ drop next bs
  rest-same =
      ⊎_elim (λ (a : at + len ≤ length bs). let k : at + len ≡ next = sym (e ∙ min-eq_left a) in drop-drop len at bs ∙ ap (λ (n : ℕ). drop n bs) k)
      (λ (a : length bs < at + len).
      let k : next ≡ length bs = e ∙ min-eq_right {n = length bs} {m = at + len} (omega arith) in
      drop-drop len at bs ∙ drop_of_length-le bs {i = at + len} (omega arith) ∙ sym (drop_of_length-le bs {i = next} (omega arith))) (le_or_lt (at + len) (length bs))

  cut_at : cut len (drop at bs) ≡ take (next - at) (drop at bs) ∷ cut len (drop next bs)
  cut_at =
      let l : length (drop at bs) ≡ length bs - at = length-drop at bs in
      cut-next len (drop at bs) p (omega arith) ∙ ap₂ (λ (x : List ℕ) (y : List ℕ). x ∷ cut len y) part_same rest-same

pub listed_next : (N : Netlist) (bs : List ℕ) (at next : ℕ) → at < length bs → next ≡ min (at + record_length N) (length bs)
    → listed_records N (drop at bs) ≡ take (next - at) (drop at bs) ∷ listed_records N (drop next bs)
unfolding listed_records
listed_next N bs at next h e = cut_at (record_length N) bs at next (omega arith) h e

pub listed-end : (N : Netlist) (bs : List ℕ) (at : ℕ) → length bs ≤ at → listed_records N (drop at bs) ≡ []
unfolding listed_records
listed-end N bs at h = let l : length (drop at bs) ≡ length bs - at = length-drop at bs in cut-end (record_length N) (drop at bs) (omega arith) (omega arith)

-- a first part of k whole records
cut-append : (len k : ℕ) (xs ys : List ℕ) → 0 < len → length xs ≡ k * len → cut len (xs ++ ys) ≡ cut len xs ++ cut len ys
cut-append len zero [] ys p h = ap (λ (l : List (List ℕ)). l ++ cut len ys) (sym (cut-end len [] p (omega arith)))
cut-append len zero (x ∷ xs) ys p h = absurd (omega (arith, h))
cut-append len (suc k) xs ys p h =
    let m : suc k * len ≡ k * len + len = suc-mul k len in
    let l : len ≤ length xs = omega arith in
    let d : length (drop len xs) ≡ k * len = omega (arith, length-drop len xs) in
    let a : 0 < length (xs ++ ys) = omega (arith, length-append xs ys) in
    cut-next len (xs ++ ys) p a
    ∙ ap₂ (λ (u : List ℕ) (v : List ℕ). u ∷ cut len v) (take-append-le len xs ys l) (drop-append-le len xs ys l)
    ∙ ap (λ (w : List (List ℕ)). take len xs ∷ w) (cut-append len k (drop len xs) ys p d)
    ∙ ap (λ (w : List (List ℕ)). w ++ cut len ys) (sym (cut-next len xs p (omega arith)))

pub listed-append : (N : Netlist) (k : ℕ) (xs ys : List ℕ) → length xs ≡ k * record_length N → listed_records N (xs ++ ys) ≡ listed_records N xs ++ listed_records N ys
unfolding listed_records
listed-append N k xs ys h = cut-append (record_length N) k xs ys (omega arith) h
