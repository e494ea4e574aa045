-- Rows of 64 numbers: what stands at each length, added numbers, and numbers for longer paths.
use Rattle.model.proofs.Prelude.{ℕ, ◌≤◌, ◌<◌, ◌+◌, ◌-◌, suc, ◌^◌, zero, ◌≡◌, ◌∙◌, ap, refl, sym, List, [], ◌∷◌, length, get_or, replicate, length-map}
use Rattle.model.proofs.Prelude.{length-replicate, get_or-replicate, ext_get_or, arith, le-leb, lt-leb}
use Rattle.model.specs.Base.{numbers_from}
use Rattle.model.proofs.BoolLaws.{cases}
use Rattle.model.proofs.ListLaws.{get_d_map-in, numbers_from-at, length-numbers_from}
use Rattle.length_rows.specs.Lengths.{lengths, row}
use Rattle.length_rows.specs.RowSums.{Room, added, longer, column}

pub row-length : (f : ℕ → ℕ) → length (row f) ≡ lengths
unfolding row
row-length f = length-map (numbers_from 0 lengths) f ∙ length-numbers_from 0 lengths

pub row_at : (f : ℕ → ℕ) (l : ℕ) → l < lengths → get_or (row f) l 0 ≡ f l
unfolding row
row_at f l h =
    get_d_map-in f (numbers_from 0 lengths) l 0 0 (omega (arith, length-numbers_from 0 lengths))
    ∙ ap f (numbers_from-at lengths 0 l h ∙ omega arith)

-- numbers of all lengths are a row
pub row_is : (ns : List ℕ) (f : ℕ → ℕ) → length ns ≡ lengths → ((l : ℕ) → l < lengths → get_or ns l 0 ≡ f l) → ns ≡ row f
row_is ns f h e = ext_get_or 0 ns (row f) (h ∙ sym (row-length f)) (λ l b. let short : l < lengths = omega (arith, h) in e l short ∙ sym (row_at f l short))

pub row_same : {f g : ℕ → ℕ} → ((l : ℕ) → l < lengths → f l ≡ g l) → row f ≡ row g
row_same {f} {g} e = row_is (row f) g (row-length f) (λ l h. row_at f l h ∙ e l h)

-- Added numbers
pub added-length : (ns : List ℕ) (f : ℕ → ℕ) → length (added ns f) ≡ lengths
unfolding added
added-length ns f = row-length (λ l. get_or ns l 0 + f l)

pub added-at : (ns : List ℕ) (f : ℕ → ℕ) (l : ℕ) → l < lengths → get_or (added ns f) l 0 ≡ get_or ns l 0 + f l
unfolding added
added-at ns f l h = row_at (λ k. get_or ns k 0 + f k) l h

pub added_is : (ns ms : List ℕ) (f : ℕ → ℕ) → length ms ≡ lengths → ((l : ℕ) → l < lengths → get_or ms l 0 ≡ get_or ns l 0 + f l) → ms ≡ added ns f
unfolding added
added_is ns ms f h e = row_is ms (λ l. get_or ns l 0 + f l) h e

pub added-same : (ns : List ℕ) {f g : ℕ → ℕ} → ((l : ℕ) → l < lengths → f l ≡ g l) → added ns f ≡ added ns g
unfolding added
added-same ns e = row_same (λ l h. ap (λ n. get_or ns l 0 + n) (e l h))

pub added-zeros : (f : ℕ → ℕ) → added (replicate lengths 0) f ≡ row f
unfolding added
added-zeros f = row_same (λ l h. ap (λ n. n + f l) (get_or-replicate lengths l 0 0 h) ∙ omega arith)

-- Numbers for longer paths
pub longer-short : (by : ℕ) (f : ℕ → ℕ) (l : ℕ) → l < by → longer by f l ≡ 0
unfolding longer
longer-short by f l h = rw (lt-leb by l h, longer) refl

pub longer-at : (by : ℕ) (f : ℕ → ℕ) (l : ℕ) → by ≤ l → longer by f l ≡ f (l - by)
unfolding longer
longer-at by f l h = rw (le-leb by l h, longer) refl

pub longer-none-at : (by l : ℕ) → longer by (λ k. 0) l ≡ 0
longer-none-at by l = cases by l (λ h. longer-at by (λ k. 0) l h) (λ h. longer-short by (λ k. 0) l h)

pub longer-none : (f : ℕ → ℕ) (l : ℕ) → longer 0 f l ≡ f l
longer-none f l = longer-at 0 f l (omega arith) ∙ ap f (omega arith)

pub longer-most : (by : ℕ) (f : ℕ → ℕ) (l m : ℕ) → ((k : ℕ) → k ≤ l → f k ≤ m) → longer by f l ≤ m
longer-most by f l m e =
    cases by l (λ h. omega (arith, longer-at by f l h, e (l - by) (omega arith))) (λ h. omega (arith, longer-short by f l h))

-- Zeros, to which anything that fits a word can be added
pub zeros-room : (f : ℕ → ℕ) → ((l : ℕ) → l < lengths → f l < 2 ^ 64) → Room (replicate lengths 0) f
zeros-room f e = record { long = length-replicate {A = ℕ} lengths 0; fits = λ l h. omega (arith, e l h, get_or-replicate {A = ℕ} lengths l 0 0 h) }

-- the numbers of a length in the rows of nets
pub column-at : (l : ℕ) (rows : List (List ℕ)) (net : ℕ) → get_or (column l rows) net 0 ≡ get_or (get_or rows net []) l 0
unfolding column
column-at l [] net = refl
column-at l (ns ∷ rows) zero = refl
column-at l (ns ∷ rows) (suc net) = column-at l rows net

-- numbers for longer paths, of two functions
module _ (by : ℕ) (f g : ℕ → ℕ) (l : ℕ) where
  pub longer-same : ((k : ℕ) → k ≤ l → f k ≡ g k) → longer by f l ≡ longer by g l
  longer-same e =
      cases by l
      (λ h. longer-at by f l h ∙ e (l - by) (omega arith) ∙ sym (longer-at by g l h))
      (λ h. longer-short by f l h ∙ sym (longer-short by g l h))

  pub longer-le : ((k : ℕ) → k ≤ l → f k ≤ g k) → longer by f l ≤ longer by g l
  longer-le e =
      cases by l
      (λ h. omega (arith, longer-at by f l h, e (l - by) (omega arith), longer-at by g l h))
      (λ h. omega (arith, longer-short by f l h))

  pub longer-plus : longer by (λ k. f k + g k) l ≡ longer by f l + longer by g l
  longer-plus =
      cases by l
      (λ h. omega (arith, longer-at by (λ k. f k + g k) l h, longer-at by f l h, longer-at by g l h))
      (λ h. omega (arith, longer-short by (λ k. f k + g k) l h, longer-short by f l h, longer-short by g l h))
