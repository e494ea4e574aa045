-- Words at places of an array, arrays filled from the last place down, and words at pins.
use Rattle.model.proofs.Prelude.{ℕ, ◌≤◌, ◌<◌, ◌+◌, ◌-◌, suc, zero, ◌≡◌, ◌∙◌, ap, refl, sym, subst, ap₂, ⊎_elim, inl, inr, ◌⊎◌, Bool, List, [], ◌∷◌}
use Rattle.model.proofs.Prelude.{map, length, get_or, set, length-set, get_or-set_same, get_or-set_other, not-suc-le-zero, le_of_suc-le-suc, arith}
use Rattle.model.specs.Base.{bit}
use Rattle.model.proofs.BoolLaws.{equal_or_not}
use Rattle.block_words.specs.Words.{bits_at, words_at, nets_from, Filled}

pub words-length : (array ns : List ℕ) → length (words_at array ns) ≡ length ns
words-length array [] = refl
words-length array (n ∷ ns) = ap suc (words-length array ns)

pub words-at : (array ns : List ℕ) (p : ℕ) → p < length ns → get_or (words_at array ns) p 0 ≡ get_or array (get_or ns p 0) 0
words-at array [] p h = absurd (not-suc-le-zero h)
words-at array (n ∷ ns) zero h = refl
words-at array (n ∷ ns) (suc p) h = words-at array ns p (le_of_suc-le-suc h)

-- bit t of words at places, and their number
pub bits-at : (ws : List ℕ) (p t : ℕ) (d : Bool) → p < length ws → get_or (bits_at ws t) p d ≡ bit (get_or ws p 0) t
bits-at [] p t d h = absurd (not-suc-le-zero h)
bits-at (w ∷ ws) zero t d h = refl
bits-at (w ∷ ws) (suc p) t d h = bits-at ws p t d (le_of_suc-le-suc h)

pub length-bits : (ws : List ℕ) (t : ℕ) → length (bits_at ws t) ≡ length ws
length-bits [] t = refl
length-bits (w ∷ ws) t = ap suc (length-bits ws t)

-- one pin more in front of those from place `first` + k on
pub nets-more : (table : List ℕ) (first n k net : ℕ) → 0 < k → k ≤ n → net ≡ get_or table (first + (k - 1)) 0
    → nets_from table (first + (k - 1)) (n - (k - 1)) ≡ net ∷ nets_from table (first + k) (n - k)
nets-more table first n k net l h e =
    let m : n - (k - 1) ≡ suc (n - k) = omega arith in
    let s : suc (first + (k - 1)) ≡ first + k = omega arith in
    ap (λ j. nets_from table (first + (k - 1)) j) m
    ∙ ap₂ (λ x (xs : List ℕ). x ∷ xs) (sym e) (ap (λ j. nets_from table j (n - k)) s)

pub nets-none : (table : List ℕ) (first n : ℕ) → nets_from table (first + n) (n - n) ≡ []
nets-none table first n = let z : n - n ≡ 0 = omega arith in ap (λ j. nets_from table (first + n) j) z

pub nets-all : (table : List ℕ) (first n k : ℕ) → k ≤ 0 → nets_from table (first + k) (n - k) ≡ nets_from table first n
nets-all table first n k z =
    let m : n - k ≡ n = omega arith in
    let s : first + k ≡ first = omega arith in
    ap₂ (nets_from table) s m

-- An array filled from the last place down: the places from `first` + k on are done
pub record Filling (first n : ℕ) (P : ℕ → ℕ → Type 0) (before after : List ℕ) (k : ℕ) : Type 0 where
  pub within : k ≤ n
  pub same_length_of : length after ≡ length before
  pub same : (i : ℕ) → (i < first) ⊎ (first + n ≤ i) → get_or after i 0 ≡ get_or before i 0
  pub each : (p : ℕ) → k ≤ p → p < n → P p (get_or after (first + p) 0)

pub fill_start : (first n : ℕ) (P : ℕ → ℕ → Type 0) (before : List ℕ) → Filling first n P before before n
fill_start first n P before = record { within = omega arith; same_length_of = refl; same = λ i o. refl; each = λ p l h. absurd (none n p l h) }
  where
    none : (n p : ℕ) → n ≤ p → p < n → ⊥
    none n p l h = omega arith

module _ {first n : ℕ} {P : ℕ → ℕ → Type 0} {before after : List ℕ} {k : ℕ} (x : Filling first n P before after k) where
  pub fill_step : 0 < k → first + n ≤ length before → (c : ℕ) → P (k - 1) c → Filling first n P before (set after (first + (k - 1)) c) (k - 1)
  fill_step l room c h =
      let i : first + (k - 1) < length after = omega (arith, x.same_length_of, x.within) in
      record {
        within = omega (arith, x.within);
        same_length_of = length-set after (first + (k - 1)) c ∙ x.same_length_of;
        same = λ j o. get_or-set_other after (first + (k - 1)) j c 0 (away j o x.within) ∙ x.same j o;
        each = λ p m o.
            ⊎_elim
            (λ (e : p ≡ k - 1).
            subst (λ j. P j (get_or (set after (first + (k - 1)) c) (first + j) 0)) (sym e)
            (subst (P (k - 1)) (sym (get_or-set_same after (first + (k - 1)) c 0 i)) h))
            (λ (q : p ≡ k - 1 → ⊥).
            subst (P p) (sym (get_or-set_other after (first + (k - 1)) (first + p) c 0 (apart first p (k - 1) q))) (x.each p (above p k q m l) o))
            (equal_or_not p (k - 1));
      }
    where
      away : (j : ℕ) → (j < first) ⊎ (first + n ≤ j) → k ≤ n → j ≡ first + (k - 1) → ⊥
      away j (inl h) w e = omega arith
      away j (inr h) w e = omega arith

      above : (p k : ℕ) → (p ≡ k - 1 → ⊥) → k - 1 ≤ p → 0 < k → k ≤ p
      above p k q m l = omega arith

      apart : (first p i : ℕ) → (p ≡ i → ⊥) → first + p ≡ first + i → ⊥
      apart first p i q e = q (omega arith)

  pub fill_end : k ≤ 0 → Filled first n P before after
  fill_end z = record { same_length_of = x.same_length_of; same = x.same; each = λ p h. x.each p (omega arith) h }

-- words by what they say of each net
pub column : (array : List ℕ) (f : ℕ → Bool) (t top : ℕ) → ((i : ℕ) → i < top → bit (get_or array i 0) t ≡ f i)
    → (ps : List ℕ) → ((p : ℕ) → p < length ps → get_or ps p 0 < top) → bits_at (words_at array ps) t ≡ map f ps
column array f t top h [] l = refl
column array f t top h (p ∷ ps) l =
    ap₂ (λ x (y : List Bool). x ∷ y) (h p (l 0 (omega arith))) (column array f t top h ps (λ q m. l (suc q) (omega arith)))
