-- The bytes of words, put one after the other; a table without names.
use Rattle.model.proofs.Prelude.{ℕ, ◌≤◌, ◌<◌, ◌+◌, ◌-◌, suc, zero, ◌/◌, ◌%◌, ◌≡◌, ◌∙◌, ap, refl, sym, subst, true, false, List, [], ◌∷◌, length}
use Rattle.model.proofs.Prelude.{set, replicate, sets, length-sets, eqb, add-one, sub-one, arith, ne_eqb, eq-eqb}
use Rattle.text_buffer.specs.Written.{Written}
use Rattle.bench_net_names.specs.Table.{no_names_of, word_bytes}

-- ---- the bytes of a word

bytes-more : (k v : ℕ) → 0 < k → (v ≡ 0 → ⊥) → word_bytes k v ≡ v % 256 ∷ word_bytes (k - 1) (v / 256)
unfolding word_bytes
bytes-more zero v h d = absurd (omega arith)
bytes-more (suc k) v h d = rw (sub-one (suc k)) (rw (ne_eqb v 0 d, word_bytes) refl)

bytes-none : (k v : ℕ) → v ≡ 0 → word_bytes k v ≡ []
unfolding word_bytes
bytes-none zero v e = refl
bytes-none (suc k) v e = rw (eq-eqb v 0 e, word_bytes) refl

pub bytes-few : (k v : ℕ) → length (word_bytes k v) ≤ k
unfolding word_bytes
bytes-few zero v = omega arith
bytes-few (suc k) v = go (bytes-few k (v / 256)) (eqb v 0)
  where
    go : length (word_bytes k (v / 256)) ≤ k → (b : mathlib.Core.Bool.Bool)
        → length {A = ℕ} (elim b [ true ↦ [] | false ↦ v % 256 ∷ word_bytes k (v / 256) ]) ≤ suc k
    go h true = omega arith
    go h false = omega arith

-- The bytes that are left, put from here on, give the whole
module _ (out₀ : List ℕ) (at word : ℕ) where
  pub record WordLeft (out : List ℕ) (place rest left : ℕ) : Type 0 where
    pub whole : sets out place (word_bytes left rest) ≡ sets out₀ at (word_bytes 8 word)
    pub end : place + length (word_bytes left rest) ≡ at + length (word_bytes 8 word)
    pub room : place + left ≡ at + 8
    pub same : length out ≡ length out₀

  pub word-start : WordLeft out₀ at word 8
  word-start = record { whole = refl; end = refl; room = refl; same = refl }

  module _ (out : List ℕ) (place rest left : ℕ) (w : WordLeft out place rest left) (fits : at + 8 ≤ length out₀) where
    pub word-place : 0 < left → place < length out
    word-place h = omega (arith, w.room, w.same)

    pub word_same : length out ≡ length out₀
    word_same = w.same

    pub word-again : 0 < left → (rest ≡ 0 → ⊥) → (fewer : ℕ) → fewer ≡ left - 1 → WordLeft (set out place (rest % 256)) (place + 1) (rest / 256) fewer
    word-again h d fewer f =
        let e = bytes-more left rest h d ∙ ap (λ (k : ℕ). rest % 256 ∷ word_bytes k (rest / 256)) (sym f) in
        record {
          whole = rw (add-one place) (ap (λ (l : List ℕ). sets out place l) (sym e)) ∙ w.whole;
          end = omega (arith, w.end, ap (length {A = ℕ}) e);
          room = omega (arith, w.room, f);
          same = length-sets out place (rest % 256 ∷ []) ∙ w.same;
        }

    pub word-few : place ≤ at + 8
    word-few = omega (arith, w.room)

    done : word_bytes left rest ≡ [] → Written out₀ out at (word_bytes 8 word) place
    done e = record {
      bytes = sym (ap (λ (l : List ℕ). sets out place l) e) ∙ w.whole;
      place = omega (arith, w.end, ap (length {A = ℕ}) e);
      inside = omega (arith, w.room, w.same);
    }

    pub word-stop : rest ≡ 0 → Written out₀ out at (word_bytes 8 word) place
    word-stop e = done (bytes-none left rest e)

    pub word_end : left ≤ 0 → Written out₀ out at (word_bytes 8 word) (at + 8)
    unfolding word_bytes
    word_end h =
        let z : left ≡ 0 = omega arith in
        let e : place ≡ at + 8 = omega (arith, w.room) in
        subst (λ (r : ℕ). Written out₀ out at (word_bytes 8 word) r) e (done (ap (λ (k : ℕ). word_bytes k rest) z))

-- ---- no names

pub no_names : replicate 1024 0 ≡ no_names_of
unfolding no_names_of
no_names = refl
