-- Cases of `tree_holds_each`: the answers so far, and those that are left, are the answers of all numbers.
use Rattle.model.proofs.Prelude.{ℕ, ◌≤◌, ◌<◌, ◌+◌, suc, ◌^◌, ◌≡◌, ◌∙◌, ap, refl, sym, ap₂, ⊎_elim, ◌⊎◌, true, Bool, false, not, List, [], ◌∷◌, ◌++◌}
use Rattle.model.proofs.Prelude.{append_assoc, length, get_or, drop, take, set, length-set, drop_of_length-le, take-append-drop, drop-cons, drop-set-lt}
use Rattle.model.proofs.Prelude.{add-one, arith, le-leb, lt-leb, not-true, not-false}
use lib.Seq.{take-suc-set}
use Rattle.model.specs.Base.{refused, value, after}
use Rattle.model.specs.Runs.{Run, in_runs}
use Rattle.tree_words.specs.TreeLayout.{levels_in, tree_runs, sound_words_of}
use Rattle.tree.specs.Each.{held_word_of, held_words, each_call}
use Rattle.tree.proofs.TreeCallCases.{then-short, then-bad, then-pass}

-- ---- one number

module _ (rs : List Run) (k : ℕ) where
  pub word_low : k < 1 → (n : ℕ) → n ≡ 60 → n ≡ held_word_of rs k
  unfolding held_word_of
  word_low q n e = let w = lt-leb 1 k q in rw (w, held_word_of) e

  module _ (p : 1 ≤ k) where
    pub word-high : 2 ^ 62 < k → (n : ℕ) → n ≡ 60 → n ≡ held_word_of rs k
    unfolding held_word_of
    word-high q n e = let w = le-leb 1 k p in let v = lt-leb k (2 ^ 62) q in rw (w, v, held_word_of) e

    module _ (q : k ≤ 2 ^ 62) (b : Bool) (e : b ≡ in_runs rs k) where
      pub word-yes : b ≡ true → 1 ≡ held_word_of rs k
      unfolding held_word_of
      word-yes t = let w = le-leb 1 k p in let v = le-leb k (2 ^ 62) q in let u = sym e ∙ t in rw (w, v, u, held_word_of) refl

      pub word-no : b ≡ false → 0 ≡ held_word_of rs k
      unfolding held_word_of
      word-no t = let w = le-leb 1 k p in let v = le-leb k (2 ^ 62) q in let u = sym e ∙ t in rw (w, v, u, held_word_of) refl

-- ---- all of them

module _ (rs : List Run) where
  words-none : (os : List ℕ) → held_words rs [] os ≡ os
  unfolding held_words
  words-none os = refl

  words-full : (ks : List ℕ) → held_words rs ks [] ≡ []
  unfolding held_words
  words-full [] = refl
  words-full (k ∷ ks) = refl

  words_more : (k a : ℕ) (ks os : List ℕ) → held_words rs (k ∷ ks) (a ∷ os) ≡ held_word_of rs k ∷ held_words rs ks os
  unfolding held_words
  words_more k a ks os = refl

-- after `i` numbers
pub record Answering (rs : List Run) (ks os₀ os : List ℕ) (i : ℕ) : Type 0 where
  pub sized : length os ≡ length os₀
  pub rest : take i os ++ held_words rs (drop i ks) (drop i os) ≡ held_words rs ks os₀

pub each_start : (rs : List Run) (ks os : List ℕ) → Answering rs ks os os 0
each_start rs ks os = record { sized = refl; rest = refl }

module _ (rs : List Run) (ks os₀ os : List ℕ) (i : ℕ) (h : Answering rs ks os₀ os i) where
  pub each_step : (n : ℕ) → i < n → n ≤ length ks → n ≤ length os₀ → (v : ℕ) → v ≡ held_word_of rs (get_or ks i 0) → Answering rs ks os₀ (set os i v) (i + 1)
  each_step n less inKs in_os v e =
      rw (add-one i)
      (record {
        sized = length-set os i v ∙ h.sized;
        rest =
            ap₂ (λ (x y : List ℕ). x ++ held_words rs (drop (suc i) ks) y) (take-suc-set os i v here) (drop-set-lt (suc i) os i v (omega arith))
            ∙ append_assoc (take i os) (v ∷ []) (held_words rs (drop (suc i) ks) (drop (suc i) os))
            ∙ ap (λ (x : List ℕ). take i os ++ x) next
            ∙ h.rest;
      })
    where
      here : i < length os
      here = omega (arith, h.sized)

      next : v ∷ held_words rs (drop (suc i) ks) (drop (suc i) os) ≡ held_words rs (drop i ks) (drop i os)
      next =
          ap (λ (x : ℕ). x ∷ held_words rs (drop (suc i) ks) (drop (suc i) os)) e
          ∙ sym (words_more rs (get_or ks i 0) (get_or os i 0) (drop (suc i) ks) (drop (suc i) os))
          ∙ sym (ap₂ (λ (x y : List ℕ). held_words rs x y) (drop-cons ks i 0 (omega arith)) (drop-cons os i 0 here))

  pub each-end : (n : ℕ) → n ≤ i → (n ≡ length ks) ⊎ (n ≡ length os₀) → os ≡ held_words rs ks os₀
  each-end n q c =
      ⊎_elim
      (λ (e : n ≡ length ks).
      sym (take-append-drop i os)
      ∙ ap (λ (x : List ℕ). take i os ++ x) (sym (ap (λ (x : List ℕ). held_words rs x (drop i os)) (drop_of_length-le ks {i = i} (omega arith)) ∙ words-none rs (drop i os)))
      ∙ h.rest)
      (λ (e : n ≡ length os₀).
      let z = drop_of_length-le os {i = i} (omega (arith, h.sized)) in
      sym (take-append-drop i os)
      ∙ ap (λ (x : List ℕ). take i os ++ x) (z ∙ sym (ap (held_words rs (drop i ks)) z ∙ words-full rs (drop i ks)))
      ∙ h.rest)
      c

-- ---- the call

module _ (ws ks os : List ℕ) where
  pub each-short : length ws < 32768 → refused 87 ≡ each_call ws
  unfolding each_call
  each-short q = then-short ws [] (value (levels_in ws)) q

  pub each-short-same : length ws < 32768 → os ≡ after (each_call ws) os (λ n. held_words (tree_runs ws) ks os)
  each-short-same q = rw (sym (each-short q)) refl

  module _ (p : 32768 ≤ length ws) (t : Bool) (e : t ≡ sound_words_of ws) where
    pub each-bad : not t ≡ true → refused 88 ≡ each_call ws
    unfolding each_call
    each-bad q = then-bad ws [] (value (levels_in ws)) p (sym e ∙ not-true t q)

    pub each-bad-same : not t ≡ true → os ≡ after (each_call ws) os (λ n. held_words (tree_runs ws) ks os)
    each-bad-same q = rw (sym (each-bad q)) refl

    module _ (q : not t ≡ false) where
      taken : value (levels_in ws) ≡ each_call ws
      unfolding each_call
      taken = sym (then-pass ws [] (value (levels_in ws)) p (sym e ∙ not-false t q))

      pub each-taken : (n : ℕ) → n ≡ get_or ws 0 0 → value n ≡ each_call ws
      each-taken n en = ap value en ∙ taken

      pub each-words : (os' : List ℕ) → os' ≡ held_words (tree_runs ws) ks os → os' ≡ after (each_call ws) os (λ n. held_words (tree_runs ws) ks os)
      each-words os' ea = ea ∙ rw (sym taken) refl
