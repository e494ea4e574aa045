-- One edge's runs written to a store: its number of runs at the head, then its places.
use Rattle.model.proofs.Prelude.{ℕ, ◌≤◌, ◌<◌, ◌+◌, ◌-◌, ◌*◌, suc, ◌≡◌, ◌∙◌, ap, refl, sym, subst, ap₂, List, [], ◌∷◌, ◌++◌, append_assoc, append-nil}
use Rattle.model.proofs.Prelude.{length, get_or, drop, take, length-append, set, length-set, replicate, length-drop, length-replicate}
use Rattle.model.proofs.Prelude.{drop_of_length-le, get_or-replicate, List·getD-append, drop-set-lt, arith, rules}
use mir.Syntax.{w64}
use mir.Val.{Fits}
use lib.Seq.{get_or-append-add}
use borrow.Rule.Slice.PartMut.{put_mid}
use Rattle.model.specs.Base.{value, checks}
use Rattle.model.specs.Path.{Edge, rising, falling}
use Rattle.model.specs.Runs.{Run}
use Rattle.model.specs.Store.{ByEdge, of_edge, max_runs, place_words, head_words, store_words_count, count_word_of, first_word, run_count, runs_at, lows_highs, places, store_of, tests_taken_of, store_runs}
use Rattle.model.specs.Store.{runs_by_edge, store_rules}
use Rattle.model.proofs.AnswerLaws.{checks→}
use Rattle.model.proofs.StoreLaws.{length-lows_highs, length-places, length-runs_at, run_count-store, runs-store, length-store, store-runs}
use Rattle.record_bytes.proofs.PartLaws.{part-rest}
use Rattle.run_lists.specs.RunLists.{runs_in_words, write_runs_of}
use Rattle.run_lists.proofs.RunWordLaws.{length_runs, runs-of_part}
use Rattle.store_words.specs.Sound.{FewRuns}
use Rattle.store_writing.specs.Writing.{ZeroWords, padded_runs, first_run_of, replaced, changed, Within, with_runs, StoreHas, Writable}
use Rattle.store_writing.specs.declared.inner.Change.{Change}
use Rattle.store_writing.specs.declared.inner.Change.TheVariants.{Kept, Made}
use Rattle.store_words.proofs.SoundLaws.{sound-words}
use Rattle.store_writing.proofs.EdgeWriteLaws.{padded-places, length-padded, write_block, length-replaced}

-- the words of an edge's places after its runs
zero_after : (pre post : List ℕ) (rs : List Run) (k i : ℕ) → length pre ≡ k → length rs ≤ max_runs → k + 2 * length rs ≤ i → i < k + place_words
    → get_or (pre ++ (places rs ++ post)) i 0 ≡ 0
zero_after pre post rs k i e h a b =
    let l : length (pre ++ lows_highs rs) ≡ k + 2 * length rs = length-append pre (lows_highs rs) ∙ omega (arith, e, length-lows_highs rs) in
    let j : length (pre ++ lows_highs rs) + (i - (k + 2 * length rs)) ≡ i = omega (arith, l) in
    let n : length (replicate {A = ℕ} (place_words - 2 * length rs) 0) ≡ place_words - 2 * length rs = length-replicate {A = ℕ} (place_words - 2 * length rs) 0 in
    ap (λ (ws : List ℕ). get_or ws i 0)
    (ap (λ (x : List ℕ). pre ++ x) (append_assoc (lows_highs rs) (replicate (place_words - 2 * length rs) 0) post)
    ∙ sym (append_assoc pre (lows_highs rs) (replicate (place_words - 2 * length rs) 0 ++ post)))
    ∙ ap (λ (x : ℕ). get_or ((pre ++ lows_highs rs) ++ (replicate (place_words - 2 * length rs) 0 ++ post)) x 0) (sym j)
    ∙ get_or-append-add (pre ++ lows_highs rs) (replicate (place_words - 2 * length rs) 0 ++ post) (i - (k + 2 * length rs)) 0
    ∙ List·getD-append (replicate (place_words - 2 * length rs) 0) post 0 (i - (k + 2 * length rs)) (omega (arith, n))
    ∙ get_or-replicate (place_words - 2 * length rs) (i - (k + 2 * length rs)) 0 0 (omega arith)

head-put : (a b n : ℕ) (qs ps : List ℕ) → put_mid head_words (length (a ∷ b ∷ n ∷ qs) - head_words) (a ∷ b ∷ n ∷ qs) ps ≡ a ∷ b ∷ n ∷ ps
head-put a b n qs ps =
    let z : suc (suc (suc (length qs))) - head_words ≡ length qs = omega arith in
    let d : drop (length qs) qs ≡ [] = drop_of_length-le qs {i = length qs} (omega arith) in
    ap (λ (x : List ℕ). a ∷ b ∷ n ∷ (ps ++ x)) (ap (λ k. drop k qs) z ∙ d) ∙ ap (λ (x : List ℕ). a ∷ b ∷ n ∷ x) (append-nil ps)

-- the words after the head, as the code lends them when a number of runs is written
abbrev lent_places : List ℕ → ℕ → ℕ → List ℕ
lent_places ws p v = take (length (set ws p v) - head_words) (drop head_words (set ws p v))

lent-places : (ws : List ℕ) (p v : ℕ) → p < head_words → lent_places ws p v ≡ drop head_words ws
lent-places ws p v h = part-rest head_words (set ws p v) ∙ drop-set-lt head_words ws p v h

module _ {ws : List ℕ} {s : ByEdge (List Run)} (has : StoreHas ws s) where
  store_long : length ws ≡ store_words_count
  store_long = ap (λ (x : List ℕ). length x) has.is ∙ length-store (tests_taken_of ws) s has.few

  held-count : (e : Edge) (p : ℕ) → p ≡ count_word_of e → get_or ws p 0 ≡ length (of_edge s e)
  held-count e p q = ap₂ (λ (x : List ℕ) (i : ℕ). get_or x i 0) has.is q ∙ run_count-store (tests_taken_of ws) s has.few e

  places-are : drop head_words ws ≡ places s.on_rising ++ places s.on_falling
  unfolding store_of
  places-are = ap (λ (x : List ℕ). drop head_words x) has.is

  runs-held : (e : Edge) → runs_in_words (drop head_words ws) (first_run_of e) (length (of_edge s e)) ≡ of_edge s e
  unfolding store_runs
  runs-held e =
      let n : run_count ws e ≡ length (of_edge s e) = ap (λ (x : List ℕ). run_count x e) has.is ∙ run_count-store (tests_taken_of ws) s has.few e in
      runs-of_part ws head_words (first_run_of e) (length (of_edge s e))
      ∙ ap₂ (λ (i k : ℕ). runs_at ws i k) (first-word e) (sym n)
      ∙ ap (λ (x : List ℕ). store_runs x e) has.is
      ∙ runs-store (tests_taken_of ws) s has.few e
    where
      first-word : (d : Edge) → head_words + 2 * first_run_of d ≡ first_word d
      first-word rising = refl
      first-word falling = refl

  zeros-held : (e : Edge) → ZeroWords (drop head_words ws) (2 * (first_run_of e + length (of_edge s e))) (2 * (first_run_of e + max_runs))
  zeros-held rising i a b =
      ap (λ (x : List ℕ). get_or x i 0) places-are
      ∙ zero_after [] (places s.on_falling) s.on_rising 0 i refl (has.few rising) (omega (arith, a)) (omega (arith, b))
  zeros-held falling i a b =
      ap (λ (x : List ℕ). get_or x i 0) (places-are ∙ ap (λ (x : List ℕ). places s.on_rising ++ x) (sym (append-nil (places s.on_falling))))
      ∙ zero_after (places s.on_rising) [] s.on_falling place_words i (length-places s.on_rising (has.few rising)) (has.few falling) (omega (arith, a)) (omega (arith, b))

  module _ (new : List Run) (few : length new ≤ max_runs) where
    written_over : (rs : List Run) → length rs ≤ max_runs → length (places rs) ≡ 2 * length (padded_runs new)
    written_over rs h = length-places rs h ∙ omega (arith, length-padded new few)

    edge-written : (e : Edge) → write_runs_of (drop head_words ws) (first_run_of e) (padded_runs new) ≡ drop head_words (store_of (tests_taken_of ws) (with_runs e new s))
    unfolding store_of
    edge-written rising =
        ap (λ (x : List ℕ). write_runs_of x 0 (padded_runs new)) places-are
        ∙ write_block (padded_runs new) 0 [] (places s.on_rising) (places s.on_falling) refl (written_over s.on_rising (has.few rising))
        ∙ ap (λ (x : List ℕ). x ++ places s.on_falling) (padded-places new few)
    edge-written falling =
        ap (λ (x : List ℕ). write_runs_of x max_runs (padded_runs new)) (places-are ∙ ap (λ (x : List ℕ). places s.on_rising ++ x) (sym (append-nil (places s.on_falling))))
        ∙ write_block (padded_runs new) max_runs (places s.on_rising) (places s.on_falling) []
        (omega (arith, length-places s.on_rising (has.few rising))) (written_over s.on_falling (has.few falling))
        ∙ ap (λ (x : List ℕ). places s.on_rising ++ x) (append-nil (lows_highs (padded_runs new)) ∙ padded-places new few)

    head-written : (e : Edge) (n : ℕ) → n ≡ length new → (ps : List ℕ)
        → put_mid head_words (length (set ws (count_word_of e) n) - head_words) (set ws (count_word_of e) n) ps
        ≡ (length (with_runs e new s).on_rising ∷ length (with_runs e new s).on_falling ∷ tests_taken_of ws ∷ ps)
    unfolding store_of
    head-written rising n q ps =
        ap (λ (x : List ℕ). put_mid head_words (length (set x 0 n) - head_words) (set x 0 n) ps) has.is
        ∙ head-put n (length s.on_falling) (tests_taken_of ws) (places s.on_rising ++ places s.on_falling) ps
        ∙ ap (λ (x : ℕ). x ∷ length s.on_falling ∷ tests_taken_of ws ∷ ps) q
    head-written falling n q ps =
        ap (λ (x : List ℕ). put_mid head_words (length (set x 1 n) - head_words) (set x 1 n) ps) has.is
        ∙ head-put (length s.on_rising) n (tests_taken_of ws) (places s.on_rising ++ places s.on_falling) ps
        ∙ ap (λ (x : ℕ). length s.on_rising ∷ x ∷ tests_taken_of ws ∷ ps) q

    store-head : (e : Edge) →
        (length (with_runs e new s).on_rising ∷ length (with_runs e new s).on_falling ∷ tests_taken_of ws ∷ drop head_words (store_of (tests_taken_of ws) (with_runs e new s)))
        ≡ store_of (tests_taken_of ws) (with_runs e new s)
    unfolding store_of
    store-head e = refl

few-runs : (ws : List ℕ) → FewRuns ws → (e : Edge) → length (of_edge (runs_by_edge ws) e) ≤ max_runs
unfolding store_runs
few-runs ws f rising = omega (arith, length-runs_at (run_count ws rising) ws (first_word rising), f.few_rising)
few-runs ws f falling = omega (arith, length-runs_at (run_count ws falling) ws (first_word falling), f.few_falling)

-- the words of a sound store are those of its runs
pub sound-has : (paths : ℕ) (ws : List ℕ) → length ws ≡ store_words_count → checks (store_rules paths ws) ≡ value tt → StoreHas ws (runs_by_edge ws)
sound-has paths ws l s =
    let p = checks→ (store_rules paths ws) (record { got = tt; is = s }) in
    record { is = sym (store-runs paths ws l p); few = few-runs ws (sound-words paths ws l (sym s)).few }

module _ {words : List ℕ} {made : ℕ} {change : Change} {e : Edge} {ws : List ℕ} (h : Writable words made change e ws) where
  pub count-inside : {p : ℕ} → p < head_words → p < length ws
  count-inside l = omega (arith, store_long h.has)

  pub head-inside : (p v : ℕ) → head_words ≤ length (set ws p v)
  head-inside p v = omega (arith, length-set ws p v, store_long h.has)

  module _ {from to n : ℕ} (is : change ≡ Made from to n) {p : ℕ} (word : p ≡ count_word_of e) where
    held-is : get_or ws p 0 ≡ length (of_edge h.runs e)
    held-is = held-count h.has e p word

    cut_inside : (from ≤ to) × (to ≤ get_or ws p 0)
    cut_inside =
        let w : Within (Made from to n) (length (of_edge h.runs e)) = subst (λ (c : Change). Within c (length (of_edge h.runs e))) is h.within in
        (w.0, omega (arith, w.1, held-is))

    pub cut-order : from ≤ to
    cut-order = cut_inside.0

    pub cut-held : to ≤ get_or ws p 0
    cut-held = cut_inside.1

    pub few-held : get_or ws p 0 ≤ max_runs
    few-held = omega (arith, held-is, h.has.few e)

    pub few-after : from + n + (get_or ws p 0 - to) ≤ max_runs
    few-after =
        let old : List Run = of_edge h.runs e in
        let long : length (replaced from to (runs_in_words words made n) old) ≡ from + length (runs_in_words words made n) + (length old - to) =
        length-replaced from to (runs_in_words words made n) old (omega (arith, cut_inside.0, cut_inside.1, held-is)) in
        let few : length (replaced from to (runs_in_words words made n) old) ≤ max_runs = subst (λ (c : Change). length (changed c words made old) ≤ max_runs) is h.few in
        omega (arith, long, few, length_runs words made n, held-is)

    pub sum_fits : Fits w64 (from + n)
    sum_fits = omega (arith, few-after)

    pub then-fits : Fits w64 (from + n + (get_or ws p 0 - to))
    then-fits = omega (arith, few-after)

    pub made_inside : 2 * (made + n) ≤ length words
    made_inside = omega (arith, few-after, h.room)

    module _ {first : ℕ} (v : ℕ) (head : p < head_words) (at : first ≡ first_run_of e) where
      pub places-long : first ≤ max_runs → 2 * (first + max_runs) ≤ length (lent_places ws p v)
      places-long l =
          let long : length (lent_places ws p v) ≡ length ws - head_words = ap (λ (x : List ℕ). length x) (lent-places ws p v head) ∙ length-drop head_words ws in
          omega (arith, long, store_long h.has)

      pub places-zero : ZeroWords (lent_places ws p v) (2 * (first + get_or ws p 0)) (2 * (first + max_runs))
      places-zero i a b = ap (λ (x : List ℕ). get_or x i 0) (lent-places ws p v head) ∙ zeros-held h.has e i (omega (arith, a, held-is, at)) (omega (arith, b, at))

-- An edge's runs that are kept, or changed
module _ (words : List ℕ) (made : ℕ) (ws : List ℕ) (e : Edge) where
  pub runs-kept : (change : Change) → change ≡ Kept → (s : ByEdge (List Run)) → StoreHas ws s
      → ws ≡ store_of (tests_taken_of ws) (with_runs e (changed change words made (of_edge s e)) s)
  runs-kept change k s has =
      has.is ∙ ap (store_of (tests_taken_of ws)) (same e) ∙ ap (λ (c : Change). store_of (tests_taken_of ws) (with_runs e (changed c words made (of_edge s e)) s)) (sym k)
    where
      same : (d : Edge) → s ≡ with_runs d (of_edge s d) s
      same rising = refl
      same falling = refl

  module _ (change : Change) (h : Writable words made change e ws) (from to n : ℕ) (is : change ≡ Made from to n) (p first : ℕ)
      (word : p ≡ count_word_of e) (head : p < head_words) (at : first ≡ first_run_of e) where
    abbrev held_before : ℕ
    held_before = get_or ws p 0

    abbrev held_then_of : ℕ
    held_then_of = from + n + (get_or ws p 0 - to)

    pub runs-made : (ps : List ℕ)
        → ps ≡ write_runs_of (lent_places ws p held_then_of) first (padded_runs (replaced from to (runs_in_words words made n) (runs_in_words (lent_places ws p held_then_of) first held_before)))
        → (s : ByEdge (List Run)) → StoreHas ws s
        → put_mid head_words (length (set ws p held_then_of) - head_words) (set ws p held_then_of) ps
        ≡ store_of (tests_taken_of ws) (with_runs e (changed change words made (of_edge s e)) s)
    runs-made ps wrote s has =
        let new : List Run = replaced from to (runs_in_words words made n) (of_edge s e) in
        let held : get_or ws p 0 ≡ length (of_edge s e) = held-count has e p word in
        let long : length new ≡ held_then_of =
        length-replaced from to (runs_in_words words made n) (of_edge s e) (omega (arith, held, cut-order h is word, cut-held h is word)) ∙ omega (arith, length_runs words made n, held) in
        let few : length new ≤ max_runs = omega (arith, long, few-after h is word) in
        let old : runs_in_words (lent_places ws p held_then_of) first held_before ≡ of_edge s e =
        ap₂ (λ (x : List ℕ) (i : ℕ). runs_in_words x i held_before) (lent-places ws p held_then_of head) at
        ∙ ap (λ (k : ℕ). runs_in_words (drop head_words ws) (first_run_of e) k) held ∙ runs-held has e in
        let w : ps ≡ drop head_words (store_of (tests_taken_of ws) (with_runs e new s)) =
        wrote
        ∙ ap (λ (rs : List Run). write_runs_of (lent_places ws p held_then_of) first (padded_runs (replaced from to (runs_in_words words made n) rs))) old
        ∙ ap₂ (λ (x : List ℕ) (i : ℕ). write_runs_of x i (padded_runs new)) (lent-places ws p held_then_of head) at
        ∙ edge-written has new few e in
        ap (λ (i : ℕ). put_mid head_words (length (set ws i held_then_of) - head_words) (set ws i held_then_of) ps) word
        ∙ head-written has new few e held_then_of (sym long) ps
        ∙ ap (λ (x : List ℕ). length (with_runs e new s).on_rising ∷ length (with_runs e new s).on_falling ∷ tests_taken_of ws ∷ x) w
        ∙ store-head has new few e
        ∙ ap (λ (c : Change). store_of (tests_taken_of ws) (with_runs e (changed c words made (of_edge s e)) s)) (sym is)

pub ruleset write-runs-cases = (count-inside, head-inside, cut-held, sum_fits, then-fits, runs-kept, rules)
