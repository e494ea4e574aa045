-- Adding an entry to the lists of the records of a word, the lowest record first.
use Rattle.model.proofs.Prelude.{ℕ, ◌≤◌, ◌<◌, ◌+◌, ◌-◌, ◌*◌, suc, ◌^◌, zero, ◌≡◌, ◌∙◌, ap, refl, sym, subst, ap₂, ⊎_elim, inl, inr, ◌⊎◌, true, Bool}
use Rattle.model.proofs.Prelude.{false, ◌&&◌, not, and-true, List, [], ◌∷◌, ◌++◌, length, get_or, set, length-set, get_or-set_same, get_or-set_other}
use Rattle.model.proofs.Prelude.{add-zero, arith}
use mathlib.Core.Bool.{and-not_self}
use lib.Bits.{bit_and}
use Rattle.model.specs.Base.{bit, numbers_from}
use Rattle.model.proofs.BoolLaws.{le_or_lt, equal_or_not}
use Rattle.gate_packed_pins.specs.Packed.{one_where_of}
use Rattle.record_bytes.proofs.BitLaws.{zero_bit}
use Rattle.block_words.specs.Words.{words_at}
use Rattle.block_words.specs.Lists.{entries, push_if, ListRoom, LowestRecord, Pushed}
use Rattle.block_words.proofs.LowBitLaws.{low-there, less-left, others-stay, low-gone}
use Rattle.block_words.specs.Layout.{list_size, lists_size}

-- Lists with one entry set
pub outside : (list : List ℕ) (i c n k : ℕ) → (i < k) ⊎ (k + n ≤ i) → words_at (set list i c) (numbers_from k n) ≡ words_at list (numbers_from k n)
outside list i c zero k o = refl
outside list i c (suc n) k o = ap₂ (λ x (xs : List ℕ). x ∷ xs) (get_or-set_other list i k c 0 (other o)) (outside list i c n (suc k) (later o))
  where
    other : (i < k) ⊎ (k + suc n ≤ i) → k ≡ i → ⊥
    other (inl h) e = omega arith
    other (inr h) e = omega arith

    later : (i < k) ⊎ (k + suc n ≤ i) → (i < suc k) ⊎ (suc k + n ≤ i)
    later (inl h) = inl (omega arith)
    later (inr h) = inr (omega arith)

at-end : (list : List ℕ) (c n k i : ℕ) → i ≡ k + n → i < length list → words_at (set list i c) (numbers_from k (n + 1)) ≡ words_at list (numbers_from k n) ++ (c ∷ [])
at-end list c zero k i e l =
    let z : k ≡ i = omega arith in
    ap (λ x. x ∷ []) (ap (λ j. get_or (set list i c) j 0) z ∙ get_or-set_same list i c 0 l)
at-end list c (suc n) k i e l =
    let m : suc n + 1 ≡ suc (n + 1) = omega arith in
    let d : k ≡ i → ⊥ = λ q. apart k n i q e in
    ap (λ j. words_at (set list i c) (numbers_from k j)) m
    ∙ ap₂ (λ x (xs : List ℕ). x ∷ xs) (get_or-set_other list i k c 0 d) (at-end list c n (suc k) i (omega arith) l)
  where
    apart : (k n i : ℕ) → k ≡ i → i ≡ k + suc n → ⊥
    apart k n i q e = omega arith

-- one record's list grows, the others stay
module _ (list lens : List ℕ) (z len x : ℕ) (r : lists_size ≤ length list) (q : length lens ≡ 64) (lz : z < 64)
    (el : len ≡ get_or lens z 0) (few : len < list_size) where
  grown : entries (set list (list_size * z + len) x) (set lens z (len + 1)) z ≡ entries list lens z ++ (x ∷ [])
  grown =
      ap (λ m. words_at (set list (list_size * z + len) x) (numbers_from (list_size * z) m)) (get_or-set_same lens z (len + 1) 0 (omega arith))
      ∙ at-end list x len (list_size * z) (list_size * z + len) refl (omega arith)
      ∙ ap (λ m. words_at list (numbers_from (list_size * z) m) ++ (x ∷ [])) el

  stays : (t : ℕ) → t < 64 → (t ≡ z → ⊥) → get_or lens t 0 ≤ list_size → entries (set list (list_size * z + len) x) (set lens z (len + 1)) t ≡ entries list lens t
  stays t lt d f =
      ap (λ m. words_at (set list (list_size * z + len) x) (numbers_from (list_size * t) m)) (get_or-set_other lens z t (len + 1) 0 d)
      ∙ outside list (list_size * z + len) x (get_or lens t 0) (list_size * t) (apart t z len (get_or lens t 0) d few f)
    where
      apart : (t z len m : ℕ) → (t ≡ z → ⊥) → len < list_size → m ≤ list_size → (list_size * z + len < list_size * t) ⊎ (list_size * t + m ≤ list_size * z + len)
      apart t z len m d l f = ⊎_elim (λ (h : t ≤ z). inr (omega (arith, d))) (λ (h : z < t). inl (omega arith)) (le_or_lt t z)

-- The loop: the records of `word` that are not left have their entry
pub record Pushing (list₀ lens₀ list lens : List ℕ) (word : ℕ) (f : ℕ → ℕ) (left : ℕ) : Type 0 where
  pub small : left < 2 ^ 64
  pub same_length_of : length list ≡ length list₀
  pub same_records : length lens ≡ length lens₀
  pub within : (t : ℕ) → t < 64 → bit left t ≡ true → bit word t ≡ true
  pub lists : (t : ℕ) → t < 64 → entries list lens t ≡ push_if (bit word t && not (bit left t)) (f t) (entries list₀ lens₀ t)
  pub counts : (t : ℕ) → t < 64 → get_or lens t 0 ≡ get_or lens₀ t 0 + one_where_of (bit word t && not (bit left t))

pub at_most_one : (b : Bool) → one_where_of b ≤ 1
at_most_one true = omega arith
at_most_one false = omega arith

module _ {list₀ lens₀ : List ℕ} {word : ℕ} {f : ℕ → ℕ} where
  pub push_start : word < 2 ^ 64 → Pushing list₀ lens₀ list₀ lens₀ word f word
  push_start s = record {
    small = s;
    same_length_of = refl;
    same_records = refl;
    within = λ t h e. e;
    lists = λ t h. ap (λ b. push_if b (f t) (entries list₀ lens₀ t)) (sym (and-not_self (bit word t)));
    counts = λ t h. sym (add-zero (get_or lens₀ t 0)) ∙ ap (λ b. get_or lens₀ t 0 + one_where_of b) (sym (and-not_self (bit word t)));
  }

  pub left_less : {list lens : List ℕ} {left : ℕ} → Pushing list₀ lens₀ list lens word f left → (left ≡ 0 → ⊥) → bit_and left (left - 1) < left
  left_less x ne = less-left x.small ne

  module _ (room : ListRoom list₀ lens₀) {list lens : List ℕ} {left : ℕ} (x : Pushing list₀ lens₀ list lens word f left) (ne : left ≡ 0 → ⊥)
      {t : ℕ} (low : LowestRecord left t) where
    there : bit left t ≡ true
    there = rw low.is_lowest (low-there x.small ne)

    gone : bit (bit_and left (left - 1)) t ≡ false
    gone = rw low.is_lowest (low-gone x.small ne)

    stay : (j : ℕ) → (j ≡ t → ⊥) → bit (bit_and left (left - 1)) j ≡ bit left j
    stay j d = others-stay x.small ne j (λ e. d (e ∙ sym low.is_lowest))

    -- nothing is pushed there yet
    not_yet : (bit word t && not (bit left t)) ≡ false
    not_yet = ap₂ (λ a b. a && not b) (x.within t low.inside there) there

    pushed-there : (bit word t && not (bit (bit_and left (left - 1)) t)) ≡ true
    pushed-there = ap₂ (λ a b. a && not b) (x.within t low.inside there) gone

    len-there : get_or lens t 0 ≡ get_or lens₀ t 0
    len-there = x.counts t low.inside ∙ ap (λ b. get_or lens₀ t 0 + one_where_of b) not_yet ∙ add-zero (get_or lens₀ t 0)

    few-there : (j : ℕ) → j < 64 → get_or lens j 0 ≤ list_size
    few-there j h = omega (arith, x.counts j h, room.one_more_of j h, at_most_one (bit word j && not (bit left j)))

    module _ {len : ℕ} (el : len ≡ get_or lens t 0) where
      pub len-few : len < list_size
      len-few = omega (arith, len-there, room.one_more_of t low.inside)

      pub list-place : list_size * t + len < length list
      list-place = omega (arith, len-few, low.inside, room.places, x.same_length_of)

      module _ {v : ℕ} (ev : v ≡ f t) where
        list' : List ℕ
        list' = set list (list_size * t + len) v

        lens' : List ℕ
        lens' = set lens t (len + 1)

        left' : ℕ
        left' = bit_and left (left - 1)

        long : lists_size ≤ length list
        long = omega (arith, room.places, x.same_length_of)

        whole : length lens ≡ 64
        whole = x.same_records ∙ room.records

        list_at : (j : ℕ) → j < 64 → entries list' lens' j ≡ push_if (bit word j && not (bit left' j)) (f j) (entries list₀ lens₀ j)
        unfolding list' lens' left'
        list_at j h =
            ⊎_elim
            (λ (q : j ≡ t).
            subst (λ i. entries list' lens' i ≡ push_if (bit word i && not (bit left' i)) (f i) (entries list₀ lens₀ i)) (sym q)
            (grown list lens t len v long whole low.inside el len-few
            ∙ ap₂ (λ (a : List ℕ) b. a ++ (b ∷ [])) (x.lists t low.inside ∙ ap (λ b. push_if b (f t) (entries list₀ lens₀ t)) not_yet) ev
            ∙ ap (λ b. push_if b (f t) (entries list₀ lens₀ t)) (sym pushed-there)))
            (λ (d : j ≡ t → ⊥).
            stays list lens t len v long whole low.inside el len-few j h d (few-there j h)
            ∙ x.lists j h ∙ ap (λ b. push_if (bit word j && not b) (f j) (entries list₀ lens₀ j)) (sym (stay j d)))
            (equal_or_not j t)

        count_at : (j : ℕ) → j < 64 → get_or lens' j 0 ≡ get_or lens₀ j 0 + one_where_of (bit word j && not (bit left' j))
        unfolding lens' left'
        count_at j h =
            ⊎_elim
            (λ (q : j ≡ t).
            subst (λ i. get_or lens' i 0 ≡ get_or lens₀ i 0 + one_where_of (bit word i && not (bit left' i))) (sym q)
            (get_or-set_same lens t (len + 1) 0 (omega (arith, low.inside, whole)) ∙ ap (λ k. k + 1) (el ∙ len-there)
            ∙ ap (λ b. get_or lens₀ t 0 + one_where_of b) (sym pushed-there)))
            (λ (d : j ≡ t → ⊥).
            get_or-set_other lens t j (len + 1) 0 d ∙ x.counts j h ∙ ap (λ b. get_or lens₀ j 0 + one_where_of (bit word j && not b)) (sym (stay j d)))
            (equal_or_not j t)

        pub push_step : Pushing list₀ lens₀ (set list (list_size * t + len) v) (set lens t (len + 1)) word f (bit_and left (left - 1))
        unfolding list' lens' left'
        push_step = record {
          small = omega (arith, left_less x ne, x.small);
          same_length_of = length-set list (list_size * t + len) v ∙ x.same_length_of;
          same_records = length-set lens t (len + 1) ∙ x.same_records;
          within = λ j h e.
              ⊎_elim (λ (q : j ≡ t). subst (λ i. bit word i ≡ true) (sym q) (x.within t low.inside there))
              (λ (d : j ≡ t → ⊥). x.within j h (sym (stay j d) ∙ e)) (equal_or_not j t);
          lists = list_at;
          counts = count_at;
        }

  pub push_end : {list lens : List ℕ} {left : ℕ} → left ≡ 0 → Pushing list₀ lens₀ list lens word f left → Pushed list₀ lens₀ list lens (λ t. bit word t) f
  push_end {list} {lens} {left} e x = record {
    same_length_of = x.same_length_of;
    same_records = x.same_records;
    lists = λ t h. x.lists t h ∙ ap (λ b. push_if b (f t) (entries list₀ lens₀ t)) (all-pushed t);
    counts = λ t h. x.counts t h ∙ ap (λ b. get_or lens₀ t 0 + one_where_of b) (all-pushed t);
  }
    where
      all-pushed : (t : ℕ) → (bit word t && not (bit left t)) ≡ bit word t
      all-pushed t = ap (λ b. bit word t && not b) (ap (λ w. bit w t) e ∙ zero_bit t) ∙ and-true (bit word t)
