-- A line's tokens, one byte at a time, and one token at a time.
use Rattle.model.proofs.Prelude.{ℕ, ◌≤◌, ◌<◌, ◌+◌, ◌-◌, ◌≡◌, ◌∙◌, ap, refl, sym, ⊎_elim, true, Bool, false, List, [], ◌∷◌, ◌++◌, length, get_or, drop}
use Rattle.model.proofs.Prelude.{subst, drop_of_length-le, arith, le-leb, lt-leb, ne_eqb}
use Rattle.model.specs.Base.{all_of}
use Rattle.model.proofs.BoolLaws.{le_or_lt}
use Rattle.bench_lines.specs.Text.{Token, name, sign, name_byte, word, word_then, sign_then, tokens_from}
use Rattle.bench_lines.specs.LineReading.{part, SpacesEnd, WordEnd, NameAt, SignAt}
use Rattle.bench_lines.proofs.BytePartLaws.{part_none, part-more, drop-next, length_part, all_snoc}

-- one byte, by its test
named-byte : (w : List ℕ) (b : ℕ) (bs : List ℕ) → name_byte b ≡ true
    → tokens_from w (b ∷ bs) ≡ tokens_from (w ++ (b ∷ [])) bs
unfolding tokens_from
named-byte w b bs e = rw (e, tokens_from) refl

other_byte : (w : List ℕ) (b : ℕ) (bs : List ℕ) → name_byte b ≡ false
    → tokens_from w (b ∷ bs) ≡ word_then w (sign_then b (tokens_from [] bs))
unfolding tokens_from
other_byte w b bs e = rw (e, tokens_from) refl

no_word : (ts : List Token) → word_then [] ts ≡ ts
unfolding word_then
no_word ts = refl

a-sign : (b : ℕ) (ts : List Token) → (b ≡ 0x20 → ⊥) → sign_then b ts ≡ sign b ∷ ts
unfolding sign_then
a-sign b ts d = rw (ne_eqb b 0x20 d, sign_then) refl

no_more : (w : List ℕ) → tokens_from w [] ≡ word_then w []
unfolding tokens_from
no_more w = refl

no_bytes : tokens_from [] [] ≡ []
unfolding tokens_from word_then
no_bytes = refl

word-short : (w : List ℕ) → length w ≤ 16 → word w ≡ name w
unfolding word
word-short w h = rw (le-leb (length w) 16 h, word) refl

word-long : (w : List ℕ) → 16 < length w → word w ≡ sign 0
unfolding word
word-long w h = rw (lt-leb (length w) 16 h, word) refl

module _ (line : List ℕ) where
  -- a space, a sign
  space-step : (i : ℕ) → i < length line → get_or line i 0 ≡ 0x20
      → tokens_from [] (drop i line) ≡ tokens_from [] (drop (i + 1) line)
  unfolding tokens_from word_then sign_then name_byte
  space-step i h e = ap (tokens_from []) (drop-next i line h) ∙ rw e refl

  pub sign-step : (i : ℕ) → i < length line → name_byte (get_or line i 0) ≡ false → (get_or line i 0 ≡ 0x20 → ⊥)
      → tokens_from [] (drop i line) ≡ sign (get_or line i 0) ∷ tokens_from [] (drop (i + 1) line)
  sign-step i h n d =
      ap (tokens_from []) (drop-next i line h) ∙ other_byte [] (get_or line i 0) (drop (i + 1) line) n
      ∙ no_word (sign_then (get_or line i 0) (tokens_from [] (drop (i + 1) line)))
      ∙ a-sign (get_or line i 0) (tokens_from [] (drop (i + 1) line)) d

  module _ (at : ℕ) where
    pub record SpacesSoFar (i : ℕ) : Type 0 where
      pub tokens : tokens_from [] (drop at line) ≡ tokens_from [] (drop i line)
      pub low : at ≤ i
      pub high : i ≤ length line

    pub spaces_start : at ≤ length line → SpacesSoFar at
    spaces_start h = record { tokens = refl; low = omega arith; high = h }

    pub spaces_more : (i : ℕ) → SpacesSoFar i → i < length line → get_or line i 0 ≡ 0x20 → SpacesSoFar (i + 1)
    spaces_more i s h e = record { tokens = s.tokens ∙ space-step i h e; low = omega (arith, s.low); high = omega arith }

    pub spaces_stop : (i : ℕ) → SpacesSoFar i → (get_or line i 0 ≡ 0x20 → ⊥) → SpacesEnd i at line
    spaces_stop i s d = record { tokens = s.tokens; low = s.low; high = s.high; no_space = λ e h. d e }

    pub spaces_last : (i : ℕ) → SpacesSoFar i → length line ≤ i → SpacesEnd (length line) at line
    spaces_last i s k =
        let e : i ≡ length line = omega (arith, s.high) in
        subst (λ (n : ℕ). SpacesEnd n at line) e (record { tokens = s.tokens; low = s.low; high = s.high; no_space = λ e h. absurd (omega arith) })

    -- the bytes of a word so far
    pub record WordSoFar (i : ℕ) : Type 0 where
      pub tokens : tokens_from [] (drop at line) ≡ tokens_from (part at i line) (drop i line)
      pub named : all_of name_byte (part at i line) ≡ true
      pub low : at ≤ i
      pub high : i ≤ length line

    pub word-start : at ≤ length line → WordSoFar at
    word-start h = record {
      tokens = ap (λ (w : List ℕ). tokens_from w (drop at line)) (sym (part_none at line));
      named = rw (part_none at line) refl;
      low = omega arith;
      high = h;
    }

    module _ (i : ℕ) (s : WordSoFar i) (h : i < length line) (b : Bool) (q : b ≡ name_byte (get_or line i 0)) where
      pub word_more : b ≡ true → WordSoFar (i + 1)
      word_more e =
          let n : name_byte (get_or line i 0) ≡ true = sym q ∙ e in
          record {
            tokens =
                s.tokens ∙ ap (tokens_from (part at i line)) (drop-next i line h)
                ∙ named-byte (part at i line) (get_or line i 0) (drop (i + 1) line) n
                ∙ ap (λ (w : List ℕ). tokens_from w (drop (i + 1) line)) (sym (part-more at i line s.low h));
            named = rw (part-more at i line s.low h) (all_snoc name_byte (part at i line) (get_or line i 0) s.named n);
            low = omega (arith, s.low);
            high = omega arith;
          }

      pub word-stop : b ≡ false → WordEnd i at line
      word-stop e = record { tokens = s.tokens; named = s.named; low = s.low; high = s.high; ends = λ k. sym q ∙ e }

    pub word-last : (i : ℕ) → WordSoFar i → length line ≤ i → WordEnd (length line) at line
    word-last i s k =
        let e : i ≡ length line = omega (arith, s.high) in
        subst (λ (n : ℕ). WordEnd n at line) e (record { tokens = s.tokens; named = s.named; low = s.low; high = s.high; ends = λ h. absurd (omega arith) })

word-then : (w : List ℕ) (ts : List Token) → 1 ≤ length w → word_then w ts ≡ word w ∷ ts
unfolding word_then
word-then [] ts h = absurd (omega arith)
word-then (b ∷ bs) ts h = refl

-- a word that is done
word-done : (line : List ℕ) (to : ℕ) (w : List ℕ) → 1 ≤ length w → to ≤ length line
    → (to < length line → name_byte (get_or line to 0) ≡ false)
    → tokens_from w (drop to line) ≡ word w ∷ tokens_from [] (drop to line)
word-done line to w s h f = ⊎_elim at-end inside (le_or_lt (length line) to)
  where
    at-end : length line ≤ to → tokens_from w (drop to line) ≡ word w ∷ tokens_from [] (drop to line)
    at-end k =
        rw (drop_of_length-le line {i = to} k) (no_more w ∙ word-then w [] s ∙ ap (λ (ts : List Token). word w ∷ ts) (sym no_bytes))

    inside : to < length line → tokens_from w (drop to line) ≡ word w ∷ tokens_from [] (drop to line)
    inside k =
        let b : ℕ = get_or line to 0 in
        let bs : List ℕ = drop (to + 1) line in
        rw (drop-next to line k)
        (other_byte w b bs (f k) ∙ word-then w (sign_then b (tokens_from [] bs)) s
        ∙ ap (λ (ts : List Token). word w ∷ ts) (sym (other_byte [] b bs (f k) ∙ no_word (sign_then b (tokens_from [] bs)))))

module _ (line : List ℕ) (at from : ℕ) (s : SpacesEnd from at line) where
  pub token_end : length line ≤ from → tokens_from [] (drop at line) ≡ []
  token_end h = s.tokens ∙ rw (drop_of_length-le line {i = from} h) no_bytes

  module _ (h : from < length line) (b : Bool) (q : b ≡ name_byte (get_or line from 0)) where
    pub token_sign : b ≡ false → SignAt (get_or line from 0) (from + 1) at line
    token_sign e = record {
      tokens = s.tokens ∙ sign-step line from h (sym q ∙ e) (λ z. s.no_space z h);
      later = omega (arith, s.low);
      high = omega arith;
    }

    module _ (e : b ≡ true) (to : ℕ) (w : WordEnd to from line) where
      pub token_later : from < to
      token_later = ⊎_elim (λ k. same k) (λ k. k) (le_or_lt to from)
        where
          same : to ≤ from → from < to
          same k =
              let z : to ≡ from = omega (arith, w.low) in
              absurd (mathlib.Core.Bool.true≢false (sym e ∙ q ∙ ap (λ (n : ℕ). name_byte (get_or line n 0)) (sym z) ∙ w.ends (omega (arith, z))))

      long : length (part from to line) ≡ to - from
      long = length_part from to line w.high

      tokens-are : tokens_from [] (drop at line) ≡ word (part from to line) ∷ tokens_from [] (drop to line)
      tokens-are =
          s.tokens ∙ w.tokens
          ∙ word-done line to (part from to line) (omega (arith, long, token_later)) w.high w.ends

      pub token_long : 16 < to - from → SignAt 0 to at line
      token_long k = record {
        tokens = tokens-are ∙ ap (λ (t : Token). t ∷ tokens_from [] (drop to line)) (word-long (part from to line) (omega (arith, long)));
        later = omega (arith, s.low, token_later);
        high = w.high;
      }

      pub token_name : to - from ≤ 16 → NameAt from to at line
      token_name k = record {
        tokens = tokens-are ∙ ap (λ (t : Token). t ∷ tokens_from [] (drop to line)) (word-short (part from to line) (omega (arith, long)));
        is_name = record {
          named = record { bytes = w.named; some = omega (arith, long, token_later); short = omega (arith, long) };
          some = token_later;
          high = w.high;
          short = omega arith;
        };
        low = s.low;
      }
