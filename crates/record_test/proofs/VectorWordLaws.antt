-- Two words written at their places, V1 of a record at place n and V2 at place 64 + n: the others are as before.
use Rattle.model.proofs.Prelude.{ℕ, ◌<◌, ◌+◌, ◌≡◌, ◌∙◌, List, length, get_or, set, length-set, get_or-set_same, get_or-set_other, arith}

module _ (vs : List ℕ) (n a b : ℕ) (room : length vs ≡ 128) (few : n < 64) where
  abbrev pub both : List ℕ
  both = set (set vs n a) (64 + n) b

  pub both-room : length both ≡ 128
  both-room = length-set (set vs n a) (64 + n) b ∙ length-set vs n a ∙ room

  pub new-first : get_or both n 0 ≡ a
  new-first =
      get_or-set_other (set vs n a) (64 + n) n b 0 (apart n) ∙ get_or-set_same vs n a 0 (omega arith)
    where
      apart : (n : ℕ) → n ≡ 64 + n → ⊥
      apart n e = omega arith

  pub new-second : get_or both (64 + n) 0 ≡ b
  new-second = get_or-set_same (set vs n a) (64 + n) b 0 (omega (arith, length-set vs n a))

  old-word : (t : ℕ) → (t ≡ n → ⊥) → (t ≡ 64 + n → ⊥) → get_or both t 0 ≡ get_or vs t 0
  old-word t p q = get_or-set_other (set vs n a) (64 + n) t b 0 q ∙ get_or-set_other vs n t a 0 p

  pub old-first : (t : ℕ) → t < n → get_or both t 0 ≡ get_or vs t 0
  old-first t h = old-word t (λ e. omega arith) (λ e. omega arith)

  pub old-second : (t : ℕ) → t < n → get_or both (64 + t) 0 ≡ get_or vs (64 + t) 0
  old-second t h = old-word (64 + t) (λ e. omega arith) (λ e. omega arith)
