-- The records of the outputs written one after the other.
use Rattle.model.proofs.Prelude.{ℕ, ◌≤◌, ◌<◌, ◌+◌, ◌-◌, suc, zero, ◌≡◌, ◌∙◌, ap, refl, sym, true, Bool, false, List, [], ◌∷◌, ◌++◌, length, get_or}
use Rattle.model.proofs.Prelude.{length-append, sets, length-sets, ltb, sub-one, arith}
use Rattle.model.specs.Base.{little_endian}
use Rattle.model.specs.Encode.{output_bytes}
use Rattle.record_bytes.proofs.ByteLaws.{sets_append}
use Rattle.bench_lines.specs.Keys.{key_place}
use Rattle.bench_outputs.specs.OutputWriting.{BytesPut, one_output, key_outputs}

-- ---- outputs

module _ (out : List ℕ) (p net : ℕ) (listed : Bool) where
  pub output-yes : (out₁ out₂ : List ℕ) → listed ≡ true → out₁ ≡ sets out p (little_endian 2 0x554F)
      → out₂ ≡ sets out₁ (p + 2) (little_endian 2 net) → BytesPut (p + 4) out out₂ p (one_output listed net)
  unfolding one_output output_bytes
  output-yes out₁ out₂ e a b =
      let q : one_output listed net ≡ output_bytes net = ap (λ (x : Bool). one_output x net) e in
      record {
        put = b ∙ ap (λ (o : List ℕ). sets o (p + 2) (little_endian 2 net)) a
            ∙ sets_append (0x4F ∷ 0x55 ∷ []) (little_endian 2 net) out p (p + 2) (omega arith) ∙ ap (sets out p) (sym q);
        next = omega (arith, ap length q);
      }

  pub output-no : listed ≡ false → BytesPut p out out p (one_output listed net)
  unfolding one_output
  output-no e =
      let q : one_output listed net ≡ [] = ap (λ (x : Bool). one_output x net) e in
      record { put = ap (sets out p) (sym q); next = omega (arith, ap length q) }

  output-room : listed ≡ true → p + length (one_output listed net) ≤ length out → p + 4 ≤ length out
  unfolding one_output output_bytes
  output-room e h =
      let q : one_output listed net ≡ output_bytes net = ap (λ (x : Bool). one_output x net) e in
      omega (arith, ap length q)

  pub output-first : listed ≡ true → p + length (one_output listed net) ≤ length out → p + 2 ≤ length out
  output-first e h = omega (arith, output-room e h)

  pub output-second : listed ≡ true → p + length (one_output listed net) ≤ length out → (out₁ : List ℕ)
      → out₁ ≡ sets out p (little_endian 2 0x554F) → p + 2 + 2 ≤ length out₁
  output-second e h out₁ a = omega (arith, output-room e h, ap length a, length-sets out p (little_endian 2 0x554F))

module _ (out₀ : List ℕ) (p : ℕ) (ws : List ℕ) (n first : ℕ) (os : List ℕ) (o : ℕ) where
  pub record OutputsLeft (out : List ℕ) (write left at net : ℕ) : Type 0 where
    pub put : sets out write (key_outputs os o ws left at net) ≡ sets out₀ p (key_outputs os o ws n 0 first)
    pub next : write + length (key_outputs os o ws left at net) ≡ p + length (key_outputs os o ws n 0 first)
    pub same : length out ≡ length out₀

  pub outputs-start : OutputsLeft out₀ p n 0 first
  outputs-start = record { put = refl; next = refl; same = refl }

  module _ (out : List ℕ) (write left at net : ℕ) (s : OutputsLeft out write left at net) where
    pub outputs-same : length out ≡ length out₀
    outputs-same = s.same

    pub outputs-end : left ≤ 0 → BytesPut write out₀ out p (key_outputs os o ws n 0 first)
    unfolding key_outputs
    outputs-end h =
        let z : left ≡ 0 = omega arith in
        let b : key_outputs os o ws left at net ≡ [] = ap (λ (k : ℕ). key_outputs os o ws k at net) z in
        record { put = sym (ap (sets out write) b) ∙ s.put; next = omega (arith, ap length b, s.next) }

    module _ (h : 0 < left) (place : ℕ) (e : place ≡ key_place (get_or ws at 0) (get_or ws (at + 1) 0) o 0 os) where
      abbrev later : List ℕ
      later = key_outputs os o ws (left - 1) (at + 2) (net + 1)

      split : key_outputs os o ws left at net ≡ one_output (ltb place o) net ++ later
      unfolding key_outputs
      split = go left h
        where
          go : (left : ℕ) → 0 < left → key_outputs os o ws left at net
              ≡ one_output (ltb place o) net ++ key_outputs os o ws (left - 1) (at + 2) (net + 1)
          go zero h = absurd (omega arith)
          go (suc left) h = rw (sub-one (suc left), e) refl

      pub outputs-room : p + length (key_outputs os o ws n 0 first) ≤ length out₀
          → write + length (one_output (ltb place o) net) ≤ length out
      outputs-room r =
          omega (arith, s.next, s.same, ap length split, length-append (one_output (ltb place o) net) later)

      pub outputs-again : (r : ℕ) (out' : List ℕ) → BytesPut r out out' write (one_output (ltb place o) net)
          → OutputsLeft out' r (left - 1) (at + 2) (net + 1)
      outputs-again r out' b =
          let x = one_output (ltb place o) net in
          let y = later in
          record {
            put = ap (λ (q : List ℕ). sets q r y) b.put ∙ sets_append x y out write r b.next
                ∙ ap (sets out write) (sym split) ∙ s.put;
            next = omega (arith, b.next, s.next, ap length split, length-append x y);
            same = ap length b.put ∙ length-sets out write x ∙ s.same;
          }
