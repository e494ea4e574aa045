-- The record of a gate written: its pins one after the other, then the whole.
use Rattle.model.proofs.Prelude.{ℕ, ◌≤◌, ◌<◌, ◌+◌, ◌*◌, ◌^◌, ◌%◌, ◌≡◌, ◌∙◌, ap, refl, sym, ap₂, true, Bool, false, List, [], ◌∷◌, ◌++◌, map, length}
use Rattle.model.proofs.Prelude.{length-append, length-map, sets, length-sets, arith}
use mir.Val.{Fits}
use mir.Syntax.{w64}
use Rattle.model.specs.Base.{little_endian}
use Rattle.model.specs.Encode.{net_bytes, gate_bytes}
use Rattle.record_bytes.proofs.ByteLaws.{sets_append}
use Rattle.bench_lines.specs.LineReading.{part, rest_at}
use Rattle.bench_lines.specs.Stating.{PinIs}
use Rattle.bench_names.specs.NameNets.{key_net}
use Rattle.bench_text.specs.FileWriting.{PinsThere, PinsPut, GatePut}
use Rattle.bench_lines.specs.declared.inner.statements.GateParts.{GateParts}
use Rattle.bench_lines.proofs.KindLaws.{pins-say}
use Rattle.bench_lines.proofs.PinWalkLaws.{PinsBetween, pins-start, pins-all, pins-going, pins-stop, pins-more}
use Rattle.bench_text.proofs.BytesLaws.{length-nets}
use Rattle.std.specs.Prelude.{Option, Some, None}
use Rattle.bench_lines.specs.declared.inner.statements.PinPart.{PinPart}

-- ---- pins

nets-more : (ns : List ℕ) (n : ℕ) → net_bytes (ns ++ (n ∷ [])) ≡ net_bytes ns ++ little_endian 2 n
unfolding net_bytes
nets-more [] n = refl
nets-more (m ∷ ns) n = ap (λ (l : List ℕ). little_endian 2 m ++ l) (nets-more ns n)

map_more : (f : List ℕ → ℕ) (xs : List (List ℕ)) (y : List ℕ) → map f (xs ++ (y ∷ [])) ≡ map f xs ++ (f y ∷ [])
map_more f [] y = refl
map_more f (x ∷ xs) y = ap (λ (l : List ℕ). f x ∷ l) (map_more f xs y)

-- The pins so far: their names, and their nets in the buffer
module _ (out₀ : List ℕ) (p : ℕ) (line : List ℕ) (at : ℕ) (is : List ℕ) (i : ℕ) (gs : List ℕ) (g : ℕ) where
  pub record PutSoFar (out : List ℕ) (write place : ℕ) (more : Bool) : Type 0 where
    pub names : List (List ℕ)
    pub pins : PinsBetween line at place more names
    pub written : out ≡ sets out₀ p (net_bytes (map (key_net is i gs g) names))
    pub next : write ≡ p + 2 * length names

  pub put-start : (pins : ℕ) → PinsThere line at pins → PutSoFar out₀ p at true
  unfolding net_bytes PinsThere
  put-start pins t = record { names = []; pins = pins-start t.inside; written = refl; next = omega arith }

  module _ (out : List ℕ) (write place : ℕ) (more : Bool) (s : PutSoFar out write place more) where
    pub put-inside : place ≤ length line
    put-inside = s.pins.inside

    pub put-length : length out ≡ length out₀
    put-length = ap length s.written ∙ length-sets out₀ p (net_bytes (map (key_net is i gs g) s.names))

    pub put-end : more ≡ false → PinsPut out₀ out p line at is i gs g
    put-end m = record {
      put = λ x k ys e. s.written ∙ ap (λ (l : List (List ℕ)). sets out₀ p (net_bytes (map (key_net is i gs g) l))) (pins-all s.pins m x k ys e);
    }

    pub put-room : (pins : ℕ) → more ≡ true → PinsThere line at pins → p + 2 * pins ≤ length out₀
        → write + 2 ≤ length out
    unfolding PinsThere
    put-room pins m w r =
        let more-pins = sym (pins-going s.pins m w.x w.k) ∙ w.reads in
        let z = pins-say w.x w.k s.names (rest_at place line) w.x w.k w.ys more-pins in
        omega (arith, z.more, w.count, s.next, put-length)

    pub put-fits : (pins : ℕ) → more ≡ true → PinsThere line at pins → p + 2 * pins ≤ length out₀ → length out₀ < 2 ^ 64
        → Fits w64 (write + 2)
    put-fits pins m w r l = record { fits = omega (arith, put-room pins m w r, put-length) }

    module _ (q : Option PinPart) (t : PinIs q place line) (m : more ≡ true) where
      pub put-stop : (out' : List ℕ) → q ≡ None → PinsPut out₀ out' p line at is i gs g
      put-stop out' e = record { put = λ x k ys r. pins-stop s.pins m t e x k ys r }

      pub put-again : (r : PinPart) → q ≡ Some r
          → (net : ℕ) (out' : List ℕ) → net ≡ key_net is i gs g (part r.from r.to line)
          → out' ≡ sets out write (little_endian 2 net) → PutSoFar out' (write + 2) r.next r.more
      put-again r e net out' n o =
          let y = part r.from r.to line in
          let net-of = key_net is i gs g in
          let old = map net-of s.names in
          let b = net_bytes old in
          let w : net_bytes (map net-of (s.names ++ (y ∷ []))) ≡ b ++ little_endian 2 (net-of y) =
          ap net_bytes (map_more net-of s.names y) ∙ nets-more old (net-of y) in
          let l : length b ≡ 2 * length s.names = omega (arith, length-nets old, length-map s.names net-of) in
          record {
            names = s.names ++ (part r.from r.to line ∷ []);
            pins = pins-more s.pins m t e;
            written = o ∙ ap₂ (λ (a : List ℕ) (k : ℕ). sets a write (little_endian 2 k)) s.written n
                ∙ sets_append b (little_endian 2 (net-of y)) out₀ p write (omega (arith, l, s.next))
                ∙ ap (sets out₀ p) (sym w);
            next = omega (arith, s.next, length-append s.names (part r.from r.to line ∷ []));
          }

-- ---- a gate

byte : (n : ℕ) → n ≤ 8 → little_endian 1 n ≡ n ∷ []
byte n h = let z : n % 256 ≡ n = omega arith in ap (λ (k : ℕ). k ∷ []) z

pub gate-put : (out out₁ out₂ out₃ out₄ : List ℕ) (p : ℕ) (line : List ℕ) (parts : GateParts) (is : List ℕ) (i : ℕ)
    (gs : List ℕ) (g : ℕ) → parts.kind ≤ 8 → parts.pins ≤ 8
    → out₁ ≡ sets out p (little_endian 2 0x5447) → out₂ ≡ sets out₁ (p + 2) (little_endian 1 parts.kind)
    → out₃ ≡ sets out₂ (p + 3) (little_endian 1 parts.pins)
    → PinsPut out₃ out₄ (p + 4) line parts.at is i gs g → GatePut out out₄ p line parts is i gs g
unfolding gate_bytes
gate-put out out₁ out₂ out₃ out₄ p line parts is i gs g hk hp e₁ e₂ e₃ pp = record {
  put = λ x k ys r c. whole parts.kind parts.pins hk hp e₂ e₃ (map (key_net is i gs g) ys) (pp.put x k ys r)
      (length-map ys (key_net is i gs g) ∙ c);
}
  where
    whole : (kind pins : ℕ) → kind ≤ 8 → pins ≤ 8 → out₂ ≡ sets out₁ (p + 2) (little_endian 1 kind)
        → out₃ ≡ sets out₂ (p + 3) (little_endian 1 pins) → (ns : List ℕ)
        → out₄ ≡ sets out₃ (p + 4) (net_bytes ns) → length ns ≡ pins
        → out₄ ≡ sets out p (0x47 ∷ 0x54 ∷ kind ∷ length ns ∷ net_bytes ns)
    whole kind pins hk hp e₂ e₃ ns e₄ c =
        let q₂ : out₂ ≡ sets out p ((0x47 ∷ 0x54 ∷ []) ++ (kind ∷ [])) =
        e₂ ∙ ap₂ (λ (o b : List ℕ). sets o (p + 2) b) e₁ (byte kind hk)
        ∙ sets_append (0x47 ∷ 0x54 ∷ []) (kind ∷ []) out p (p + 2) (omega arith) in
        let q₃ : out₃ ≡ sets out p ((0x47 ∷ 0x54 ∷ kind ∷ []) ++ (pins ∷ [])) =
        e₃ ∙ ap₂ (λ (o b : List ℕ). sets o (p + 3) b) q₂ (byte pins hp)
        ∙ sets_append (0x47 ∷ 0x54 ∷ kind ∷ []) (pins ∷ []) out p (p + 3) (omega arith) in
        e₄ ∙ ap (λ (o : List ℕ). sets o (p + 4) (net_bytes ns)) q₃
        ∙ sets_append (0x47 ∷ 0x54 ∷ kind ∷ pins ∷ []) (net_bytes ns) out p (p + 4) (omega arith)
        ∙ ap (λ (n : ℕ). sets out p (0x47 ∷ 0x54 ∷ kind ∷ n ∷ net_bytes ns)) (sym c)
