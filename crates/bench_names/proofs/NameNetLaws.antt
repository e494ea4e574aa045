-- Names looked up by their keys, and the pins of a gate looked up one after the other.
use Rattle.model.proofs.Prelude.{ℕ, ◌≤◌, ◌<◌, ◌+◌, ◌≡◌, ◌∙◌, ap, refl, sym, subst, true, Bool, false, ◌&&◌, and-true, and_assoc, List, [], ◌∷◌, ◌++◌}
use Rattle.model.proofs.Prelude.{length, ltb, arith, lt-ltb, le-ltb}
use mir.Val.{Fits}
use mir.Syntax.{w64}
use Rattle.model.specs.Base.{all_of}
use Rattle.bench_lines.specs.LineReading.{part}
use Rattle.bench_lines.specs.Keys.{key_of, key_place}
use Rattle.bench_lines.specs.Stating.{PinIs}
use Rattle.bench_names.specs.NameNets.{name_place, pair_net, key_net, key_known, NamesRoom, PinsJudged}
use Rattle.bench_lines.specs.declared.inner.keys.NameKey.{NameKey}
use Rattle.bench_lines.proofs.PinWalkLaws.{PinsBetween, pins-start, pins-all, pins-stop, pins-more}
use Rattle.bench_lines.proofs.KeyLaws.{key_top}
use Rattle.std.specs.Prelude.{Option, Some, None}
use Rattle.bench_lines.specs.declared.inner.statements.PinPart.{PinPart}

module _ (is : List ℕ) (i : ℕ) (gs : List ℕ) (g : ℕ) (x : List ℕ) where
  pub net-first : name_place is i x < i → key_net is i gs g x ≡ name_place is i x
  unfolding key_net
  net-first h = rw (lt-ltb (name_place is i x) i h, key_net) refl

  pub net-second : i ≤ name_place is i x → key_net is i gs g x ≡ i + name_place gs g x
  unfolding key_net
  net-second h = rw (le-ltb (name_place is i x) i h, key_net) refl

  pub net-of : (key : NameKey) (net : ℕ) → key ≡ key_of x → net ≡ pair_net is i gs g key.low key.high
      → net ≡ key_net is i gs g x
  unfolding pair_net key_net name_place
  net-of key net e q = q ∙ ap (λ (k : NameKey). pair_net is i gs g k.low k.high) e

-- ---- the net of a key

module _ (is : List ℕ) (i : ℕ) (gs : List ℕ) (g low high p : ℕ) (e : p ≡ key_place low high i 0 is) where
  pub pair-in : p < i → p ≡ pair_net is i gs g low high
  unfolding pair_net
  pair-in h = e ∙ sym (rw (lt-ltb (key_place low high i 0 is) i (subst (λ (n : ℕ). n < i) e h), pair_net) refl)

  pub pair-out : (a : ℕ) → a ≡ key_place low high g 0 gs → i ≤ p → i + a ≡ pair_net is i gs g low high
  unfolding pair_net
  pair-out a q h =
      ap (λ (n : ℕ). i + n) q
      ∙ sym (rw (le-ltb (key_place low high i 0 is) i (subst (λ (n : ℕ). i ≤ n) e h), pair_net) refl)

pub net-fits : (is : List ℕ) (i : ℕ) (gs : List ℕ) (g low high a : ℕ) → NamesRoom is i gs g
    → a ≡ key_place low high g 0 gs → Fits w64 (i + a)
net-fits is i gs g low high a room e = record {
  fits = omega (arith, e, key_top low high g 0 gs, room.few_inputs, room.few_gates);
}

-- ---- the pins of a gate

all_more : (P : List ℕ → Bool) (xs : List (List ℕ)) (y : List ℕ) → all_of P (xs ++ (y ∷ [])) ≡ (all_of P xs && P y)
all_more P [] y = and-true (P y)
all_more P (x ∷ xs) y = ap (λ (b : Bool). P x && b) (all_more P xs y) ∙ sym (and_assoc (P x) (all_of P xs) (P y))

-- The pins so far: their names, and whether all are known
module _ (line : List ℕ) (at : ℕ) (is : List ℕ) (i : ℕ) (gs : List ℕ) (g : ℕ) where
  pub record KnownSoFar (place : ℕ) (more known : Bool) : Type 0 where
    pub names : List (List ℕ)
    pub pins : PinsBetween line at place more names
    pub all : known ≡ all_of (key_known is i gs g) names

  pub known_start : at ≤ length line → KnownSoFar at true true
  known_start h = record { names = []; pins = pins-start h; all = refl }

  module _ (place : ℕ) (more known : Bool) (s : KnownSoFar place more known) where
    pub known-inside : place ≤ length line
    known-inside = s.pins.inside

    pub known-end : more ≡ false → PinsJudged known at line is i gs g
    known-end m = record { known = λ x k ys e. s.all ∙ ap (all_of (key_known is i gs g)) (pins-all s.pins m x k ys e) }

    module _ (p : Option PinPart) (t : PinIs p place line) (m : more ≡ true) where
      pub known-stop : (r : Bool) → p ≡ None → PinsJudged r at line is i gs g
      known-stop r e = record { known = λ x k ys q. pins-stop s.pins m t e x k ys q }

      pub known-again : (r : PinPart) → p ≡ Some r
          → (net : ℕ) (b : Bool) → net ≡ key_net is i gs g (part r.from r.to line) → b ≡ known && ltb net (i + g) → KnownSoFar r.next r.more b
      unfolding key_known
      known-again r e net b n q = record {
        names = s.names ++ (part r.from r.to line ∷ []);
        pins = pins-more s.pins m t e;
        all = q ∙ rw (s.all, n) (sym (all_more (key_known is i gs g) s.names (part r.from r.to line)));
      }
