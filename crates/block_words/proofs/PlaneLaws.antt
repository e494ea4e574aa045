-- One of the words of each net: what stands at a net's place.
use Rattle.model.proofs.Prelude.{ℕ, ◌<◌, ◌+◌, ◌*◌, ◌≡◌, ◌∙◌, ap, sym, List, map, get_or, arith}
use Rattle.model.specs.Base.{numbers_from}
use Rattle.model.proofs.ListLaws.{get_d_map-in, length-numbers_from, numbers_from-at}
use Rattle.block_words.specs.Words.{pin_word, PinPlace}
use Rattle.block_words.specs.NetStates.{plane}
use Rattle.block_words.specs.declared.inner.gates.Gate.{Gate}

-- of any number of nets: 512 would be written out
among : (f : ℕ → ℕ) (n net : ℕ) → net < n → get_or (map f (numbers_from 0 n)) net 0 ≡ f net
among f n net h =
    let at : get_or (numbers_from 0 n) net 0 ≡ net = omega (arith, numbers_from-at n 0 net h) in
    get_d_map-in f (numbers_from 0 n) net 0 0 (omega (arith, length-numbers_from 0 n)) ∙ ap f at

pub plane-at : (i net : ℕ) (words : List ℕ) → net < 512 → get_or (plane i words) net 0 ≡ get_or words (8 * net + i) 0
plane-at i net words h = among (λ n. get_or words (8 * n + i) 0) 512 net h

-- the first word of a net stands at place 8 n
pub plane-first : (net : ℕ) (words : List ℕ) → net < 512 → get_or (plane 0 words) net 0 ≡ get_or words (8 * net) 0
plane-first net words h = plane-at 0 net words h ∙ ap (λ j. get_or words j 0) (none (8 * net))
  where
    none : (a : ℕ) → a + 0 ≡ a
    none a = omega arith

-- the words of the net at a pin
module _ {table : List ℕ} {g : Gate} {p at : ℕ} (h : PinPlace table g p at) (words : List ℕ) where
  few : get_or table (g.first + p) 0 < 512
  few = omega (arith, h.place, h.inside)

  pub pin-first : pin_word table g (plane 0 words) p ≡ get_or words at 0
  pin-first = plane-first (get_or table (g.first + p) 0) words few ∙ ap (λ j. get_or words j 0) (sym h.place)

  pub pin_at : (i : ℕ) → pin_word table g (plane i words) p ≡ get_or words (at + i) 0
  pin_at i = plane-at i (get_or table (g.first + p) 0) words few ∙ ap (λ j. get_or words (j + i) 0) (sym h.place)
