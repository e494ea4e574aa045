-- The lines of an edge's runs as the loop writes them: one run more, and the end.
use Rattle.model.proofs.Prelude.{ℕ, ◌≤◌, ◌<◌, ◌+◌, ◌-◌, ◌*◌, suc, ◌^◌, zero, ◌/◌, ◌≡◌, ◌∙◌, ap, refl, sym, subst, ap₂, List, [], ◌++◌, length, get_or}
use Rattle.model.proofs.Prelude.{length-append, sets, arith, rules}
use Rattle.model.specs.Path.{Edge, rising, falling}
use Rattle.model.specs.Runs.{Run}
use Rattle.model.specs.Store.{max_runs, runs_at, run_count, store_runs}
use Rattle.record_bytes.proofs.ByteLaws.{sets_append}
use Rattle.listing_text.specs.Listing.{run_lines}
use Rattle.run_lists.proofs.RunWordLaws.{runs-of_part}
use Rattle.store_words.specs.Sound.{SoundWords, edge_words}
use Rattle.store_words.proofs.RunPlaceLaws.{edge-words-runs, edge-words-fit}
use Rattle.text_buffer.specs.Written.{Written}
use Rattle.listing_lines.specs.ListingLines.{pair_text}
use Rattle.listing_lines.proofs.ListingLineLaws.{pair-length}
use Rattle.listing_text.specs.StoreText.{out_bytes, edge_bytes, runs_in}

module _ (letter words : List ℕ) (place left : ℕ) where
  -- the line of the run at a place
  abbrev pub run_text : List ℕ
  run_text = letter ++ pair_text (get_or words place 0) (get_or words (place + 1) 0)

  -- what is left to write
  abbrev pub runs_left : List ℕ
  runs_left = run_lines letter (runs_at words place left)

  pub run_length : length letter ≡ 2 → length run_text ≤ 44
  run_length h = simp length-append (omega (arith, simp length-append at (pair-length (get_or words place 0) (get_or words (place + 1) 0))))

runs-next : (letter words : List ℕ) (place left : ℕ) → 0 < left
    → runs_left letter words place left ≡ run_text letter words place left ++ runs_left letter words (place + 2) (left - 1)
unfolding run_lines
runs-next letter words place zero h = absurd (omega arith)
runs-next letter words place (suc left) h =
    let a : place + 1 ≡ suc place = omega arith in
    let b : place + 2 ≡ suc (suc place) = omega arith in
    let c : suc left - 1 ≡ left = omega arith in
    rw (c, a, b) refl

module _ (letter words out out' : List ℕ) (place left at r : ℕ) (h : 0 < left) (p : Written out out' at (run_text letter words place left) r) where
  pub runs-step : sets out' r (runs_left letter words (place + 2) (left - 1)) ≡ sets out at (runs_left letter words place left)
  runs-step =
      ap (λ (x : List ℕ). sets x r (runs_left letter words (place + 2) (left - 1))) p.bytes
      ∙ sets_append (run_text letter words place left) (runs_left letter words (place + 2) (left - 1)) out at r p.place
      ∙ sym (ap (λ (x : List ℕ). sets out at x) (runs-next letter words place left h))

  pub runs-bytes : r + length (runs_left letter words (place + 2) (left - 1)) ≡ at + length (runs_left letter words place left)
  runs-bytes =
      let line : List ℕ = run_text letter words place left in
      let rest : List ℕ = runs_left letter words (place + 2) (left - 1) in
      let whole : length (runs_left letter words place left) ≡ length (line ++ rest) = ap (length {A = ℕ}) (runs-next letter words place left h) in
      omega (arith, p.place, length-append line rest)

pub runs-end : (letter words : List ℕ) (place left : ℕ) → left ≤ 0 → runs_left letter words place left ≡ []
unfolding run_lines
runs-end letter words place zero h = refl
runs-end letter words place (suc left) h = absurd (omega arith)

-- the words of an edge's runs, as a store hands them out
module _ (ws R : List ℕ) (sound : SoundWords (2 ^ 62) ws) (e : Edge) (q : R ≡ edge_words ws e) where
  count-is : length R / 2 ≡ run_count ws e
  count-is = omega (arith, ap (length {A = ℕ}) q, edge-words-fit ws e sound.few)

  runs-are : runs_in R ≡ store_runs ws e
  runs-are =
      ap₂ (λ (l : List ℕ) (n : ℕ). runs_at l 0 n) q count-is
      ∙ sym (runs-of_part (edge_words ws e) 0 0 (run_count ws e))
      ∙ edge-words-runs ws e

  pub edge-lines : (letter out out' : List ℕ) (at r : ℕ) → Written out out' at (run_lines letter (runs_in R)) r → Written out out' at (run_lines letter (store_runs ws e)) r
  edge-lines letter out out' at r p = subst (λ (rs : List Run). Written out out' at (run_lines letter rs) r) runs-are p

  few : run_count ws e ≤ max_runs
  few = at_most e
    where
      at_most : (d : Edge) → run_count ws d ≤ max_runs
      at_most rising = sound.few.few_rising
      at_most falling = sound.few.few_falling

  -- they fit
  pub first-room : (out : List ℕ) → out_bytes ≤ length out → 0 + 44 * (length R / 2) ≤ length out
  first-room out h = omega (arith, count-is, few)

  pub edge-room : (out : List ℕ) (start : ℕ) → start + edge_bytes ≤ length out → start + 44 * (length R / 2) ≤ length out
  edge-room out start h = omega (arith, count-is, few)

  pub first-end : (r : ℕ) → r ≤ 0 + 44 * (length R / 2) → r ≤ edge_bytes
  first-end r h = omega (arith, count-is, few)

  pub edge-end : (r start : ℕ) → r ≤ start + 44 * (length R / 2) → r ≤ start + edge_bytes
  edge-end r start h = omega (arith, count-is, few)

pub ruleset edge-cases = (edge-lines, first-room, edge-room, first-end, edge-end, rules)
