-- A store's report in the parts that the code has: the head, then the words of each edge's runs.
use Rattle.model.proofs.Prelude.{ℕ, ◌≤◌, ◌+◌, ◌*◌, suc, ◌^◌, zero, ◌/◌, ◌≡◌, ◌∙◌, ap, refl, sym, ap₂, List, [], ◌∷◌, ◌++◌, length, get_or, drop, take}
use Rattle.model.proofs.Prelude.{length-append, drop-cons, arith}
use Rattle.model.specs.Base.{little_endian}
use Rattle.model.specs.Path.{Edge, rising, falling}
use Rattle.model.specs.Runs.{size}
use Rattle.model.specs.Store.{ByEdge, place_words, first_word, runs_at, run_count, store_runs, runs_by_edge}
use Rattle.model.specs.Report.{run_bytes, report_head, report_record, report_buffer_bytes}
use Rattle.model.proofs.StoreLaws.{length-runs_at}
use Rattle.store_words.specs.WordAnswers.{totals_in, totals_both}
use Rattle.store_words.specs.Sound.{FewRuns, SoundWords, edge_words}
use Rattle.store_words.specs.declared.inner.StoreTotals.{StoreTotals}
use Rattle.store_words.proofs.RunPlaceLaws.{edge-words-fit}
use Rattle.report_bytes.specs.Layout.{word_bytes, head_bytes}

pub length-words : (ws : List ℕ) → length (word_bytes ws) ≡ 8 * length ws
length-words [] = refl
length-words (w ∷ ws) = omega (arith, length-append (little_endian 8 w) (word_bytes ws), length-words ws)

-- words in pairs are runs
words_runs : (n at : ℕ) (ws : List ℕ) → at + 2 * n ≤ length ws → word_bytes (take (2 * n) (drop at ws)) ≡ run_bytes (runs_at ws at n)
words_runs zero at ws h = refl
words_runs (suc n) at ws h =
    let two : 2 * suc n ≡ suc (suc (2 * n)) = omega arith in
    let pair : drop at ws ≡ get_or ws at 0 ∷ get_or ws (suc at) 0 ∷ drop (suc (suc at)) ws =
    drop-cons ws at 0 (omega arith) ∙ ap {B = List ℕ} (λ l. get_or ws at 0 ∷ l) (drop-cons ws (suc at) 0 (omega arith)) in
    ap₂ (λ (k : ℕ) (l : List ℕ). word_bytes (take k l)) two pair
    ∙ ap (λ (l : List ℕ). little_endian 8 (get_or ws at 0) ++ (little_endian 8 (get_or ws (suc at) 0) ++ l)) (words_runs n (suc (suc at)) ws (omega arith))

module _ (ws : List ℕ) (few : FewRuns ws) where
  inside : (e : Edge) → first_word e + 2 * run_count ws e ≤ length ws
  inside rising = omega (arith, few.long, few.few_rising)
  inside falling = omega (arith, few.long, few.few_falling)

  edge-bytes : (e : Edge) → word_bytes (edge_words ws e) ≡ run_bytes (store_runs ws e)
  unfolding store_runs
  edge-bytes e = words_runs (run_count ws e) (first_word e) ws (inside e)

  edge_count : (e : Edge) → length (edge_words ws e) / 2 ≡ length (store_runs ws e)
  unfolding store_runs
  edge_count e =
      let two = edge-words-fit ws e few in
      let all = length-runs_at (run_count ws e) ws (first_word e) in
      omega (arith, two, all)

  module _ (tests paths : ℕ) (R F : List ℕ) (er : R ≡ edge_words ws rising) (ef : F ≡ edge_words ws falling) (t : StoreTotals) (q : totals_in t ≡ totals_both ws) where
    -- the head with the numbers that the code has
    abbrev pub head_of : List ℕ
    head_of = head_bytes tests paths (length R / 2) (length F / 2) t.rising t.falling

    pub report-parts : report_record tests paths (runs_by_edge ws) ≡ head_of ++ (word_bytes R ++ word_bytes F)
    unfolding report_record report_head head_bytes
    report-parts =
        let sums : size (store_runs ws rising) ≡ t.rising = sym (ap (λ (b : ByEdge ℕ). b.on_rising) q) in
        let sumf : size (store_runs ws falling) ≡ t.falling = sym (ap (λ (b : ByEdge ℕ). b.on_falling) q) in
        rw (er, ef, edge_count rising, edge_count falling, edge-bytes rising, edge-bytes falling, sums, sumf) refl

    pub length-head : length head_of ≡ 34
    unfolding head_bytes
    length-head = refl

    pub length_whole : length (report_record tests paths (runs_by_edge ws)) ≡ 34 + 8 * length R + 8 * length F
    length_whole =
        let a : length (report_record tests paths (runs_by_edge ws)) ≡ length (head_of ++ (word_bytes R ++ word_bytes F)) = ap (length {A = ℕ}) report-parts in
        omega (arith, a, length-append head_of (word_bytes R ++ word_bytes F), length-append (word_bytes R) (word_bytes F), length-head, length-words R, length-words F)

-- the words of an edge's runs are at most two for each place
pub edge_few : {ws R : List ℕ} → SoundWords (2 ^ 62) ws → (e : Edge) → R ≡ edge_words ws e → length R ≤ place_words
edge_few {ws} s rising q = omega (arith, ap (length {A = ℕ}) q, edge-words-fit ws rising s.few, s.few.few_rising)
edge_few {ws} s falling q = omega (arith, ap (length {A = ℕ}) q, edge-words-fit ws falling s.few, s.few.few_falling)

-- a report buffer has room for it
pub record_fits : (tests paths : ℕ) (ws : List ℕ) → FewRuns ws → length (report_record tests paths (runs_by_edge ws)) ≤ report_buffer_bytes
record_fits tests paths ws few =
    let t : StoreTotals = record { rising = size (store_runs ws rising); falling = size (store_runs ws falling) } in
    let whole = length_whole ws few tests paths (edge_words ws rising) (edge_words ws falling) refl refl t refl in
    omega (arith, whole, edge-words-fit ws rising few, edge-words-fit ws falling few, few.few_rising, few.few_falling)
