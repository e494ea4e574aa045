-- One edge of a block: what the pass over the gates tells of each record.
use Rattle.model.proofs.Prelude.{ℕ, ◌≤◌, ◌<◌, ◌+◌, ◌*◌, suc, zero, ◌≡◌, ◌∙◌, ap, refl, sym, ap₂, ⊎_elim, ◌&&◌, List, ◌∷◌, length, get_or, drop, take}
use Rattle.model.proofs.Prelude.{replicate, drop-cons, leb, ltb, zero-add, arith}
use Rattle.model.specs.Base.{bit, numbers_from}
use Rattle.model.specs.Netlist.{Netlist, output_net}
use Rattle.model.specs.Path.{Edge}
use Rattle.model.specs.Detect.{Test, has_edge}
use Rattle.model.proofs.BoolLaws.{lt-false, le_or_lt}
use Rattle.model.proofs.NumberLaws.{output-net}
use Rattle.model.proofs.ListLaws.{zeros-at}
use Rattle.block_words.specs.Words.{words_at}
use Rattle.detection.specs.Cases.{case_of}
use Rattle.block_words.specs.Block.{InputBits, LiveWords, live_net}
use Rattle.block_words.specs.Lists.{EmptyLists, ListsTrue}
use Rattle.block_words.specs.Table.{CircuitTable}
use Rattle.block_words.proofs.GateTableLaws.{well}
use Rattle.block_transpose.specs.Vectors.{Transposed}
use Rattle.block_activity.specs.Marks.{OffsetTable, VectorsOf, live_output, ListedEdge, entries_of}
use Rattle.block_activity.specs.EdgeMarks.{OutsAre}
use Rattle.block_words.specs.Layout.{list_size, lists_size}
use Rattle.block_activity.specs.Layout.{out_at}

-- the words at places one after the other are a part of the list
words-part : (list : List ℕ) (at n : ℕ) → at + n ≤ length list → take n (drop at list) ≡ words_at list (numbers_from at n)
words-part list at zero h = refl
words-part list at (suc n) h =
    ap (take (suc n)) (drop-cons list at 0 (omega arith)) ∙ ap {B = List ℕ} (λ xs. get_or list at 0 ∷ xs) (words-part list (suc at) n (omega arith))

-- new lists are empty
pub no-entries : (list : List ℕ) → lists_size ≤ length list → EmptyLists list (replicate 64 0)
no-entries list h = record { places = h; records = refl; empty = λ t l. zeros-at 64 t }

-- the words of the inputs are the vectors, transposed
pub input-bits : {N : Netlist} {tests : ℕ → Test} {n inputs : ℕ} {vectors firsts lasts : List ℕ} → inputs ≡ N.inputs → VectorsOf N tests n vectors
    → Transposed vectors 0 n inputs firsts → Transposed vectors 64 n inputs lasts → InputBits tests n inputs firsts lasts
input-bits {N} {tests} {n} {inputs} {vectors} e v s₁ s₂ = record {
  first = λ j t h l. s₁.bits j h t l ∙ ap (λ k. bit (get_or vectors k 0) j) (zero-add t) ∙ v.first t j l (omega arith);
  last = λ j t h l. s₂.bits j h t l ∙ v.second t j l (omega arith);
}

-- the live outputs of a record, from the live words
module _ {N : Netlist} {table offsets : List ℕ} {inputs netCount outputs : ℕ} (c : CircuitTable N table inputs netCount) (p : OffsetTable N offsets)
    (q : length N.outputs ≡ outputs) {tests : ℕ → Test} {e : Edge} {n : ℕ} (few : n ≤ 64) {live outs : List ℕ} (x : LiveWords N tests e n netCount live)
    (a : OutsAre offsets inputs outputs live outs) where
  shown : (t o : ℕ) → t < n → o < outputs
      → (leb inputs (out_at offsets o) && bit (get_or live (out_at offsets o) 0) t) ≡ (leb N.inputs (output_net N o) && live_net (case_of N (tests t) e) (output_net N o))
  shown t o h l =
      let k : o < length N.outputs = omega arith in
      ap₂ (λ i m. leb i m && bit (get_or live m 0) t) c.inputs_are (p.out_net o k)
      ∙ ap (λ b. leb N.inputs (output_net N o) && b) (x.words (output_net N o) (omega (arith, c.nets_are, output-net N (well c) o k)) t h)

  outs-true : (t : ℕ) → t < n → (o : ℕ) → o < 64 → bit (get_or outs t 0) o ≡ live_output (case_of N (tests t) e) o
  outs-true t h o l =
      let rest = leb N.inputs (output_net N o) && live_net (case_of N (tests t) e) (output_net N o) in
      let here = leb inputs (out_at offsets o) && bit (get_or live (out_at offsets o) 0) t in
      a.bits t o (omega arith) l
      ∙ ⊎_elim
      (λ (m : suc o ≤ outputs). ap (λ b. ltb o outputs && b) (shown t o h m))
      (λ (m : outputs < suc o). ap (λ b. b && here) (lt-false (suc o) outputs m) ∙ ap (λ b. b && rest) (sym (lt-false (suc o) outputs m)))
      (le_or_lt (suc o) outputs)
      ∙ ap (λ k. ltb o k && rest) (sym q)

  -- a record's list and live outputs, by the numbers in its marks
  pub listed-edge : {list lens : List ℕ} → ListsTrue N tests e n list lens → (t len : ℕ) {outputBits edges : ℕ} → t < n → len ≡ get_or lens t 0
      → list_size * t + len ≤ length list → outputBits ≡ get_or outs t 0 → ((j : ℕ) → j < N.inputs → bit edges j ≡ has_edge (tests t) e j)
      → ListedEdge (case_of N (tests t) e) (entries_of list len t) edges outputBits
  listed-edge {list} {lens} z t len h l room b f = record {
    list = words-part list (list_size * t) len room ∙ ap (λ k. words_at list (numbers_from (list_size * t) k)) l ∙ z.lists t h;
    makes_edge = f;
    outs_are = λ o m. ap (λ w. bit w o) b ∙ outs-true t h o m;
  }
