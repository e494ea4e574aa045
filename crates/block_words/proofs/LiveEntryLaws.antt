-- The lists of live gates with one gate more: from the active words of its pins, for one edge.
use Rattle.model.proofs.Prelude.{ℕ, ◌≤◌, ◌<◌, ◌+◌, ◌-◌, ◌*◌, suc, zero, ◌≡◌, ◌∙◌, ap, refl, sym, ap₂, true, Bool, false, ◌&&◌, List, [], ◌∷◌, ◌++◌}
use Rattle.model.proofs.Prelude.{map, length, get_or, arith}
use Rattle.model.specs.Base.{bit, any_of, numbers_from}
use Rattle.model.specs.Netlist.{Netlist, nets, pins_of, pin_net}
use Rattle.model.specs.Path.{Edge}
use Rattle.model.specs.Detect.{Test, open_pin}
use Rattle.model.proofs.WellFormed.{WellFormed}
use Rattle.model.proofs.ListLaws.{any_map}
use Rattle.block_words.specs.Words.{WordIs, bits_at, words_at, first_words, GateIs}
use Rattle.block_words.specs.Table.{GateRow}
use Rattle.detection.specs.Cases.{Case, case_of}
use Rattle.block_words.specs.Block.{live_net, active_pin, LiveWords}
use Rattle.gate_packed_pins.specs.Packed.{pack_bits}
use Rattle.block_words.specs.Lists.{keep_if, keep, gate_entry, live_entries, entries, push_if, entry_of, Pushed}
use Rattle.block_words.specs.NetStates.{EdgeActive}
use Rattle.block_words.specs.declared.inner.gates.Gate.{Gate}
use Rattle.block_words.proofs.LiveLaws.{live-gate}
use Rattle.block_words.proofs.GateTableLaws.{count-is, pin-is, lower}

-- one number more
numbers_more : (m k : ℕ) → numbers_from k (m + 1) ≡ numbers_from k m ++ ((k + m) ∷ [])
numbers_more zero k = let z : k ≡ k + 0 = omega arith in ap (λ x. x ∷ []) z
numbers_more (suc m) k =
    let z : suc m + 1 ≡ suc (m + 1) = omega arith in
    let y : suc k + m ≡ k + suc m = omega arith in
    ap (λ j. numbers_from k j) z ∙ ap (λ (xs : List ℕ). k ∷ xs) (numbers_more m (suc k) ∙ ap (λ j. numbers_from (suc k) m ++ (j ∷ [])) y)

keep-more : (g : ℕ → ℕ) (f : ℕ → Bool) (xs : List ℕ) (y : ℕ) → map g (keep f (xs ++ (y ∷ []))) ≡ push_if (f y) (g y) (map g (keep f xs))
keep-more g f [] y = one (f y)
  where
    one : (b : Bool) → map g (keep_if b y []) ≡ push_if b (g y) []
    one true = refl
    one false = refl
keep-more g f (x ∷ xs) y = two (f x) (f y) (keep f (xs ++ (y ∷ []))) (keep-more g f xs y)
  where
    two : (a b : Bool) (zs : List ℕ) → map g zs ≡ push_if b (g y) (map g (keep f xs)) → map g (keep_if a x zs) ≡ push_if b (g y) (map g (keep_if a x (keep f xs)))
    two true true zs e = ap (λ (l : List ℕ). g x ∷ l) e
    two true false zs e = ap (λ (l : List ℕ). g x ∷ l) e
    two false b zs e = e

entries-more : (K : Case) (m : ℕ)
    → live_entries K (m + 1) ≡ push_if (live_net K (K.netlist.inputs + m)) (gate_entry K (K.netlist.inputs + m)) (live_entries K m)
unfolding live_entries
entries-more K m =
    let first = K.netlist.inputs in
    ap (λ ns. map (gate_entry K) (keep (live_net K) ns)) (numbers_more m first) ∙ keep-more (gate_entry K) (live_net K) (numbers_from first m) (first + m)

-- a row of words, bit t of each
row-bits : (rows : List ℕ) (g : ℕ → Bool) (t m k : ℕ) → ((p : ℕ) → k ≤ p → p < k + m → bit (get_or rows p 0) t ≡ g p)
    → bits_at (words_at rows (numbers_from k m)) t ≡ map g (numbers_from k m)
row-bits rows g t zero k h = refl
row-bits rows g t (suc m) k h =
    ap₂ (λ x (xs : List Bool). x ∷ xs) (h k (omega arith) (omega arith)) (row-bits rows g t m (suc k) (λ p a b. h p (omega arith) (omega arith)))

-- the list of each record has its live gates before `net`
pub record ListedTo (N : Netlist) (tests : ℕ → Test) (e : Edge) (n net : ℕ) (list lens : List ℕ) : Type 0 where
  pub lists : (t : ℕ) → t < n → entries list lens t ≡ live_entries (case_of N (tests t) e) (net - N.inputs)

-- the gate of `net`, from the open words of its pins and the live words of the nets before
module _ {N : Netlist} {table : List ℕ} {net : ℕ} {g : Gate} (w : WellFormed N) (low : N.inputs ≤ net) (high : net < nets N) (r : GateRow N table net)
    (i : GateIs table net g) {tests : ℕ → Test} {e : Edge} {n : ℕ} {opens : ℕ → ℕ}
    (o : (p : ℕ) → p < length (pins_of N net) → WordIs (opens p) (λ t. open_pin N (tests t) net p) n) {live : List ℕ} (x : LiveWords N tests e n net live)
    {rows : List ℕ} {word : ℕ} (a : EdgeActive table g opens live rows word) where
  pin-bit : (t : ℕ) → t < n → (p : ℕ) → p < length (pins_of N net) → bit (get_or rows p 0) t ≡ active_pin (case_of N (tests t) e) net p
  unfolding active_pin
  pin-bit t h p l =
      a.each p (omega (arith, count-is w low high r i)) t
      ∙ ap₂ (λ y z. y && z) (o p l t h)
      (ap (λ q. bit (get_or live q 0) t) (pin-is w low high r i p l) ∙ x.words (pin_net N net p) (lower w low high r i p l) t h)

  active-row : (t : ℕ) → t < n → bits_at (first_words rows g.pins) t ≡ map (active_pin (case_of N (tests t) e) net) (numbers_from 0 (length (pins_of N net)))
  active-row t h =
      ap (λ m. bits_at (first_words rows m) t) (count-is w low high r i)
      ∙ row-bits rows (active_pin (case_of N (tests t) e) net) t (length (pins_of N net)) 0 (λ p l m. pin-bit t h p (omega arith))

  pub live-true : WordIs word (λ t. live_net (case_of N (tests t) e) net) n
  live-true t h =
      a.some t ∙ ap (λ (vs : List Bool). any_of (λ v. v) vs) (active-row t h)
      ∙ sym (any_map (λ v. v) (active_pin (case_of N (tests t) e) net) (numbers_from 0 (length (pins_of N net)))) ∙ sym (live-gate (case_of N (tests t) e) w net low high)

  entry-true : (t : ℕ) → t < n → entry_of net rows g.pins t ≡ gate_entry (case_of N (tests t) e) net
  unfolding gate_entry
  entry-true t h = ap (λ (vs : List Bool). 256 * net + pack_bits vs) (active-row t h)

  pub listed_more : n ≤ 64 → {list lens list' lens' : List ℕ} → Pushed list lens list' lens' (λ t. bit word t) (entry_of net rows g.pins)
      → ListedTo N tests e n net list lens → ListedTo N tests e n (net + 1) list' lens'
  listed_more few {list} {lens} p y =
      let m : net + 1 - N.inputs ≡ (net - N.inputs) + 1 = omega arith in
      let k : N.inputs + (net - N.inputs) ≡ net = omega arith in
      record {
        lists = λ t h.
            p.lists t (omega arith) ∙ ap (λ v. push_if (bit word t) v (entries list lens t)) (entry-true t h)
            ∙ ap₂ (λ v (u : List ℕ). push_if v (gate_entry (case_of N (tests t) e) net) u) (live-true t h) (y.lists t h)
            ∙ ap (λ j. push_if (live_net (case_of N (tests t) e) j) (gate_entry (case_of N (tests t) e) j) (live_entries (case_of N (tests t) e) (net - N.inputs))) (sym k)
            ∙ sym (entries-more (case_of N (tests t) e) (net - N.inputs)) ∙ ap (λ j. live_entries (case_of N (tests t) e) j) (sym m);
      }
