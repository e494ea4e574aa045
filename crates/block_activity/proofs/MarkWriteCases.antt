-- The marks of an edge written record by record: three places for each.
use Rattle.model.proofs.Prelude.{ℕ, ◌≤◌, ◌<◌, ◌+◌, ◌-◌, ◌≡◌, ◌∙◌, ap, refl, subst, ◌&&◌, not, List, length, get_or, set, length-set, get_or-set_same}
use Rattle.model.proofs.Prelude.{get_or-set_other, arith}
use lib.Bits.{bit_and, bit_xor}
use Rattle.model.specs.Base.{bit}
use Rattle.record_bytes.proofs.BitLaws.{rise-bit}
use Rattle.block_activity.specs.EdgeMarks.{EdgeWritten}
use Rattle.block_activity.proofs.OneMoreLaws.{one_more}
use Rattle.block_activity.specs.Layout.{up_outs_at, up_lengths_at, marks_size}

-- three places set
module _ (ws : List ℕ) (a b c x y z : ℕ) where
  abbrev thrice : List ℕ
  thrice = set (set (set ws a x) b y) c z

  thrice-length : length thrice ≡ length ws
  thrice-length = length-set (set (set ws a x) b y) c z ∙ length-set (set ws a x) b y ∙ length-set ws a x

  elsewhere : (k : ℕ) → (k ≡ a → ⊥) → (k ≡ b → ⊥) → (k ≡ c → ⊥) → get_or thrice k 0 ≡ get_or ws k 0
  elsewhere k p q r = get_or-set_other (set (set ws a x) b y) c k z 0 r ∙ get_or-set_other (set ws a x) b k y 0 q ∙ get_or-set_other ws a k x 0 p

  at_first : a < length ws → a < b → b < c → get_or thrice a 0 ≡ x
  at_first l m n =
      get_or-set_other (set (set ws a x) b y) c a z 0 (λ e. omega arith) ∙ get_or-set_other (set ws a x) b a y 0 (λ e. omega arith) ∙ get_or-set_same ws a x 0 l

  at_second : b < length ws → b < c → get_or thrice b 0 ≡ y
  at_second l n = get_or-set_other (set (set ws a x) b y) c b z 0 (λ e. omega arith) ∙ get_or-set_same (set ws a x) b y 0 (omega (arith, length-set ws a x))

  at-third : c < length ws → get_or thrice c 0 ≡ z
  at-third l = get_or-set_same (set (set ws a x) b y) c z 0 (omega (arith, length-set ws a x, length-set (set ws a x) b y))

module _ (vectors outs lens before : List ℕ) (n first : ℕ) where
  pub write_start : EdgeWritten vectors 0 first outs lens before before
  write_start = record {
    same_length_of = refl;
    edges = λ t j h. absurd (omega arith);
    outs_at = λ t h. absurd (omega arith);
    lens_at = λ t h. absurd (omega arith);
    others = λ k o. refl;
  }

  module _ {after : List ℕ} {t : ℕ} (x : EdgeWritten vectors t first outs lens before after) (room : length before ≡ marks_size) (low : first ≤ 64) (few : n ≤ 64) (l : t < n) where
    abbrev written : List ℕ
    written = thrice after (first + t) (up_outs_at + first + t) (up_lengths_at + first + t)
        (bit_and (bit_xor (get_or vectors (first + t) 0) (get_or vectors (64 - first + t) 0)) (get_or vectors (64 - first + t) 0))
        (get_or outs t 0) (get_or lens t 0)

    kept : (k : ℕ) → (k ≡ first + t → ⊥) → (k ≡ up_outs_at + first + t → ⊥) → (k ≡ up_lengths_at + first + t → ⊥) → get_or written k 0 ≡ get_or after k 0
    kept k p q r = elsewhere after (first + t) (up_outs_at + first + t) (up_lengths_at + first + t) _ _ _ k p q r

    pub write_step : EdgeWritten vectors (t + 1) first outs lens before written
    write_step =
        let long = x.same_length_of in
        record {
          same_length_of = thrice-length after (first + t) (up_outs_at + first + t) (up_lengths_at + first + t) _ _ _ ∙ long;
          edges = λ s j h.
              one_more (λ s. bit (get_or written (first + s) 0) j ≡ (not (bit (get_or vectors (first + s) 0) j) && bit (get_or vectors (64 - first + s) 0) j)) t
              (λ s m. ap (λ w. bit w j) (kept (first + s) (λ e. omega arith) (λ e. omega arith) (λ e. omega arith)) ∙ x.edges s j m)
              (ap (λ w. bit w j) (at_first after (first + t) (up_outs_at + first + t) (up_lengths_at + first + t) _ _ _ (omega (arith, long)) (omega arith) (omega arith))
              ∙ rise-bit (get_or vectors (first + t) 0) (get_or vectors (64 - first + t) 0) j)
              s h;
          outs_at = one_more (λ s. get_or written (up_outs_at + first + s) 0 ≡ get_or outs s 0) t
              (λ s m. kept (up_outs_at + first + s) (λ e. omega arith) (λ e. omega arith) (λ e. omega arith) ∙ x.outs_at s m)
              (at_second after (first + t) (up_outs_at + first + t) (up_lengths_at + first + t) _ _ _ (omega (arith, long)) (omega arith));
          lens_at = one_more (λ s. get_or written (up_lengths_at + first + s) 0 ≡ get_or lens s 0) t
              (λ s m. kept (up_lengths_at + first + s) (λ e. omega arith) (λ e. omega arith) (λ e. omega arith) ∙ x.lens_at s m)
              (at-third after (first + t) (up_outs_at + first + t) (up_lengths_at + first + t) _ _ _ (omega (arith, long)));
          others = λ k o.
              let d = o t (omega arith) in
              kept k d.0 d.1 d.2 ∙ x.others k o;
        }

pub write_end : {vectors outs lens before after : List ℕ} {n first t : ℕ} → t ≤ n → n ≤ t → EdgeWritten vectors t first outs lens before after
    → EdgeWritten vectors n first outs lens before after
write_end {vectors} {outs} {lens} {before} {after} {n} {first} {t} h l x =
    let e : t ≡ n = omega arith in
    subst (λ m. EdgeWritten vectors m first outs lens before after) e x
