-- The cases of the parts of a share.
use Rattle.model.proofs.Prelude.{ℕ, ◌≤◌, ◌<◌, ◌*◌, ◌/◌, ◌%◌, ◌≡◌, ◌∙◌, ap, refl, sym, true, Bool, false, ◌&&◌, [], ◌++◌, leb, leb→le, ltb, ltb→lt}
use Rattle.model.proofs.Prelude.{arith, ne_eqb, eq-eqb, lt-ltb, le-ltb}
use Rattle.model.proofs.BoolLaws.{and_left, and_right, true→T}
use Rattle.text_line.specs.Decimal.{decimal_text}
use Rattle.text_line.specs.Lines.{ascii}
use Rattle.text_percent.specs.Shares.{count_text, percent_text, claimed_share, true_share}

pub count-one : (paths : ℕ) → paths ≡ 1 → decimal_text paths ++ ascii " path" ≡ count_text paths
unfolding count_text
count-one paths h = sym (rw (eq-eqb paths 1 h, count_text) refl)

pub count-more : (paths : ℕ) → (paths ≡ 1 → ⊥) → decimal_text paths ++ ascii " paths" ≡ count_text paths
unfolding count_text
count-more paths h = sym (rw (ne_eqb paths 1 h, count_text) refl)

pub percent_parts : (share part whole : ℕ) → share ≡ part * 1000 / whole
    → decimal_text (share / 10) ++ ascii "." ++ decimal_text (share % 10) ++ ascii " %" ≡ percent_text part whole
unfolding percent_text
percent_parts share part whole e =
    ap (λ (n : ℕ). decimal_text (n / 10) ++ ascii "." ++ decimal_text (n % 10) ++ ascii " %") e

-- Whether a number is a part of the paths
module _ (part paths : ℕ) where
  pub no-paths : paths ≡ 0 → false ≡ (ltb 0 paths && leb part paths)
  no-paths h = sym (rw (le-ltb 0 paths (omega arith)) refl)

  pub part-told : (paths ≡ 0 → ⊥) → leb part paths ≡ (ltb 0 paths && leb part paths)
  part-told h = sym (rw (lt-ltb 0 paths (omega (arith, h))) refl)

  module _ (b : Bool) (e : b ≡ (ltb 0 paths && leb part paths)) where
    pub some-paths-there : b ≡ true → 0 < paths
    some-paths-there h =
        ltb→lt 0 paths (and_left (ltb 0 paths) (leb part paths) (true→T (ltb 0 paths && leb part paths) (sym e ∙ h)))

    pub part-there : b ≡ true → part ≤ paths
    part-there h =
        leb→le part paths (and_right (ltb 0 paths) (leb part paths) (true→T (ltb 0 paths && leb part paths) (sym e ∙ h)))

    pub claimed_part : b ≡ true
        → ascii " (" ++ percent_text part paths ++ ascii " of " ++ count_text paths ++ ascii ")" ≡ claimed_share part paths
    unfolding claimed_share
    claimed_part h = let t : (ltb 0 paths && leb part paths) ≡ true = sym e ∙ h in sym (rw (t, claimed_share) refl)

    pub claimed_over : b ≡ false → ascii " (of " ++ count_text paths ++ ascii ")" ≡ claimed_share part paths
    unfolding claimed_share
    claimed_over h = let t : (ltb 0 paths && leb part paths) ≡ false = sym e ∙ h in sym (rw (t, claimed_share) refl)

    pub true_part : b ≡ true → ascii " (" ++ percent_text part paths ++ ascii ")" ≡ true_share part paths
    unfolding true_share
    true_part h = let t : (ltb 0 paths && leb part paths) ≡ true = sym e ∙ h in sym (rw (t, true_share) refl)

    pub true_over : b ≡ false → [] ≡ true_share part paths
    unfolding true_share
    true_over h = let t : (ltb 0 paths && leb part paths) ≡ false = sym e ∙ h in sym (rw (t, true_share) refl)
