-- The percent of the faults that are held: whether there is one, what it says, and how long it is at most.
use Rattle.model.proofs.Prelude.{ℕ, ◌≤◌, ◌<◌, ◌+◌, ◌*◌, ◌≡◌, refl, sym, ⊎_elim, true, false, ◌&&◌, length, leb, leb→le, ltb, ltb→lt, arith, le-leb}
use Rattle.model.proofs.Prelude.{lt-leb, lt-ltb, le-ltb}
use Rattle.model.specs.Netlist.{max_count}
use Rattle.model.proofs.BoolLaws.{bool_cases, and_left, and_right, true→T}
use Rattle.text_line.specs.Lines.{ascii}
use Rattle.text_percent.specs.Shares.{percent_text}
use Rattle.text_percent.proofs.ShareLengths.{percent_short}
use Rattle.length_text.specs.LengthTable.{are_held_of, held_share}

-- numbers that pass the test
pub record Held (paths rising falling : ℕ) : Type 0 where
  pub some : 0 < paths
  pub few : paths ≤ max_count
  pub rising_held : rising ≤ paths
  pub falling_held : falling ≤ paths

module _ (paths rising falling : ℕ) where
  -- The test: one number after the other
  pub no-paths : paths ≡ 0 → false ≡ are_held_of paths rising falling
  no-paths h = sym (rw (le-ltb 0 paths (omega arith)) refl)

  module _ (some : 0 < paths) where
    pub too_many : max_count < paths → false ≡ are_held_of paths rising falling
    too_many h = sym (rw (lt-ltb 0 paths some, lt-leb paths max_count h) refl)

    module _ (few : paths ≤ max_count) where
      pub rising-over : paths < rising → false ≡ are_held_of paths rising falling
      rising-over h = sym (rw (lt-ltb 0 paths some, le-leb paths max_count few, lt-leb rising paths h) refl)

      pub falling-told : rising ≤ paths → leb falling paths ≡ are_held_of paths rising falling
      falling-told h = sym (rw (lt-ltb 0 paths some, le-leb paths max_count few, le-leb rising paths h) refl)

  -- what it says
  pub held-numbers : are_held_of paths rising falling ≡ true → Held paths rising falling
  held-numbers e =
      let all = true→T (are_held_of paths rising falling) e in
      let three = and_left (ltb 0 paths && leb paths max_count && leb rising paths) (leb falling paths) all in
      let two = and_left (ltb 0 paths && leb paths max_count) (leb rising paths) three in
      record {
        some = ltb→lt 0 paths (and_left (ltb 0 paths) (leb paths max_count) two);
        few = leb→le paths max_count (and_right (ltb 0 paths) (leb paths max_count) two);
        rising_held = leb→le rising paths (and_right (ltb 0 paths && leb paths max_count) (leb rising paths) three);
        falling_held = leb→le falling paths (and_right (ltb 0 paths && leb paths max_count && leb rising paths) (leb falling paths) all);
      }

  -- the percent, or `-`
  pub share_there : are_held_of paths rising falling ≡ true → percent_text (rising + falling) (2 * paths) ≡ held_share paths rising falling
  unfolding held_share
  share_there e = sym (rw (e, held_share) refl)

  pub share_missing : are_held_of paths rising falling ≡ false → ascii "-" ≡ held_share paths rising falling
  unfolding held_share
  share_missing e = sym (rw (e, held_share) refl)

  pub percent_fits : Held paths rising falling → length (percent_text (rising + falling) (2 * paths)) ≤ 7
  percent_fits h = percent_short (rising + falling) (2 * paths) (omega (arith, h.some)) (omega (arith, h.rising_held, h.falling_held))

  pub share_short : length (held_share paths rising falling) ≤ 9
  share_short =
      ⊎_elim (λ (e : are_held_of paths rising falling ≡ true). rw (sym (share_there e)) (omega (arith, percent_fits (held-numbers e))))
      (λ (e : are_held_of paths rising falling ≡ false). rw (sym (share_missing e)) (omega arith)) (bool_cases (are_held_of paths rising falling))
