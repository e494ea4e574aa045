-- A file that is read piece by piece, whatever is done with the pieces: its start, one full piece more, its last piece.
use Rattle.model.proofs.Prelude.{ℕ, ◌≤◌, ◌<◌, ◌+◌, ◌-◌, ◌*◌, ◌/◌, ◌%◌, ◌≡◌, ◌∙◌, ap, refl, sym, subst, inl, inr, ◌⊎◌, List, [], ◌++◌, length, take}
use Rattle.model.proofs.Prelude.{length-append, length-take-le, mod-lt, mod-eq_of_lt, arith, rules}
use native.Mathlib.Nat.{mul-mod_left, mul-add-mod_self_right, div-add-mod', mod-le}
use Rattle.model.specs.Base.{value}
use Rattle.model.specs.Netlist.{Netlist}
use Rattle.model.specs.Read.{vector_bytes_of, record_length, read_netlist}
use Rattle.model.proofs.AnswerLaws.{value_inj}
use Rattle.testfile_reading.specs.Space.{InSpace}

-- The whole records of a space
module _ (space bytes : ℕ) (h : 2 ≤ bytes) where
  pub part-whole : (space - space % bytes) % bytes ≡ 0
  part-whole =
      let e : space - space % bytes ≡ space / bytes * bytes = omega (arith, div-add-mod' space bytes) in
      ap (λ (k : ℕ). k % bytes) e ∙ mul-mod_left (space / bytes) bytes

  pub part-near : space < space - space % bytes + bytes
  part-near = omega (arith, mod-lt space {m = bytes} (omega (arith, h)), mod-le space bytes)

pub ruleset part-cases = (part-whole, part-near, rules)

-- What counts bytes of a part counts bytes of the whole
pub part_length : (n : ℕ) (l : List ℕ) → n ≤ length l → n ≡ length (take n l)
part_length n l h = sym (length-take-le n l h)

pub part-within : (n : ℕ) (part rest : List ℕ) → n ≤ length part → n ≤ length (part ++ rest)
part-within n part rest h = omega (arith, h, length-append part rest)

pub part-counts : (n : ℕ) (part rest : List ℕ) → n ≤ length part → n ≡ length (take n (part ++ rest))
part-counts n part rest h = part_length n (part ++ rest) (part-within n part rest h)

pub part-most : (n most : ℕ) (part l : List ℕ) → n ≤ length part → length part ≡ length (take most l) → most ≤ length l → n ≤ most
part-most n most part l h k m = omega (arith, h, k, length-take-le most l m)

pub ruleset read-cases = (part_length, part-within, part-counts, part-most, rules)

-- the bytes with one piece more
pub file-more : (bytes n : ℕ) (test_file space : List ℕ) → bytes ≡ length test_file → n ≤ length space → bytes + n ≡ length (test_file ++ take n space)
file-more bytes n test_file space b h = omega (arith, b, length-append test_file (take n space), length-take-le n space h)

module _ (netlist : List ℕ) (full most : ℕ) where
  -- What was read so far is a whole number of records, and nothing or a full piece at least
  pub record FileSoFar (test_file : List ℕ) (bytes : ℕ) (space : List ℕ) : Type 0 where
    pub bytes_are : bytes ≡ length test_file
    pub first : (test_file ≡ []) ⊎ (full ≤ length test_file)
    pub whole : (N : Netlist) → read_netlist netlist ≡ value N → length test_file % record_length N ≡ 0
    pub space_length : length space ≡ most

  pub file-start : (space : List ℕ) → length space ≡ most → FileSoFar [] 0 space
  file-start space l = record {
    bytes_are = refl;
    first = inl refl;
    whole = λ N q. mod-eq_of_lt (omega arith);
    space_length = l;
  }

  -- the file of a netlist, whose inputs say how many bytes a record has
  module _ {C : Netlist} {inputs record_bytes : ℕ} (legal : read_netlist netlist ≡ value C) (are : inputs ≡ C.inputs)
      (eb : record_bytes ≡ 2 + 2 * vector_bytes_of inputs) (near : most < full + record_bytes)
      {f : List ℕ} {bytes : ℕ} {space : List ℕ} (g : FileSoFar f bytes space) where
    len : (N : Netlist) → read_netlist netlist ≡ value N → record_bytes ≡ record_length N
    len N e =
        let same : inputs ≡ N.inputs = are ∙ ap (λ (M : Netlist). M.inputs) (value_inj (sym legal ∙ e)) in
        eb ∙ ap (λ (k : ℕ). 2 + 2 * vector_bytes_of k) same

    -- a file as long as a full piece does not fit
    pub file-over : 0 < bytes → InSpace netlist f space
    file-over h N e k = absurd (fits g.first)
      where
        fits : (f ≡ []) ⊎ (full ≤ length f) → ⊥
        fits (inl z) = let l : length f ≡ 0 = ap (length {A = ℕ}) z in omega (arith, h, g.bytes_are, l)
        fits (inr long) = omega (arith, k, long, near, g.space_length, len N e)

    module _ (n : ℕ) (space' : List ℕ) (cn : n ≤ length space') (cm : n ≤ full) (l : length space' ≡ length space) where
      abbrev piece : List ℕ
      piece = take n space'

      more-length : bytes + n ≡ length (f ++ piece)
      more-length = file-more bytes n f space' g.bytes_are cn

      whole_sum : (N : Netlist) → read_netlist netlist ≡ value N → n % record_length N ≡ 0 → length (f ++ piece) % record_length N ≡ 0
      whole_sum N e k =
          let each : ℕ = record_length N in
          let q : length f ≡ length f / each * each = omega (arith, div-add-mod' (length f) each, g.whole N e) in
          let s : length (f ++ piece) ≡ length f / each * each + n = omega (arith, more-length, g.bytes_are, q) in
          ap (λ (m : ℕ). m % each) s ∙ mul-add-mod_self_right (length f / each) each n ∙ k

      -- one full piece more
      pub file-next : full ≤ n → full % record_bytes ≡ 0 → FileSoFar (f ++ piece) (bytes + n) space'
      file-next enough w = record {
        bytes_are = more-length;
        first = inr (omega (arith, more-length, enough));
        whole = λ N e.
            let b : full % record_length N ≡ 0 = subst (λ (m : ℕ). full % m ≡ 0) (len N e) w in
            whole_sum N e (subst (λ (m : ℕ). m % record_length N ≡ 0) (omega (arith, enough, cm)) b);
        space_length = l ∙ g.space_length;
      }

      -- the last piece
      pub file-last : InSpace netlist (f ++ piece) space'
      file-last N e k = one_piece g.first
        where
          one_piece : (f ≡ []) ⊎ (full ≤ length f) → f ++ piece ≡ take (length (f ++ piece)) space'
          one_piece (inl z) =
              let m : length (f ++ piece) ≡ n = ap (λ (x : List ℕ). length (x ++ piece)) z ∙ length-take-le n space' cn in
              ap (λ (x : List ℕ). x ++ piece) z ∙ ap (λ (i : ℕ). take i space') (sym m)
          one_piece (inr long) = absurd (omega (arith, k, long, near, l, g.space_length, more-length, g.bytes_are, len N e))
