-- The loop over the places: the list holds the runs of the places so far.
use Rattle.model.proofs.Prelude.{ℕ, ◌≤◌, ◌<◌, ◌+◌, ◌-◌, suc, ◌^◌, zero, ◌≡◌, ◌∙◌, ap, refl, sym, ap₂, subst⁻¹, List, [], ◌++◌, append-nil, length}
use Rattle.model.proofs.Prelude.{get_or, eqb, add-one, arith, rules}
use mir.Val.{Fits}
use mir.Syntax.{w64}
use Rattle.model.specs.Runs.{Run}
use Rattle.netlist.proofs.OutputLaws.{output-here, output-long}
use Rattle.run_lists.specs.RunLists.{Sound, only_if, add_runs, shift_runs, runs_in_words, write_runs_of}
use Rattle.run_lists.specs.Answers.{Room, Adds}
use Rattle.model.proofs.BoolLaws.{cases}
use Rattle.run_union.proofs.AddRunLaws.{add_runs-length, add_runs-take}
use Rattle.run_union.proofs.Adding.{answer-full, Adding, adding-start, adding-runs, adding-length, adding-done, answer-over, part-full, part-more}
use Rattle.detection.specs.PlaceRuns.{Places, paths_before, place_runs, first_runs}
use Rattle.detection.proofs.AddedLaws.{as_adds}
use Rattle.run_shifted.specs.RunsOfPlaces.{runs_in, with_net, NetReady, PlacesReady}
use Rattle.std.specs.Prelude.{Option, Some, None}

pub paths-next : (P : Places) (p : ℕ) → paths_before P (p + 1) ≡ paths_before P p + P.paths (P.net_of p)
paths-next P p = rw (add-one p)

pub first_next : (P : Places) (f : ℕ → List Run) (p : ℕ) → first_runs P f (p + 1) ≡ add_runs (first_runs P f p) (place_runs P f p)
unfolding first_runs
first_next P f p = rw (add-one p)

-- what is over the capacity stays so when more runs are added
more-full : (P : Places) (f : ℕ → List Run) (ws ws' : List ℕ) (start cap p n : ℕ) → p ≤ n
    → Adds ws ws' start cap (first_runs P f p) None → Adds ws ws' start cap (first_runs P f n) None
unfolding first_runs
more-full P f ws ws' start cap p zero h d = let e : p ≡ 0 = omega arith in as_adds (ap (first_runs P f) e) refl d
more-full P f ws ws' start cap p (suc n) h d = cases p n
    (λ l.
    let a = more-full P f ws ws' start cap p n l d in
    let s = first_runs P f n in
    let over = answer-over cap s a.answers in
    record {
      answers = sym (answer-full cap (first_runs P f (suc n)) (omega (arith, over, add_runs-length s (place_runs P f n))));
      writes = a.writes ∙ ap (write_runs_of ws start) (sym (add_runs-take cap s (place_runs P f n) over));
    })
    (λ l. let e : p ≡ suc n = omega arith in as_adds (ap (first_runs P f) e) refl d)

-- The runs of the first `place` of n places stand at `start`, `count` of them; `offset` is the paths of these places
pub record PlacesDone (P : Places) (n : ℕ) (starts ws₀ : List ℕ) (start cap : ℕ) (ws : List ℕ) (place count offset : ℕ) : Type 0 where
  pub ready : PlacesReady P n starts ws₀ start cap
  pub within : place ≤ n
  pub sum : offset ≡ paths_before P place
  pub adding : Adding ws₀ ws start cap count [] (first_runs P (runs_in starts ws₀) place)

module _ {P : Places} {n : ℕ} {starts ws₀ : List ℕ} {start cap : ℕ} where
  pub places-start : {m : ℕ} → n ≡ m → PlacesReady P m starts ws₀ start cap → PlacesDone P n starts ws₀ start cap ws₀ 0 0 0
  unfolding first_runs
  places-start m r = record {
    ready = subst⁻¹ (λ k. PlacesReady P k starts ws₀ start cap) m r;
    within = omega arith;
    sum = refl;
    adding = adding-start ws₀ start cap 0 [] (omega arith);
  }

  module _ {ws : List ℕ} {place count offset : ℕ} (i : PlacesDone P n starts ws₀ start cap ws place count offset) where
    abbrev so_far : List Run
    so_far = first_runs P (runs_in starts ws₀) place

    pub places_same : length ws ≡ length ws₀
    places_same = adding-length ws₀ ws start cap count so_far [] i.adding

    pub places-room : Room ws start count cap
    places-room = record { fits = i.adding.fits; inside = omega (arith, places_same, i.ready.room) }

    pub places-small : offset ≤ 2 ^ 62
    places-small = omega (arith, i.sum, i.ready.offsets place i.within)

    pub places-done : (m : ℕ) → n ≡ m → n ≤ place → Adds ws₀ ws start cap (first_runs P (runs_in starts ws₀) m) (Some count)
    places-done m en h =
        let e : place ≡ m = omega (arith, i.within) in
        as_adds (ap (first_runs P (runs_in starts ws₀)) e) refl (adding-done ws₀ ws start cap count so_far i.adding)

    module _ (h : place < n) {net : ℕ} (e : net ≡ P.net_of place) where
      ready₀ : NetReady starts ws₀ start net
      ready₀ = subst⁻¹ (λ (x : ℕ). NetReady starts ws₀ start x) e (i.ready.at_place place h)

      kept : runs_in starts ws net ≡ runs_in starts ws₀ net
      unfolding runs_in
      kept =
          adding-runs ws₀ ws start cap count [] so_far (get_or starts net 0) (get_or starts (net + 1) 0 - get_or starts net 0) i.adding
          (omega (arith, ready₀.ordered, ready₀.before))

      pub place-net : NetReady starts ws start net
      place-net = record {
        is_net = ready₀.is_net;
        ordered = ready₀.ordered;
        before = ready₀.before;
        sound = subst⁻¹ (λ (s : List Run). Sound (2 ^ 62) s) kept ready₀.sound;
      }

      pub place-below : net < 512
      place-below = ready₀.is_net

      module _ {k : ℕ} (ek : k ≡ P.paths net) where
        next : offset + k ≡ paths_before P (place + 1)
        next = let c : P.paths net ≡ P.paths (P.net_of place) = ap P.paths e in omega (arith, i.sum, ek, c, paths-next P place)

        pub place-sum : Fits w64 (offset + k)
        place-sum = record { fits = omega (arith, next, i.ready.offsets (place + 1) (omega arith)) }

      module _ {ws' : List ℕ} (opened : ℕ) {q : (Option ℕ)} (o : eqb opened 1 ≡ P.opens place net)
          (d : Adds ws ws' start cap (with_net starts ws start count (eqb opened 1) offset net) q) where
        abbrev part : List Run
        part = place_runs P (runs_in starts ws₀) place

        then : Adding ws₀ ws start cap count (part ++ []) (first_runs P (runs_in starts ws₀) (place + 1))
        then = record {
          fits = i.adding.fits;
          kept = i.adding.kept;
          left = ap₂ add_runs i.adding.left (append-nil part) ∙ sym (first_next P (runs_in starts ws₀) place);
        }

        added : Adds ws ws' start cap (add_runs (runs_in_words ws start count) part) q
        unfolding with_net
        added = as_adds
            (λ j. add_runs (runs_in_words ws start count) (only_if ((o ∙ ap (P.opens place) e) j) (shift_runs (i.sum j) ((kept ∙ ap (runs_in starts ws₀) e) j)))) refl d

        pub place-full : (m : ℕ) → n ≡ m → q ≡ None → Adds ws₀ ws' start cap (first_runs P (runs_in starts ws₀) m) None
        place-full m en t =
            more-full P (runs_in starts ws₀) ws₀ ws' start cap (place + 1) m (omega arith)
            (part-full ws₀ ws start cap count (first_runs P (runs_in starts ws₀) (place + 1)) ws' part [] then q t added)

        pub place-more : {k c : ℕ} → k ≡ P.paths net → q ≡ Some c → PlacesDone P n starts ws₀ start cap ws' (place + 1) c (offset + k)
        place-more {c = c} ek t = record {
          ready = i.ready;
          within = omega arith;
          sum = next ek;
          adding = part-more ws₀ ws start cap count (first_runs P (runs_in starts ws₀) (place + 1)) ws' part [] then q c t i.ready.room added;
        }

pub ruleset place-cases =
    (places-start, places_same, places-room, places-small, places-done, place-net, place-below, place-sum, place-full, place-more, rules)

pub ruleset output-cases = (output-here, output-long, place-cases)
