-- A load that was started has inputs in range. As it is written, the walk comes from the first one by pieces alone, and each piece lies in the buffer.
use Rattle.model.proofs.Prelude.{ℕ, ◌≤◌, ◌<◌, ◌≡◌, ◌∙◌, ap, refl, sym, List, length, take, length-take-le, arith, rules}
use Rattle.load_walk.specs.LoadWalk.{next_walk, Walked}
use Rattle.load_walk.specs.declared.inner.Walk.{Walk}
use Rattle.load_walk.proofs.WalkCases.{started-least, started-most, next-inputs, walked-first, walked_next, piece-size, piece-less}

pub record Writing (found : List ℕ) (start : Walk) (records : List ℕ) (walk : Walk) : Type 0 where
  pub long : length records ≡ length found
  pub walked : Walked (length found) start walk
  pub some : 1 ≤ walk.inputs
  pub few : walk.inputs ≤ 64
  pub room : 2304 ≤ length found

pub write_first : (found : List ℕ) (start : Walk) → 1 ≤ start.inputs → start.inputs ≤ 64 → 2304 ≤ length found → Writing found start found start
write_first found start some few room =
    record { long = refl; walked = walked-first (length found) start; some = some; few = few; room = room }

module _ {found : List ℕ} {start : Walk} {records : List ℕ} {walk : Walk} (g : Writing found start records walk) where
  pub write_some : 1 ≤ walk.inputs
  write_some = g.some

  pub write_few : walk.inputs ≤ 64
  write_few = g.few

  pub write_room : 2304 ≤ length records
  write_room = omega (arith, g.long, g.room)

  pub write_done : Walked (length found) start walk
  write_done = g.walked

  module _ {next : Walk} (is : next ≡ next_walk (length records) walk) where
    stepped : next ≡ next_walk (length found) walk
    stepped = is ∙ ap (λ (k : ℕ). next_walk k walk) g.long

    pub write_less : 0 < walk.left → next.left < walk.left
    write_less more =
        let e : next.left ≡ (next_walk (length found) walk).left = ap (λ (w : Walk). w.left) stepped in
        omega (arith, piece-less (length found) walk g.some g.few g.room more)

    module _ (bytes : List ℕ) (same : length bytes ≡ length records) where
      pub write_inside : next.size ≤ length bytes
      write_inside =
          let e : next.size ≡ (next_walk (length found) walk).size = ap (λ (w : Walk). w.size) stepped in
          omega (arith, piece-size (length found) walk, g.long)

      pub write_length : next.size ≡ length (take next.size bytes)
      write_length = sym (length-take-le next.size bytes write_inside)

      pub write_next : Writing found start bytes next
      write_next =
          let e : next.inputs ≡ walk.inputs = ap (λ (w : Walk). w.inputs) stepped ∙ next-inputs (length found) walk in
          record {
            long = same ∙ g.long;
            walked = walked_next g.walked stepped;
            some = omega (arith, g.some);
            few = omega (arith, g.few);
            room = g.room;
          }

pub ruleset start-cases = (started-least, started-most, rules)

pub ruleset write-cases = (write_first, write_some, write_few, write_room, write_done, write_inside, write_length, write_less, write_next, rules)
