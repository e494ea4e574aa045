-- `bench_lines::inner::keys::find_key` meets its contract: the place among the keys that are left gives the whole.
use Rattle.model.proofs.Prelude.{◌≤◌, ◌+◌, ◌-◌, ◌*◌, ◌≡◌}
use Rattle.bench_lines.specs.Keys.{key_place}
use Rattle.bench_lines.proofs.inner.keys.find_key.Given as goal

abbrev pub invariant-loop-i : goal.invariant-loop-i
invariant-loop-i l = (l.i ≤ l.n) × (l.i + key_place l.low l.high (l.n - l.i) (2 * l.i) l.words ≡ key_place l.low l.high l.n 0 l.words)
