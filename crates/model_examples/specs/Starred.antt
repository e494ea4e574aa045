-- Document 01's table of the examples marked *, judged in class 1, as questions with their answers.
use Rattle.std.specs.Prelude.{List, [], ◌∷◌, ◌++◌, ℕ, ◌^◌}
use Rattle.model.specs.Base.{refused, value}
use Rattle.model.specs.Detect.{nonRobust}
use Rattle.model.specs.Encode.{header_bytes, output_bytes}
use Rattle.model.specs.Examples.{Row, row, net_counts, paths, path_number, faults_of, rising_work, new_rising}
use Rattle.model.specs.Examples.{Q, detects_none, detects_falling, detects_rising, chain, spread, a_rises}

-- one input and `n` gates AND(n, n), each fed by the net before, last as output
unfoldable pub doubling : ℕ → List ℕ
doubling n = header_bytes 1 n 1 ++ chain 3 2 0 n ++ output_bytes n

-- with T of an input as output as ticket 5 of document 02 has it, 0 and not 1
unfoldable pub starred : List Row
starred =
    row Q net_counts (value (1 ∷ 1 ∷ 2 ∷ 3 ∷ []))
    ∷ row Q paths (value (3 ∷ []))
    ∷ row Q (path_number 2) (value (0 ∷ 2 ∷ 0 ∷ 1 ∷ []))
    ∷ row Q (path_number 3) (value (0 ∷ 1 ∷ 1 ∷ []))
    ∷ row Q (faults_of nonRobust detects_none) (value [])
    ∷ row Q (faults_of nonRobust detects_falling) (value (4 ∷ 6 ∷ []))
    ∷ row Q (faults_of nonRobust detects_rising) (value (5 ∷ []))
    ∷ row (doubling 62) paths (value (2 ^ 62 ∷ []))
    ∷ row (doubling 63) paths (refused 17)
    ∷ row (header_bytes 1 0 1 ++ output_bytes 0) paths (value (0 ∷ []))
    ∷ row (spread 2) (rising_work nonRobust a_rises) (value (293 ∷ []))
    ∷ row (spread 3) (rising_work nonRobust a_rises) (value (2341 ∷ []))
    ∷ row (spread 3) (new_rising 1 a_rises) (refused 50)
    ∷ []
