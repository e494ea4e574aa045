-- Small loads worked out by hand (docs/FORMAT.md shows the steps), computed from the definitions.
use Rattle.model.proofs.Prelude.{◌≡◌, refl, [], ◌∷◌, length, take}
use Rattle.model.specs.Encode.{test_bytes}
use Rattle.load_vectors.specs.Drawing.{next_state_of, state_after, drawn}
use Rattle.load.specs.Load.{input_test, tests_from, load_tests, record_bytes, file_bytes, load_records_of, vector_records}
use Rattle.load_request.specs.Requests.{request_of}
use Rattle.load.specs.Calls.{program_bytes}

-- load.bin asks for 2 vectors of 3 inputs from seed 1: the vectors are 0, 0, 1 and 1, 0, 0
pub seed-one-holds :
    program_bytes (request_of (1 ∷ 0 ∷ 0 ∷ 0 ∷ 2 ∷ 0 ∷ 0 ∷ 0 ∷ 3 ∷ 0 ∷ []))
    ≡ 0x54 ∷ 0x50 ∷ 4 ∷ 5 ∷ 0x54 ∷ 0x50 ∷ 5 ∷ 4 ∷ 0x54 ∷ 0x50 ∷ 4 ∷ 6 ∷ 0x54 ∷ 0x50 ∷ 6 ∷ 4 ∷ 0x54 ∷ 0x50 ∷ 0 ∷ 4 ∷ 0x54 ∷ 0x50 ∷ 4 ∷ 0
    ∷ 0x54 ∷ 0x50 ∷ 0 ∷ 1 ∷ 0x54 ∷ 0x50 ∷ 1 ∷ 0 ∷ 0x54 ∷ 0x50 ∷ 1 ∷ 3 ∷ 0x54 ∷ 0x50 ∷ 3 ∷ 1 ∷ 0x54 ∷ 0x50 ∷ 1 ∷ 5 ∷ 0x54 ∷ 0x50 ∷ 5 ∷ 1 ∷ []
unfolding request_of program_bytes vector_records load_records_of load_tests drawn tests_from input_test file_bytes record_bytes test_bytes next_state_of state_after
seed-one-holds = refl

-- the states on the way; the last one is handed back by the second call
pub seed-one-states : (state_after 1 1 ≡ 1015568748) × (state_after 3 1 ≡ 2165703038) × (state_after 6 1 ≡ 1587069247)
unfolding next_state_of state_after
seed-one-states = (refl, refl, refl)

-- nine inputs take two bytes, and from the greatest state come 0, 0, 0, then ones: the first record, and the length of all
pub nine_inputs-hold :
    (take 6 (load_records_of 9 4294967295) ≡ 0x54 ∷ 0x50 ∷ 0xF8 ∷ 0x01 ∷ 0xF9 ∷ 0x01 ∷ []) × (length (load_records_of 9 4294967295) ≡ 108)
unfolding load_records_of load_tests drawn tests_from input_test file_bytes record_bytes test_bytes next_state_of
nine_inputs-hold = (refl, refl)

-- another length asks for nothing, and 65 inputs are refused: nothing is written
pub nothing_written :
    (program_bytes (request_of (1 ∷ 0 ∷ 0 ∷ 0 ∷ 2 ∷ 0 ∷ 0 ∷ 0 ∷ 3 ∷ [])) ≡ [])
    × (program_bytes (request_of (1 ∷ 0 ∷ 0 ∷ 0 ∷ 2 ∷ 0 ∷ 0 ∷ 0 ∷ 65 ∷ 0 ∷ [])) ≡ [])
unfolding request_of program_bytes
nothing_written = (refl, refl)
