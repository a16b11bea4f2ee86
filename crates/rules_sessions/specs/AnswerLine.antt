-- "Each load and call prints C0, flag refusal, a frame, b, c moves, d stop number, e bytes"
use Rattle.std.specs.Prelude.{ℕ, ◌%◌, List, ◌∷◌, ◌++◌}
use Rattle.rules_numbers.specs.Bytes.{half_bytes, word_bytes}
use Rattle.rules_calls.specs.Answer.{number_of, frame_of, moves_of, stop_of, bytes_of, Answer}
use Rattle.rules_sessions.specs.Text.{line_of}

-- the frame of an answer's five numbers; what a call answers fits, so no remainder takes anything away (laws/Fits)
unfoldable pub answer_frame : ℕ → ℕ → ℕ → ℕ → ℕ → List ℕ
answer_frame number frame moves stop bytes =
    192 ∷ number % 256 ∷ (half_bytes (frame % 65536) ++ word_bytes moves ++ half_bytes (stop % 65536) ++ half_bytes (bytes % 65536))

abbrev pub answer_line : Answer → List ℕ
answer_line a = line_of (answer_frame (number_of a) (frame_of a) (moves_of a) (stop_of a) (bytes_of a))

-- "A line of any other form or place, or a missing 82: print C0FF and twenty zeros, stop."
abbrev pub malformed_line : List ℕ
malformed_line = line_of (answer_frame 255 0 0 0 0)
