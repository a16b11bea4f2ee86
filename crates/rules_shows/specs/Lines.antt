-- The bytes of a trace as the lines that a debugger reads: "a line of 24 digits for each change".
use Rattle.std.specs.Prelude.{ℕ, zero, suc, ◌/◌, List, [], ◌++◌, length, take, drop}
use Rattle.rules_sessions.specs.Text.{line_of}

-- the first n frames of 12 bytes, each as a line of 24 digits
unfoldable pub frame_lines : List ℕ → (n : ℕ) → List ℕ
frame_lines B zero = []
frame_lines B (suc n) = line_of (take 12 B) ++ frame_lines (drop 12 B) n

-- the bytes of a trace as lines
unfoldable pub bytes_lines : List ℕ → List ℕ
bytes_lines B = frame_lines B (length B / 12)
