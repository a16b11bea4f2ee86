-- A frame of the trace: "a line of 24 digits for each change: 84; flag the kind; a block; b id of the variable, event or transition, else zero; c, d new value
-- (1 for kinds 4 to 8); e zero."
use Rattle.std.specs.Prelude.{ℕ, List, [], ◌∷◌, ◌++◌}
use Rattle.rules_numbers.specs.Bytes.{half_bytes, word_bytes}
use Rattle.rules_sessions.specs.Text.{line_of}
use Rattle.rules_traces.specs.declared.Entry.{Entry}

abbrev pub entry : (kind block id value : ℕ) → Entry
entry kind block id value = record { kind = kind; block = block; id = id; value = value }

-- 84, the first byte of every frame
abbrev pub trace_byte : ℕ
trace_byte = 132

-- its 12 bytes
unfoldable pub entry_frame : Entry → List ℕ
entry_frame e = trace_byte ∷ e.kind ∷ (half_bytes e.block ++ half_bytes e.id ++ word_bytes e.value ++ half_bytes 0)

-- the bytes of frames one after another
unfoldable pub entry_frames : List Entry → List ℕ
entry_frames [] = []
entry_frames (e ∷ es) = entry_frame e ++ entry_frames es

-- and their lines
unfoldable pub entry_lines : List Entry → List ℕ
entry_lines [] = []
entry_lines (e ∷ es) = line_of (entry_frame e) ++ entry_lines es
