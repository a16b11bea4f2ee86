-- Computed examples: what no law says of the rules of sessions, so that code and definition cannot change it together. 48 is the character 0, 56 is 8, 65 is A.
use Rattle.std.specs.Prelude.{◌≡◌, refl, true, false, List, [], ◌∷◌, map, ℕ, replicate, Ok}
use Rattle.rules_walks.specs.All.{all_to}
use Rattle.rules_numbers.specs.Bytes.{half_at, half_bytes, word_bytes}
use Rattle.rules_tables.specs.Frame.{kind_at, flag_at, field_at}
use Rattle.rules_sessions.specs.declared.Command.TheVariants.{Advance, Value, Run, Wrong}
use Rattle.rules_sessions.specs.AnswerLine.{answer_frame, answer_line}
use Rattle.rules_sessions.specs.Command.{long_at, last_clear, plain, advance_of, run_of, command_of}
use Rattle.rules_sessions.specs.Line.{is_digit, all_digits, line_ok, opens}
use Rattle.rules_sessions.specs.Session.{awaiting, malformed, call_by, end_deed}
use Rattle.rules_sessions.specs.Text.{glyph, pair, digits, line_of}
use Rattle.rules_calls.specs.declared.Outcome.TheVariants.{Ran}

-- ---- "lines .. of 2 to 24 upper-case hexadecimal digits, an even number": 8, 80, 800, 8A, 8a, 8G, and lines of zeros
pub lines : map line_ok ((56 ∷ []) ∷ (56 ∷ 48 ∷ []) ∷ (56 ∷ 48 ∷ 48 ∷ []) ∷ (56 ∷ 65 ∷ []) ∷ (56 ∷ 97 ∷ []) ∷ (56 ∷ 71 ∷ []) ∷ replicate 24 48 ∷ replicate 26 48 ∷ [])
    ≡ false ∷ true ∷ false ∷ true ∷ false ∷ false ∷ true ∷ false ∷ []
unfolding line_ok all_digits is_digit all_to
lines = refl

-- ---- "The first line beginning 80 to 83": of 7F, 80, 83, 84 and 90
pub opening : map opens ((55 ∷ 70 ∷ []) ∷ (56 ∷ 48 ∷ []) ∷ (56 ∷ 51 ∷ []) ∷ (56 ∷ 52 ∷ []) ∷ (57 ∷ 48 ∷ []) ∷ []) ≡ false ∷ true ∷ true ∷ false ∷ false ∷ []
unfolding opens
opening = refl

-- ---- "80 advance (a, b time)", "83 run (a, b budget)", "fields not named are zero": an advance to 65536 * 1 + 2, one with c, a run
pub commands : map command_of
    ((128 ∷ 0 ∷ 0 ∷ 1 ∷ 0 ∷ 2 ∷ replicate 6 0) ∷ (128 ∷ 0 ∷ 0 ∷ 1 ∷ 0 ∷ 2 ∷ 0 ∷ 3 ∷ replicate 4 0) ∷ (131 ∷ 0 ∷ 0 ∷ 1 ∷ 0 ∷ 2 ∷ replicate 6 0) ∷ (132 ∷ replicate 11 0) ∷ [])
    ≡ Advance 65538 ∷ Wrong ∷ Run 65538 ∷ Wrong ∷ []
unfolding command_of advance_of run_of plain last_clear long_at kind_at flag_at field_at half_at
commands = refl

-- ---- "Each load and call prints C0, flag refusal, a frame, b, c moves, d stop number, e bytes": a run of 8 moves that stopped for 1 with 20 bytes
pub answer_frame_lem : answer_frame 4 19 8 1 20 ≡ 192 ∷ 4 ∷ 0 ∷ 19 ∷ 0 ∷ 0 ∷ 0 ∷ 8 ∷ 0 ∷ 1 ∷ 0 ∷ 20 ∷ []
unfolding answer_frame half_bytes word_bytes
answer_frame_lem = refl

pub answer_of_run : answer_line (Ok (Ran 8 20 1 3)) ≡ line_of (192 ∷ 0 ∷ 0 ∷ 0 ∷ 0 ∷ 0 ∷ 0 ∷ 8 ∷ 0 ∷ 1 ∷ 0 ∷ 20 ∷ [])
unfolding answer_frame half_bytes word_bytes
answer_of_run = refl

-- upper-case digits, and 0A
pub printed : line_of (192 ∷ 42 ∷ []) ≡ 67 ∷ 48 ∷ 50 ∷ 65 ∷ 10 ∷ []
unfolding line_of digits pair glyph
printed = refl

-- ---- "A line of any other form or place, or a missing 82: print C0FF and twenty zeros, stop."
pub value_alone : (T s : List ℕ) (v : ℕ) → call_by T s (Value v) ≡ malformed
value_alone T s v = refl

pub value_missing : (T s vs : List ℕ) (n event birth : ℕ) → end_deed (awaiting T s n event birth vs) ≡ malformed
value_missing T s vs n event birth = refl
