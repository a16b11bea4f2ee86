-- Sequences of calls at the level of the definitions: what each call answers, and the store and output that it leaves.
use Rattle.std.specs.Prelude.{List, [], ◌∷◌, ℕ}
use Rattle.rules_tables.specs.Judge.{Verdict, shape_of}
use Rattle.rules_store.specs.Word.{now_of}
use Rattle.rules_calls.specs.Run.{bytes}
use Rattle.rules_calls.specs.Answer.{number_of, frame_of, moves_of, bytes_of, stop_of, untrue_of, Answer}
use Rattle.rules_calls.specs.Public.{Call, store_of, answer_of, run_moves}

-- refusal, frame, moves, stop number, bytes, untrue steps
abbrev pub told : Answer → List ℕ
told a = number_of a ∷ frame_of a ∷ moves_of a ∷ stop_of a ∷ bytes_of a ∷ untrue_of a ∷ []

-- the store after a sequence of calls
unfoldable pub stored : Verdict → List ℕ → ℕ → List ℕ → List Call → List ℕ
stored v T room s [] = s
stored v T room s (c ∷ cs) = stored v T room (store_of v T room s c) cs

-- what the last call of a sequence answers
unfoldable pub answered : Verdict → List ℕ → ℕ → List ℕ → List Call → Call → List ℕ
answered v T room s cs c = told (answer_of v T room (stored v T room s cs) c)

-- the bytes that a run writes
unfoldable pub printed : List ℕ → ℕ → List ℕ → ℕ → List ℕ
printed T room s b = bytes T (shape_of T) (now_of s) (run_moves T s b room) s
