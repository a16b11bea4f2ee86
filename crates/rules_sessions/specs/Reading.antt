-- An input read in pieces: the stage, the line so far, and what was printed so far.
use Rattle.std.specs.Prelude.{List, [], ◌∷◌, ◌++◌, ℕ, eqb, length}
use Rattle.rules_walks.specs.Choose.{choose}
use Rattle.rules_sessions.specs.Session.{Stage, tabled, Deed, and_then, line_deed, end_deed}

pub record Reading : Type 0 where
  pub stage : Stage
  pub line : List ℕ
  pub text : List ℕ

-- before the first byte
abbrev pub opening : List ℕ → Reading
opening s = record { stage = tabled [] s; line = []; text = [] }

-- the line has ended
abbrev pub line_ended : Reading → Deed → Reading
line_ended r d = record { stage = d.stage; line = []; text = r.text ++ d.text }

-- after one byte: 0A ends a line, any other is one more character of it
unfoldable pub after_byte : Reading → ℕ → Reading
after_byte r b = choose (eqb b 10) (line_ended r (line_deed r.stage r.line)) (record { stage = r.stage; line = r.line ++ (b ∷ []); text = r.text })

-- after the bytes of a piece
unfoldable pub after_bytes : Reading → List ℕ → Reading
after_bytes r [] = r
after_bytes r (b ∷ bs) = after_bytes (after_byte r b) bs

-- the end of the input: what is left of a line without 0A is a line
unfoldable pub last_deed : Stage → List ℕ → Deed
last_deed g L = choose (eqb (length L) 0) (end_deed g) (and_then (line_deed g L) end_deed)

-- all that was printed, at the end of the input
unfoldable pub closed : Reading → List ℕ
closed r = r.text ++ (last_deed r.stage r.line).text
