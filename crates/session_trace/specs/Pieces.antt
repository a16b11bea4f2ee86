-- What a piece of a traced run leaves, and what is shown of it.
use Rattle.std.specs.Prelude.{List, [], Bool, ℕ, ◌≤◌, eqb, ltb, length, take, Ok, Err}
use Rattle.rules_walks.specs.Pick.{both}
use Rattle.rules_tables.specs.Frame.{Table}
use Rattle.rules_tables.specs.Judge.{Judged}
use Rattle.rules_store.specs.Word.{Store}
use Rattle.rules_calls.specs.Answer.{moves_of, stop_of, bytes_of, Answer}
use Rattle.rules_traces.specs.declared.Shown.{Shown}
use Rattle.rules_traces.specs.Public.{TracedCall, ShowCall}
use Rattle.rules_shows.specs.Lines.{bytes_lines}
use Rattle.rules_shows.specs.Shown.{shown_text}
use Rattle.lines.specs.Printed.{Printed}
use Rattle.session_trace.specs.declared.piece.Piece.{Piece}

-- a run goes on where its piece stopped with 4 after some moves
unfoldable pub goes_on : Answer → Bool
goes_on a = both (eqb (stop_of a) 4) (ltb 0 (moves_of a))

-- a piece is a traced run, and the lines of its trace are printed
pub record Pieced (T : Table) (s : Store) (budget : ℕ) (out tr text : List ℕ) (r : Piece) (s' : Store) (out' tr' text' : List ℕ) : Type 0 where
  pub call : TracedCall T s budget out tr r.traced s' out' tr'
  pub printed : Printed (bytes_lines (take r.traced.traced tr')) 0 (length text) r.at text text'
  pub moves_most : moves_of r.traced.answer ≤ budget
  pub bytes_most : bytes_of r.traced.answer ≤ length out

-- what the reader shows of the first `at` bytes of the text
pub record Seen (T : Table) (s : Store) (text : List ℕ) (at frames : ℕ) (r : Shown) (s' : Store) : Type 0 where
  pub call : ShowCall T s (take at text) frames r s'
  pub shown_most : r.shown ≤ frames

-- what is printed of a store, by what the check says of the table
abbrev pub shown_by : Judged → Table → Store → (n : ℕ) → List ℕ
shown_by (Ok S) T s n = shown_text T S s n
shown_by (Err r) T s n = []
