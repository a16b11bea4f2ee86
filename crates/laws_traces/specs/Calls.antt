-- A traced run and a reading of its trace, for the statement over the public calls.
use Rattle.std.specs.Prelude.{ℕ, ◌*◌, ◌<◌, ◌≡◌, List, length, get_or, take}
use Rattle.rules_tables.specs.Frame.{Table}
use Rattle.rules_tables.specs.Judge.{shape_of}
use Rattle.rules_store.specs.Word.{Store, now_of}
use Rattle.rules_calls.specs.Run.{after}
use Rattle.rules_traces.specs.declared.Traced.{Traced}
use Rattle.rules_traces.specs.declared.Shown.{Shown}
use Rattle.rules_traces.specs.Run.{entries_after}
use Rattle.rules_shows.specs.Lines.{bytes_lines}
use Rattle.laws_traces.specs.Shows.{Alike}

-- "Store words are 32-bit"
pub record Words (s : Store) : Type 0 where
  pub at : (p : ℕ) → get_or s p 0 < 4294967296

-- the text of the trace that a run told: as many bytes as its answer says
abbrev pub trace_text : Traced → (tr' : List ℕ) → List ℕ
trace_text r tr' = bytes_lines (take r.traced tr')

-- a reading answers that no line ended it and that it read every frame; and it shows what the run left
pub record ReadBack (T : Table) (r : Traced) (s' : Store) (q : Shown) (x : Store) : Type 0 where
  pub line : q.line ≡ 0
  pub frames : 12 * q.shown ≡ r.traced
  pub alike : Alike (shape_of T) x s'

-- the frames of the first m moves
abbrev pub frames_after : Table → Store → (m : ℕ) → ℕ
frames_after T s m = length (entries_after T (shape_of T) (now_of s) m s)

-- a reading of these alone reads them all, and shows what the machine held after the m moves
pub record ReadAfter (T : Table) (s : Store) (m : ℕ) (q : Shown) (x : Store) : Type 0 where
  pub line : q.line ≡ 0
  pub frames : q.shown ≡ frames_after T s m
  pub alike : Alike (shape_of T) x (after T (shape_of T) (now_of s) m s)
