-- What the code of a run promises its caller: moves, store, output, bytes, stop number and untrue steps, and how one turn asks why to stop.
use Rattle.std.specs.Prelude.{ℕ, ◌+◌, ◌≤◌, Bool, true, false, List, leb, ltb, ◌≡◌, length}
use Rattle.std.proofs.lemmas.List.Edits.{sets}
use Rattle.rules_moves.specs.declared.Next.{Next}
use Rattle.calls_run.specs.declared.running.Ran.{Ran}
use Rattle.rules_walks.specs.Pick.{pick}
use Rattle.rules_tables.specs.declared.Shape.{Shape}
use Rattle.rules_moves.specs.Next.{moves}
use Rattle.rules_calls.specs.Run.{after, bytes, untrue_in, made, stop_after}
use Rattle.rules_traces.specs.declared.Entry.{Entry}
use Rattle.rules_traces.specs.Run.{trace, traced_made, traced_stop}
use Rattle.moves_tell.specs.Told.{Told}

-- why the run stops after n moves with `at` bytes written, or 0; `next` is the move that comes next, and writes z bytes
unfoldable pub asked : Next → ℕ → ℕ → ℕ → ℕ → ℕ → ℕ
asked next z at room n budget = pick (moves next) (pick (leb (at + z) room) (pick (ltb n budget) 0 2) 3) 1

-- what a run leaves: "It tells the moves made, the bytes written and that number. The rest of the buffer is unchanged."
pub record RunMade (T : List ℕ) (S : Shape) (time budget : ℕ) (s out : List ℕ) (r : Ran) (s' out' : List ℕ) : Type 0 where
  pub moves_made : r.moves ≡ made T S time budget (length out) s
  pub store_after : s' ≡ after T S time r.moves s
  pub out_after : out' ≡ sets out 0 (bytes T S time r.moves s)
  pub bytes_written : r.bytes ≡ length (bytes T S time r.moves s)
  pub stopped : r.stop ≡ stop_after T S time (length out) s r.moves
  pub untrue_made : r.untrue ≡ untrue_in T S time r.moves s

-- ---- with a trace
-- the same with p bytes of trace written; the next move's frames have y
unfoldable pub asked_traced : Next → (z at room y p space n budget : ℕ) → ℕ
asked_traced next z at room y p space n budget =
    pick (moves next) (pick (leb (at + z) room) (pick (leb (p + y) space) (pick (ltb n budget) 0 2) 4) 3) 1

-- with a trace or without
unfoldable pub asked_by : Bool → Next → (z at room y p space n budget : ℕ) → ℕ
asked_by tracing next z at room y p space n budget = pick tracing (asked_traced next z at room y p space n budget) (asked next z at room n budget)

-- these frames are told where the run has a trace
pub record ToldIf (tracing : Bool) (es : List Entry) (at : ℕ) (tr tr' : List ℕ) (r : ℕ) : Type 0 where
  pub told : tracing ≡ true → Told es at tr tr' r
  pub long : length tr' ≡ length tr
  pub fits : r ≤ length tr'

-- what a traced run leaves
pub record TracedMade (T : List ℕ) (S : Shape) (time budget : ℕ) (s out tr : List ℕ) (r : Ran) (s' out' tr' : List ℕ) : Type 0 where
  pub moves_made : r.moves ≡ traced_made T S time budget (length out) (length tr) s
  pub store_after : s' ≡ after T S time r.moves s
  pub out_after : out' ≡ sets out 0 (bytes T S time r.moves s)
  pub bytes_written : r.bytes ≡ length (bytes T S time r.moves s)
  pub trace_after : tr' ≡ sets tr 0 (trace T S time r.moves s)
  pub trace_written : r.traced ≡ length (trace T S time r.moves s)
  pub stopped : r.stop ≡ traced_stop T S time (length out) (length tr) s r.moves
  pub untrue_made : r.untrue ≡ untrue_in T S time r.moves s

-- what a run leaves, with a trace or without
pub record RanAs (tracing : Bool) (T : List ℕ) (S : Shape) (time budget : ℕ) (s out tr : List ℕ) (r : Ran) (s' out' tr' : List ℕ) : Type 0 where
  pub untraced : tracing ≡ false → RunMade T S time budget s out r s' out'
  pub traced : tracing ≡ true → TracedMade T S time budget s out tr r s' out' tr'
