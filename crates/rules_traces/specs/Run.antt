-- A traced run: "Trace room is checked before each move, so a move is traced whole or not made. Refusals: run may also stop with 4, no trace room, looked at
-- after 3 and before 2."
use Rattle.std.specs.Prelude.{ℕ, zero, suc, ◌+◌, List, [], ◌++◌, Bool, leb, length}
use Rattle.rules_walks.specs.Pick.{pick, both}
use Rattle.rules_walks.specs.Held.{held_to}
use Rattle.rules_tables.specs.Frame.{Table}
use Rattle.rules_tables.specs.declared.Shape.{Shape}
use Rattle.rules_store.specs.Word.{Store}
use Rattle.rules_calls.specs.Run.{after, another, room_for, continues}
use Rattle.rules_traces.specs.declared.Entry.{Entry}
use Rattle.rules_traces.specs.Entry.{entry_frames}
use Rattle.rules_traces.specs.Trace.{entries_of}

-- the frames of n moves from s; `time` is the store's now
unfoldable pub entries_after : Table → Shape → (time n : ℕ) → Store → List Entry
entries_after T S time zero s = []
entries_after T S time (suc n) s = entries_after T S time n s ++ entries_of T S time (after T S time n s)

-- and their bytes
unfoldable pub trace : Table → Shape → (time n : ℕ) → Store → List ℕ
trace T S time zero s = []
trace T S time (suc n) s = trace T S time n s ++ entry_frames (entries_of T S time (after T S time n s))

-- after n moves the frames of the next one have room
unfoldable pub trace_room_for : Table → Shape → (time space : ℕ) → Store → (n : ℕ) → Bool
trace_room_for T S time space s n = leb (length (trace T S time n s) + length (entry_frames (entries_of T S time (after T S time n s)))) space

-- the run continues after n moves, as far as the budget allows; it has so much room for its output and so much space for its trace
unfoldable pub traced_continues : Table → Shape → (time room space : ℕ) → Store → (n : ℕ) → Bool
traced_continues T S time room space s n = both (continues T S time room s n) (trace_room_for T S time space s n)

-- how many moves are made
unfoldable pub traced_made : Table → Shape → (time budget room space : ℕ) → Store → ℕ
traced_made T S time budget room space s = held_to (traced_continues T S time room space s) budget

-- why no more are: 1, 3, 4, 2, in this order
unfoldable pub traced_stop : Table → Shape → (time room space : ℕ) → Store → (n : ℕ) → ℕ
traced_stop T S time room space s n =
    pick (another T S time s n) (pick (room_for T S time room s n) (pick (trace_room_for T S time space s n) 2 4) 3) 1
