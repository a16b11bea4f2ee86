-- "Run takes a budget (32 bits) and an output buffer and makes moves until: no move exists (1), else the next move's record has no room (3), else the budget is
-- used (2). It tells the moves made, the bytes written and that number."; and how many untrue steps it made.
use Rattle.std.specs.Prelude.{ℕ, zero, suc, ◌+◌, List, [], ◌++◌, Bool, leb, length}
use Rattle.rules_walks.specs.Pick.{pick, both}
use Rattle.rules_walks.specs.Held.{held_to}
use Rattle.rules_tables.specs.declared.Shape.{Shape}
use Rattle.rules_moves.specs.Next.{next_of, moves, move, untrue_move, written, size_by}

-- the store after n moves from s, and the bytes that they wrote; `time` is the store's now
unfoldable pub after : List ℕ → Shape → ℕ → ℕ → List ℕ → List ℕ
after T S time zero s = s
after T S time (suc n) s = move T S time (after T S time n s)

unfoldable pub bytes : List ℕ → Shape → ℕ → ℕ → List ℕ → List ℕ
bytes T S time zero s = []
bytes T S time (suc n) s = bytes T S time n s ++ written T S time (after T S time n s)

-- how many of them were untrue steps
unfoldable pub untrue_in : List ℕ → Shape → ℕ → ℕ → List ℕ → ℕ
untrue_in T S time zero s = 0
untrue_in T S time (suc n) s = untrue_in T S time n s + untrue_move T S time (after T S time n s)

-- after n moves there is another one
unfoldable pub another : List ℕ → Shape → ℕ → List ℕ → ℕ → Bool
another T S time s n = moves (next_of T S (after T S time n s))

-- and what it writes has room
unfoldable pub room_for : List ℕ → Shape → ℕ → ℕ → List ℕ → ℕ → Bool
room_for T S time room s n = leb (length (bytes T S time n s) + size_by T S time (next_of T S (after T S time n s)) (after T S time n s)) room

-- the run continues after n moves, as far as the budget allows
unfoldable pub continues : List ℕ → Shape → ℕ → ℕ → List ℕ → ℕ → Bool
continues T S time room s n = both (another T S time s n) (room_for T S time room s n)

-- how many moves are made
unfoldable pub made : List ℕ → Shape → ℕ → ℕ → ℕ → List ℕ → ℕ
made T S time budget room s = held_to (continues T S time room s) budget

-- why no more are
unfoldable pub stop_after : List ℕ → Shape → ℕ → ℕ → List ℕ → ℕ → ℕ
stop_after T S time room s n = pick (another T S time s n) (pick (room_for T S time room s n) 2 3) 1
