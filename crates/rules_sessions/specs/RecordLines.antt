-- "records come before it, a line each": a run's bytes hold its records one after another. Bytes 2 and 3 of a record name its event input, which says how long
-- the record is.
use Rattle.std.specs.Prelude.{List, [], ◌++◌, ℕ, zero, suc, ◌+◌, leb, length, take, drop, Ok, Err}
use Rattle.rules_walks.specs.Choose.{choose}
use Rattle.rules_numbers.specs.Bytes.{half_at}
use Rattle.rules_moves.specs.Record.{record_size}
use Rattle.rules_sessions.specs.Text.{line_of}
use Rattle.rules_tables.specs.Judge.{Judged}

-- the lines of the records in B from place p on, k of them at most; size i is the length of a record of event input i
unfoldable pub record_lines : (ℕ → ℕ) → List ℕ → ℕ → ℕ → List ℕ
record_lines size B p zero = []
record_lines size B p (suc k) =
    choose (leb (p + size (half_at B (p + 2))) (length B))
    (line_of (take (size (half_at B (p + 2))) (drop p B)) ++ record_lines size B (p + size (half_at B (p + 2))) k)
    []

-- a refused table has no records
abbrev pub records_by : Judged → List ℕ → List ℕ → List ℕ
records_by (Ok S) T B = record_lines (record_size T S) B 0 (length B)
records_by (Err r) T B = []
