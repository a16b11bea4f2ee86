-- The lines of a run's records, move by move.
use Rattle.std.specs.Prelude.{◌≡◌, List, [], ◌++◌, ℕ, zero, suc, ◌≤◌, length}
use Rattle.rules_numbers.specs.Bytes.{half_at}
use Rattle.rules_tables.specs.declared.Shape.{Shape}
use Rattle.rules_moves.specs.declared.Next.{Next}
use Rattle.rules_moves.specs.Next.{next_of, written_by}
use Rattle.rules_calls.specs.Run.{after}
use Rattle.rules_sessions.specs.Text.{line_of, line_if}

-- ---- records one after another, and their lines
pub record IsRecord (size : ℕ → ℕ) (R : List ℕ) : Type 0 where
  pub long : size (half_at R 2) ≡ length R
  pub some : 16 ≤ length R

pub data Records (size : ℕ → ℕ) : List ℕ → List ℕ → Type 0 where
  none : Records size [] []
  more : {R B L : List ℕ} → IsRecord size R → Records size B L → Records size (R ++ B) (line_of R ++ L)

-- the line of a move: that of what it writes
unfoldable pub line_by : List ℕ → Shape → ℕ → Next → List ℕ → List ℕ
line_by T S time next s = line_if (written_by T S time next s)

-- the lines of n moves from s
unfoldable pub run_lines : List ℕ → Shape → ℕ → ℕ → List ℕ → List ℕ
run_lines T S time zero s = []
run_lines T S time (suc n) s = run_lines T S time n s ++ line_by T S time (next_of T S (after T S time n s)) (after T S time n s)
