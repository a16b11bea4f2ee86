-- A run makes no more moves than its budget, and no more untrue steps than moves; what it writes fits its output.
use Rattle.std.specs.Prelude.{◌≡◌, List, true, leb, length}
use Prim.Native.Nat.{ℕ, zero, suc, ◌+◌, ◌≤◌, ◌<◌}
use native.Mathlib.Omega.{arith}
use Rattle.std.proofs.Math.ListN.{length-append}
use borrow.Author.Tests.{leb-true}
use Rattle.rules_walks.proofs.laws.Pick.{both_right}
use Rattle.rules_walks.specs.Held.{held_to}
use Rattle.rules_walks.proofs.laws.Held.{held}
use Rattle.rules_tables.specs.declared.Shape.{Shape}
use Rattle.rules_tables.specs.Judge.{shape_of}
use Rattle.rules_store.specs.Word.{now_of}
use Rattle.rules_moves.specs.Next.{next_of, untrue_move, written, size_by}
use Rattle.rules_moves.proofs.laws.Moving.{untrue_few}
use Rattle.rules_calls.specs.Run.{after, bytes, untrue_in, another, room_for, continues, made}
use Rattle.rules_calls.specs.Public.{run_moves}

-- ---- a run makes at most as many moves as its budget
pub moves_fit : (T s : List ℕ) (b room : ℕ) → run_moves T s b room ≤ b
unfolding made
moves_fit T s b room = (held (continues T (shape_of T) (now_of s) room s) b).within

-- ---- the bytes of a run fit its output
module _ (T : List ℕ) (S : Shape) (time room : ℕ) (s : List ℕ) where
  none_long : length (bytes T S time 0 s) ≤ room
  unfolding bytes
  none_long = omega arith

  next_long : (i : ℕ) → length (bytes T S time (suc i) s) ≡ length (bytes T S time i s) + size_by T S time (next_of T S (after T S time i s)) (after T S time i s)
  unfolding bytes written size_by
  next_long i = length-append (bytes T S time i s) (written T S time (after T S time i s))

  has_room : (i : ℕ) → continues T S time room s i ≡ true → length (bytes T S time i s) + size_by T S time (next_of T S (after T S time i s)) (after T S time i s) ≤ room
  unfolding continues room_for
  has_room i e =
      leb-true (length (bytes T S time i s) + size_by T S time (next_of T S (after T S time i s)) (after T S time i s)) room
      (both_right (another T S time s i) (leb (length (bytes T S time i s) + size_by T S time (next_of T S (after T S time i s)) (after T S time i s)) room) e)

  went_fits : (m : ℕ) → ((i : ℕ) → i < m → continues T S time room s i ≡ true) → length (bytes T S time m s) ≤ room
  went_fits zero h = none_long
  went_fits (suc i) h = rw (next_long i) (has_room i (h i (omega arith)))

  pub bytes_fit : (budget : ℕ) → length (bytes T S time (made T S time budget room s) s) ≤ room
  unfolding made
  bytes_fit budget = went_fits (held_to (continues T S time room s) budget) (held (continues T S time room s) budget).before

-- ---- no more untrue steps than moves
module _ (T : List ℕ) (S : Shape) (time : ℕ) (s : List ℕ) where
  pub untrue_fit : (n : ℕ) → untrue_in T S time n s ≤ n
  unfolding untrue_in untrue_move
  untrue_fit zero = omega arith
  untrue_fit (suc n) = let x = after T S time n s in omega (arith, untrue_fit n, untrue_few T S time (next_of T S x) x)
