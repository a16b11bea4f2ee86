-- A walk's steps, in the words of what it goes through.
use mathlib.Core.Path.{◌≡◌}
use Prim.Native.Nat.{ℕ}
use native.Mathlib.Omega.{arith}
use Rattle.std.specs.Prelude.{Some, None}
use Rattle.rules_tables.specs.Frame.{Table}
use Rattle.table_index.specs.Walk.{Goes, Stepped, Given}
use Rattle.table_index.specs.declared.walk.Walk.{Walk}

-- a frame was given
pub walk_given : (T : Table) (a n g x : ℕ) (s : Walk) {v : ℕ} {t : Walk} → Goes T a n g x s → Stepped s (Some v) t → Given T a n g x s v t
walk_given T a n g x s h w =
    let below = rw w.1.0 at w.1.1 in
    rw (← h.table, ← h.first, ← h.end, ← h.flag, ← h.owner) (record { goes = w.0; stood = w.1.0; below = below; met = s.walking.met below; leads = rw w.1.0 at w.1.2 })

-- none was given: the walk has gone through all
pub walk_ended : (T : Table) (a n g x : ℕ) (s : Walk) {t : Walk} → Goes T a n g x s → Stepped s None t → s.at ≡ n
walk_ended T a n g x s h w = let l = s.walking.within in let e = w.1 in omega (arith, h.end)
