-- `play` is safe and ends: the measure is what is left of the session.
-- past a mark, or at the end
use native.Mathlib.Omega.{arith}
use Prim.Native.Nat.{ℕ, ◌≤◌, ◌<◌, ◌-◌}
use mathlib.Core.Logic.{⊎_elim}
use native.Mathlib.Nat.{eq-or-lt_of_le}
use Rattle.stored.proofs.play.Goals as goal

lesser : (n from to next : ℕ) → from < n → from ≤ to → to ≤ n → to ≤ next → (to < n → to < next) → n - next < n - from
lesser n from to next a b m c d = ⊎_elim (λ e. omega arith) (λ l. let e = d l in omega arith) (eq-or-lt_of_le m)

pub past-from-requires : goal.past-from-requires
past-from-requires g c = omega (arith, c.next_mark-to.ensures.1)

pub loop-from-smaller : goal.loop-from-smaller
loop-from-smaller g c = lesser _ _ _ _ c.loop-from-test.true c.next_mark-to.ensures.0 c.next_mark-to.ensures.1 c.past-from.ensures.1 c.past-from.ensures.2
