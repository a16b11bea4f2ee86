-- `tell_all` is safe and ends: the measure is what is left of the bytes.
-- a mark before the end takes the place on
use mir.Val.{bool_byte}
use mathlib.Core.Bool.{Bool, true, false}
use mathlib.Core.Logic.{⊎_elim}
use native.Mathlib.Nat.{eq-or-lt_of_le}
use Prim.Native.Nat.{◌≤◌, ℕ, ◌<◌}
use native.Mathlib.Omega.{arith}
use Rattle.stored.proofs.tell_all.Goals as goal

one_most : (b : Bool) → bool_byte b ≤ 1
one_most true = omega arith
one_most false = omega arith

past : (from to n answer : ℕ) → from < n → from ≤ to → to ≤ n → to ≤ answer → (to < n → to < answer) → from < answer
past from to n answer a b c d e = ⊎_elim (λ q. omega arith) (λ l. let h = e l in omega arith) (eq-or-lt_of_le c)

pub loop-from-smaller : goal.loop-from-smaller
loop-from-smaller g c = let h = past _ _ _ _ c.loop-from-test.true c.next_mark-to.ensures.0 c.next_mark-to.ensures.1 c.after_mark-answer.ensures.1 c.after_mark-answer.ensures.2 in omega (arith, c.next_mark-end.ensures.0, c.after_mark-from.ensures.1, c.after_mark-from.ensures.0)

pub loop-from-preserved : goal.loop-from-preserved
loop-from-preserved g c = let h = past _ _ _ _ c.loop-from-test.true c.next_mark-to.ensures.0 c.next_mark-to.ensures.1 c.after_mark-answer.ensures.1 c.after_mark-answer.ensures.2 in (omega (arith, c.after_mark-from.ensures.0), omega (arith, c.next_mark-end.ensures.0, c.after_mark-from.ensures.1), omega (arith, c.next_mark-end.ensures.0, c.after_mark-from.ensures.1, c.from-right.ensures, one_most c.one-is_right.result))
