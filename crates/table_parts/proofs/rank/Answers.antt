-- `rank` meets its contract. The invariant: c counts the frames passed that belong.
use Rattle.rules_walks.proofs.laws.Count.{count_none, count_hit, count_miss}
use borrow.Author.Rules.{rules}
use mathlib.Core.Path.{◌≡◌, sym, ap, ◌∙◌}
use native.Mathlib.Omega.{arith}
use Prim.Native.Nat.{ℕ, ◌+◌}
use Rattle.table_parts.proofs.rank.Goals as goal
use Rattle.table_parts.proofs.rank.Goals.{else-belongs, then-belongs}

pub loop-i-init : goal.loop-i-init
loop-i-init c = (sym (count_none _), search rules)

pub loop-i-preserved : goal.loop-i-preserved
loop-i-preserved c =
    let l = c.loop-i in (
      elim c.if-belongs.branch [ then-belongs w ↦ w.c-is ∙ ap (λ (n : ℕ). n + 1) l.invariant.0 ∙ sym (count_hit _ l.i (sym c.belongs.ensures ∙ w.if-belongs.true)) | else-belongs w ↦ w.c-is ∙ l.invariant.0 ∙ sym (count_miss _ l.i (sym c.belongs.ensures ∙ w.if-belongs.false)) ],
      elim c.if-belongs.branch [ then-belongs w ↦ omega arith | else-belongs w ↦ omega arith ],
    )

pub returns : goal.returns
returns c = let e : c.loop-i.i ≡ c.args.j = omega arith in (rw e at c.loop-i.invariant.0, rw e at c.loop-i.invariant.1)
