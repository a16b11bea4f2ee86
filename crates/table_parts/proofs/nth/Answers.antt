-- `nth` meets its contract. The invariant: c counts the frames passed that belong, and the search goes on from frame j.
use Rattle.rules_tables.specs.Owned.{is_nth}
use Rattle.table_parts.specs.Found.{found_of}
use Rattle.rules_walks.proofs.laws.Count.{count_none, count_hit, count_miss}
use Rattle.rules_walks.proofs.laws.First.{first_start, first_skip, first_hit, first_none}
use borrow.Author.Rules.{rules}
use borrow.Author.Tests.{eq-eqb, ne_eqb}
use mathlib.Core.Path.{sym, ap, ◌∙◌}
use native.Mathlib.Omega.{arith}
use Prim.Native.Nat.{ℕ, ◌≤◌, ◌<◌, ◌+◌}
use Rattle.table_parts.proofs.nth.Goals as goal
use Rattle.table_parts.proofs.nth.Goals.{else-belongs, then-belongs+else-c-k}

pub loop-j-init : goal.loop-j-init
loop-j-init c = (sym (count_none _), first_start _ _, search rules)

pub loop-j-preserved : goal.loop-j-preserved
unfolding is_nth
loop-j-preserved c =
    let l = c.loop-j in
    let h : l.j < c.args.n = omega arith in (
      elim c.if-belongs.branch [ then-belongs+else-c-k w ↦ w.c-is ∙ ap (λ (n : ℕ). n + 1) l.invariant.0 ∙ sym (count_hit _ l.j (sym c.belongs.ensures ∙ w.if-belongs.true)) | else-belongs w ↦ w.c-is ∙ l.invariant.0 ∙ sym (count_miss _ l.j (sym c.belongs.ensures ∙ w.if-belongs.false)) ],
      l.invariant.1 ∙ first_skip _ l.j c.args.n h (elim c.if-belongs.branch [ then-belongs+else-c-k w ↦ rw (← c.belongs.ensures, w.if-belongs.true, ← l.invariant.0, ne_eqb _ _ w.if-c-k.false) | else-belongs w ↦ rw (← c.belongs.ensures, w.if-belongs.false) ]),
      elim c.if-belongs.branch [ then-belongs+else-c-k w ↦ omega arith | else-belongs w ↦ omega arith ],
    )

pub returns : goal.returns
returns c = let h : c.args.n ≤ c.loop-j.j = omega arith in sym (ap found_of (c.loop-j.invariant.1 ∙ first_none _ c.loop-j.j c.args.n h))

pub returns-then-c-k : goal.returns-then-c-k
unfolding is_nth
returns-then-c-k c =
    let l = c.loop-j in
    let h : l.j < c.args.n = omega arith in
    sym (ap found_of (l.invariant.1 ∙ first_hit _ l.j c.args.n h (rw (← c.belongs.ensures, c.if-belongs.true, ← l.invariant.0, eq-eqb _ _ c.if-c-k.true))))
