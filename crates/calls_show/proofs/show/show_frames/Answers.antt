-- `show_frames` meets its contract. The invariant: the lines passed could be read, and the store is what they say of it.
use Rattle.calls_show.proofs.laws.Shown.{shown_none}
use Rattle.calls_show.proofs.Turns.{says_nothing, says_readable, says_on, shown_more, all_shown, some_shown}
use Rattle.rules_walks.proofs.laws.All.{all_none, all_more}
use mathlib.Core.Path.{◌≡◌, refl}
use Prim.Native.Nat.{◌≤◌}
use borrow.Author.Tests.{le-ltb}
use Rattle.rules_traces.specs.Reader.{ended_by}
use native.Mathlib.Omega.{arith}
use borrow.Author.Rules.{rules}
use Rattle.calls_show.proofs.show.show_frames.Goals as goal

pub loop-n-init : goal.loop-n-init
loop-n-init c = (all_none _, search rules, shown_none _ _ _, refl)

pub returns-in_default : goal.returns-in_default
returns-in_default c = (some_shown _ _ _ _ _ c.loop-n.invariant.0 c.loop-n-test.true (says_nothing _ _ _ _ c.said_by.ensures c.in_default.is), c.ended_by.ensures, c.loop-n.invariant.2)

pub loop-n-preserved : goal.loop-n-preserved
loop-n-preserved c = (all_more _ _ c.loop-n.invariant.0 (says_readable _ _ _ _ c.said_by.ensures c.in-Some.is), says_on _ _ _ _ c.said_by.ensures c.in-Some.is, shown_more _ _ _ _ c.said_by.ensures c.in-Some.is _ _ _ c.loop-n.invariant.2 c.show_entry.ensures, search rules)

pub returns : goal.returns
unfolding ended_by
returns c =
    let e : c.loop-n.n ≡ c.args.frames = omega arith in
    let h : c.args.frames ≤ c.args.frames = omega arith in
    (all_shown _ _ _ _ _ (rw e at c.loop-n.invariant.0) h h, rw (le-ltb c.args.frames c.args.frames h), rw e at c.loop-n.invariant.2)
