-- `beats_at` meets its contract: last update, element priority, local priority, in this order, each read where `key_of` says.
use Rattle.rules_moves.specs.Least.{beats}
use borrow.Author.Tests.{eq-eqb, ne_eqb}
use mathlib.Core.Path.{◌≡◌}
use native.Mathlib.Omega.{arith}
use Rattle.moves_least.proofs.beats_at.Goals as goal

pub returns-then-last-h : goal.returns-then-last-h
unfolding beats
returns-then-last-h c =
    let read = c.last_update_in-last in
    let differs : read.result ≡ c.args.h.last → ⊥ = λ e. omega (arith, e, c.if-last-h.true) in
    rw (← read.ensures, ne_eqb _ _ differs)

pub field-priority-requires : goal.field-priority-requires
field-priority-requires c =
    let h = c.args.net.now.good.input_element c.args.i c.requires.0 in
    omega (arith, rw c.input_frame-f.ensures.is at c.field.ensures.0)

pub returns-then-priority-h : goal.returns-then-priority-h
unfolding beats
returns-then-priority-h c =
    let read = c.last_update_in-last in
    let alike : read.result ≡ c.args.h.last = omega (arith, c.if-last-h.false) in
    let element = c in
    rw
    (← read.ensures, eq-eqb _ _ alike, ← element.input_frame-f.ensures.is, ← element.field.ensures.0, ← c.field-priority.ensures.0, ne_eqb _ _ c.if-priority-h.true)

pub returns : goal.returns
unfolding beats
returns c =
    let read = c.last_update_in-last in
    let alike : read.result ≡ c.args.h.last = omega (arith, c.if-last-h.false) in
    let element = c in
    rw
    (← read.ensures, eq-eqb _ _ alike, ← element.input_frame-f.ensures.is, ← element.field.ensures.0, ← c.field-priority.ensures.0, eq-eqb _ _ c.if-priority-h.false, c.flag.ensures.0)
