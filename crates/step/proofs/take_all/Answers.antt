-- `take_all` meets its contract. The invariant: the bytes before `from` were taken, and there is room for what the next byte or the end may print.
use Rattle.std.specs.Prelude.{◌≡◌, ◌-◌, length, drop}
use Rattle.rules_sessions.specs.Reading.{after_bytes}
use Rattle.session_dialogue.proofs.laws.Whole.{none_keeps, fed_keeps}
use lib.ListN.{take, length-take, length-drop}
use lib.Seq.{take_all}
use native.Mathlib.Omega.{arith}
use Prim.Native.Nat.{◌+◌}
use Rattle.step.proofs.take_all.Goals as goal

pub loop-from-init : goal.loop-from-init
loop-from-init g c = (omega arith, c.requires, λ rd w. none_keeps rd c.args.input.now _ _ _ _ _ _ w)

pub loop-from-preserved : goal.loop-from-preserved
loop-from-preserved g c =
    let left = drop c.loop-from.from c.args.input.now in
    let e : take (length c.args.input.now - c.loop-from.from) left ≡ left = take_all _ _ (simp length-drop (omega arith)) in
    let h = simp (length-take, length-drop) at c.feed-fed.ensures.within in
    (omega arith, c.in_ok-s.ensures.0, λ rd w. c.in_ok-s.ensures.1 (after_bytes rd (take (c.loop-from.from + c.feed-fed.result.taken) c.args.input.now)) _ _ _ _ (fed_keeps rd c.args.input.now _ c.loop-from.from _ _ _ _ _ _ _ _ _ _ _ _ e c.feed-fed.ensures (c.loop-from.invariant.2 rd w)))
