use Rattle.rules_sessions.specs.Reading.{Reading, after_bytes}
use Rattle.session_dialogue.specs.Standing.{KeepsUp}
use lib.ListN.{length, take}
use Prim.Native.Nat.{◌≤◌, ◌-◌, ◌+◌}
use Rattle.step.proofs.take_all.Given as goal

abbrev pub invariant-loop-from : goal.invariant-loop-from
invariant-loop-from g l =
    (l.from ≤ length l.input) × (l.s.at + 12363 ≤ 65536) × ((rd : Reading) → KeepsUp rd l.initial.s l.initial.b.table l.initial.b.store l.initial.b.values l.initial.b.line l.initial.b.text → KeepsUp (after_bytes rd (take l.from l.input)) l.s l.b.table l.b.store l.b.values l.b.line l.b.text)

abbrev pub decreases-loop-from : goal.decreases-loop-from
decreases-loop-from g l =
    length l.input - l.from
