use Rattle.rules_sessions.specs.Text.{digits}
use lib.ListN.{length, take}
use lib.Seq.{sets}
use mathlib.Core.Path.{◌≡◌}
use Rattle.lines.proofs.text.put_digits.Given as goal

abbrev pub invariant-loop-i : goal.invariant-loop-i
invariant-loop-i l = (l.text ≡ sets l.initial.text l.at (digits (take l.i l.bytes))) × (length l.text ≡ length l.initial.text)
