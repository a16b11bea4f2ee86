use Rattle.session_dialogue.proofs.Taking.{Reads}
use mathlib.Core.Path.{◌≡◌}
use Prim.Native.Nat.{◌≤◌}
use lib.ListN.{length, take}
use Rattle.session_dialogue.proofs.feeding.feed.Given as goal

abbrev pub invariant-loop-i : goal.invariant-loop-i
invariant-loop-i l =
    (length l.t ≡ length l.initial.t) × (length l.store ≡ length l.initial.store) × (length l.values ≡ length l.initial.values) × (length l.line ≡ length l.initial.line) × (length l.text ≡ length l.initial.text) × (l.initial.s.at ≤ length l.initial.text → l.s.at ≤ length l.initial.text) × (l.i ≡ 0 → l.s.at ≡ l.initial.s.at) × Reads (take l.i l.piece) l.initial.s l.initial.t l.initial.store l.initial.values l.initial.line l.initial.text l.s l.t l.store l.values l.line l.text
