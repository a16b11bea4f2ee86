-- `make_room` meets its contract: the text has room, or is written.
use Rattle.std.specs.Prelude.{◌≡◌, ℕ, ◌+◌, ◌≤◌, List}
use Rattle.std.proofs.lemmas.Result.{IfOk-weaker}
use Rattle.rules_sessions.specs.Reading.{Reading}
use Rattle.session_dialogue.specs.declared.session.Session.{Session}
use Rattle.session_dialogue.specs.Standing.{KeepsUp}
use Rattle.session_dialogue.proofs.laws.Whole.{written_keeps}
use native.Mathlib.Omega.{arith}
use Rattle.step.proofs.make_room.Goals as goal

written : (s : Session) (text : List ℕ) (r : Session) → (r.phase ≡ s.phase) × (r.end ≡ s.end) × (r.length ≡ s.length) × (r.at ≡ 0)
    → (r.at + 12363 ≤ 65536) × ((rd : Reading) (t st W line : List ℕ) → KeepsUp rd s t st W line text → KeepsUp rd r t st W line text)
written s text r e = let z = e.3 in (omega arith, λ rd t st W line w. written_keeps rd s r t st W line text e w)

pub returns : goal.returns
returns g c = IfOk-weaker _ _ _ (written c.args.s c.args.text.now) c.flush.ensures
