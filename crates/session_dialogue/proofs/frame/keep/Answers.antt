-- `keep` meets its contract: there is room for the frame, or it is dropped from a table that is too long.
use Rattle.session_dialogue.proofs.Buffers.{frame_dropped, frame_kept}
use Rattle.rules_sessions.specs.Line.{line_frame}
use Rattle.rules_sessions.proofs.laws.Digits.{frame_length}
use borrow.Author.Tests.{leb-true, leb-false}
use lib.ListN.{length}
use mathlib.Core.Path.{sym, ◌∙◌}
use Prim.Native.Nat.{◌+◌}
use Rattle.session_dialogue.proofs.frame.keep.Goals as goal

pub put_frame-requires : goal.put_frame-requires
put_frame-requires c = (c.requires, leb-true (c.args.end + 12) (length c.args.t.now) (sym c.has_room.ensures ∙ c.if-not-has_room.false))

pub returns-then-not-has_room : goal.returns-then-not-has_room
returns-then-not-has_room c = λ T w. frame_dropped T _ _ (line_frame c.args.line.now) w (frame_length _) (leb-false (c.args.end + 12) (length c.args.t.now) (sym c.has_room.ensures ∙ c.if-not-has_room.true))

pub returns : goal.returns
returns c = λ T w. frame_kept T _ _ (line_frame c.args.line.now) w (frame_length _) (leb-true (c.args.end + 12) (length c.args.t.now) (sym c.has_room.ensures ∙ c.if-not-has_room.false)) _ c.put_frame.ensures
