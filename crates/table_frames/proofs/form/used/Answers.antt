-- `used` meets its contract: the entry at the flag, or the last, of the form of the kind (`used_is`).
use Rattle.std.proofs.Common.{rules}
use Rattle.table_frames.proofs.laws.Form.{used_is}
use Rattle.table_frames.proofs.form.used.Goals as goal

pub returns : goal.returns
returns c = used_is _ _ _ _ _ c.number.ensures.0 c.min.ensures (search rules)
