-- `clear` meets its contract: the fields before u are used, and those from u on are zero.
use Rattle.std.proofs.Common.{◌∙◌, rules}
use Rattle.table_frames.proofs.Coded.{zero_at}
use Rattle.table_frames.proofs.laws.Form.{clear_from}
use Rattle.table_frames.proofs.laws.Ranges.{all_over}
use Rattle.table_frames.proofs.form.clear.Goals as goal

pub returns : goal.returns
returns c = all_over {p = zero_at c.args.t.now c.args.f} c.all.ensures.ran (λ x b q k. search rules) ∙ clear_from c.args.t.now c.args.f c.args.u
