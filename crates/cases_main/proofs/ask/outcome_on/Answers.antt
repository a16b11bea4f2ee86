-- What is lent of store and output are their first words and bytes, as many as the row says, which fits.
use mathlib.Core.Path.{sym}
use lib.Seq.{length-take-le}
use Rattle.cases_main.proofs.ask.outcome_on.Goals as goal

pub slice_bounds-make_all-end : goal.slice_bounds-make_all-end
slice_bounds-make_all-end c = sym (length-take-le c.args.row.2 _ c.requires.words)

pub slice_bounds-make_all-end-2 : goal.slice_bounds-make_all-end-2
slice_bounds-make_all-end-2 c = sym (length-take-le c.args.row.3 _ c.requires.room)
