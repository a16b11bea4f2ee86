-- `show` meets its contract: a refusal, or what was shown.
use Rattle.calls.proofs.Showing.{stands_charted, show_stops, show_done}
use Rattle.calls.proofs.show.show.Goals as goal

pub returns-in-Err : goal.returns-in-Err
returns-in-Err c = show_stops _ _ _ _ c.in-Err.ensures

pub show_frames-r-requires : goal.show_frames-r-requires
show_frames-r-requires c = stands_charted _ c.in-Ok.ensures.0

pub returns : goal.returns
returns c = show_done _ _ _ _ c.in-Ok.ensures.0 c.in-Ok.ensures.1 c.show_frames-r.result c.show_frames-r.ensures
