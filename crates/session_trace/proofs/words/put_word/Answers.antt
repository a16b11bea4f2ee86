-- `put_word` meets its contract: the word is copied into its place.
use Rattle.session_trace.proofs.Printing.{word_put}
use native.Mathlib.Omega.{arith}
use Rattle.session_trace.proofs.words.put_word.Goals as goal

pub returns : goal.returns
returns c = word_put _ _ _ c.args.at _ c.copy_from_slice.ensures.after (omega arith) c.requires
