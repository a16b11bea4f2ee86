-- `word` meets its contract: past the end a list reads its default.
use lib.ListN.{get_or-eq_default}
use mathlib.Core.Path.{sym}
use Rattle.store_words.proofs.word.word.Goals as goal

pub returns-else-k-store : goal.returns-else-k-store
returns-else-k-store c = sym (get_or-eq_default c.args.store.now 0 {n = c.args.k} c.if-k-store.false)
