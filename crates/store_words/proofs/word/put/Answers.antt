-- `put` meets its contract: a store past the end changes nothing.
use mathlib.Core.Path.{sym}
use lib.Seq.{set_out}
use Rattle.store_words.proofs.word.put.Goals as goal

pub returns-else-k-store : goal.returns-else-k-store
returns-else-k-store c = sym (set_out c.args.store.now c.args.k c.args.x c.if-k-store.false)
