-- `count_untrue` meets its contract: where nothing is counted the word stays (`untrue_stays`), else the calls are the definition's parts.
use mathlib.Core.Path.{sym}
use Rattle.rules_store.specs.Word.{counted}
use Rattle.rules_moves.specs.Act.{count_untrue}
use Rattle.store_words.proofs.laws.Running.{untrue_stays}
use Rattle.moves_next.proofs.act.count_untrue.Goals as goal

pub returns-then-u-eq0 : goal.returns-then-u-eq0
unfolding count_untrue counted
returns-then-u-eq0 c = rw c.if-u-eq0.true (sym (untrue_stays _))

pub returns : goal.returns
unfolding count_untrue
returns c = rw (c.put_untrue.ensures, c.counted-n.ensures, c.untrue_count.ensures)
