-- `put_untrue` meets its contract by that of `put`.
use Rattle.rules_store.specs.Word.{put_untrue}
use Rattle.store_words.proofs.word.put_untrue.Goals as goal

pub returns : goal.returns
unfolding put_untrue
returns c = c.put.ensures
