-- `all_digits` meets its contract: a walk over the line is one over its places.
use Rattle.std.proofs.Common.{rules, ◌∙◌}
use Rattle.std.proofs.lemmas.Iterator.{YieldsList-from_slice}
use Rattle.std.proofs.lemmas.Iterator.Search.{all_from_yields_List}
use Rattle.lines.proofs.Walking.{all_list}
use Rattle.rules_sessions.specs.Line.{is_digit, all_digits}
use Rattle.lines.proofs.line.all_digits.Goals as goal

pub returns : goal.returns
unfolding all_digits
returns c = all_from_yields_List is_digit _ _ _ c.all.ensures.ran (YieldsList-from_slice c.args.line.now cc) (λ x b q k. search rules) ∙ all_list is_digit 48 c.args.line.now
