-- `priorities::priority_before` meets its contract: `any` over a range is the walk `any_to`.
use Rattle.std.proofs.Common.{rules, refl, ◌∙◌, ap, eqb}
use Rattle.rules_walks.specs.All.{any_to}
use Rattle.rules_walks.proofs.laws.Ranges.{any_in}
use Rattle.rules_tables.specs.Frame.{field_at}
use Rattle.table_network.specs.Keys.{same_priority}
use Rattle.table_network.proofs.priorities.priority_before.Goals as goal

pub returns : goal.returns
unfolding same_priority
returns c =
    any_in {p = λ g. eqb (field_at c.args.t.now g 0) c.args.p} c.any.ensures.ran (λ x b q k. search rules) refl
    ∙ ap (λ p. any_to (λ g. eqb (field_at c.args.t.now g 0) p) c.args.f) c.requires.1
