-- `Element::parts` meets its contract: the entry of element and class counts the parts by `parts_tally`.
use mathlib.Core.Path.{◌∙◌}
use Rattle.table_network.proofs.laws.Parts.{parts_tally}
use Rattle.table_network.proofs.element.Element.parts.Goals as goal

pub returns : goal.returns
returns c =
    let s = c.args.self.now in
    let n = c.number.ensures in
    rw (← n.0) (c.from.ensures ∙ parts_tally _ _ _ _ n.1 s.few s.tallied)
