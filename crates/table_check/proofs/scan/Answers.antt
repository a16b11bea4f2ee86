-- Each pass ends at its first fault; the three ends together are the verdict (the passed-.. laws).
use Rattle.std.specs.Prelude.{Ok}
use Rattle.rules_walks.proofs.laws.Held.{held_all, held_means}
use Rattle.rules_tables.specs.Form.{form_ok}
use Rattle.rules_tables.specs.Reference.{refers_ok}
use Rattle.rules_tables.proofs.laws.Judge.{passed_rules, passed_refers, passed_form, passed_all}
use mathlib.Core.Path.{ap}
use Rattle.table_check.proofs.scan.Goals as goal

pub whole_starts-at-requires : goal.whole_starts-at-requires
whole_starts-at-requires c = let T = c.args.t.now in (c.requires, rw c.formed_starts-from.ensures.1 c.formed_starts-from.ensures.0, (held_means (form_ok T) _ _ c.formed_starts-from.ensures.1).within)

pub referring_end-referring-requires : goal.referring_end-referring-requires
referring_end-referring-requires c = let T = c.args.t.now in (c.requires, (held_means (form_ok T) _ _ c.formed_starts-from.ensures.1).within, held_all (form_ok T) _ _ c.formed_starts-from.ensures.1)

pub network_end-ruled-requires : goal.network_end-ruled-requires
network_end-ruled-requires c =
    let T = c.args.t.now in
    (rw c.formed_starts-from.ensures.1 c.formed_starts-from.ensures.0, (held_means (refers_ok T) _ _ c.referring_end-referring.ensures).within, (held_means (form_ok T) _ _ c.formed_starts-from.ensures.1).within, c.requires, held_all (form_ok T) _ _ c.formed_starts-from.ensures.1, held_all (refers_ok T) _ _ c.referring_end-referring.ensures)

pub returns-then-ruled-referring : goal.returns-then-ruled-referring
returns-then-ruled-referring c = rw (passed_rules _ _ _ _ _ c.formed_starts-from.ensures.1 c.referring_end-referring.ensures c.network_end-ruled.ensures c.if-ruled-referring.true)

pub returns-then-referring-formed : goal.returns-then-referring-formed
returns-then-referring-formed c = rw (passed_refers _ _ _ _ _ c.formed_starts-from.ensures.1 c.referring_end-referring.ensures c.network_end-ruled.ensures c.if-ruled-referring.false c.if-referring-formed.true)

pub returns-then-formed-t : goal.returns-then-formed-t
returns-then-formed-t c = rw (passed_form _ _ _ _ _ c.formed_starts-from.ensures.1 c.referring_end-referring.ensures c.network_end-ruled.ensures c.if-ruled-referring.false c.if-referring-formed.false c.if-formed-t.true)

pub returns : goal.returns
returns c = rw (passed_all _ _ _ _ _ c.formed_starts-from.ensures.1 c.referring_end-referring.ensures c.network_end-ruled.ensures c.if-ruled-referring.false c.if-referring-formed.false c.if-formed-t.false) (ap Ok c.shape_at.ensures)
