-- The definition at each outcome of the two tests. What is known of the steps from b on is known of the first of them, so only the rest is looked at.
use Rattle.std.proofs.Common.{◌∙◌, rules}
use Rattle.rules_tables.specs.Reference.{steps_of}
use Rattle.table_frames.proofs.laws.Ranges.{all_over}
use Rattle.table_references.proofs.Coded.{result_at}
use Rattle.table_references.proofs.laws.Known.{known_results, results_from}
use borrow.Author.Tests.{le-leb, lt-leb, eq-eqb, ne_eqb}
use Rattle.table_references.proofs.walk.Walk.steps_of.Goals as goal

pub returns-then-n-eq0 : goal.returns-then-n-eq0
unfolding steps_of
returns-then-n-eq0 c = rw (eq-eqb _ _ c.if-n-eq0.true)

pub returns-then-b-n : goal.returns-then-b-n
unfolding steps_of
returns-then-b-n c =
    rw (ne_eqb _ _ c.if-n-eq0.false, ← c.count.ensures, le-leb _ _ c.if-b-n.true)
    (all_over {p = result_at c.args.self.now.frames.kinds.table.now c.args.b c.args.el} c.all.ensures.ran (λ x b q k. search rules)
    ∙ results_from _ c.args.b c.args.el c.known_from-known.result c.args.n (known_results _ _ _ _ _ c.args.self.now.known c.known_from-known.ensures))

pub returns-else-b-n : goal.returns-else-b-n
unfolding steps_of
returns-else-b-n c = rw (ne_eqb _ _ c.if-n-eq0.false, ← c.count.ensures, lt-leb _ _ c.if-b-n.false)
