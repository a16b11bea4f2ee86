-- By the test of the length: the answer of the passes, or refusal 1. The numbers of the answer are those of the verdict.
use Rattle.rules_tables.specs.Frame.{frames_of}
use Rattle.rules_tables.specs.Judge.{judge, scan_to, refusal_number, faulty_frame}
use Rattle.rules_tables.proofs.laws.Judge.{numbers, length_few}
use mathlib.Core.Path.{refl, sym, ap, ◌∙◌}
use Rattle.table_check.proofs.check.Goals as goal

pub scan-requires : goal.scan-requires
scan-requires c = length_few _ (sym c.length_ok.ensures ∙ c.if-length_ok.true)

pub returns-then-length_ok : goal.returns-then-length_ok
unfolding judge
returns-then-length_ok c =
    let T = c.args.t.now in
    let n = numbers T (scan_to T (frames_of T)) in
    rw (← c.length_ok.ensures, c.if-length_ok.true) (c.scan.ensures, ap refusal_number c.scan.ensures ∙ n.0, ap faulty_frame c.scan.ensures ∙ n.1)

pub returns-else-length_ok : goal.returns-else-length_ok
unfolding judge
returns-else-length_ok c = rw (← c.length_ok.ensures, c.if-length_ok.false) (refl, refl, refl)
