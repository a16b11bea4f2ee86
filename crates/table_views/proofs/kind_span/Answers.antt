-- The frames of a kind of an accepted table stand in one stretch, which lies in the table; else there is nothing (Views).
use Rattle.table_frames.proofs.laws.Kind.{is_zero}
use Rattle.table_views.proofs.laws.Views.{kind_refused, kind_low, kind_high, few_frames, kind_in}
use Rattle.std.proofs.Common.{sym, ◌∙◌, arith}
use Rattle.std.proofs.lemmas.Bool.{eqb-true, eqb-false}
use Rattle.table_views.proofs.kind_span.Goals as goal

pub returns-in_default : goal.returns-in_default
returns-in_default c = kind_refused _ _ _ (sym c.check-judged.ensures.0 ∙ c.in_default.is)

pub returns-in_default-of : goal.returns-in_default-of
returns-in_default-of c = kind_high _ _ c.in_default-of.ensures

pub returns-then-eq : goal.returns-then-eq
returns-then-eq c =
    let e = eqb-true _ _ (sym (is_zero c.in-Some.kind) ∙ sym c.eq.ensures ∙ c.if-eq.true) in
    kind_low _ _ (omega (arith, e, c.in-Some.ensures.0))

pub starts-starts-requires : goal.starts-starts-requires
starts-starts-requires c = few_frames _ _ (sym c.check-judged.ensures.0 ∙ c.in-Ok.is)

pub returns : goal.returns
returns c =
    let k = c.in-Some.ensures in
    let ne = eqb-false _ _ (sym (is_zero c.in-Some.kind) ∙ sym c.eq.ensures ∙ c.if-eq.false) in
    kind_in _ _ (sym c.check-judged.ensures.0 ∙ c.in-Ok.is) _ _ _ _ (omega (arith, ne, k.0)) (omega arith) (c.starts-starts.ensures.starts _ (omega arith)) (rw k.0 at c.count.ensures) c.stretch.ensures
