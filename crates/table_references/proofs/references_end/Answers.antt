-- The loop's invariant: every frame before f refers rightly, and the run is known. The first n frames have their form: so each is of a kind, and an
-- element's id is its frame.
use Rattle.std.proofs.Common.{◌≡◌, sym, ◌∙◌, rules, arith}
use Rattle.std.proofs.lemmas.Bool.{eqb-true}
use Rattle.rules_walks.proofs.laws.All.{all_at, all_none, all_more}
use Rattle.rules_walks.proofs.laws.Held.{held_stop, held_end}
use Rattle.rules_tables.proofs.laws.Formed.{formed, element_own}
use Rattle.rules_tables.specs.Form.{form_ok}
use Rattle.table_frames.proofs.laws.Kind.{is_action, some_kind, kind_of}
use Rattle.table_references.proofs.laws.Known.{known_none, acts_kind}
use Rattle.table_references.proofs.references_end.Goals as goal
use Rattle.table_references.proofs.references_end.Goals.{then-eq, else-eq}

pub loop-f-init : goal.loop-f-init
loop-f-init c = let z = c.default-run.ensures in (known_none _ _ z.1.0 z.1.1, all_none _)

pub unwrap-kind-requires : goal.unwrap-kind-requires
unwrap-kind-requires c =
    let w = formed _ c.loop-f.f (all_at (form_ok c.args.frames.now.kinds.table.now) c.args.n c.loop-f.f c.loop-f-test.true c.requires.1) in
    some_kind _ _ c.of.ensures (omega (arith, w.high, c.kind.ensures.0))

pub refers_ok-requires : goal.refers_ok-requires
refers_ok-requires c = (search rules, kind_of _ _ c.of.ensures _ c.unwrap-kind.ensures ∙ c.kind.ensures.0, λ e. element_own _ _ _ c.requires.1 c.loop-f-test.true e)

pub returns-then-not-refers_ok : goal.returns-then-not-refers_ok
returns-then-not-refers_ok c = held_stop _ _ c.loop-f.f c.loop-f-test.true c.loop-f.invariant.1 (sym c.refers_ok.ensures ∙ c.if-not-refers_ok.true)

pub known_after-run-requires : goal.known_after-run-requires
known_after-run-requires c =
    let k = c.unwrap-kind.result in
    (search rules, acts_kind _ _ _ (kind_of _ _ c.of.ensures _ c.unwrap-kind.ensures ∙ c.kind.ensures.0) (eqb-true _ _ (sym (is_action k) ∙ sym c.eq.ensures ∙ c.if-eq.true)) (sym c.refers_ok.ensures ∙ c.if-not-refers_ok.false))

pub loop-f-preserved : goal.loop-f-preserved
loop-f-preserved c =
    (elim c.if-eq.branch [ then-eq w ↦ rw w.run-is w.known_after-run.ensures | else-eq w ↦ rw w.run-is c.loop-f.invariant.0 ], all_more _ c.loop-f.f c.loop-f.invariant.1 (sym c.refers_ok.ensures ∙ c.if-not-refers_ok.false))

pub returns : goal.returns
returns c = let e : c.loop-f.f ≡ c.args.n = omega arith in held_end _ _ (rw e at c.loop-f.invariant.1)
