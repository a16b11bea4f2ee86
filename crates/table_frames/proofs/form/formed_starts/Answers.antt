-- `formed_starts` meets its contract. The invariant: the kinds so far are walked (`Walked`), the frames passed are f.
use Rattle.std.proofs.Common.{◌≡◌, ◌+◌, ◌∙◌, arith}
use Rattle.table_frames.proofs.laws.Kind.{kind_in_order}
use Rattle.table_frames.proofs.laws.Walked.{walked_none, walked_more, walked_held, walked_starts, walked_last}
use Rattle.table_frames.proofs.form.formed_starts.Goals as goal

pub loop-kind-init : goal.loop-kind-init
loop-kind-init c = walked_none _

pub loop-kind-preserved : goal.loop-kind-preserved
loop-kind-preserved c =
    let i = c.loop-kind.kind-index in
    let k = kind_in_order i c.loop-kind-test.true in
    let n : c.number.result ≡ i + 1 = c.number.ensures.0 ∙ k in
    rw n (walked_more _ _ (i + 1) _ _ (omega arith) (omega arith) c.loop-kind.invariant (rw k at c.kind_end-f.ensures))

pub returns : goal.returns
returns c =
    let T = c.args.t.now in
    let e : c.loop-kind.kind-index + 1 ≡ 12 = omega arith in
    let w = rw e at c.loop-kind.invariant in
    let h = walked_held T c.loop-kind.from c.loop-kind.f w in
    rw (← h) (walked_starts _ _ _ w, walked_last _ _ _ w)
