-- `kind_end` meets its contract. The invariant: the frames from the start on, up to f, are of the kind, with its body, and not too many.
use Rattle.std.proofs.Common.{◌≡◌, arith, rules}
use Rattle.table_frames.proofs.laws.Walked.{kind_full}
use Rattle.table_frames.proofs.Coded.{held}
use Rattle.table_frames.proofs.laws.Form.{held_most}
use Rattle.table_frames.proofs.form.kind_end.Goals as goal

pub returns : goal.returns
returns c =
    let most : c.from-most.result ≡ (held c.number.result).most = search rules in
    let e : c.loop-f.f ≡ c.min-end.result = omega (arith, c.min-end.ensures) in
    rw (← e) (kind_full _ _ _ _ c.loop-f.invariant (λ l. rw (← c.number.ensures.0) (omega (arith, c.min-end.ensures, most, held_most c.number.result))))
