-- The one claim over the table of cases, computed.
use Rattle.std.specs.Prelude.{◌≡◌, refl, map}
use Rattle.std.proofs.Common.{ap, ◌∙◌}
use Rattle.rules_tables.specs.Judge.{Verdict, accepted, refused, judge}
use Rattle.cases.specs.Cases.{Table, doubler, repeated, delayed, paired, prompt, table_of, Case, tells, cases}
use Rattle.cases.specs.Claim.{everything}

-- ---- the verdicts on the tables, computed once
abbrev known : Table → Verdict
known doubler = accepted
known repeated = refused 4 25
known delayed = accepted
known paired = accepted
known prompt = accepted

judged : (t : Table) → judge (table_of t) ≡ known t
unfolding everything
judged doubler = refl
judged repeated = refl
judged delayed = refl
judged paired = refl
judged prompt = refl

computed : map (λ (k : Case). tells known k.asked) cases ≡ map (λ (k : Case). k.want) cases
unfolding everything
computed = refl

-- the one claim
pub all_right : map (λ (k : Case). tells (λ (t : Table). judge (table_of t)) k.asked) cases ≡ map (λ (k : Case). k.want) cases
all_right = ap (λ (v : Table → Verdict). map (λ (k : Case). tells v k.asked) cases) (λ i t. judged t i) ∙ computed
