-- There is one stretch of the lent table for a span.
use Rattle.std.specs.Prelude.{◌≡◌, List, ℕ}
use Rattle.std.proofs.Common.{sym, ◌∙◌}
use Rattle.std.specs.Borrow.{Bor}
use Rattle.rules_tables.specs.declared.Span.{Span}
use Rattle.rules_tables.specs.View.{IsPart}

-- there is one such part: its bytes and its place are fixed
pub one_part : (t r r' : Bor (List ℕ)) (s : Span) → IsPart t r s → IsPart t r' s → (r.now ≡ r'.now) × (r.ref_ptr ≡ r'.ref_ptr)
one_part t r r' s a b = (a.bytes ∙ sym b.bytes, a.lies ∙ sym b.lies)
