-- `cases_numbers::bytes` meets its contract: the bytes that `put_word` leaves, and the number that `word_at` finds in them, are computed.
use Prim.Native.Nat.{ℕ}
use mathlib.Core.Path.{ap, ◌∙◌}
use mathlib.Core.List.{List}
use borrow.Author.Tests.{eq-eqb}
use Rattle.rules_numbers.specs.Bytes.{half_at, word_at, half_bytes, word_bytes}
use Rattle.cases_numbers.proofs.bytes.Goals as goal

pub expect-requires : goal.expect-requires
unfolding half_bytes word_bytes
expect-requires c = c.same.ensures.1 c.put_word.ensures

pub expect-requires-2 : goal.expect-requires-2
unfolding half_at word_at half_bytes word_bytes
expect-requires-2 c =
    let e = c.put_word.ensures in
    eq-eqb _ 0x0102_0304 (c.word_at.ensures.is ∙ ap (λ (l : List ℕ). word_at l 1) e)
