-- `feed` meets its contract. The invariant: the bytes before i were read, and there is room for what they printed.
use Rattle.session_dialogue.proofs.Taking.{read_none, read_more, some_taken}
use native.Mathlib.Omega.{arith}
use mathlib.Core.Path.{◌≡◌, refl, sym, ◌∙◌}
use Prim.Native.Nat.{◌+◌}
use lib.ListN.{length}
use borrow.Author.Tests.{leb-true, leb-false}
use borrow.Author.Rules.{rules}
use Rattle.session_dialogue.proofs.feeding.feed.Goals as goal

pub loop-i-init : goal.loop-i-init
loop-i-init c = (refl, refl, refl, refl, refl, (λ h. h), (λ _. refl), read_none c.args.piece.now _ _ _ _ _ _)

pub returns-then-not-has_room : goal.returns-then-not-has_room
returns-then-not-has_room c =
    let short = leb-false (c.loop-i.s.at + 12338) (length c.loop-i.text) (sym c.has_room.ensures ∙ c.if-not-has_room.true) in
    record { within = search rules; place = c.loop-i.invariant.5; full = λ _. omega (arith, c.loop-i.invariant.4, short); some = λ l _. some_taken _ _ _ _ c.loop-i.invariant.6 short (omega (arith, l, c.loop-i.invariant.4)); reads = c.loop-i.invariant.7 }

pub take_byte-s-requires : goal.take_byte-s-requires
take_byte-s-requires c = leb-true (c.loop-i.s.at + 12338) (length c.loop-i.text) (sym c.has_room.ensures ∙ c.if-not-has_room.false)

pub loop-i-preserved : goal.loop-i-preserved
loop-i-preserved c = (search rules, search rules, search rules, search rules, search rules, (λ h. omega (arith, c.loop-i.invariant.4, c.take_byte-s.ensures.1, leb-true (c.loop-i.s.at + 12338) (length c.loop-i.text) (sym c.has_room.ensures ∙ c.if-not-has_room.false))), (λ z. absurd (omega arith)), read_more _ _ _ c.loop-i-test.true refl c.loop-i.invariant.7 c.take_byte-s.ensures.0)

pub returns : goal.returns
returns c =
    let e : c.loop-i.i ≡ length c.args.piece.now = omega arith in
    record { within = search rules; place = c.loop-i.invariant.5; full = λ l. absurd (omega (arith, l)); some = λ _ l. omega (arith, l); reads = rw e at c.loop-i.invariant.7 }
