-- The kinds of which no two frames may share a key.
use Rattle.std.specs.Prelude.{◌≡◌, refl}
use Rattle.std.proofs.Common.{arith}
use Rattle.rules_tables.specs.Kind.{data_connection}
use Rattle.table_frames.specs.Kind.{kind_number}
use Rattle.table_frames.specs.declared.kind.Kind.{Kind}
use Rattle.table_frames.specs.declared.kind.Kind.TheVariants.{Zero, Element, EventInput, EventOutput, Variable, Association, ChartState, Transition, Action, Step, EventConnection, DataConnection}
use Rattle.table_network.specs.Keys.{Shared}

-- a kind of these that is none of the first three is the last
pub links_left : (k : Kind) → Shared (kind_number k) → (k ≡ EventInput → ⊥) → (k ≡ Association → ⊥) → (k ≡ EventConnection → ⊥) → kind_number k ≡ data_connection
links_left DataConnection s a b c = refl
links_left EventInput s a b c = absurd (a refl)
links_left Association s a b c = absurd (b refl)
links_left EventConnection s a b c = absurd (c refl)
links_left Zero s a b c = omega (arith, s)
links_left Element s a b c = omega (arith, s)
links_left EventOutput s a b c = omega (arith, s)
links_left Variable s a b c = omega (arith, s)
links_left ChartState s a b c = omega (arith, s)
links_left Transition s a b c = omega (arith, s)
links_left Action s a b c = omega (arith, s)
links_left Step s a b c = omega (arith, s)
