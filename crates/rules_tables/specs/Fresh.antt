-- What no two frames of a kind may share, and how many variables one event may have.
use Rattle.std.specs.Prelude.{ℕ, Bool, false, not, eqb, ltb}
use Rattle.rules_walks.specs.Pick.{pick, both, either}
use Rattle.rules_walks.specs.All.{any_to}
use Rattle.rules_walks.specs.Count.{count_if}
use Rattle.rules_tables.specs.Kind.{element, event_input, association, event_connection, data_connection}
use Rattle.rules_tables.specs.Frame.{Table, kind_at, flag_at, field_at}

-- frames f and g agree in field j, or in the flag
abbrev pub same_field : Table → (f g j : ℕ) → Bool
same_field T f g j = eqb (field_at T g j) (field_at T f j)

abbrev pub same_flag : Table → (f g : ℕ) → Bool
same_flag T f g = eqb (flag_at T g) (flag_at T f)

-- what two frames of kind k may not share: elements the priority; event inputs of an element the local priority; associations the pair under one flag;
-- event connections the pair; data connections the destination
unfoldable pub alike : (k : ℕ) → Table → (f g : ℕ) → Bool
alike k T f g =
    pick (eqb k element) (same_field T f g 0)
    (pick (eqb k event_input) (both (same_field T f g 0) (same_flag T f g))
    (pick (eqb k association) (both (same_flag T f g) (both (same_field T f g 0) (same_field T f g 1)))
    (pick (eqb k event_connection) (both (same_field T f g 0) (same_field T f g 1))
    (pick (eqb k data_connection) (same_field T f g 1) false))))

-- frame g is of kind k and shares with f what it may not
unfoldable pub shares : (k : ℕ) → Table → (f g : ℕ) → Bool
shares k T f g = both (eqb (kind_at T g) k) (alike k T f g)

-- frame f, if it is of kind k, shares that with no earlier frame
unfoldable pub fresh : (k : ℕ) → Table → (f : ℕ) → Bool
fresh k T f = either (not (eqb (kind_at T f) k)) (not (any_to (shares k T f) f))

-- frame g associates a variable with the event of association f
unfoldable pub same_event : Table → (f g : ℕ) → Bool
same_event T f g = both (eqb (kind_at T g) association) (both (same_flag T f g) (same_field T f g 0))

-- an association's event has at most seven variables before it
unfoldable pub eight_at_most : Table → (f : ℕ) → Bool
eight_at_most T f = either (not (eqb (kind_at T f) association)) (ltb (count_if (same_event T f) f) 8)
