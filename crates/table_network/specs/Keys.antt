-- Keys by which repeats are found in one pass: two frames of a kind share what they may not exactly when their keys are equal.
use Rattle.std.specs.Prelude.{ℕ, ◌+◌, ◌*◌, ◌%◌, ◌<◌, ◌≤◌, ◌≡◌, ◌⊎◌, Bool, eqb, ltb}
use Rattle.rules_walks.specs.Pick.{pick, both}
use Rattle.rules_tables.specs.Kind.{event_input, event_output, association, event_connection, data_connection}
use Rattle.rules_tables.specs.Frame.{Table, kind_at, flag_at, field_at}
use Rattle.rules_tables.specs.Place.{count_of}
use Rattle.rules_tables.specs.Fresh.{alike, same_event}
use Rattle.rules_tables.specs.Shapes.{class_at}

-- frames f and g have the same number where elements have their priority
unfoldable pub same_priority : Table → (f g : ℕ) → Bool
same_priority T f g = eqb (field_at T g 0) (field_at T f 0)

-- the last eleven bits of that of frame g are i
unfoldable pub filtered : Table → (i g : ℕ) → Bool
filtered T i g = eqb (field_at T g 0 % 2048) i

-- y beside x, where there are ys y
unfoldable pub pair_key : (ys x y : ℕ) → ℕ
pair_key ys x y = x * ys + y

-- the key of frame f, were it of kind k: of a pair both, the second being one of ys; of a data connection the destination
unfoldable pub key_at : (k : ℕ) → Table → (ys f : ℕ) → ℕ
key_at k T ys f =
    pick (eqb k event_input) (pair_key ys (field_at T f 0) (flag_at T f))
    (pick (eqb k association) (pair_key ys (field_at T f 1) (field_at T f 0))
    (pick (eqb k event_connection) (pair_key ys (field_at T f 0) (field_at T f 1)) (field_at T f 1)))

-- frame g is of kind k and has key b + i: number i of the keys from b on
unfoldable pub keyed : (k : ℕ) → Table → (ys b i g : ℕ) → Bool
keyed k T ys b i g = both (eqb (kind_at T g) k) (eqb (key_at k T ys g) (b + i))

-- the kinds of which no two frames may share such a key
abbrev pub Shared : (k : ℕ) → Type 0
Shared k = (k ≡ event_input) ⊎ ((k ≡ association) ⊎ ((k ≡ event_connection) ⊎ (k ≡ data_connection)))

-- of the first n frames, two of kind k share what they may not exactly when their keys are equal
pub record Telling (k : ℕ) (T : Table) (ys n : ℕ) : Type 0 where
  pub same : (f g : ℕ) → f < n → g < n → kind_at T f ≡ k → kind_at T g ≡ k → alike k T f g ≡ eqb (key_at k T ys g) (key_at k T ys f)

-- and those of kind k have so many keys
pub record Spanning (k : ℕ) (T : Table) (ys keys n : ℕ) : Type 0 where
  pub below : (f : ℕ) → f < n → kind_at T f ≡ k → key_at k T ys f < keys

-- the keys of kind k are pairs of one of so many x and one of so many y
pub record Paired (k : ℕ) (T : Table) (n xs ys : ℕ) : Type 0 where
  pub few_xs : xs ≤ 4096
  pub few_ys : ys ≤ 4096
  pub telling : Telling k T ys n
  pub spanning : Spanning k T ys (xs * ys) n

-- the event of association f among all events: the outputs behind the inputs
unfoldable pub slot_of : Table → (inputs f : ℕ) → ℕ
slot_of T inputs f = pick (eqb (flag_at T f) 0) (field_at T f 0) (inputs + field_at T f 0)

-- frame g is an association of event b + i
unfoldable pub slotted : Table → (inputs b i g : ℕ) → Bool
slotted T inputs b i g = both (eqb (kind_at T g) association) (eqb (slot_of T inputs g) (b + i))

-- of the first n frames, two associations are of one event exactly when it is the same among all; there are `inputs` event inputs
pub record Slotting (T : Table) (inputs n : ℕ) : Type 0 where
  pub same : (f g : ℕ) → f < n → g < n → kind_at T f ≡ association → kind_at T g ≡ association → same_event T f g ≡ eqb (slot_of T inputs g) (slot_of T inputs f)
  pub below : (f : ℕ) → f < n → kind_at T f ≡ association → slot_of T inputs f < inputs + count_of T event_output

-- no key: of frames that are no part, or of an element that no table within its limits has
abbrev pub far : ℕ
far = 384

-- the key of a part is its element and its class
unfoldable pub part_key : Table → (f : ℕ) → ℕ
part_key T f = pick (both (ltb (class_at T f) 6) (ltb (field_at T f 0) 64)) (6 * field_at T f 0 + class_at T f) far
