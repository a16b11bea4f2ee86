-- Computed examples: what no law says of the rules of tables, so that code and definition cannot change it together.
use Rattle.std.specs.Prelude.{◌≡◌, refl, true, false, List, [], ◌∷◌, ◌++◌, map, ℕ, replicate}
use Rattle.rules_walks.specs.All.{all_to, any_to}
use Rattle.rules_walks.specs.Count.{count_if}
use Rattle.rules_numbers.specs.Bytes.{half_at}
use Rattle.rules_tables.specs.Frame.{kind_at, flag_at, field_at}
use Rattle.rules_tables.specs.Form.{form_of, used_of, clear_at, steps_ok, body_ok, form_ok}
use Rattle.rules_tables.specs.Fresh.{alike, shares, fresh}
use Rattle.rules_tables.specs.Judge.{length_ok}
use Rattle.rules_tables.specs.Place.{order_at}
use Rattle.rules_tables.specs.View.{span, stretch, steps_at}

-- a frame of small numbers a to e
abbrev frame : (kind flag a b c d e : ℕ) → List ℕ
frame kind flag a b c d e = kind ∷ flag ∷ 0 ∷ a ∷ 0 ∷ b ∷ 0 ∷ c ∷ 0 ∷ d ∷ 0 ∷ e ∷ []

-- ---- 1: "length is 0, no multiple of 12, or above 49,152"
pub lengths : map (λ (n : ℕ). length_ok (replicate n 0)) (0 ∷ 12 ∷ 13 ∷ []) ≡ false ∷ true ∷ false ∷ []
unfolding length_ok
lengths = refl

-- ---- 2: how many fields a frame uses. "basic: b initial state": a basic element uses two, any other one; "guard 1 to 4: d, e variables";
-- "Copy and negate use b only, age neither"
pub used_of_elements : map (used_of 1) (0 ∷ 1 ∷ 2 ∷ 3 ∷ 4 ∷ []) ≡ 2 ∷ 1 ∷ 1 ∷ 1 ∷ 1 ∷ []
unfolding used_of
used_of_elements = refl

pub used_of_transitions : map (used_of 7) (0 ∷ 1 ∷ 2 ∷ 3 ∷ 4 ∷ []) ≡ 3 ∷ 5 ∷ 5 ∷ 5 ∷ 5 ∷ []
unfolding used_of
used_of_transitions = refl

pub used_of_steps : map (used_of 9) (0 ∷ 1 ∷ 2 ∷ 3 ∷ 4 ∷ 5 ∷ 6 ∷ 7 ∷ 8 ∷ []) ≡ 2 ∷ 3 ∷ 3 ∷ 2 ∷ 3 ∷ 3 ∷ 3 ∷ 3 ∷ 1 ∷ []
unfolding used_of
used_of_steps = refl

-- the greatest flag and number of frames of each kind
pub greatest_flags : map (λ (k : ℕ). (form_of k).flags) (1 ∷ 2 ∷ 3 ∷ 4 ∷ 5 ∷ 6 ∷ 7 ∷ 8 ∷ 9 ∷ 10 ∷ 11 ∷ []) ≡ 4 ∷ 255 ∷ 0 ∷ 2 ∷ 1 ∷ 0 ∷ 4 ∷ 0 ∷ 8 ∷ 0 ∷ 0 ∷ []
greatest_flags = refl

pub greatest_numbers : map (λ (k : ℕ). (form_of k).most) (1 ∷ 2 ∷ 3 ∷ 4 ∷ 5 ∷ 6 ∷ 7 ∷ 8 ∷ 9 ∷ 10 ∷ 11 ∷ [])
    ≡ 64 ∷ 256 ∷ 256 ∷ 512 ∷ 4096 ∷ 512 ∷ 1024 ∷ 4096 ∷ 4096 ∷ 4096 ∷ 4096 ∷ []
greatest_numbers = refl

-- "an unused field is not zero": an interface with b, and an event input with e
pub unused : map (λ (T : List ℕ). form_ok T 0) (frame 1 1 0 0 0 0 0 ∷ frame 1 1 0 1 0 0 0 ∷ frame 2 7 1 0 0 0 9 ∷ []) ≡ true ∷ false ∷ false ∷ []
unfolding form_ok body_ok steps_ok clear_at used_of order_at all_to count_if kind_at flag_at field_at half_at
unused = refl

-- "below the kind before it"
pub falls : map (form_ok (frame 2 0 0 0 0 0 0 ++ frame 1 1 0 0 0 0 0 ++ frame 3 0 0 0 0 0 0)) (0 ∷ 1 ∷ 2 ∷ []) ≡ true ∷ false ∷ true ∷ []
unfolding form_ok body_ok steps_ok clear_at used_of order_at all_to count_if kind_at flag_at field_at half_at
falls = refl

-- ---- 4: what a frame may share with an earlier one. Event inputs of two elements may have one local priority, those of one element may not
pub local_priorities : map (fresh 2 (frame 2 5 0 0 0 0 0 ++ frame 2 5 1 0 0 0 0 ++ frame 2 6 0 0 0 0 0 ++ frame 2 5 0 0 0 0 0)) (1 ∷ 2 ∷ 3 ∷ []) ≡ true ∷ true ∷ false ∷ []
unfolding fresh shares alike any_to kind_at flag_at field_at half_at
local_priorities = refl

-- a source may have many destinations, a destination one source
pub destinations : map (fresh 11 (frame 11 0 3 4 0 0 0 ++ frame 11 0 3 5 0 0 0 ++ frame 11 0 2 5 0 0 0)) (1 ∷ 2 ∷ []) ≡ true ∷ false ∷ []
unfolding fresh shares alike any_to kind_at flag_at field_at half_at
destinations = refl

-- an event output and an event input may be associated with variables of one number
pub association_flags : map (fresh 5 (frame 5 0 3 4 0 0 0 ++ frame 5 1 3 4 0 0 0 ++ frame 5 0 3 4 0 0 0)) (1 ∷ 2 ∷ []) ≡ true ∷ false ∷ []
unfolding fresh shares alike any_to kind_at flag_at field_at half_at
association_flags = refl

-- ---- an empty view lies at the table's start
pub empty_view : stretch 7 0 ≡ span 0 0
unfolding stretch
empty_view = refl

-- the steps 1 and 2 of three, which begin at frame 1
pub steps_view : steps_at (frame 8 0 0 1 2 0 0 ++ frame 9 8 0 0 0 0 0 ++ frame 9 8 0 0 0 0 0 ++ frame 9 8 0 0 0 0 0) 0 ≡ span 2 2
unfolding steps_at count_if kind_at field_at half_at
steps_view = refl
