-- Refusal 2, the form of a frame: "a frame's kind is unknown or below the kind before it; flag or step count out of range; an unused field is not zero;
-- the frame exceeds its kind's number".
use Rattle.std.specs.Prelude.{ℕ, List, [], ◌∷◌, Bool, not, get_or, replicate, eqb, ltb, leb}
use Rattle.rules_walks.specs.Pick.{pick, both, either}
use Rattle.rules_walks.specs.All.{all_to}
use Rattle.rules_tables.specs.Kind.{element, action, data_connection}
use Rattle.rules_tables.specs.Frame.{Table, kind_at, flag_at, field_at}
use Rattle.rules_tables.specs.Place.{count_to, order_at}

-- of a kind: the greatest flag, the number of fields used (always the first ones) by flag, the greatest number of frames
pub record Form : Type 0 where
  pub flags : ℕ
  pub fields : List ℕ
  pub most : ℕ

abbrev pub form : (flags : ℕ) → List ℕ → (most : ℕ) → Form
form flags fields most = record { flags = flags; fields = fields; most = most }

-- fields used by flag: as many for each, or some for flag 0 and others for the rest. The last of the nine entries is for each flag from 8 on
abbrev pub always : (n : ℕ) → List ℕ
always n = replicate 9 n

abbrev pub at_zero : (n m : ℕ) → List ℕ
at_zero n m = n ∷ replicate 8 m

-- "Copy and negate use b only, age neither": by operation, the result counted
abbrev pub by_operation : List ℕ
by_operation = 2 ∷ 3 ∷ 3 ∷ 2 ∷ 3 ∷ 3 ∷ 3 ∷ 3 ∷ 1 ∷ []

-- the table of kinds. Entry 0 is no kind;
-- 01 "a priority ..; basic: b initial state"; 07 "a from; b to; c event input or FFFF; guard 1 to 4: d, e variables"
abbrev pub forms : List Form
forms =
    form 0 (always 0) 0 ∷
    form 4 (at_zero 2 1) 64 ∷
    form 255 (always 1) 256 ∷
    form 0 (always 1) 256 ∷
    form 2 (always 3) 512 ∷
    form 1 (always 2) 4096 ∷
    form 0 (always 1) 512 ∷
    form 4 (at_zero 3 5) 1024 ∷
    form 0 (always 4) 4096 ∷
    form 8 by_operation 4096 ∷
    form 0 (always 2) 4096 ∷
    form 0 (always 2) 4096 ∷ []

abbrev pub form_of : (k : ℕ) → Form
form_of k = get_or forms k (form 0 [] 0)

-- the number of fields that a frame of kind k with flag g uses
unfoldable pub used_of : (k g : ℕ) → ℕ
used_of k g = get_or (form_of k).fields (pick (ltb g 8) g 8) 0

-- field j of frame f is one of the u used ones, or zero
unfoldable pub clear_at : Table → (f u j : ℕ) → Bool
clear_at T f u j = either (ltb j u) (eqb (field_at T f j) 0)

-- "c number of steps, 0 to 64"
unfoldable pub steps_ok : Table → (f : ℕ) → Bool
steps_ok T f = either (not (eqb (kind_at T f) action)) (leb (field_at T f 2) 64)

-- what stands in the frame itself
unfoldable pub body_ok : Table → (f : ℕ) → Bool
body_ok T f =
    both (leb (flag_at T f) (form_of (kind_at T f)).flags)
    (both (steps_ok T f) (all_to (clear_at T f (used_of (kind_at T f) (flag_at T f))) 5))

unfoldable pub form_ok : Table → (f : ℕ) → Bool
form_ok T f =
    both (leb element (kind_at T f))
    (both (leb (kind_at T f) data_connection)
    (both (order_at T f)
    (both (ltb (count_to T (kind_at T f) f) (form_of (kind_at T f)).most) (body_ok T f))))
