-- The verdict on a table: "Number 1 comes first. Of 2, 3 and 4, the lowest faulty frame is named, and on it the lowest number."
use Rattle.std.specs.Prelude.{ℕ, zero, suc, ◌%◌, Bool, not, length, eqb, leb, Result, Ok, Err}
use Rattle.rules_walks.specs.Pick.{pick, both}
use Rattle.rules_tables.specs.Frame.{Table, frames_of}
use Rattle.rules_tables.specs.Place.{start_of}
use Rattle.rules_tables.specs.Form.{form_ok}
use Rattle.rules_tables.specs.Reference.{refers_ok}
use Rattle.rules_tables.specs.Network.{rules_ok}
use Rattle.rules_tables.specs.declared.Shape.{Shape}
use Rattle.rules_tables.specs.declared.Refusal.{Refusal}

pub data Verdict : Type 0 where
  accepted : Verdict
  refused : ℕ → ℕ → Verdict

-- 1: "length is 0, no multiple of 12, or above 49,152"
unfoldable pub length_ok : Table → Bool
length_ok T = both (not (eqb (length T) 0)) (both (eqb (length T % 12) 0) (leb (length T) 49152))

-- the lowest number of a fault of frame f, 0 where it has none
unfoldable pub fault_at : Table → (f : ℕ) → ℕ
fault_at T f = pick (form_ok T f) (pick (refers_ok T f) (pick (rules_ok T f) 0 4) 3) 2

-- the verdict so far stands, unless it is accepted and frame f has the fault q
abbrev pub next : Verdict → ℕ → ℕ → Verdict
next (refused p g) q f = refused p g
next accepted zero f = accepted
next accepted (suc q) f = refused (suc q) f

-- the verdict on the first n frames
unfoldable pub scan_to : Table → (n : ℕ) → Verdict
scan_to T zero = accepted
scan_to T (suc n) = next (scan_to T n) (fault_at T n) n

unfoldable pub judge : Table → Verdict
judge T = pick (length_ok T) (scan_to T (frames_of T)) (refused 1 0)

-- document 01's number of a verdict and the frame it names, 0 where there is none
abbrev pub number : Verdict → ℕ
number accepted = 0
number (refused q f) = q

abbrev pub frame : Verdict → ℕ
frame accepted = 0
frame (refused q f) = f

-- the frame after the last of each kind
abbrev pub shape_of : Table → Shape
shape_of T =
    record {
      elements_end = start_of T 2;
      inputs_end = start_of T 3;
      outputs_end = start_of T 4;
      variables_end = start_of T 5;
      associations_end = start_of T 6;
      states_end = start_of T 7;
      transitions_end = start_of T 8;
      actions_end = start_of T 9;
      steps_end = start_of T 10;
      connections_end = start_of T 11;
      links_end = start_of T 12;
    }

-- a refusal by document 01's number, with the frame it names
abbrev pub refusal : ℕ → ℕ → Refusal
refusal q f = record { number = q; frame = f }

-- what the check answers: the shape of a table that is accepted
abbrev pub Judged : Type 0
Judged = Result Shape Refusal

abbrev pub answer : Verdict → Shape → Judged
answer accepted s = Ok s
answer (refused q f) s = Err (refusal q f)

abbrev pub judged : Table → Judged
judged T = answer (judge T) (shape_of T)

-- document 01's number and frame for each case of the answer
abbrev pub refusal_number : Judged → ℕ
refusal_number (Ok s) = 0
refusal_number (Err r) = r.number

abbrev pub faulty_frame : Judged → ℕ
faulty_frame (Ok s) = 0
faulty_frame (Err r) = r.frame
