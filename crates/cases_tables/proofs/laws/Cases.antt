-- The one claim over the table cases, computed; and that what is known of an accepted table can be met.
use Rattle.std.specs.Prelude.{◌≡◌, refl, List, [], ◌∷◌, map, ℕ, get_or}
use Rattle.std.proofs.Common.{ap}
use Rattle.rules_walks.specs.All.{all_to, any_to}
use Rattle.rules_walks.specs.Count.{count_if}
use Rattle.rules_numbers.specs.Bytes.{half_at}
use Rattle.rules_tables.specs.Frame.{kind_at, flag_at, field_at}
use Rattle.rules_tables.specs.Place.{order_at, seek_to, owned_by, sort_is}
use Rattle.rules_tables.specs.Form.{Form, forms as «kinds», used_of, clear_at, steps_ok, body_ok, form_ok}
use Rattle.rules_tables.specs.Reference.{initial_state, of_element, joins, associates, of_basic, maybe_owned, uses_own, transits, result_of, steps_of, acts, steps_to, connects_events, variable_with, connects_data, refers_as, refers_ok}
use Rattle.rules_tables.specs.Fresh.{alike, shares, fresh, same_event, eight_at_most}
use Rattle.rules_tables.specs.Shapes.{class_at, part_at, parts, source_shape, sink_shape, interface_shape, delay_shape, shape_as, shape_ok}
use Rattle.rules_tables.specs.Network.{rules_ok}
use Rattle.rules_tables.specs.Judge.{Verdict, accepted, refused, length_ok, fault_at, scan_to, judge}
use Rattle.rules_tables.specs.View.{stretch, kind_span, steps_at, step_span}
use Rattle.rules_tables.specs.Accepted.{Accepted}
use Rattle.rules_tables.proofs.laws.Accepted.{accepted_means}
use Rattle.cases_tables.specs.Worked.{bytes, worked, small, bare, pair}
use Rattle.cases_tables.specs.Cases.{Told, verdict, formed, shown, answer, Case, cases}

pub all_right : map (λ (c : Case). answer c.table c.asked) cases ≡ map (λ (c : Case). c.want) cases
unfolding worked small bare pair all_to any_to count_if half_at kind_at flag_at field_at order_at seek_to owned_by sort_is used_of clear_at steps_ok body_ok form_ok initial_state of_element joins associates of_basic maybe_owned uses_own transits result_of steps_of acts steps_to connects_events variable_with connects_data refers_as refers_ok alike shares fresh same_event eight_at_most class_at part_at parts source_shape sink_shape interface_shape delay_shape shape_as shape_ok rules_ok length_ok fault_at scan_to judge stretch kind_span steps_at step_span
all_right = refl

-- "At most 4,096 frames, 64 elements, 256 event inputs, 256 event outputs, 512 variables, 512 states, 1,024 transitions."
pub most_frames : map (λ (x : Form). x.most) «kinds» ≡ 0 ∷ 64 ∷ 256 ∷ 256 ∷ 512 ∷ 4096 ∷ 512 ∷ 1024 ∷ 4096 ∷ 4096 ∷ 4096 ∷ 4096 ∷ []
most_frames = refl

-- ---- what is known of an accepted table can be met: by the worked one, and by one with hardly anything in it
abbrev verdict_at : ℕ → List Told → Verdict
verdict_at i ts = told (get_or ts i (verdict (refused 0 0)))
  where
    told : Told → Verdict
    told (verdict v) = v
    told (formed b) = refused 0 0
    told (shown s) = refused 0 0

pub worked_right : judge (bytes worked) ≡ accepted
worked_right = ap (verdict_at 0) all_right

pub worked_accepted : Accepted (bytes worked)
worked_accepted = accepted_means (bytes worked) worked_right

pub bare_right : judge (bytes bare) ≡ accepted
bare_right = ap (verdict_at 2) all_right

pub bare_accepted : Accepted (bytes bare)
bare_accepted = accepted_means (bytes bare) bare_right
