-- Every definition on the way of the cases, named once, so that a claim over them can be computed; and the verdicts on their tables.
use Rattle.rules_walks.specs.Choose.{choose}
use Rattle.rules_walks.specs.All.{all_to, any_to}
use Rattle.rules_walks.specs.Count.{count_if}
use Rattle.rules_walks.specs.Held.{held_to}
use Rattle.rules_walks.specs.Walk.{up_to}
use Rattle.rules_walks.specs.First.{first_from}
use Rattle.rules_numbers.specs.Bytes.{half_at, word_at, half_bytes, word_bytes}
use Rattle.rules_numbers.specs.Clip.{clip, quotient, least, greatest}
use Rattle.rules_numbers.specs.Operation.{operation}
use Rattle.rules_numbers.specs.Truth.{true_value, outcome}
use Rattle.rules_tables.specs.Frame.{kind_at, flag_at, field_at}
use Rattle.rules_tables.specs.Place.{seek_to, order_at, owned_by, sort_is}
use Rattle.rules_tables.specs.Form.{used_of, clear_at, steps_ok, body_ok, form_ok}
use Rattle.rules_tables.specs.Reference.{initial_state, of_element, joins, associates, of_basic, maybe_owned, uses_own, transits, result_of, steps_of, acts, steps_to, connects_events, variable_with, connects_data, refers_as, refers_ok}
use Rattle.rules_tables.specs.Fresh.{alike, shares, fresh, same_event, eight_at_most}
use Rattle.rules_tables.specs.Shapes.{class_at, part_at, parts, source_shape, sink_shape, interface_shape, delay_shape, shape_as, shape_ok}
use Rattle.rules_tables.specs.Network.{rules_ok}
use Rattle.rules_tables.specs.Judge.{length_ok, fault_at, scan_to, judge}
use Rattle.cases_tables.specs.Worked.{worked}
use Rattle.rules_tables.specs.Ids.{inputs, outputs, variables, associations, states, transitions, actions, steps, connections, links}
use Rattle.rules_store.specs.Layout.{need, element_at, input_at, variable_at}
use Rattle.rules_store.specs.Word.{now_of, put_now, running_element, current_event, put_owner, running_of, put_running, counted, overwritten, put_overwritten, untrue, put_untrue, spare_at, spare_word, chart_state, put_chart_state, due_flag, due_time, set_due, next_due, put_next, waiting, birth_of, last_update, put_input, value, put_value, buffer, put_buffer}
use Rattle.rules_store.specs.Due.{due_at, sooner, earliest, put_due}
use Rattle.rules_tables.specs.Owned.{belongs, is_nth}
use Rattle.rules_moves.specs.Partner.{partner_output, partner_input, partner_variable}
use Rattle.rules_moves.specs.Carry.{voice_of, speaks, carried_by, carries}
use Rattle.rules_moves.specs.Fire.{mark, connect, copy_if, fire}
use Rattle.rules_moves.specs.Least.{beats, better, look, least as «least_of»}
use Rattle.rules_moves.specs.Take.{sample, pass_to, pass, fire_found, ticks_in, dt_of, is_start, started, start_stop, wake, sampled, settle, settled, fired_by, taken}
use Rattle.rules_moves.specs.Record.{head, value_of, values, record_of, record_size, put_out}
use Rattle.rules_moves.specs.Guard.{guard_of, guard_at, holds}
use Rattle.rules_moves.specs.Chart.{heard, guard_holds, enabled, transition_of, change, go_idle}
use Rattle.rules_tables.specs.Actions.{action_of, action_number}
use Rattle.rules_moves.specs.Act.{step_outcome, result_put, untrue_step, count_untrue, one_step, step_move, event_of, end_move}
use Rattle.rules_moves.specs.Next.{event_next, chart_next, act_next, next_by, next_of, move_by, move, untrue_by, untrue_move, written_by, written, size_by}
use Rattle.rules_store.specs.WellFormed.{spare_ok, is_next, next_ok, rest_ok, owner_ok, step_ok, mode_ok, running_ok, chart_ok, due_ok, element_ok, input_ok, variable_ok, parts_ok, well_formed}
use Rattle.rules_store.specs.Load.{initial, start_value, start, loaded}
use Rattle.rules_calls.specs.Run.{after, bytes, untrue_in, another, room_for, continues, made, stop_after}
use Rattle.rules_calls.specs.Calls.{expired, expire, advanced, wrong_time, due_before, beyond_due, give, arrived, of_source, value_count}
use Rattle.rules_calls.specs.Refusals.{load_refusal, store_refusal, time_refusal, advance_refusal, event_refusal, arrival_refusal}
use Rattle.cases.specs.Script.{stored, answered, printed}
use Rattle.cases.specs.Cases.{frames_in}

-- every definition on the way, named once
unfoldable pub everything : Unit {0}
unfolding frames_in worked stored answered printed choose all_to any_to count_if held_to up_to first_from half_at word_at half_bytes word_bytes clip quotient least greatest operation true_value outcome kind_at flag_at field_at seek_to order_at owned_by sort_is used_of clear_at steps_ok body_ok form_ok initial_state of_element joins associates of_basic maybe_owned uses_own transits result_of steps_of acts steps_to connects_events variable_with connects_data refers_as refers_ok alike shares fresh same_event eight_at_most class_at part_at parts source_shape sink_shape interface_shape delay_shape shape_as shape_ok rules_ok length_ok fault_at scan_to judge inputs outputs variables associations states transitions actions steps connections links need element_at input_at variable_at now_of put_now running_element current_event put_owner running_of put_running overwritten put_overwritten untrue put_untrue spare_at spare_word chart_state put_chart_state due_flag due_time set_due next_due put_next due_at sooner earliest put_due waiting birth_of last_update put_input value put_value buffer put_buffer belongs is_nth partner_output partner_input partner_variable voice_of speaks carried_by carries counted mark connect copy_if fire beats better look «least_of» sample pass_to pass fire_found ticks_in dt_of is_start started start_stop wake sampled settle settled fired_by taken head value_of values record_of record_size put_out heard guard_of guard_at holds guard_holds enabled transition_of action_of action_number change go_idle step_outcome result_put untrue_step count_untrue one_step step_move event_of end_move event_next chart_next act_next next_by next_of move_by move untrue_by untrue_move written_by written size_by spare_ok is_next next_ok rest_ok owner_ok step_ok mode_ok running_ok chart_ok due_ok element_ok input_ok variable_ok parts_ok well_formed initial start_value start loaded after bytes untrue_in another room_for continues made stop_after expired expire advanced wrong_time due_before beyond_due give arrived of_source value_count load_refusal store_refusal time_refusal advance_refusal event_refusal arrival_refusal
everything = tt
