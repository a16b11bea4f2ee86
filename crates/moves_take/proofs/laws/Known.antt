-- What is read of an event before it is taken.
use Rattle.std.specs.Prelude.{◌≡◌, List, ℕ, ◌<◌}
use Rattle.std.proofs.Common.{arith}
use Rattle.rules_tables.specs.Frame.{frames_of, flag_at, field_at}
use Rattle.rules_tables.specs.declared.Shape.{Shape}
use Rattle.rules_tables.specs.Good.{Good}
use Rattle.rules_tables.specs.Ids.{inputs}
use Rattle.rules_store.specs.Word.{birth_of, last_update}
use Rattle.rules_moves.specs.Partner.{input_owner}
use Rattle.moves_take.specs.Received.{Event}

-- a field that was read at a frame that was worked out
pub at_frame : (T : List ℕ) (k : ℕ) {f g x : ℕ} → f ≡ g → x ≡ field_at T f k → x ≡ field_at T g k
at_frame T k e p = rw (← e) p

module _ (T : List ℕ) (S : Shape) (i : ℕ) where
  -- the element of event input i has a frame
  pub owner_in : {el : ℕ} → el ≡ input_owner T S i → Good T S → i < inputs S → el < frames_of T
  owner_in e g l =
      let h = g.input_element i l in
      omega
      (arith, g.to_inputs, g.to_outputs, g.to_variables, g.to_associations, g.to_states, g.to_transitions, g.to_actions, g.to_steps, g.to_connections, g.to_links, g.to_end)

  pub event_known : (s : List ℕ) {el sort birth last : ℕ} → el ≡ input_owner T S i → sort ≡ flag_at T el → birth ≡ birth_of S s i → last ≡ last_update S s i → Event T S s i sort el birth last
  event_known s a b c d = record { sort_is = rw a at b; element_is = a; birth_is = c; last_is = d }
