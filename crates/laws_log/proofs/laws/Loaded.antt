-- The laws hold in a store that was just loaded: nothing has happened, and every value and buffer is the start value.
use Rattle.std.proofs.Common.{sym, ap, ◌∙◌, arith}
use Rattle.std.specs.Prelude.{List, ℕ, ◌≤◌, length}
use Rattle.rules_tables.specs.declared.Shape.{Shape}
use Rattle.rules_store.specs.declared.Running.{Running}
use Rattle.rules_store.specs.Layout.{need}
use Rattle.rules_store.specs.Load.{loaded}
use Rattle.rules_tables.specs.Lawful.{destination, Lawful}
use Rattle.laws_kept.proofs.laws.Loading.{loaded_formed, loaded_value, loaded_buffer, loaded_rests, loaded_idle}
use Rattle.rules_log.specs.Log.{empty}
use Rattle.rules_log.specs.Origin.{fresh, origin, last_sampled, last_copied}
use Rattle.laws_log.specs.Holds.{Holds}

pub loaded_holds : (T : List ℕ) (S : Shape) → Lawful T S → (s : List ℕ) → need S ≤ length s → Holds T S (fresh T S) empty (loaded T S s)
unfolding origin last_sampled last_copied
loaded_holds T S k s long =
    record {
      formed = loaded_formed T S s long k;
      order = record { ordered = tt; late = omega arith; later = λ i l w. omega arith };
      births =
          record {
            waiting_born = λ i l w. absurd (let q = sym (loaded_rests T S s long i l) ∙ w in omega arith);
            running_born = λ n. absurd (n (ap (λ (x : Running). x.mode) (loaded_idle T S s long)));
          };
      input_law = λ v l e. loaded_value T S s long v l;
      buffer_law = λ j l. loaded_buffer T S s long (destination T S j) (k.is_good.link_destination j l) (k.destination_input j l);
    }
