-- What is known of the move that is told: it comes next in a well-formed store, r being the running block; and of the store s' after it.
use Rattle.std.specs.Prelude.{ℕ, ◌<◌, ◌≡◌, List}
use Rattle.rules_tables.specs.declared.Shape.{Shape}
use Rattle.rules_store.specs.declared.Running.{Running}
use Rattle.rules_store.specs.Word.{running_of}
use Rattle.rules_store.specs.Formed.{Formed}
use Rattle.rules_tables.specs.Good.{Good}
use Rattle.rules_moves.specs.Chart.{element_of}
use Rattle.rules_moves.specs.Ready.{Ready}
use Rattle.rules_moves.specs.declared.Next.{Next}
use Rattle.rules_moves.specs.declared.Next.TheVariants.{Change, Step, End}
use Rattle.rules_moves.specs.Next.{next_by}
use Rattle.rules_traces.specs.Traceable.{Traceable}

pub record Telling (T : List ℕ) (S : Shape) (time : ℕ) (r : Running) (n : Next) (s : List ℕ) : Type 0 where
  pub traceable : Traceable T S
  pub formed : Formed T S s
  pub running_is : r ≡ running_of s
  pub next_is : n ≡ next_by T S r s
  pub in_time : time < 2147483648

-- the element whose numbers a move tells has a place in a frame
pub record Numbered (T : List ℕ) (S : Shape) (n : Next) (s' : List ℕ) : Type 0 where
  pub is_good : Good T S
  pub is_ready : Ready S n
  pub at_change : (j : ℕ) → n ≡ Change j → element_of s' < 65536
  pub at_step : (j : ℕ) → n ≡ Step j → element_of s' < 65536
  pub at_end : (j : ℕ) → n ≡ End j → element_of s' < 65536
