-- A walk begins at the first frame of an owner, and an index lists the frames of each.
use Rattle.std.specs.Prelude.{◌≡◌, List, ℕ, ◌+◌, ◌*◌, ◌≤◌, ◌<◌, get_or}
use Rattle.std.proofs.Common.{arith}
use Rattle.rules_tables.specs.Kind.{input}
use Rattle.rules_tables.specs.Frame.{field_at}
use Rattle.rules_tables.specs.declared.Shape.{Shape}
use Rattle.rules_tables.specs.Ids.{first_association, associations, first_variable, variables}
use Rattle.rules_tables.specs.Owned.{any, belongs}
use Rattle.table_index.specs.Leads.{Leads}
use Rattle.table_index.specs.Chain.{owner_at, Chained}
use Rattle.table_index.specs.Index.{Follows, Indexed, index_size}
use Rattle.table_index.specs.Walking.{Walking, Listed}
use Rattle.table_index.proofs.laws.Owned.{first_any, follows_any, first_beyond}
use Rattle.table_index.proofs.laws.Entries.{first_event, first_far, first_other, follows_event}
use Rattle.table_index.proofs.laws.Partnering.{variable_owner}

pub walking_first : (T ix : List ℕ) (first n g x at : ℕ) → first + n ≤ index_size → Leads (belongs T first g x) 0 at n → ((j : ℕ) → j < n → Follows T first g n j (get_or ix (first + j) 0)) → Walking T ix first n g x at
walking_first T ix first n g x at l w h = record { inside = l; within = w.within; met = w.met; next = λ j m b. (h j m).next x b }

-- under any flag
pub listed_any : (T ix : List ℕ) (first n base owners x : ℕ) → first + n ≤ index_size → base + owners ≤ index_size → Chained (owner_at T first 0) first n base owners 0 ix
    → ((i : ℕ) → i < n → field_at T (first + i) 0 < owners) → Listed T ix first n any base owners x
listed_any T ix first n base owners x l m w few =
    record {
      inside = l;
      room = m;
      head = λ h. first_any _ _ _ _ _ _ w x h;
      beyond = λ h. first_beyond T first n owners few any x h;
      nexts = λ j h. follows_any _ _ _ _ _ _ w j h;
    }

module _ (T : List ℕ) (S : Shape) (ix : List ℕ) (w : Indexed T S ix) where
  -- the associations of an event, under a flag that some have, and under the other one
  pub listed_event : (g e : ℕ) → first_association S + associations S ≤ index_size → g < 2 → Listed T ix (first_association S) (associations S) g (4096 + 256 * g) 256 e
  listed_event g e l m =
      record {
        inside = l;
        room = omega arith;
        head = λ h. let q : 4096 + 256 * g + e ≡ 4096 + (256 * g + e) = omega arith in rw q (first_event T S ix w g e (omega arith) h);
        beyond = λ h. first_far T S ix w g e h;
        nexts = λ j h. (follows_event T S ix w j h).under g (omega arith);
      }

  pub listed_no_event : (g e : ℕ) → first_association S + associations S ≤ index_size → 2 ≤ g → g ≤ 2 → Listed T ix (first_association S) (associations S) g (4096 + 256 * g) 0 e
  listed_no_event g e l m k =
      record {
        inside = l;
        room = omega arith;
        head = λ h. absurd (omega arith);
        beyond = λ h. first_other T S ix w g e (omega arith) k;
        nexts = λ j h. (follows_event T S ix w j h).under g k;
      }

  -- the inputs of an element
  pub listed_inputs : (x : ℕ) → first_variable S + variables S ≤ index_size → Listed T ix (first_variable S) (variables S) input 6720 64 x
  listed_inputs x l =
      record {
        inside = l;
        room = omega arith;
        head = λ h. w.elements.heads x h;
        beyond = λ h. first_beyond T (first_variable S) (variables S) 64 (λ i u. variable_owner _ _ w.lawful i u) input x h;
        nexts = λ j h. w.elements.nexts j h;
      }
