-- The index of a table. It is no rule: nothing that a caller is told depends on it. It tells a move where the frames of an owner are, so that a move need not
-- look at all frames of a kind.
use Rattle.std.specs.Prelude.{◌≡◌, List, true, ℕ, ◌+◌, ◌≤◌, ◌<◌, length, get_or}
use Rattle.rules_tables.specs.Kind.{none, basic, input, output}
use Rattle.rules_tables.specs.Frame.{Table, flag_at, field_at}
use Rattle.rules_tables.specs.declared.Shape.{Shape}
use Rattle.rules_tables.specs.Ids.{first_input, first_output, first_variable, first_association, first_transition, first_action, first_connection, first_link, inputs, outputs, variables, associations, transitions, actions, connections, links, output_frame, association_frame, transition_frame, action_frame, connection_frame, variable_frame}
use Rattle.rules_tables.specs.Owned.{any, belongs}
use Rattle.rules_tables.specs.Lawful.{Lawful}
use Rattle.table_index.specs.Leads.{Leads}
use Rattle.table_index.specs.Pair.{partner_at}
use Rattle.table_index.specs.Chain.{owner_at, Chained}

-- where the owners' entries of each chain begin, after an entry for each frame; an association's owner is its event under its flag
abbrev pub association_heads : ℕ
association_heads = 4096

abbrev pub transition_heads : ℕ
transition_heads = 4608

abbrev pub action_heads : ℕ
action_heads = 5120

abbrev pub connection_heads : ℕ
connection_heads = 5632

abbrev pub link_heads : ℕ
link_heads = 5888

-- the partners of event inputs and of input variables, and what they are found by: the next output, or output variable, of each element
abbrev pub output_heads : ℕ
output_heads = 6400

abbrev pub output_partners : ℕ
output_partners = 6464

abbrev pub variable_heads : ℕ
variable_heads = 6720

abbrev pub variable_partners : ℕ
variable_partners = 6912

abbrev pub index_size : ℕ
index_size = 7424

-- that each owner has its entry; and that an action's event, which is of its state's element, is a basic element's and so speaks by its own associations
pub record Owners (T : Table) (S : Shape) : Type 0 where
  pub association_flag : (a : ℕ) → a < associations S → flag_at T (association_frame S a) ≤ 1
  pub association_event : (a : ℕ) → a < associations S → field_at T (association_frame S a) 0 < 256
  pub transition_from : (j : ℕ) → j < transitions S → field_at T (transition_frame S j) 0 < 512
  pub action_state : (j : ℕ) → j < actions S → field_at T (action_frame S j) 0 < 512
  pub connection_output : (j : ℕ) → j < connections S → field_at T (connection_frame S j) 0 < 256
  pub variable_role : (v : ℕ) → v < variables S → flag_at T (variable_frame S v) ≤ 2
  pub action_basic : (j : ℕ) → j < actions S → (field_at T (action_frame S j) 3 ≡ none → ⊥) → flag_at T (field_at T (output_frame S (field_at T (action_frame S j) 3)) 0) ≡ basic

-- ---- what a reader is told: r leads from the j-th of the n frames from `first` on to the next one of its owner, among those with flag g
pub record Follows (T : Table) (first g n j r : ℕ) : Type 0 where
  pub next : (x : ℕ) → belongs T first g x j ≡ true → Leads (belongs T first g x) (j + 1) r n

-- the same under either flag
pub record FollowsEvent (T : Table) (first n j r : ℕ) : Type 0 where
  pub under : (g : ℕ) → g ≤ 2 → Follows T first g n j r

-- ---- what the index keeps
-- what an event is followed by
pub record ByEvent (T : Table) (S : Shape) (ix : List ℕ) : Type 0 where
  pub long : length ix ≡ index_size
  pub associated : Chained (owner_at T (first_association S) 256) (first_association S) (associations S) association_heads 512 0 ix
  pub connected : Chained (owner_at T (first_connection S) 0) (first_connection S) (connections S) connection_heads 256 0 ix
  pub linked : Chained (owner_at T (first_link S) 0) (first_link S) (links S) link_heads 512 0 ix

-- what a chart state is followed by
pub record ByState (T : Table) (S : Shape) (ix : List ℕ) : Type 0 where
  pub leaving : Chained (owner_at T (first_transition S) 0) (first_transition S) (transitions S) transition_heads 512 0 ix
  pub acting : Chained (owner_at T (first_action S) 0) (first_action S) (actions S) action_heads 512 0 ix

-- the inputs of an element
pub record ByElement (T : Table) (S : Shape) (ix : List ℕ) : Type 0 where
  pub heads : (x : ℕ) → x < 64 → Leads (belongs T (first_variable S) input x) 0 (get_or ix (variable_heads + x) 0) (variables S)
  pub nexts : (v : ℕ) → v < variables S → Follows T (first_variable S) input (variables S) v (get_or ix (first_variable S + v) 0)

-- the partners of event inputs, and of input variables
abbrev pub OutputPartners : Table → Shape → List ℕ → Type 0
OutputPartners T S ix = (i : ℕ) → i < inputs S → get_or ix (output_partners + i) 0 ≡ partner_at T (first_input S) any (first_output S) (outputs S) any i

abbrev pub VariablePartners : Table → Shape → List ℕ → Type 0
VariablePartners T S ix = (v : ℕ) → v < variables S → get_or ix (variable_partners + v) 0 ≡ partner_at T (first_variable S) input (first_variable S) (variables S) output v

pub record Indexed (T : Table) (S : Shape) (ix : List ℕ) : Type 0 where
  pub lawful : Lawful T S
  pub owners : Owners T S
  pub events : ByEvent T S ix
  pub states : ByState T S ix
  pub elements : ByElement T S ix
  pub output_partners : OutputPartners T S ix
  pub variable_partners : VariablePartners T S ix
