-- What making an index rests on: where the kinds lie, and what the makers of chains and of partners are asked.
use Rattle.std.specs.Prelude.{◌≡◌, List, ℕ, ◌+◌, ◌≤◌, ◌<◌}
use Rattle.rules_tables.specs.Frame.{frames_of, field_at}
use Rattle.rules_tables.specs.declared.Shape.{Shape}
use Rattle.rules_tables.specs.Ids.{first_input, first_output, first_variable, first_association, first_transition, first_action, first_connection, first_link, inputs, outputs, variables, associations, transitions, actions, connections, links}
use Rattle.table_index.specs.Chain.{owner_at}
use Rattle.table_index.specs.Pair.{Pairing}

-- what `chain` is asked of a stretch of frames
abbrev pub ChainAsked : List ℕ → (len first n w base owners : ℕ) → Type 0
ChainAsked T len first n w base owners =
    (first + n ≤ frames_of T) × (frames_of T ≤ 4096) × (w ≤ 256) × (4096 ≤ base) × (base + owners ≤ len) × (len < 65536) × ((j : ℕ) → j < n → owner_at T first w j < owners)

-- where the kinds lie
pub record Lies (T : List ℕ) (S : Shape) : Type 0 where
  pub few : frames_of T ≤ 4096
  pub outputs_at : first_input S + inputs S ≡ first_output S
  pub variables_at : first_output S + outputs S ≡ first_variable S
  pub associations_at : first_variable S + variables S ≡ first_association S
  pub associations_end : first_association S + associations S ≤ first_transition S
  pub actions_at : first_transition S + transitions S ≡ first_action S
  pub actions_end : first_action S + actions S ≤ first_connection S
  pub links_at : first_connection S + connections S ≡ first_link S
  pub links_end : first_link S + links S ≤ frames_of T

-- what `pair` is asked
abbrev pub PairAsked : List ℕ → (len : ℕ) → List ℕ → (first n g other m h heads partners : ℕ) → Type 0
PairAsked T len ix first n g other m h heads partners =
    (first + n ≤ frames_of T) × (other + m ≤ heads) × (heads + 64 ≤ partners) × (partners + n ≤ len) × ((i : ℕ) → i < n → field_at T (first + i) 0 < 64) × Pairing T first g other m h heads partners 0 ix
