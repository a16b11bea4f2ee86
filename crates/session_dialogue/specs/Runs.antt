-- What a program does with a session: it starts one, feeds it pieces of the input, and writes the text that waits.
use Rattle.std.specs.Prelude.{◌≡◌, List, [], ◌++◌, ℕ, ◌≤◌, length, take}
use Rattle.session_dialogue.specs.declared.session.Phase.TheVariants.{Table}
use Rattle.session_dialogue.specs.declared.session.Session.{Session}
use Rattle.session_dialogue.specs.declared.feeding.Fed.{Fed}
use Rattle.session_dialogue.specs.Standing.{Feeds}

-- the buffers of a session
pub record Buffers : Type 0 where
  pub table : List ℕ
  pub store : List ℕ
  pub values : List ℕ
  pub line : List ℕ
  pub text : List ℕ

pub record Sized (b : Buffers) : Type 0 where
  pub table_size : length b.table ≡ 49164
  pub values_size : 255 ≤ length b.values
  pub line_size : length b.line ≡ 25

-- from a store on: `input` was taken so far, and `out` was written
pub data Runs (store : List ℕ) : List ℕ → List ℕ → Session → Buffers → Type 0 where
  begins : (s : Session) (b : Buffers) → (s.phase ≡ Table) × (s.end ≡ 0) × (s.length ≡ 0) × (s.at ≡ 0) → Sized b → b.store ≡ store → Runs store [] [] s b
  feeds : (input out piece : List ℕ) (s : Session) (r : Fed) (b c : Buffers) → Runs store input out s b
      → Feeds piece s r b.table b.store b.values b.line b.text c.table c.store c.values c.line c.text
      → Runs store (input ++ take r.taken piece) out r.session c
  writes : (input out : List ℕ) (s r : Session) (b : Buffers) → Runs store input out s b
      → (r.phase ≡ s.phase) × (r.end ≡ s.end) × (r.length ≡ s.length) × (r.at ≡ 0) → Runs store input (out ++ take s.at b.text) r b
