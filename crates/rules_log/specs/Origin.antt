-- What a log says by itself: in which order events were taken, where each chain began, what was sampled and copied last. None of it looks at a store's words
-- but at those that were written down when the event was taken or fired.
use Rattle.std.specs.Prelude.{ℕ, ◌≤◌, List, [], ◌++◌}
use Rattle.rules_walks.specs.Choose.{choose}
use Rattle.rules_tables.specs.declared.Shape.{Shape}
use Rattle.rules_store.specs.Word.{now_of, running_of, birth_of, last_update, value, buffer}
use Rattle.rules_moves.specs.Carry.{voice_of, carries}
use Rattle.rules_moves.specs.Record.{put_out}
use Rattle.rules_store.specs.Load.{start_value}
use Rattle.rules_moves.specs.Connected.{connected}
use Rattle.rules_moves.specs.Associated.{associated}
use Rattle.rules_log.specs.Log.{begins, goes_on, takes, fires, Log, empty, more}

-- whose chain: of the event that waits at an event input, or of the event that was taken last
pub data Event : Type 0 where
  waits : ℕ → Event
  current : Event

-- where a chain began: with an arrival or a delay of this birth; or there is none
pub data Chain : Type 0 where
  born : ℕ → Chain
  no_chain : Chain

-- the birth that it bears; 0 where there is none
abbrev pub birth_in : Chain → ℕ
birth_in (born t) = t
birth_in no_chain = 0

-- what there was when the log begins: the last update of the event taken last, chains, values and buffers
pub record Begun : Type 0 where
  pub last : ℕ
  pub chains : Event → Chain
  pub values : ℕ → ℕ
  pub buffers : ℕ → ℕ

-- after a load: no event, and the start values
abbrev pub fresh : List ℕ → Shape → Begun
fresh T S = record { last = 0; chains = λ e. no_chain; values = start_value T S; buffers = start_value T S }

-- in a store as it was found: the births, values and buffers that it has
abbrev pub born_in : Shape → List ℕ → Event → Chain
born_in S s (waits i) = born (birth_of S s i)
born_in S s current = born (running_of s).birth

abbrev pub as_found : Shape → List ℕ → Begun
as_found S s = record { last = 0; chains = born_in S s; values = value S s; buffers = buffer S s }

-- ---- order
-- the last update of the event that was taken last
abbrev pub latest : Shape → Begun → Log → ℕ
latest S B empty = B.last
latest S B (more l (takes i s)) = last_update S s i
latest S B (more l (fires o how s)) = latest S B l

-- "events are taken in an order whose last-update times never fall"
abbrev pub Ordered : Shape → Begun → Log → Type 0
Ordered S B empty = Unit
Ordered S B (more l (takes i s)) = Ordered S B l × (latest S B l ≤ last_update S s i)
Ordered S B (more l (fires o how s)) = Ordered S B l

-- ---- births
-- the arrival or delay that began its chain
unfoldable pub origin : List ℕ → Shape → Begun → Log → Event → Chain
origin T S B empty e = B.chains e
origin T S B (more l (takes i s)) (waits c) = origin T S B l (waits c)
origin T S B (more l (takes i s)) current = origin T S B l (waits i)
origin T S B (more l (fires o (begins t) s)) (waits c) = choose (connected T S o c) (born t) (origin T S B l (waits c))
origin T S B (more l (fires o goes_on s)) (waits c) = choose (connected T S o c) (origin T S B l current) (origin T S B l (waits c))
origin T S B (more l (fires o how s)) current = origin T S B l current

-- ---- inputs
-- what the buffer of v held when an event associated with it was last taken; where there was none, its value at the beginning
unfoldable pub last_sampled : List ℕ → Shape → Begun → Log → ℕ → ℕ
last_sampled T S B empty v = B.values v
last_sampled T S B (more l (takes i s)) v = choose (associated T S i v) (buffer S s v) (last_sampled T S B l v)
last_sampled T S B (more l (fires o how s)) v = last_sampled T S B l v

-- ---- buffers
-- what v held when an event carrying it was last fired; where there was none, what the buffer of d, to which v is connected, held at the beginning
unfoldable pub last_copied : List ℕ → Shape → Begun → Log → ℕ → ℕ → ℕ
last_copied T S B empty v d = B.buffers d
last_copied T S B (more l (takes i s)) v d = last_copied T S B l v d
last_copied T S B (more l (fires o how s)) v d = choose (carries T S (voice_of T S o) v) (value S s v) (last_copied T S B l v d)

-- ---- records
-- the bytes put out: a record for each event that a sink took, with the birth of its chain
unfoldable pub records_of : List ℕ → Shape → Begun → Log → List ℕ
records_of T S B empty = []
records_of T S B (more l (takes i s)) = records_of T S B l ++ put_out T S i (birth_in (origin T S B l (waits i))) (now_of s) s
records_of T S B (more l (fires o how s)) = records_of T S B l
