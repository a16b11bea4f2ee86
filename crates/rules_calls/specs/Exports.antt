-- What the calls for hosts in C hand out. An answer comes as one number; the counts of a run and the start of a view come through pointers.
use Rattle.std.specs.Prelude.{ℕ, ◌+◌, ◌*◌, ◌≡◌, List}
use Rattle.rules_tables.specs.declared.Shape.{Shape}
use Rattle.rules_tables.specs.declared.Span.{Span}
use Rattle.rules_tables.specs.Judge.{Verdict, accepted, refused, judge, shape_of}
use Rattle.rules_store.specs.Layout.{need}
use Rattle.rules_calls.specs.Answer.{number_of, frame_of, moves_of, bytes_of, stop_of, untrue_of, Answer}
use Rattle.rules_calls.specs.Public.{LoadCall, AdvanceCall, ArrivalCall, RunCall}

-- an answer's refusal number above the lowest 16 bits, the frame in them
abbrev pub packed : Answer → ℕ
packed a = number_of a * 65536 + frame_of a

-- the call was made, and r is its answer, packed
pub record Told (Call : Answer → Type 0) (r : ℕ) : Type 0 where
  pub answer : Answer
  pub call : Call answer
  pub number : r ≡ packed answer

-- ---- the calls of document 01, by that number; load
abbrev pub LoadTold : List ℕ → List ℕ → ℕ → List ℕ → Type 0
LoadTold T s r s' = Told (λ (a : Answer). LoadCall T s a s') r

abbrev pub AdvanceTold : List ℕ → List ℕ → ℕ → ℕ → List ℕ → Type 0
AdvanceTold T s t r s' = Told (λ (a : Answer). AdvanceCall T s t a s') r

abbrev pub ArrivalTold : List ℕ → List ℕ → ℕ → ℕ → List ℕ → ℕ → List ℕ → Type 0
ArrivalTold T s o birth values r s' = Told (λ (a : Answer). ArrivalCall T s o birth values a s') r

-- run tells its counts beside it
pub record RunTold (T s : List ℕ) (budget : ℕ) (out : List ℕ) (r moves stop bytes untrue : ℕ) (s' out' : List ℕ) : Type 0 where
  pub answer : Answer
  pub call : RunCall T s budget out answer s' out'
  pub number : r ≡ packed answer
  pub moves_made : moves ≡ moves_of answer
  pub stopped : stop ≡ stop_of answer
  pub bytes_written : bytes ≡ bytes_of answer
  pub untrue_made : untrue ≡ untrue_of answer

-- ---- a view: the byte of the table at which the frames of a span start, and how many bytes they are
pub record Lies (s : Span) (start length : ℕ) : Type 0 where
  pub starts : start ≡ 12 * s.first
  pub lasts : length ≡ 12 * s.count

-- ---- the words that a store must have; 0 for a table that is refused
abbrev pub need_by : Verdict → Shape → ℕ
need_by accepted S = need S
need_by (refused q f) S = 0

abbrev pub need_or0 : List ℕ → ℕ
need_or0 T = need_by (judge T) (shape_of T)
