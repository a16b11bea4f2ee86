-- What a session of the code and its buffers stand for: a stage of the definition, the line so far, and what was printed. The buffers have 49,164 bytes for the
-- table, one frame more than a table may have; 255 values, as many as an arrival's flag counts; 25 characters, one more than a line may have. What does not go
-- into a buffer is dropped: a table that is too long is refused by its length, and a line that is too long is of a wrong form, also by what is left of them.
use Rattle.std.specs.Prelude.{◌≡◌, List, ◌++◌, Bool, true, false, ℕ, ◌+◌, ◌%◌, ◌≤◌, ◌<◌, ltb, length, take, Ok, Err}
use Rattle.std.proofs.lemmas.List.Edits.{sets}
use Rattle.rules_walks.specs.Pick.{pick}
use Rattle.session_dialogue.specs.declared.session.Phase.{Phase}
use Rattle.session_dialogue.specs.declared.session.Phase.TheVariants.{Table, Calls, Values, Stopped}
use Rattle.session_dialogue.specs.declared.session.Session.{Session}
use Rattle.session_dialogue.specs.declared.feeding.Fed.{Fed}
use Rattle.rules_sessions.specs.Session.{Stage, tabled, calling, awaiting, halted, Deed}
use Rattle.rules_sessions.specs.Reading.{Reading, after_bytes, closed}
use Rattle.rules_calls.specs.Answer.{Answer}

-- ---- the parts of a session
-- the phase after a load
abbrev pub phase_after : Answer → Phase
phase_after (Err r) = Stopped
phase_after (Ok d) = Calls

abbrev pub is_stopped : Phase → Bool
is_stopped Table = false
is_stopped Calls = false
is_stopped (Values a) = false
is_stopped Stopped = true

-- one more, up to `most`
unfoldable pub one_more : ℕ → ℕ → ℕ
one_more g most = pick (ltb g most) (g + 1) most

-- ---- what the buffers hold
-- the first e bytes of t are the table so far, or as much of it as goes in
pub record Tabled (T : List ℕ) (e : ℕ) (t : List ℕ) : Type 0 where
  pub size : length t ≡ 49164
  pub frames_whole : length T % 12 ≡ 0
  pub end_is : e ≡ length (take 49164 T)
  pub held : take e t ≡ take 49164 T

-- the first g words of W are the values of an arrival that have come, of n
pub record Came (vs : List ℕ) (n g : ℕ) (W : List ℕ) : Type 0 where
  pub count : g ≡ length vs
  pub held : take g W ≡ vs
  pub most : g ≤ n
  pub few : n ≤ 255
  pub room : 255 ≤ length W

-- ---- session r with buffers t, st and W stands for a stage
pub record InTable (T s : List ℕ) (r : Session) (t st W : List ℕ) : Type 0 where
  pub phase_is : r.phase ≡ Table
  pub table_is : Tabled T r.end t
  pub store_is : st ≡ s
  pub room : 255 ≤ length W

pub record InCalls (T s : List ℕ) (r : Session) (t st W : List ℕ) : Type 0 where
  pub phase_is : r.phase ≡ Calls
  pub table_is : take r.end t ≡ T
  pub store_is : st ≡ s
  pub room : 255 ≤ length W

pub record InValues (T s : List ℕ) (n o birth : ℕ) (vs : List ℕ) (r : Session) (t st W : List ℕ) : Type 0 where
  pub phase_is : r.phase ≡ Values (record { number = n; event = o; birth = birth; got = length vs })
  pub table_is : take r.end t ≡ T
  pub store_is : st ≡ s
  pub came : Came vs n (length vs) W
  pub fewer : length vs < n

abbrev pub Stands : Stage → Session → List ℕ → List ℕ → List ℕ → Type 0
Stands (tabled T s) r t st W = InTable T s r t st W
Stands (calling T s) r t st W = InCalls T s r t st W
Stands (awaiting T s n o birth vs) r t st W = InValues T s n o birth vs r t st W
Stands halted r t st W = r.phase ≡ Stopped

-- ---- what a deed leaves: session r after s, which stands for the stage after it, and the text with what is printed after what waits there
pub record Took (d : Deed) (s r : Session) (t' st' W' text text' : List ℕ) : Type 0 where
  pub stands : Stands d.stage r t' st' W'
  pub place_is : r.at ≡ s.at + length d.text
  pub text_is : text' ≡ sets text s.at d.text

-- the same number of characters of the line, and how far the text grows at most
pub record Calm (most : ℕ) (s r : Session) : Type 0 where
  pub length_is : r.length ≡ s.length
  pub room : r.at ≤ s.at + most

-- ---- a session between two bytes stands for a reading; `out` was written, and the rest of what was printed waits in the text
pub record Follows (rd : Reading) (out : List ℕ) (s : Session) (t st W line text : List ℕ) : Type 0 where
  pub stands : Stands rd.stage s t st W
  pub line_size : length line ≡ 25
  pub line_end : s.length ≡ length (take 25 rd.line)
  pub line_held : take s.length line ≡ take 25 rd.line
  pub text_is : rd.text ≡ out ++ take s.at text

-- whatever was written
pub record KeepsUp (rd : Reading) (s : Session) (t st W line text : List ℕ) : Type 0 where
  pub out : List ℕ
  pub follows : Follows rd out s t st W line text

-- ---- what feeding a piece of the input leaves: `taken` of its bytes were taken, as many as the text had room for
pub record Feeds (piece : List ℕ) (s : Session) (r : Fed) (t st W line text t' st' W' line' text' : List ℕ) : Type 0 where
  pub within : r.taken ≤ length piece
  pub place : s.at ≤ length text → r.session.at ≤ length text
  pub full : r.taken < length piece → length text < r.session.at + 12338
  pub some : s.at + 12338 ≤ length text → 0 < length piece → 0 < r.taken
  pub reads : (rd : Reading) (out : List ℕ) → Follows rd out s t st W line text → Follows (after_bytes rd (take r.taken piece)) out r.session t' st' W' line' text'

-- ---- what the end of the input leaves: all the rest of what is printed waits in the text, up to `at`
pub record Finishes (s : Session) (t st W line text : List ℕ) (at : ℕ) (text' : List ℕ) : Type 0 where
  pub last_printed : (rd : Reading) (out : List ℕ) → Follows rd out s t st W line text → closed rd ≡ out ++ take at text'
