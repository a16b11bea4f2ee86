-- The words of the store by name: one reader and one writer each. "Words 0 to 8: now; running element plus 1, or 0; current event plus 1, or 0; its birth;
-- mode (0 idle, 1 charts, 2 acts); live flag; action number; step number; overwritten count". "Word 9 tells whether a due flag is set, word 10 the earliest time
-- or 0." "Word 11 counts untrue steps since load". A place past the store's end reads 0 and is not written.
use Rattle.std.specs.Prelude.{ℕ, ◌+◌, List, eqb, ltb, get_or, set}
use Rattle.rules_walks.specs.Pick.{pick}
use Rattle.rules_tables.specs.declared.Shape.{Shape}
use Rattle.rules_store.specs.declared.NextDue.{NextDue}
use Rattle.rules_store.specs.declared.Running.{Running}
use Rattle.rules_store.specs.Layout.{element_at, input_at, variable_at}

-- a store is the list of its words
abbrev pub Store : Type 0
Store = List ℕ

-- "Times are whole ticks, read unsigned, 0 to 2,147,483,647."
abbrev pub largest_time : ℕ
largest_time = 2147483647

-- "due from now to 4,294,967,294"
abbrev pub largest_due : ℕ
largest_due = 4294967294

-- "overwritten count, which stops at 4,294,967,295"; the count of untrue steps "stops at 4,294,967,295"
abbrev pub count_end : ℕ
count_end = 4294967295

-- such a count n, one more where w is not 0
unfoldable pub counted : (w n : ℕ) → ℕ
counted w n = pick (eqb w 0) n (pick (ltb n count_end) (n + 1) n)

unfoldable pub now_of : Store → ℕ
now_of s = get_or s 0 0

unfoldable pub put_now : (t : ℕ) → Store → Store
put_now t s = set s 0 t

-- the element that runs and its current event, each plus 1, or 0
unfoldable pub running_element : Store → ℕ
running_element s = get_or s 1 0

unfoldable pub current_event : Store → ℕ
current_event s = get_or s 2 0

unfoldable pub put_owner : (el ev : ℕ) → Store → Store
put_owner el ev s = set (set s 1 el) 2 ev

-- the running block
unfoldable pub running_of : Store → Running
running_of s = record { birth = get_or s 3 0; mode = get_or s 4 0; live = get_or s 5 0; action = get_or s 6 0; step = get_or s 7 0 }

unfoldable pub put_running : Running → Store → Store
put_running r s = set (set (set (set (set s 3 r.birth) 4 r.mode) 5 r.live) 6 r.action) 7 r.step

unfoldable pub overwritten : Store → ℕ
overwritten s = get_or s 8 0

unfoldable pub put_overwritten : (n : ℕ) → Store → Store
put_overwritten n s = set s 8 n

-- the next due time, as the store has it: "word 9 tells whether a due flag is set, word 10 the earliest time or 0"
unfoldable pub next_due : Store → NextDue
next_due s = record { due = get_or s 9 0; time = get_or s 10 0 }

unfoldable pub put_next : NextDue → Store → Store
put_next a s = set (set s 9 a.due) 10 a.time

-- the count of untrue steps
unfoldable pub untrue : Store → ℕ
untrue s = get_or s 11 0

unfoldable pub put_untrue : (n : ℕ) → Store → Store
put_untrue n s = set s 11 n

-- "Words 9 to 15 zero.", but for words 9, 10 and 11
abbrev pub spares : ℕ
spares = 4

unfoldable pub spare_at : (j : ℕ) → ℕ
spare_at j = 12 + j

unfoldable pub spare_word : Store → (j : ℕ) → ℕ
spare_word s j = get_or s (spare_at j) 0

-- ---- per element
unfoldable pub chart_state : Store → (el : ℕ) → ℕ
chart_state s el = get_or s (element_at el) 0

unfoldable pub put_chart_state : (el q : ℕ) → Store → Store
put_chart_state el q s = set s (element_at el) q

unfoldable pub due_flag : Store → (el : ℕ) → ℕ
due_flag s el = get_or s (element_at el + 1) 0

unfoldable pub due_time : Store → (el : ℕ) → ℕ
due_time s el = get_or s (element_at el + 2) 0

-- the two words of the element alone: `put_due` (Due), the one writer of due words, sets them by this and keeps the next due time
unfoldable pub set_due : (el flag time : ℕ) → Store → Store
set_due el flag time s = set (set s (element_at el + 1) flag) (element_at el + 2) time

-- ---- per event input
unfoldable pub waiting : Shape → Store → (i : ℕ) → ℕ
waiting S s i = get_or s (input_at S i) 0

unfoldable pub birth_of : Shape → Store → (i : ℕ) → ℕ
birth_of S s i = get_or s (input_at S i + 1) 0

unfoldable pub last_update : Shape → Store → (i : ℕ) → ℕ
last_update S s i = get_or s (input_at S i + 2) 0

unfoldable pub put_input : Shape → (i flag birth last : ℕ) → Store → Store
put_input S i flag birth last s = set (set (set s (input_at S i) flag) (input_at S i + 1) birth) (input_at S i + 2) last

-- ---- per variable
unfoldable pub value : Shape → Store → (v : ℕ) → ℕ
value S s v = get_or s (variable_at S v) 0

unfoldable pub put_value : Shape → (v x : ℕ) → Store → Store
put_value S v x s = set s (variable_at S v) x

unfoldable pub buffer : Shape → Store → (v : ℕ) → ℕ
buffer S s v = get_or s (variable_at S v + 1) 0

unfoldable pub put_buffer : Shape → (v x : ℕ) → Store → Store
put_buffer S v x s = set s (variable_at S v + 1) x
