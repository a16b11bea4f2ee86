-- Laws of a session's definition: pieces of an input add up, and read from its start to its end it prints what its lines do; a table of more than 4,096 lines
-- is refused by its length, a line of more than 24 characters is of a wrong form whatever they are.
use Rattle.std.specs.Prelude.{◌≡◌, List, [], ◌∷◌, ◌++◌, Bool, true, false, ℕ, ◌+◌, ◌%◌, ◌≤◌, ◌<◌, eqb, length, take, get_or, Err}
use Rattle.std.proofs.Math.Path.{refl}
use Rattle.std.proofs.Common.{sym, ap, ◌∙◌, append_assoc, ⊎_elim, add-one, arith, length-append, take_all, take-suc, length-take-le}
use Rattle.std.proofs.Math.Seq.{get_or-take}
use borrow.Author.Tests.{lt-leb, le-leb}
use Rattle.rules_walks.proofs.laws.Pick.{both_false, tri}
use Rattle.rules_walks.specs.Choose.{choose}
use Rattle.rules_walks.proofs.laws.Choose.{choose_true, choose_false}
use Rattle.rules_tables.specs.Judge.{refused, judge, length_ok, refusal}
use Rattle.rules_sessions.specs.Line.{line_ok, line_frame, opens}
use Rattle.rules_sessions.specs.declared.Command.TheVariants.{Wrong}
use Rattle.rules_sessions.specs.Command.{line_command}
use Rattle.rules_calls.specs.Public.{load_answer}
use Rattle.rules_sessions.specs.Session.{lines_from, Stage, tabled, calling, awaiting, halted, silent, and_then, malformed, load_deed, call_by, value_by, frame_deed, judged_line, line_deed, end_deed, lines_print, prints_with}
use Rattle.rules_sessions.proofs.laws.Digits.{frame_length}
use Rattle.rules_sessions.specs.Reading.{Reading, opening, line_ended, after_byte, after_bytes, last_deed, closed}

-- ---- pieces
pub after_append : (r : Reading) (a b : List ℕ) → after_bytes r (a ++ b) ≡ after_bytes (after_bytes r a) b
unfolding after_bytes
after_append r [] b = refl
after_append r (x ∷ a) b = after_append (after_byte r x) a b

-- one byte more
pub after_next : (r : Reading) (l : List ℕ) (i : ℕ) → i < length l → after_bytes r (take (i + 1) l) ≡ after_byte (after_bytes r (take i l)) (get_or l i 0)
unfolding after_bytes
after_next r l i h =
    ap (λ (n : ℕ). after_bytes r (take n l)) (add-one i) ∙ ap (after_bytes r) (take-suc l i 0 h) ∙ after_append r (take i l) (get_or l i 0 ∷ [])

-- ---- from the start to the end
last_by : (g : Stage) (L : List ℕ) (t : Bool) → lines_print g (choose t [] (L ∷ [])) ≡ (choose t (end_deed g) (and_then (line_deed g L) end_deed)).text
unfolding lines_print choose
last_by g L true = refl
last_by g L false = refl

more_by : (r : Reading) (b : ℕ) (bs : List ℕ) (t : Bool) → ((q : Reading) → q.text ++ lines_print q.stage (lines_from q.line bs) ≡ closed (after_bytes q bs))
    → r.text ++ lines_print r.stage (choose t (r.line ∷ lines_from [] bs) (lines_from (r.line ++ (b ∷ [])) bs))
    ≡ closed (after_bytes (choose t (line_ended r (line_deed r.stage r.line)) (record { stage = r.stage; line = r.line ++ (b ∷ []); text = r.text })) bs)
unfolding lines_print choose
more_by r b bs true ih = sym (append_assoc r.text _ _) ∙ ih (line_ended r (line_deed r.stage r.line))
more_by r b bs false ih = ih (record { stage = r.stage; line = r.line ++ (b ∷ []); text = r.text })

pub read_whole : (r : Reading) (bs : List ℕ) → r.text ++ lines_print r.stage (lines_from r.line bs) ≡ closed (after_bytes r bs)
unfolding lines_from after_byte after_bytes closed last_deed
read_whole r [] = ap (λ (l : List ℕ). r.text ++ l) (last_by r.stage r.line (eqb (length r.line) 0))
read_whole r (b ∷ bs) = more_by r b bs (eqb b 10) (λ q. read_whole q bs)

-- an input prints what its bytes and its end print, read one after another from the start
pub whole : (s input : List ℕ) → closed (after_bytes (opening s) input) ≡ prints_with s input
unfolding prints_with
whole s input = sym (read_whole (opening s) input)

-- ---- "More than 4,096 table lines is refusal 1": each adds a frame of 12 bytes, so together they have more than 49,152
module _ (T s L : List ℕ) (e : line_ok L ≡ true) (f : opens L ≡ false) where
  pub table_line : line_deed (tabled T s) L ≡ silent (tabled (T ++ line_frame L) s)
  unfolding frame_deed
  table_line = choose_false _ _ _ f ∙ choose_true _ _ _ e

  pub table_line_length : length (T ++ line_frame L) ≡ length T + 12
  table_line_length = length-append T (line_frame L) ∙ ap (λ (n : ℕ). length T + n) (frame_length L)

module _ (T : List ℕ) (l : 49152 < length T) where
  pub long_judged : judge T ≡ refused 1 0
  unfolding judge length_ok
  long_judged = rw (lt-leb (length T) 49152 l, both_false (eqb (length T % 12) 0), both_false) refl

  pub many_lines : (s : List ℕ) → load_answer T s ≡ Err (refusal 1 0)
  many_lines s = rw long_judged refl

-- ---- "lines .. of 2 to 24 .. digits": the first 25 characters of a line decide
module _ (L : List ℕ) (l : 24 < length L) where
  pub long_line : line_ok L ≡ false
  unfolding line_ok
  long_line = rw (lt-leb (length L) 24 l, both_false) refl

  pub long_command : line_command L ≡ Wrong
  unfolding line_command
  long_command = rw long_line refl

  pub long_frame : (T s : List ℕ) → frame_deed T s L ≡ malformed
  unfolding frame_deed
  long_frame T s = choose_false _ _ _ long_line

module _ (L : List ℕ) (l : 25 ≤ length L) where
  cut_long : 24 < length (take 25 L)
  cut_long = let e = length-take-le 25 L l in omega arith

  cut_opens : opens (take 25 L) ≡ opens L
  unfolding opens
  cut_opens =
      rw (length-take-le 25 L l, le-leb 2 (length L) (omega arith), get_or-take 25 L 0 48 (omega arith), get_or-take 25 L 1 48 (omega arith)) refl

  cut_command : line_command (take 25 L) ≡ line_command L
  cut_command = long_command (take 25 L) cut_long ∙ sym (long_command L (omega arith))

  cut_judged : (g : Stage) → judged_line (take 25 L) g ≡ judged_line L g
  cut_judged (tabled T s) = refl
  cut_judged (calling T s) = ap (call_by T s) cut_command
  cut_judged (awaiting T s n o b vs) = refl
  cut_judged halted = refl

  cut_frame : (T s : List ℕ) → frame_deed T s (take 25 L) ≡ frame_deed T s L
  cut_frame T s = long_frame (take 25 L) cut_long T s ∙ sym (long_frame L (omega arith) T s)

  cut_deed : (g : Stage) → line_deed g (take 25 L) ≡ line_deed g L
  cut_deed (tabled T s) =
      let j = cut_judged (load_deed T s).stage in
      λ i. choose (cut_opens i) (record { stage = (j i).stage; text = (load_deed T s).text ++ (j i).text }) (cut_frame T s i)
  cut_deed (calling T s) = ap (call_by T s) cut_command
  cut_deed (awaiting T s n o b vs) = ap (value_by T s n o b vs) cut_command
  cut_deed halted = refl

pub first_characters : (g : Stage) (L : List ℕ) → line_deed g (take 25 L) ≡ line_deed g L
first_characters g L = ⊎_elim short (⊎_elim even over) (tri (length L) 25)
  where
    short : length L < 25 → line_deed g (take 25 L) ≡ line_deed g L
    short l = ap (line_deed g) (take_all 25 L (omega arith))

    even : length L ≡ 25 → line_deed g (take 25 L) ≡ line_deed g L
    even e = cut_deed L (omega arith) g

    over : 25 < length L → line_deed g (take 25 L) ≡ line_deed g L
    over l = cut_deed L (omega arith) g
