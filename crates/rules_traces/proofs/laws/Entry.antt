-- Laws of frames one after another: how long they are, and how they grow. A frame has 12 bytes, a line 24 digits and its end.
use Rattle.std.specs.Prelude.{◌≡◌, refl, List, [], ◌∷◌, ◌++◌, ℕ, zero, suc, ◌*◌, length}
use Rattle.std.proofs.Common.{sym, ap, ◌∙◌, append_assoc, arith, length-append}
use Rattle.rules_numbers.specs.Bytes.{half_bytes, word_bytes}
use Rattle.rules_tables.specs.Frame.{Table}
use Rattle.rules_tables.specs.declared.Shape.{Shape}
use Rattle.rules_store.specs.Word.{Store}
use Rattle.rules_calls.specs.Run.{after}
use Rattle.rules_sessions.specs.Text.{line_of}
use Rattle.rules_sessions.proofs.laws.Text.{line_length}
use Rattle.rules_traces.specs.declared.Entry.{Entry}
use Rattle.rules_traces.specs.Entry.{entry_frame, entry_frames, entry_lines}
use Rattle.rules_traces.specs.Trace.{entries_of}
use Rattle.rules_traces.specs.Run.{entries_after, trace}

pub frame_length : (e : Entry) → length (entry_frame e) ≡ 12
unfolding entry_frame half_bytes word_bytes
frame_length e = refl

pub frames_length : (es : List Entry) → length (entry_frames es) ≡ 12 * length es
unfolding entry_frames
frames_length [] = refl
frames_length (e ∷ es) = length-append (entry_frame e) (entry_frames es) ∙ (let a = frame_length e in let b = frames_length es in omega arith)

pub entry_line_length : (e : Entry) → length (line_of (entry_frame e)) ≡ 25
entry_line_length e = line_length (entry_frame e) ∙ (let a = frame_length e in omega arith)

pub lines_length : (es : List Entry) → length (entry_lines es) ≡ 25 * length es
unfolding entry_lines
lines_length [] = refl
lines_length (e ∷ es) = length-append (line_of (entry_frame e)) (entry_lines es) ∙ (let a = entry_line_length e in let b = lines_length es in omega arith)

pub frames_append : (a b : List Entry) → entry_frames (a ++ b) ≡ entry_frames a ++ entry_frames b
unfolding entry_frames
frames_append [] b = refl
frames_append (e ∷ a) b = ap (λ (l : List ℕ). entry_frame e ++ l) (frames_append a b) ∙ sym (append_assoc (entry_frame e) (entry_frames a) (entry_frames b))

pub lines_append : (a b : List Entry) → entry_lines (a ++ b) ≡ entry_lines a ++ entry_lines b
unfolding entry_lines
lines_append [] b = refl
lines_append (e ∷ a) b = ap (λ (l : List ℕ). line_of (entry_frame e) ++ l) (lines_append a b) ∙ sym (append_assoc (line_of (entry_frame e)) (entry_lines a) (entry_lines b))

-- the bytes of a run's trace are those of its frames
pub trace_frames : (T : Table) (S : Shape) (time n : ℕ) (s : Store) → trace T S time n s ≡ entry_frames (entries_after T S time n s)
unfolding trace entries_after entry_frames
trace_frames T S time zero s = refl
trace_frames T S time (suc n) s =
    let es = entries_of T S time (after T S time n s) in
    ap (λ (l : List ℕ). l ++ entry_frames es) (trace_frames T S time n s) ∙ sym (frames_append (entries_after T S time n s) es)
