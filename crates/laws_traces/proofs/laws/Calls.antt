-- The reader's law over the public calls: whatever a traced run is given, a reading of the trace that it told, from the store that the run began with, shows the
-- store that it left; and a reading of the frames of its first m moves what the machine held after these. A refused run tells no frame.
use Rattle.std.specs.Prelude.{◌≡◌, Bool, true, false, ◌⊎◌, eqb, leb, take}
use Rattle.std.proofs.Math.Path.{refl}
use Rattle.std.proofs.Common.{sym, ap, ◌∙◌, inl, inr, take_at, drop_at}
use mathlib.Core.List.{List, [], ◌∷◌, ◌++◌}
use Rattle.std.proofs.Math.Logic.{⊎_elim}
use Prim.Native.Nat.{ℕ, zero, suc, ◌+◌, ◌*◌, ◌/◌, ◌≤◌, ◌<◌}
use native.Mathlib.Omega.{arith}
use Rattle.std.proofs.Math.ListN.{length, length-append}
use borrow.Author.Tests.{leb-true, le-ltb}
use Rattle.rules_walks.specs.Pick.{pick}
use Rattle.rules_walks.proofs.laws.Pick.{both_right}
use Rattle.rules_walks.specs.Held.{held_to}
use Rattle.rules_walks.specs.Walk.{up_to}
use Rattle.rules_walks.proofs.laws.Held.{held}
use Rattle.rules_numbers.proofs.laws.Sets.{part_sets}
use Rattle.rules_tables.specs.Frame.{Table}
use Rattle.rules_tables.specs.declared.Shape.{Shape}
use Rattle.rules_tables.specs.Judge.{Verdict, accepted, refused, judge, shape_of}
use Rattle.rules_tables.proofs.laws.Accepted.{accepted_means}
use Rattle.rules_store.specs.Layout.{need}
use Rattle.rules_store.specs.Word.{Store, now_of, value, buffer}
use Rattle.rules_calls.specs.Run.{after, continues}
use Rattle.rules_calls.specs.Answer.{moves_of}
use Rattle.rules_calls.specs.Refusals.{load_refusal, store_refusal}
use Rattle.rules_calls.specs.Public.{count_by}
use Rattle.rules_sessions.specs.Text.{line_of}
use Rattle.laws_calls.proofs.laws.Refusals.{count_cases, store_formed}
use Rattle.rules_traces.specs.declared.Entry.{Entry}
use Rattle.rules_traces.specs.declared.Traced.{Traced}
use Rattle.rules_traces.specs.declared.Shown.{Shown}
use Rattle.rules_traces.specs.Entry.{entry_frame, entry_frames, entry_lines}
use Rattle.rules_traces.proofs.laws.Entry.{frame_length, frames_length, trace_frames}
use Rattle.rules_traces.specs.Trace.{entries_of}
use Rattle.rules_traces.specs.Run.{entries_after, trace, trace_room_for, traced_continues, traced_made}
use Rattle.rules_traces.specs.Reader.{shown_of, ended_by, shown_after}
use Rattle.rules_traces.specs.Public.{traced_moves, TracedCall, ShowCall, TracedTold, ShowTold}
use Rattle.laws_traces.specs.Each.{none}
use Rattle.laws_traces.specs.Wide.{Wide}
use Rattle.laws_traces.specs.Shows.{Alike}
use Rattle.rules_shows.specs.Lines.{frame_lines, bytes_lines}
use Rattle.laws_traces.specs.Calls.{Words, trace_text, frames_after, ReadBack, ReadAfter}
use Rattle.rules_traces.proofs.laws.Traceable.{traceable}
use Rattle.laws_traces.proofs.laws.Reading.{reads_all, all_ended}
use Rattle.laws_traces.proofs.laws.Theorem.{after_each, after_all}

-- ---- the lines of frames, from their bytes
frame_lines_lem : (es : List Entry) → frame_lines (entry_frames es) (length es) ≡ entry_lines es
unfolding frame_lines entry_frames entry_lines
frame_lines_lem [] = refl
frame_lines_lem (e ∷ es) =
    let A = entry_frame e in
    let B = entry_frames es in
    (λ t. line_of (take_at A B 12 (frame_length e) t) ++ frame_lines (drop_at A B 12 (frame_length e) t) (length es)) ∙ ap (λ (l : List ℕ). line_of A ++ l) (frame_lines_lem es)

bytes_lines_lem : (es : List Entry) → bytes_lines (entry_frames es) ≡ entry_lines es
unfolding bytes_lines
bytes_lines_lem es = let l = frames_length es in let e : length (entry_frames es) / 12 ≡ length es = omega arith in ap (frame_lines (entry_frames es)) e ∙ frame_lines_lem es

-- ---- a run's trace fits its space
module _ (T : Table) (S : Shape) (time room space : ℕ) (s : Store) where
  has_space : (i : ℕ) → traced_continues T S time room space s i ≡ true → length (trace T S time (suc i) s) ≤ space
  unfolding traced_continues trace_room_for trace
  has_space i e =
      let a = trace T S time i s in
      let b = entry_frames (entries_of T S time (after T S time i s)) in
      let l = leb-true (length a + length b) space (both_right (continues T S time room s i) (leb (length a + length b) space) e) in
      let q = length-append a b in
      omega arith

  went_fits : (m : ℕ) → ((i : ℕ) → i < m → traced_continues T S time room space s i ≡ true) → length (trace T S time m s) ≤ space
  unfolding trace
  went_fits zero h = omega arith
  went_fits (suc i) h = has_space i (h i (omega arith))

  pub trace_fits : (budget : ℕ) → length (trace T S time (traced_made T S time budget room space s) s) ≤ space
  unfolding traced_made
  trace_fits budget = went_fits (held_to (traced_continues T S time room space s) budget) (held (traced_continues T S time room space s) budget).before

-- ---- a store of words has variables of 32 bits
words_wide : (S : Shape) (s : Store) → Words s → Wide S s
unfolding value buffer
words_wide S s w = record { values = λ v l. w.at _; buffers = λ v l. w.at _ }

-- ---- refused or not
count_none : (v : Verdict) (q : ℕ) → count_by v q 0 ≡ 0
count_none (refused p f) q = refl
count_none accepted q = by (eqb q 0)
  where
    by : (b : Bool) → ◌≡◌ {A = ℕ} (pick b 0 0) 0
    by true = refl
    by false = refl

module _ (T : Table) (s : Store) where
  abbrev S : Shape
  S = shape_of T

  abbrev entries : ℕ → List Entry
  entries m = entries_after T S (now_of s) m s

  none_after : entries 0 ≡ []
  unfolding entries_after
  none_after = refl

  -- a store that a run does not refuse is long enough to be shown
  long_enough : need S ≤ length s → load_refusal S s ≡ 0
  unfolding load_refusal
  long_enough l = rw (le-ltb (length s) (need S) l)

  module _ (text : List ℕ) (n frames : ℕ) (q : Shown) (x : Store) (d : ShowCall T s text frames q x) where
    -- what a reading answers where shownOf and endedBy are known, refused or not
    told : judge T ≡ accepted → load_refusal S s ≡ 0 → shown_of T S text frames ≡ n → ended_by text frames n ≡ 0 → (q.shown ≡ n) × (q.line ≡ 0) × (x ≡ shown_after S text n s)
    told v z a b =
        let e : q.shown ≡ n = d.shown ∙ (λ t. count_by (v t) (z t) (a t)) in
        let l : q.line ≡ 0 = d.line ∙ (λ t. count_by (v t) (z t) (ended_by text frames (e t))) ∙ b in
        (e, l, d.store ∙ ap (λ (m : ℕ). shown_after S text m s) e)

    told_none : n ≡ 0 → shown_of T S text frames ≡ 0 → ended_by text frames 0 ≡ 0 → (q.shown ≡ n) × (q.line ≡ 0) × (x ≡ shown_after S text n s)
    told_none y a b =
        let v = judge T in
        let z = load_refusal S s in
        let e : q.shown ≡ 0 = d.shown ∙ ap (count_by v z) a ∙ count_none v z in
        let l : q.line ≡ 0 = d.line ∙ ap (λ (m : ℕ). count_by v z (ended_by text frames m)) e ∙ ap (count_by v z) b ∙ count_none v z in
        (e ∙ sym y, l, d.store ∙ ap (λ (m : ℕ). shown_after S text m s) (e ∙ sym y))

  -- of no frames
  none_read : (frames : ℕ) (q : Shown) (x : Store) → ShowCall T s (entry_lines []) frames q x → (q.shown ≡ 0) × (q.line ≡ 0) × (x ≡ s)
  unfolding shown_after up_to
  none_read frames q x d =
      told_none (entry_lines []) 0 frames q x d refl (reads_all T S [] none frames (omega arith)) (all_ended T S [] none frames (omega arith))

  -- ---- a traced run
  module _ (budget : ℕ) (out tr : List ℕ) (r : Traced) (s' : Store) (out' tr' : List ℕ) (c : TracedCall T s budget out tr r s' out' tr') where
    abbrev moves : ℕ
    moves = moves_of r.answer

    -- it was not refused, or it made no move
    record Accepting : Type 0 where
      pub table : judge T ≡ accepted
      pub store : store_refusal T S s ≡ 0
      pub moves_are : moves ≡ traced_moves T s budget (length out) (length tr)

    accepted_or_none : Accepting ⊎ (moves ≡ 0)
    accepted_or_none =
        ⊎_elim (λ w. inl (record { table = w.0; store = w.1; moves_are = c.tells.moves_are ∙ w.2 })) (λ z. inr (c.tells.moves_are ∙ z))
        (count_cases (judge T) (store_refusal T S s) (traced_moves T s budget (length out) (length tr)))

    -- what it wrote
    pub fits : length (trace T S (now_of s) moves s) ≤ length tr
    unfolding trace
    fits = ⊎_elim (λ w. rw w.moves_are (trace_fits T S (now_of s) (length out) (length tr) s budget)) (λ z. rw z (omega arith)) accepted_or_none

    bytes_told : take r.traced tr' ≡ entry_frames (entries moves)
    bytes_told =
        (λ t. take (c.traced t) (c.trace_is t)) ∙ part_sets tr 0 (trace T S (now_of s) moves s) (let l = fits in omega arith) ∙ trace_frames T S (now_of s) moves s

    text_is : trace_text r tr' ≡ entry_lines (entries moves)
    text_is = ap bytes_lines bytes_told ∙ bytes_lines_lem (entries moves)

    many : r.traced ≡ 12 * frames_after T s moves
    many = c.traced ∙ ap length (trace_frames T S (now_of s) moves s) ∙ frames_length (entries moves)

    text_none : moves ≡ 0 → trace_text r tr' ≡ entry_lines []
    text_none z = text_is ∙ ap (λ (m : ℕ). entry_lines (entries m)) z ∙ ap entry_lines none_after

    -- no moves leave the store as it was
    none_alike : (x : Store) (m : ℕ) → m ≡ 0 → x ≡ s → Alike S x (after T S (now_of s) m s)
    unfolding after
    none_alike x m z e = rw (z, e) (record { charts = λ el l. refl; values = λ v l. refl })

    module _ (words : Words s) where
      -- the whole trace, read by at least as many frames as it has
      pub reads_back : (frames : ℕ) (q : Shown) (x : Store) → r.traced / 12 ≤ frames → ShowCall T s (trace_text r tr') frames q x → ReadBack T r s' q x
      reads_back frames q x enough d =
          ⊎_elim
          (λ w.
          let k = traceable T (accepted_means T w.table) in
          let f = store_formed T S s w.store in
          let wide = words_wide S s words in
          let n = frames_after T s moves in
          let text = entry_lines (entries moves) in
          let a = after_all T S k s f wide moves frames (let l = many in omega arith) in
          let t = told text n frames q x (rw text_is at d) w.table (long_enough f.parts.long) a.0 a.1 in
          record {
            line = t.1;
            frames = let l = many in let e = t.0 in omega arith;
            alike = rw (t.2, c.store) (after_each T S k s f wide moves moves (omega arith)).alike;
          })
          (λ z.
          let t = none_read frames q x (rw (text_none z) at d) in
          record {
            line = t.1;
            frames = let l = many ∙ ap (λ (m : ℕ). 12 * frames_after T s m) z ∙ ap (λ (es : List Entry). 12 * length es) none_after in let e = t.0 in omega arith;
            alike = rw c.store (none_alike x moves z t.2);
          })
          accepted_or_none

      -- the frames of its first m moves
      pub reads_after : (m : ℕ) (q : Shown) (x : Store) → m ≤ moves → ShowCall T s (trace_text r tr') (frames_after T s m) q x → ReadAfter T s m q x
      reads_after m q x l d =
          ⊎_elim
          (λ w.
          let k = traceable T (accepted_means T w.table) in
          let f = store_formed T S s w.store in
          let n = frames_after T s m in
          let text = entry_lines (entries moves) in
          let a = after_each T S k s f (words_wide S s words) moves m l in
          let t = told text n n q x (rw text_is at d) w.table (long_enough f.parts.long) a.read a.not_ended in
          record { line = t.1; frames = t.0; alike = rw t.2 a.alike })
          (λ z.
          let y : m ≡ 0 = omega arith in
          let t = none_read (frames_after T s m) q x (rw (text_none z) at d) in
          record { line = t.1; frames = t.0 ∙ sym (ap (λ (i : ℕ). frames_after T s i) y ∙ ap length none_after); alike = none_alike x m y t.2 })
          accepted_or_none

-- ---- the same for hosts in C, by what is told through their pointers
pub host_reads_back : (T : Table) (s : Store) (budget : ℕ) (out tr : List ℕ) (n moves stop bytes traced untrue : ℕ) (s' : Store) (out' tr' : List ℕ)
    → TracedTold T s budget out tr n moves stop bytes traced untrue s' out' tr' → Words s
    → (frames p shown line : ℕ) (x : Store) → traced / 12 ≤ frames → ShowTold T s (bytes_lines (take traced tr')) frames p shown line x
    → (line ≡ 0) × (12 * shown ≡ traced) × Alike (shape_of T) x s'
host_reads_back T s budget out tr n moves stop bytes traced untrue s' out' tr' c words frames p shown line x enough d =
    let e = c.trace_written in
    let w = reads_back T s budget out tr c.answer s' out' tr' c.call words frames d.answer x (rw e at enough) (rw e at d.call) in
    (d.ended_by ∙ w.line, ap (λ (k : ℕ). 12 * k) d.frames_read ∙ w.frames ∙ sym e, w.alike)
