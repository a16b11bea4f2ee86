-- Two programs that keep to the statement of a call of the trace agree: for given inputs there is one answer, one store, one output, one trace and one of each
-- number handed out.
use Rattle.std.specs.Prelude.{ℕ, ◌≡◌, List, length}
use Rattle.std.proofs.Common.{sym, ap, ◌∙◌}
use Rattle.std.proofs.lemmas.List.Edits.{sets}
use Rattle.rules_tables.specs.Frame.{Table}
use Rattle.rules_tables.specs.Judge.{judge, shape_of}
use Rattle.rules_store.specs.Word.{Store, now_of}
use Rattle.rules_calls.specs.Run.{after, bytes}
use Rattle.rules_calls.specs.Answer.{moves_of, stop_of, untrue_of, bytes_of}
use Rattle.rules_calls.specs.Refusals.{load_refusal}
use Rattle.rules_calls.specs.Public.{count_by}
use Rattle.rules_calls.specs.Exports.{packed}
use Rattle.rules_traces.specs.declared.Traced.{Traced}
use Rattle.rules_traces.specs.declared.Shown.{Shown}
use Rattle.rules_traces.specs.Run.{trace}
use Rattle.rules_traces.specs.Reader.{ended_by, shown_after}
use Rattle.rules_traces.specs.Public.{TracedCall, ShowCall, TracedTold, ShowTold}

module _ {T : Table} {s : Store} {s' s'' : Store} where
  -- ---- a traced run
  module _ {budget : ℕ} {out tr out' out'' tr' tr'' : List ℕ} where
    pub one_traced : {r q : Traced} → TracedCall T s budget out tr r s' out' tr' → TracedCall T s budget out tr q s'' out'' tr''
        → (r ≡ q) × (s' ≡ s'') × (out' ≡ out'') × (tr' ≡ tr'')
    one_traced {r} {q} c d =
        let a : r.answer ≡ q.answer = c.answer ∙ sym d.answer in
        let m : moves_of r.answer ≡ moves_of q.answer = ap moves_of a in
        let n : r.traced ≡ q.traced = c.traced ∙ ap (λ (k : ℕ). length (trace T (shape_of T) (now_of s) k s)) m ∙ sym d.traced in (
          λ t. record { answer = a t; traced = n t },
          c.store ∙ ap (λ (k : ℕ). after T (shape_of T) (now_of s) k s) m ∙ sym d.store,
          c.output ∙ ap (λ (k : ℕ). sets out 0 (bytes T (shape_of T) (now_of s) k s)) m ∙ sym d.output,
          c.trace_is ∙ ap (λ (k : ℕ). sets tr 0 (trace T (shape_of T) (now_of s) k s)) m ∙ sym d.trace_is,
        )

    pub one_traced_told : {r q m m' n n' k k' l l' u u' : ℕ} → TracedTold T s budget out tr r m n k l u s' out' tr' → TracedTold T s budget out tr q m' n' k' l' u' s'' out'' tr''
        → (r ≡ q) × (m ≡ m') × (n ≡ n') × (k ≡ k') × (l ≡ l') × (u ≡ u') × (s' ≡ s'') × (out' ≡ out'') × (tr' ≡ tr'')
    one_traced_told x y =
        let w = one_traced x.call y.call in (
          x.number ∙ ap (λ (a : Traced). packed a.answer) w.0 ∙ sym y.number,
          x.moves_made ∙ ap (λ (a : Traced). moves_of a.answer) w.0 ∙ sym y.moves_made,
          x.stopped ∙ ap (λ (a : Traced). stop_of a.answer) w.0 ∙ sym y.stopped,
          x.bytes_written ∙ ap (λ (a : Traced). bytes_of a.answer) w.0 ∙ sym y.bytes_written,
          x.trace_written ∙ ap (λ (a : Traced). a.traced) w.0 ∙ sym y.trace_written,
          x.untrue_made ∙ ap (λ (a : Traced). untrue_of a.answer) w.0 ∙ sym y.untrue_made,
          w.1,
          w.2,
          w.3,
        )

  -- ---- the reader
  module _ {text : List ℕ} {frames : ℕ} where
    pub one_show : {r q : Shown} → ShowCall T s text frames r s' → ShowCall T s text frames q s'' → (r ≡ q) × (s' ≡ s'')
    one_show {r} {q} c d =
        let a : r.answer ≡ q.answer = c.answer ∙ sym d.answer in
        let n : r.shown ≡ q.shown = c.shown ∙ sym d.shown in
        let l : r.line ≡ q.line = c.line ∙ ap (λ (k : ℕ). count_by (judge T) (load_refusal (shape_of T) s) (ended_by text frames k)) n ∙ sym d.line in (
          λ t. record { answer = a t; shown = n t; line = l t },
          c.store ∙ ap (λ (k : ℕ). shown_after (shape_of T) text k s) n ∙ sym d.store,
        )

    pub one_show_told : {r q m m' n n' : ℕ} → ShowTold T s text frames r m n s' → ShowTold T s text frames q m' n' s''
        → (r ≡ q) × (m ≡ m') × (n ≡ n') × (s' ≡ s'')
    one_show_told x y =
        let w = one_show x.call y.call in (
          x.number ∙ ap (λ (a : Shown). packed a.answer) w.0 ∙ sym y.number,
          x.frames_read ∙ ap (λ (a : Shown). a.shown) w.0 ∙ sym y.frames_read,
          x.ended_by ∙ ap (λ (a : Shown). a.line) w.0 ∙ sym y.ended_by,
          w.1,
        )
