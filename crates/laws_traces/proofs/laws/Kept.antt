-- What the calls of the trace keep: a refused one changes nothing, and a reading shows nothing but chart states and values.
use Rattle.std.specs.Prelude.{◌≡◌, refl, List, Bool, true, false, ℕ, ◌+◌, ◌≤◌, ◌<◌, min, eqb, length, Ok, Err}
use Rattle.std.proofs.Common.{sym, ap, ◌∙◌, ⊎_elim, arith}
use Rattle.std.proofs.lemmas.List.Edits.{sets}
use Rattle.rules_walks.specs.Pick.{pick}
use Rattle.rules_walks.specs.Walk.{up_to}
use Rattle.rules_tables.specs.Frame.{Table}
use Rattle.rules_tables.specs.declared.Shape.{Shape}
use Rattle.rules_tables.specs.Judge.{Verdict, accepted, refused, judge, shape_of, refusal}
use Rattle.rules_tables.specs.Ids.{elements}
use Rattle.rules_tables.proofs.laws.Accepted.{accepted_means}
use Rattle.rules_tables.proofs.laws.Lawful.{lawful}
use Rattle.rules_store.specs.Word.{Store, count_end, now_of, next_due, untrue}
use Rattle.rules_store.specs.Due.{earliest}
use Rattle.rules_store.specs.Part.{Leaves}
use Rattle.rules_store.proofs.laws.Part.{leaves_all}
use Rattle.rules_calls.specs.Run.{after, bytes}
use Rattle.rules_calls.specs.Answer.{moves_of, untrue_of, answer_by}
use Rattle.rules_calls.specs.Refusals.{load_refusal, store_refusal}
use Rattle.rules_calls.specs.Public.{count_by}
use Rattle.rules_calls.specs.declared.Outcome.TheVariants.{Done, Ran}
use Rattle.rules_traces.specs.declared.Traced.{Traced}
use Rattle.rules_traces.specs.declared.Shown.{Shown}
use Rattle.rules_traces.specs.Run.{trace}
use Rattle.rules_traces.specs.Reader.{shown_of, shown_after}
use Rattle.rules_traces.specs.Public.{traced_moves, TracedCall, ShowCall}
use Rattle.laws_log.proofs.laws.Moves.{formed_after}
use Rattle.laws_traces.specs.Shows.{shown_parts}
use Rattle.laws_traces.proofs.laws.Reading.{reader_leaves}
use Rattle.laws_calls.proofs.laws.Refusals.{ran_means, store_formed, count_cases}
use Rattle.laws_calls.proofs.laws.Untrue.{told_counts, told_difference}

-- ---- "A refusal returns its number ..; nothing is written."
pub traced_refused : (T : Table) (s : Store) (budget : ℕ) (out tr : List ℕ) (r : Traced) (s' : Store) (out' tr' : List ℕ) (p f : ℕ) → TracedCall T s budget out tr r s' out' tr'
    → r.answer ≡ Err (refusal p f) → (s' ≡ s) × (out' ≡ out) × (tr' ≡ tr)
unfolding after bytes trace
traced_refused T s budget out tr r s' out' tr' p f c e =
    let m = ap moves_of e in (
      c.store ∙ ap (λ (n : ℕ). after T (shape_of T) (now_of s) n s) m,
      c.output ∙ ap (λ (n : ℕ). sets out 0 (bytes T (shape_of T) (now_of s) n s)) m,
      c.trace_is ∙ ap (λ (n : ℕ). sets tr 0 (trace T (shape_of T) (now_of s) n s)) m,
    )

-- ---- it adds the untrue steps that it tells to the store's count of them, up to its end
module _ (T : Table) (s : Store) (budget : ℕ) (out tr : List ℕ) (r : Traced) (s' : Store) (out' tr' : List ℕ) (c : TracedCall T s budget out tr r s' out' tr') where
  pub traced_untrue : untrue s ≤ count_end → untrue s' ≡ min (untrue s + untrue_of r.answer) count_end
  traced_untrue = told_counts T s s' r.answer (traced_moves T s budget (length out) (length tr)) c.tells.moves_are c.store c.tells.untrue_are

  pub traced_difference : untrue s ≤ count_end → untrue s' < count_end → untrue s + untrue_of r.answer ≡ untrue s'
  traced_difference = told_difference T s s' r.answer (traced_moves T s budget (length out) (length tr)) c.tells.moves_are c.store c.tells.untrue_are

  -- ---- one that is not refused leaves the next due time that looking finds
  pub traced_next : (m b n u : ℕ) → r.answer ≡ Ok (Ran m b n u) → next_due s' ≡ earliest s' (elements (shape_of T))
  traced_next m b n u e =
      let S = shape_of T in
      let w = ran_means (judge T) (store_refusal T S s) m b n u _ (sym e ∙ c.answer) in
      rw c.store (formed_after T S (lawful T (accepted_means T w.table)) (moves_of r.answer) s (store_formed T S s w.call)).parts.next

refused_none : (v : Verdict) (q n p f : ℕ) → Err (refusal p f) ≡ answer_by v q (Ok Done) → count_by v q n ≡ 0
refused_none (refused a b) q n p f e = refl
refused_none accepted q n p f e = by (eqb q 0) e
  where
    by : (b : Bool) → Err (refusal p f) ≡ pick b (Ok Done) (Err (refusal q 0)) → pick b n 0 ≡ 0
    by true z = absurd (let y : ◌≡◌ {A = ℕ} 0 1 = cc in omega arith)
    by false z = refl

module _ (T : Table) (s : Store) (text : List ℕ) (frames : ℕ) (q : Shown) (x : Store) (d : ShowCall T s text frames q x) where
  abbrev S : Shape
  S = shape_of T

  -- the store after so many frames
  shown_is : (n : ℕ) → q.shown ≡ n → x ≡ shown_after S text n s
  shown_is n e = d.store ∙ ap (λ (m : ℕ). shown_after S text m s) e

  nothing_shown : q.shown ≡ 0 → x ≡ s
  unfolding shown_after up_to
  nothing_shown e = shown_is 0 e

  pub show_refused : (p f : ℕ) → q.answer ≡ Err (refusal p f) → x ≡ s
  show_refused p f e = nothing_shown (d.shown ∙ refused_none (judge T) (load_refusal S s) (shown_of T S text frames) p f (sym e ∙ d.answer))

  -- ---- whatever the text: now, the running block, counts, due times, event inputs, buffers and the words past the need stay
  pub show_leaves : Leaves T S shown_parts s x
  show_leaves =
      ⊎_elim (λ w. rw (shown_is (shown_of T S text frames) (d.shown ∙ w.2)) (reader_leaves T S text frames s))
      (λ z. rw (nothing_shown (d.shown ∙ z)) (leaves_all T S shown_parts s)) (count_cases (judge T) (load_refusal S s) (shown_of T S text frames))
