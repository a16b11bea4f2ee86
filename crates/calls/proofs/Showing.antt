-- What each way through the reader's call leaves, over plain variables.
use mathlib.Core.Path.{◌≡◌, refl, ap, ◌∙◌}
use mathlib.Core.List.{List}
use Rattle.std.specs.Prelude.{Ok, Err}
use Rattle.std.proofs.Math.Logic.{⊎_elim}
use Prim.Native.Nat.{ℕ}
use borrow.Author.Tests.{eq-eqb, ne_eqb}
use Rattle.rules_tables.specs.declared.Shape.{Shape}
use Rattle.rules_tables.specs.declared.Refusal.{Refusal}
use Rattle.rules_tables.specs.Judge.{Verdict, accepted, judge, judged, shape_of}
use Rattle.rules_calls.specs.declared.Outcome.TheVariants.{Done}
use Rattle.rules_calls.specs.Public.{count_by}
use Rattle.rules_calls.specs.Refusals.{load_refusal}
use Rattle.rules_calls.proofs.laws.Public.{done_tells}
use Rattle.rules_traces.specs.declared.Shown.{Shown}
use Rattle.rules_traces.specs.Reader.{shown_of, ended_by, shown_after}
use Rattle.rules_traces.specs.Public.{show_answer, show_count, ShowCall}
use Rattle.calls_show.specs.declared.show.Read.{Read}
use Rattle.calls_show.specs.Charted.{Charted}
use Rattle.calls_show.proofs.laws.Charted.{ready_charted}
use Rattle.calls_show.proofs.laws.Shown.{shown_none}
use Rattle.calls.proofs.Turns.{answer_refuses, answer_pass}
use Rattle.calls.specs.Opening.{Refuses, Stands}

-- ---- a count, by the verdict and the refusal
module _ (v : Verdict) (q n : ℕ) where
  count_refuses : {r : Refusal} → Refuses v q r → 0 ≡ count_by v q n
  count_refuses h = ⊎_elim (λ e. rw e refl) (λ w. rw (w.0, ne_eqb q 0 w.1.some) refl) h

  count_pass : v ≡ accepted → q ≡ 0 → n ≡ count_by v q n
  count_pass e z = rw (e, eq-eqb q 0 z)

-- ---- the table of an opened call is one that the reader reads
pub stands_charted : (T : List ℕ) {T' : List ℕ} {S : Shape} → Stands T T' S → Charted T' S
stands_charted T {T'} {S} k =
    let e : judged T ≡ Ok S = rw (k.sound, k.shape) refl in
    rw k.table (ready_charted T refl e)

module _ (T s text : List ℕ) (frames : ℕ) where
  abbrev asks : ℕ
  asks = load_refusal (shape_of T) s

  call : (r : Shown) (s' : List ℕ) → r.answer ≡ show_answer T s → r.shown ≡ show_count T s text frames → r.line ≡ count_by (judge T) asks (ended_by text frames r.shown)
      → s' ≡ shown_after (shape_of T) text r.shown s → ShowCall T s text frames r s'
  call r s' a n l e = record { answer = a; tells = done_tells (judge T) asks r.answer a; shown = n; line = l; store = e }

  pub show_stops : {r : Refusal} → Refuses (judge T) asks r → ShowCall T s text frames (record { answer = Err r; shown = 0; line = 0 }) s
  show_stops {r} h =
      call (record { answer = Err r; shown = 0; line = 0 }) s (answer_refuses (judge T) asks (Ok Done) h)
      (count_refuses (judge T) asks (shown_of T (shape_of T) text frames) h)
      (count_refuses (judge T) asks (ended_by text frames 0) h) (shown_none (shape_of T) text s)

  pub show_done : {T' : List ℕ} {S : Shape} → Stands T T' S → asks ≡ 0 → (x : Read) {s' : List ℕ}
      → (x.shown ≡ shown_of T' S text frames) × (x.line ≡ ended_by text frames x.shown) × (s' ≡ shown_after S text x.shown s)
      → ShowCall T s text frames (record { answer = Ok Done; shown = x.shown; line = x.line }) s'
  show_done k z x {s'} w =
      let v = k.sound in
      let n : x.shown ≡ shown_of T (shape_of T) text frames = rw (k.table, k.shape) at w.0 in
      call (record { answer = Ok Done; shown = x.shown; line = x.line }) s' (answer_pass (judge T) asks (Ok Done) v z)
      (n ∙ count_pass (judge T) asks (shown_of T (shape_of T) text frames) v z)
      (w.1 ∙ count_pass (judge T) asks (ended_by text frames x.shown) v z) (w.2 ∙ ap (λ (y : Shape). shown_after y text x.shown s) k.shape)
