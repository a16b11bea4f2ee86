-- Two programs that keep to a call's statement agree: for given inputs there is one answer, one store, one output buffer and one of each number handed out.
use Rattle.std.specs.Prelude.{ℕ, ◌≡◌, List}
use Rattle.std.proofs.Common.{sym, ap, ◌∙◌}
use Rattle.std.specs.Borrow.{Bor}
use Rattle.rules_tables.specs.declared.Span.{Span}
use Rattle.rules_tables.specs.Judge.{judged, Judged}
use Rattle.rules_tables.specs.View.{kind_span, step_span, IsPart}
use Rattle.rules_tables.proofs.laws.View.{one_part}
use Rattle.rules_calls.specs.Answer.{moves_of, bytes_of, stop_of, untrue_of, Answer}
use Rattle.rules_calls.specs.Public.{LoadCall, AdvanceCall, ArrivalCall, RunCall}
use Rattle.rules_calls.proofs.laws.Public.{run_store_lem, run_output_lem}
use Rattle.rules_calls.specs.Exports.{packed, LoadTold, AdvanceTold, ArrivalTold, RunTold, Lies}

-- ---- the check and the views: of these bytes (so length too) and place
pub one_check : (T : List ℕ) {r q : Judged} → r ≡ judged T → q ≡ judged T → r ≡ q
one_check T c d = c ∙ sym d

module _ (t r q : Bor (List ℕ)) (k : ℕ) where
  pub one_frames : IsPart t r (kind_span t.now k) → IsPart t q (kind_span t.now k) → (r.now ≡ q.now) × (r.ref_ptr ≡ q.ref_ptr)
  one_frames = one_part t r q (kind_span t.now k)

  pub one_steps : IsPart t r (step_span t.now k) → IsPart t q (step_span t.now k) → (r.now ≡ q.now) × (r.ref_ptr ≡ q.ref_ptr)
  one_steps = one_part t r q (step_span t.now k)

-- ---- the public calls
module _ {T s : List ℕ} {a b : Answer} {s' s'' : List ℕ} where
  pub one_load : LoadCall T s a s' → LoadCall T s b s'' → (a ≡ b) × (s' ≡ s'')
  one_load c d = (c.answer ∙ sym d.answer, c.store ∙ sym d.store)

  pub one_advance : {t : ℕ} → AdvanceCall T s t a s' → AdvanceCall T s t b s'' → (a ≡ b) × (s' ≡ s'')
  one_advance c d = (c.answer ∙ sym d.answer, c.store ∙ sym d.store)

  pub one_arrival : {o birth : ℕ} {vs : List ℕ} → ArrivalCall T s o birth vs a s' → ArrivalCall T s o birth vs b s'' → (a ≡ b) × (s' ≡ s'')
  one_arrival c d = (c.answer ∙ sym d.answer, c.store ∙ sym d.store)

  pub one_run : {budget : ℕ} {out out' out'' : List ℕ} → RunCall T s budget out a s' out' → RunCall T s budget out b s'' out''
      → (a ≡ b) × (s' ≡ s'') × (out' ≡ out'')
  one_run {budget} {out} c d = (
    c.answer ∙ sym d.answer,
    run_store_lem T s budget out c ∙ sym (run_store_lem T s budget out d),
    run_output_lem T s budget out c ∙ sym (run_output_lem T s budget out d),
  )

-- ---- the calls for hosts in C
module _ {T s : List ℕ} {r q : ℕ} {s' s'' : List ℕ} where
  pub one_load_told : LoadTold T s r s' → LoadTold T s q s'' → (r ≡ q) × (s' ≡ s'')
  one_load_told x y =
      let w = one_load x.call y.call in
      (x.number ∙ ap packed w.0 ∙ sym y.number, w.1)

  pub one_advance_told : {t : ℕ} → AdvanceTold T s t r s' → AdvanceTold T s t q s'' → (r ≡ q) × (s' ≡ s'')
  one_advance_told x y =
      let w = one_advance x.call y.call in
      (x.number ∙ ap packed w.0 ∙ sym y.number, w.1)

  pub one_arrival_told : {o birth : ℕ} {vs : List ℕ} → ArrivalTold T s o birth vs r s' → ArrivalTold T s o birth vs q s'' → (r ≡ q) × (s' ≡ s'')
  one_arrival_told x y =
      let w = one_arrival x.call y.call in
      (x.number ∙ ap packed w.0 ∙ sym y.number, w.1)

  pub one_run_told : {budget m m' n n' k k' u u' : ℕ} {out out' out'' : List ℕ}
      → RunTold T s budget out r m n k u s' out' → RunTold T s budget out q m' n' k' u' s'' out''
      → (r ≡ q) × (m ≡ m') × (n ≡ n') × (k ≡ k') × (u ≡ u') × (s' ≡ s'') × (out' ≡ out'')
  one_run_told x y =
      let w = one_run x.call y.call in (
        x.number ∙ ap packed w.0 ∙ sym y.number,
        x.moves_made ∙ ap moves_of w.0 ∙ sym y.moves_made,
        x.stopped ∙ ap stop_of w.0 ∙ sym y.stopped,
        x.bytes_written ∙ ap bytes_of w.0 ∙ sym y.bytes_written,
        x.untrue_made ∙ ap untrue_of w.0 ∙ sym y.untrue_made,
        w.1,
        w.2,
      )

pub one_stretch : {x : Span} {a b n m : ℕ} → Lies x a n → Lies x b m → (a ≡ b) × (n ≡ m)
one_stretch c d = (c.starts ∙ sym d.starts, c.lasts ∙ sym d.lasts)
