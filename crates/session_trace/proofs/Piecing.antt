-- A traced run makes no more moves than its budget and writes no more bytes than its output has; a reading reads no more frames than are asked for.
use Rattle.std.specs.Prelude.{Ok, Err}
use mathlib.Core.Path.{◌≡◌, refl, sym, ap, ◌∙◌, subst}
use mathlib.Core.List.{List}
use Prim.Native.Nat.{ℕ, ◌+◌, ◌*◌, ◌/◌, ◌≤◌}
use native.Mathlib.Omega.{arith}
use lib.Dec.{eqb}
use lib.ListN.{length, take, length-take}
use lib.Seq.{sets}
use Rattle.rules_walks.proofs.laws.Pick.{by_test, both_left}
use Rattle.rules_walks.proofs.laws.Held.{held, held_is}
use Rattle.rules_tables.specs.Frame.{Table}
use Rattle.rules_tables.specs.Judge.{Verdict, accepted, refused, judge, shape_of, judged, Judged}
use Rattle.rules_tables.specs.declared.Shape.{Shape}
use Rattle.rules_tables.specs.declared.Refusal.{Refusal}
use Rattle.rules_tables.specs.Good.{Good}
use Rattle.rules_tables.proofs.laws.Good.{good}
use Rattle.rules_tables.proofs.laws.Judge.{was_sound}
use Rattle.rules_tables.proofs.laws.Accepted.{accepted_means}
use Rattle.rules_store.specs.Word.{Store, now_of}
use Rattle.rules_calls.specs.Answer.{moves_of, bytes_of}
use Rattle.rules_calls.specs.Public.{count_by}
use Rattle.rules_calls.specs.Run.{bytes, continues, made}
use Rattle.rules_calls.proofs.laws.Run.{bytes_fit}
use Rattle.rules_calls.specs.Refusals.{load_refusal, store_refusal}
use Rattle.rules_traces.specs.declared.Traced.{Traced}
use Rattle.rules_traces.specs.declared.Shown.{Shown}
use Rattle.rules_traces.specs.Run.{traced_continues, trace_room_for, traced_made}
use Rattle.rules_traces.specs.Reader.{readable, shown_of}
use Rattle.rules_traces.specs.Public.{TracedCall, ShowCall, traced_moves}
use Rattle.rules_shows.specs.Lines.{bytes_lines}
use Rattle.rules_shows.specs.Shown.{shown_text}
use Rattle.lines.specs.Printed.{Printed}
use Rattle.session_trace.specs.Pieces.{shown_by, Seen}

-- what holds of a count and of 0 holds of what is told
count_by_lem : (P : ℕ → Type 0) (v : Verdict) (q n : ℕ) → P n → P 0 → P (count_by v q n)
count_by_lem P accepted q n a b = by_test P (eqb q 0) n 0 (λ _. a) (λ _. b)
count_by_lem P (refused p f) q n a b = b

module _ (T : Table) (s : Store) (budget room space : ℕ) where
  made_most : traced_moves T s budget room space ≤ budget
  unfolding traced_made
  made_most = (held (traced_continues T (shape_of T) (now_of s) room space s) budget).within

  -- as many moves as an untraced run makes with just this budget
  made_again : traced_moves T s budget room space ≡ made T (shape_of T) (now_of s) (traced_moves T s budget room space) room s
  unfolding traced_made traced_continues made
  made_again =
      held_is (continues T (shape_of T) (now_of s) room s) (traced_moves T s budget room space) (traced_moves T s budget room space)
      (record {
        within = omega arith;
        before = λ i l.
            both_left (continues T (shape_of T) (now_of s) room s i) (trace_room_for T (shape_of T) (now_of s) space s i)
            ((held (traced_continues T (shape_of T) (now_of s) room space s) budget).before i l);
        stopped = λ l. absurd (omega arith);
      })

  bytes_short : (m : ℕ) → m ≡ made T (shape_of T) (now_of s) m room s → length (bytes T (shape_of T) (now_of s) m s) ≤ room
  bytes_short m e = subst (λ (n : ℕ). length (bytes T (shape_of T) (now_of s) n s) ≤ room) (sym e) (bytes_fit T (shape_of T) (now_of s) room s m)

  none_short : length (bytes T (shape_of T) (now_of s) 0 s) ≤ room
  unfolding bytes
  none_short = omega arith

module _ {T : Table} {s : Store} {budget : ℕ} {out tr : List ℕ} {r : Traced} {s' : Store} {out' tr' : List ℕ} (w : TracedCall T s budget out tr r s' out' tr') where
  pub moves_within : moves_of r.answer ≤ budget
  moves_within =
      subst (λ (n : ℕ). n ≤ budget) (sym w.tells.moves_are)
      (count_by_lem (λ (n : ℕ). n ≤ budget) (judge T) (store_refusal T (shape_of T) s) (traced_moves T s budget (length out) (length tr)) (made_most T s budget (length out) (length tr)) (omega arith))

  pub bytes_within : bytes_of r.answer ≤ length out
  bytes_within =
      subst (λ (n : ℕ). n ≤ length out) (sym w.tells.bytes_are)
      (subst (λ (n : ℕ). length (bytes T (shape_of T) (now_of s) n s) ≤ length out) (sym w.tells.moves_are)
      (count_by_lem (λ (n : ℕ). length (bytes T (shape_of T) (now_of s) n s) ≤ length out) (judge T) (store_refusal T (shape_of T) s) (traced_moves T s budget (length out) (length tr))
      (bytes_short T s budget (length out) (length tr) (traced_moves T s budget (length out) (length tr)) (made_again T s budget (length out) (length tr)))
      (none_short T s budget (length out) (length tr))))

module _ {T : Table} {s : Store} {text : List ℕ} {frames : ℕ} {r : Shown} {s' : Store} (w : ShowCall T s text frames r s') where
  shown_within : r.shown ≤ frames
  unfolding shown_of
  shown_within =
      subst (λ (n : ℕ). n ≤ frames) (sym w.shown)
      (count_by_lem (λ (n : ℕ). n ≤ frames) (judge T) (load_refusal (shape_of T) s) (shown_of T (shape_of T) text frames) (held (readable T (shape_of T) text) frames).within (omega arith))

pub seen_is : {T : Table} {s : Store} {X text : List ℕ} {at frames : ℕ} {r : Shown} {s' : Store} → X ≡ take at text → ShowCall T s X frames r s'
    → Seen T s text at frames r s'
seen_is {T} {s} {X} {text} {at} {frames} {r} {s'} e w =
    record { call = subst (λ (l : List ℕ). ShowCall T s l frames r s') e w; shown_most = shown_within w }

-- ---- the lines of a stretch of the trace
pub lines_printed : (n : ℕ) (B text text' : List ℕ) {X : List ℕ} {r most : ℕ} → X ≡ take n B → most ≡ length text → 25 * (length B / 12) ≤ length text
    → (text' ≡ sets text 0 (bytes_lines X)) × (r ≡ 0 + length (bytes_lines X)) × (r ≡ 0 + 25 * (length X / 12)) → Printed (bytes_lines (take n B)) 0 most r text text'
lines_printed n B text text' {X} {r} {most} x e l u =
    let a : length X ≤ length B = rw x (simp length-take (omega arith)) in
    let b = u.2 in
    record { place_is = u.1 ∙ ap (λ (y : List ℕ). 0 + length (bytes_lines y)) x; text_is = u.0 ∙ ap (λ (y : List ℕ). sets text 0 (bytes_lines y)) x; room = omega arith }

-- ---- by what the check says of the table
module _ (T : Table) {j : Judged} (told : j ≡ judged T) (s : Store) (n : ℕ) where
  pub store_none : {r : Refusal} (t : List ℕ) → j ≡ Err r → Printed (shown_by (judged T) T s n) 0 32988 0 t t
  store_none t e =
      subst (λ (k : Judged). Printed (shown_by k T s n) 0 32988 0 t t) (sym e ∙ told) (record { place_is = refl; text_is = refl; room = omega arith })

  module _ {S : Shape} (sound : j ≡ Ok S) where
    pub store_good : Good T S
    store_good = let w = was_sound T S (sym told ∙ sound) in rw w.1 (good T (accepted_means T w.0))

    pub store_some : {r : ℕ} {t t' : List ℕ} → Printed (shown_text T S s n) 0 32988 r t t' → Printed (shown_by (judged T) T s n) 0 32988 r t t'
    store_some {r} {t} {t'} w = subst (λ (k : Judged). Printed (shown_by k T s n) 0 32988 r t t') (sym sound ∙ told) w
