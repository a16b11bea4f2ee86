-- What each way through the step program leaves, over plain variables.
use Rattle.std.specs.Prelude.{Ok, Err}
use mathlib.Core.Path.{◌≡◌, refl, sym, ap, ◌∙◌, subst}
use mathlib.Core.List.{List, ◌++◌}
use mathlib.Core.Bool.{Bool, true, false}
use mathlib.Core.Logic.{⊎_elim}
use Prim.Native.Nat.{ℕ, ◌+◌, ◌*◌, ◌≤◌, ◌<◌}
use native.Mathlib.Omega.{arith}
use lib.ListN.{length, take, length-append, length-take}
use lib.Seq.{sets}
use borrow.Author.Tests.{eq-eqb, ne_eqb}
use Rattle.rules_walks.proofs.laws.Choose.{choose_true, choose_false}
use Rattle.rules_walks.proofs.laws.Pick.{clash}
use Rattle.rules_numbers.proofs.laws.Sets.{and_then_lem}
use Rattle.rules_numbers.specs.Bytes.{half_bytes, word_bytes}
use Rattle.rules_tables.specs.Judge.{judged}
use Rattle.rules_calls.specs.Answer.{number_of, frame_of, moves_of, stop_of, bytes_of, Answer}
use Rattle.rules_calls.specs.Public.{load_answer, load_store, advance_answer, advance_store, arrival_answer, arrival_store, run_store, LoadCall, AdvanceCall, ArrivalCall, RunCall}
use Rattle.rules_calls.proofs.laws.Public.{run_store_lem, run_output_lem}
use Rattle.rules_calls.specs.declared.Outcome.TheVariants.{Done, Ran}
use Rattle.rules_sessions.specs.Line.{line_ok, line_frame, opens}
use Rattle.rules_sessions.proofs.laws.Text.{line_length}
use Rattle.rules_sessions.specs.AnswerLine.{answer_frame, answer_line, malformed_line}
use Rattle.rules_sessions.specs.RecordLines.{records_by}
use Rattle.rules_sessions.specs.declared.Command.{Command}
use Rattle.rules_sessions.specs.declared.Command.TheVariants.{Wrong, Advance, Arrival, Value, Run}
use Rattle.rules_sessions.specs.Command.{line_command}
use Rattle.session_dialogue.specs.declared.session.Phase.{Phase}
use Rattle.session_dialogue.specs.declared.session.Phase.TheVariants.{Table, Calls, Values, Stopped}
use Rattle.session_dialogue.specs.declared.session.Session.{Session}
use Rattle.session_dialogue.specs.declared.session.Arriving.{Arriving}
use Rattle.rules_sessions.specs.RunText.{run_text}
use Rattle.rules_sessions.specs.Session.{Stage, tabled, calling, awaiting, halted, Deed, silent, and_then, malformed, after_load, load_deed, advance_deed, arrival_deed, cleared, run_deed, arrival_by, call_by, value_by, frame_deed, judged_line, line_deed}
use Rattle.session_dialogue.specs.Standing.{phase_after, is_stopped, Tabled, Came, InTable, InCalls, Stands, Took, Calm}
use Rattle.lines.specs.Printed.{Printed}
use Rattle.rules_sessions.proofs.laws.Session.{many_lines}
use Rattle.session_dialogue.proofs.Buffers.{table_cases}

-- an answer's line has 24 digits and its end
pub answer_line_lem : (a : Answer) → length (answer_line a) ≡ 25
unfolding answer_frame word_bytes half_bytes
answer_line_lem a = line_length (answer_frame (number_of a) (frame_of a) (moves_of a) (stop_of a) (bytes_of a))

pub malformed_line_lem : length malformed_line ≡ 25
unfolding answer_frame word_bytes half_bytes
malformed_line_lem = line_length (answer_frame 255 0 0 0 0)

-- a deed that is another
pub took_is : {d f : Deed} {s r : Session} {t st W text text' : List ℕ} → d ≡ f → Took d s r t st W text text' → Took f s r t st W text text'
took_is {s = s} {r = r} {t = t} {st = st} {W = W} {text = text} {text' = text'} e w = subst (λ (x : Deed). Took x s r t st W text text') e w

pub calm_more : {m n : ℕ} {s r : Session} → m ≤ n → Calm m s r → Calm n s r
calm_more l w = record { length_is = w.length_is; room = let h = w.room in omega arith }

pub calm_none : (n : ℕ) (s : Session) → Calm n s s
calm_none n s = record { length_is = refl; room = omega arith }

pub calm_then : {m n : ℕ} {s r₁ r : Session} → Calm m s r₁ → Calm n r₁ r → Calm (m + n) s r
calm_then v w = record { length_is = w.length_is ∙ v.length_is; room = let a = v.room in let b = w.room in omega arith }

module _ (s r : Session) {p : Phase} {at : ℕ} (t : (r.phase ≡ p) × (r.end ≡ s.end) × (r.length ≡ s.length) × (r.at ≡ at)) where
  pub told_calm : (n : ℕ) → at ≤ s.at + n → Calm n s r
  told_calm n l = record { length_is = t.2; room = let e = t.3 in omega arith }

  pub told_malformed : (tb st W text text' : List ℕ) → (text' ≡ sets text s.at malformed_line) × (at ≡ s.at + 25) → p ≡ Stopped → Took malformed s r tb st W text text'
  told_malformed tb st W text text' u e =
      record { stands = t.0 ∙ e; place_is = t.3 ∙ u.1 ∙ ap (λ (n : ℕ). s.at + n) (sym malformed_line_lem); text_is = u.0 }

  module _ (T S tb st' W : List ℕ) (l : 255 ≤ length W) (x : take s.end tb ≡ T) (y : st' ≡ S) where
    in_calls : p ≡ Calls → InCalls T S r tb st' W
    in_calls e = record { phase_is = t.0 ∙ e; table_is = ap (λ (n : ℕ). take n tb) t.1 ∙ x; store_is = y; room = l }

    -- after a load
    load_stands : (a : Answer) → p ≡ phase_after a → Stands (after_load a T S) r tb st' W
    load_stands (Err q) e = t.0 ∙ e
    load_stands (Ok Done) e = in_calls e
    load_stands (Ok (Ran m b n u)) e = in_calls e

    told_calls : (P text text' : List ℕ) → p ≡ Calls → text' ≡ sets text s.at P → at ≡ s.at + length P → Took (record { stage = calling T S; text = P }) s r tb st' W text text'
    told_calls P text text' e u v = record { stands = in_calls e; place_is = t.3 ∙ v; text_is = u }

  -- the line of an answer that is another
  answered : {a b : Answer} (text text' : List ℕ) → a ≡ b → (text' ≡ sets text s.at (answer_line a)) × (at ≡ s.at + 25) → (text' ≡ sets text s.at (answer_line b)) × (at ≡ s.at + length (answer_line b))
  answered {b = b} text text' g u = (u.0 ∙ ap (λ (c : Answer). sets text s.at (answer_line c)) g, u.1 ∙ ap (λ (n : ℕ). s.at + n) (sym (answer_line_lem b)))

  module _ (tb st st' W text text' X : List ℕ) (l : 255 ≤ length W) (x : X ≡ take s.end tb) where
    pub told_load : (T : List ℕ) → Tabled T s.end tb → {a : Answer} → LoadCall X st a st' → p ≡ phase_after a → (text' ≡ sets text s.at (answer_line a)) × (at ≡ s.at + 25)
        → Took (load_deed T st) s r tb st' W text text'
    unfolding load_deed
    told_load T h {a} w e u = ⊎_elim same long (table_cases T s.end tb h)
      where
        v : LoadCall (take s.end tb) st a st'
        v = rw x at w

        same : take s.end tb ≡ T → Took (record { stage = after_load (load_answer T st) T (load_store T st); text = answer_line (load_answer T st) }) s r tb st' W text text'
        same y =
            let z = subst (λ (Y : List ℕ). LoadCall Y st a st') y v in
            let q = answered text text' z.answer u in
            record {
              stands = load_stands T (load_store T st) tb st' W l y z.store (load_answer T st) (e ∙ ap phase_after z.answer);
              place_is = t.3 ∙ q.1;
              text_is = q.0;
            }

        long : (49152 < length T) × (49152 < length (take s.end tb)) → Took (record { stage = after_load (load_answer T st) T (load_store T st); text = answer_line (load_answer T st) }) s r tb st' W text text'
        long b =
            let f = v.answer ∙ many_lines (take s.end tb) b.1 st in
            let g = many_lines T b.0 st in
            let q = answered text text' (f ∙ sym g) u in
            record {
              stands = subst (λ (c : Answer). Stands (after_load c T (load_store T st)) r tb st' W) (sym g) (t.0 ∙ e ∙ ap phase_after f);
              place_is = t.3 ∙ q.1;
              text_is = q.0;
            }

    pub told_advance : (to : ℕ) {a : Answer} → AdvanceCall X st to a st' → p ≡ Calls → (text' ≡ sets text s.at (answer_line a)) × (at ≡ s.at + 25)
        → Took (advance_deed (take s.end tb) st to) s r tb st' W text text'
    unfolding advance_deed
    told_advance to {a} w e u =
        let v = subst (λ (Y : List ℕ). AdvanceCall Y st to a st') x w in
        let q = answered text text' v.answer u in
        told_calls (take s.end tb) (advance_store (take s.end tb) st to) tb st' W l refl v.store (answer_line (advance_answer (take s.end tb) st to)) text text' e q.0 q.1

    pub told_arrival : (n o birth : ℕ) (vs : List ℕ) → vs ≡ take n W → {a : Answer} → ArrivalCall X st o birth vs a st' → p ≡ Calls → (text' ≡ sets text s.at (answer_line a)) × (at ≡ s.at + 25)
        → Took (arrival_deed (take s.end tb) st o birth (take n W)) s r tb st' W text text'
    unfolding arrival_deed
    told_arrival n o birth vs y {a} w e u =
        let v = subst (λ (Y : List ℕ). ArrivalCall (take s.end tb) st o birth Y a st') y (subst (λ (Y : List ℕ). ArrivalCall Y st o birth vs a st') x w) in
        let q = answered text text' v.answer u in
        told_calls (take s.end tb) (arrival_store (take s.end tb) st o birth (take n W)) tb st' W l refl v.store (answer_line (arrival_answer (take s.end tb) st o birth (take n W))) text text' e q.0 q.1

    told_run_into : (b most : ℕ) (out out' : List ℕ) {a : Answer} → RunCall X st b out a st' out' → p ≡ Calls
        → Printed (records_by (judged X) X (take (bytes_of a) out') ++ answer_line a) s.at most at text text'
        → Took (record { stage = calling (take s.end tb) (run_store (take s.end tb) st b out); text = run_text (take s.end tb) st b out }) s r tb st' W text text'
    told_run_into b most out out' {a} w e u =
        let v = subst (λ (Y : List ℕ). RunCall Y st b out a st' out') x w in
        let q = subst (λ (Y : List ℕ). Printed (records_by (judged Y) Y (take (bytes_of a) out') ++ answer_line a) s.at most at text text') x u in
        let g : records_by (judged (take s.end tb)) (take s.end tb) (take (bytes_of a) out') ++ answer_line a ≡ run_text (take s.end tb) st b out =
        λ i. records_by (judged (take s.end tb)) (take s.end tb) (take (bytes_of (v.answer i)) (run_output_lem (take s.end tb) st b out v i)) ++ answer_line (v.answer i) in
        told_calls (take s.end tb) (run_store (take s.end tb) st b out) tb st' W l refl (run_store_lem (take s.end tb) st b out v) (run_text (take s.end tb) st b out) text text' e
        (q.text_is ∙ ap (sets text s.at) g) (q.place_is ∙ ap (λ (m : List ℕ). s.at + length m) g)

    pub told_run : (b most : ℕ) (out' : List ℕ) {a : Answer} → RunCall X st b cleared a st' out' → p ≡ Calls
        → Printed (records_by (judged X) X (take (bytes_of a) out') ++ answer_line a) s.at most at text text' → Took (run_deed (take s.end tb) st b) s r tb st' W text text'
    unfolding run_deed
    told_run b most out' w e u = told_run_into b most cleared out' w e u

-- ---- a run's records, then its answer
pub run_printed : (A text text₁ text' O : List ℕ) (a : Answer) (at from r z : ℕ) → (text₁ ≡ sets text at A) × (from ≤ at + 3 * length O) × (from ≡ at + length A) → length O ≤ z → (text' ≡ sets text₁ from (answer_line a)) × (r ≡ from + 25)
    → Printed (A ++ answer_line a) at (at + 3 * z + 25) r text text'
run_printed A text text₁ text' O a at from r z p l q =
    let h = p.1 in
    let f = p.2 in
    let g = q.1 in
    record {
      place_is = let k = length-append A (answer_line a) in let m = answer_line_lem a in omega arith;
      text_is = and_then_lem text at from A (answer_line a) f p.0 q.0;
      room = omega arith;
    }

pub stretch_short : (X l : List ℕ) (n : ℕ) → X ≡ take n l → length X ≤ length l
stretch_short X l n e = rw e (simp length-take (omega arith))

-- with the stretch that holds the records
pub records_of : (T X out : List ℕ) {n : ℕ} (a : Answer) → X ≡ take n out → n ≡ bytes_of a → {at most r : ℕ} {text text' : List ℕ} → Printed (records_by (judged T) T X ++ answer_line a) at most r text text'
    → Printed (records_by (judged T) T (take (bytes_of a) out) ++ answer_line a) at most r text text'
records_of T X out {n} a x e {at} {most} {r} {text} {text'} w =
    subst (λ (Y : List ℕ). Printed (records_by (judged T) T Y ++ answer_line a) at most r text text') (x ∙ ap (λ (m : ℕ). take m out) e) w

-- ---- an arrival is made when its values have come; until then it waits
module _ (T st vs W : List ℕ) (n o birth g : ℕ) (w : Came vs n g W) where
  pub all_came : g ≡ n → arrival_deed T st o birth (take n W) ≡ arrival_by T st n o birth vs
  unfolding arrival_by
  all_came e =
      ap (arrival_deed T st o birth) (ap (λ (k : ℕ). take k W) (sym e) ∙ w.held)
      ∙ sym (choose_true _ _ _ (eq-eqb (length vs) n (sym w.count ∙ e)))

  came_not : (g ≡ n → ⊥) → silent (awaiting T st n o birth vs) ≡ arrival_by T st n o birth vs
  unfolding arrival_by
  came_not e = sym (choose_false _ _ _ (ne_eqb (length vs) n (λ q. e (w.count ∙ q))))

pub still_waits : (s r : Session) (tb st vs W text : List ℕ) (a : Arriving) → Came vs a.number a.got W → (a.got ≡ a.number → ⊥)
    → (r.phase ≡ Values a) × (r.end ≡ s.end) × (r.length ≡ s.length) × (r.at ≡ s.at)
    → Took (arrival_by (take s.end tb) st a.number a.event a.birth vs) s r tb st W text text
still_waits s r tb st vs W text a w h t =
    let c = w.count in
    let m = w.most in
    let p = t.3 in
    took_is (came_not (take s.end tb) st vs W a.number a.event a.birth a.got w h)
    (record {
      stands = record {
        phase_is = t.0 ∙ ap (λ (k : ℕ). Values (record { number = a.number; event = a.event; birth = a.birth; got = k })) c;
        table_is = ap (λ (k : ℕ). take k tb) t.1;
        store_is = refl;
        came = record { count = refl; held = ap (λ (k : ℕ). take k W) (sym c) ∙ w.held; most = omega arith; few = w.few; room = w.room };
        fewer = below (length vs) (λ e. h (c ∙ e)) (omega arith);
      };
      place_is = omega arith;
      text_is = refl;
    })
  where
    below : (k : ℕ) → (k ≡ a.number → ⊥) → k ≤ a.number → k < a.number
    below k e l = omega arith

-- ---- the table
pub right_frame : (T st L : List ℕ) {b : Bool} → b ≡ line_ok L → b ≡ true → silent (tabled (T ++ line_frame L) st) ≡ frame_deed T st L
unfolding frame_deed
right_frame T st L p q = sym (choose_true _ _ _ (sym p ∙ q))

pub wrong_frame : (T st L : List ℕ) {b : Bool} → b ≡ line_ok L → b ≡ false → malformed ≡ frame_deed T st L
unfolding frame_deed
wrong_frame T st L p q = sym (choose_false _ _ _ (sym p ∙ q))

-- the table has one frame more
pub table_grows : (s r : Session) (T F t t' st W text : List ℕ) {e : ℕ} → InTable T st s t st W → (Tabled T s.end t → Tabled (T ++ F) e t')
    → (r.phase ≡ s.phase) × (r.end ≡ e) × (r.length ≡ s.length) × (r.at ≡ s.at) → Took (silent (tabled (T ++ F) st)) s r t' st W text text
table_grows s r T F t t' st W text {e} w k q =
    let a = q.3 in
    record {
      stands = record {
        phase_is = q.0 ∙ w.phase_is;
        table_is = subst (λ (n : ℕ). Tabled (T ++ F) n t') (sym q.1) (k w.table_is);
        store_is = refl;
        room = w.room;
      };
      place_is = omega arith;
      text_is = refl;
    }

-- ---- one deed after another
pub took_then : {d : Deed} (f : Stage → Deed) {s r₁ r : Session} {t₁ st₁ W₁ t' st' W' text text₁ text' : List ℕ} → Took d s r₁ t₁ st₁ W₁ text text₁ → Took (f d.stage) r₁ r t' st' W' text₁ text'
    → Took (and_then d f) s r t' st' W' text text'
took_then {d} f {s} {r₁} {r} {text = text} v w =
    record {
      stands = w.stands;
      place_is = let a = v.place_is in let b = w.place_is in let k = length-append d.text (f d.stage).text in omega arith;
      text_is = and_then_lem text s.at r₁.at d.text (f d.stage).text v.place_is v.text_is w.text_is;
    }

-- a line that does nothing
pub took_none : (g : Stage) (s : Session) (t st W text : List ℕ) → Stands g s t st W → Took (silent g) s s t st W text text
took_none g s t st W text w = record { stands = w; place_is = omega arith; text_is = refl }

-- the load, and then the line, unless the load was refused
refused_then : (a : Answer) (T S P L : List ℕ) {s r : Session} {t st W text text' : List ℕ} → is_stopped r.phase ≡ true → Took (record { stage = after_load a T S; text = P }) s r t st W text text'
    → Took (and_then (record { stage = after_load a T S; text = P }) (judged_line L)) s r t st W text text'
refused_then (Err q) T S P L {s} {r} {t} {st} {W} {text} {text'} h w = took_then (judged_line L) w (took_none halted r t st W text' w.stands)
refused_then (Ok Done) T S P L h w = clash (ap is_stopped (sym w.stands.phase_is) ∙ h)
refused_then (Ok (Ran m b n u)) T S P L h w = clash (ap is_stopped (sym w.stands.phase_is) ∙ h)

calls_then : (T S P L : List ℕ) {s r₁ r : Session} {t st₁ W st' text text₁ text' : List ℕ} → Took (record { stage = calling T S; text = P }) s r₁ t st₁ W text text₁
    → (255 ≤ length W → Took (call_by (take r₁.end t) st₁ (line_command L)) r₁ r t st' W text₁ text')
    → Took (and_then (record { stage = calling T S; text = P }) (judged_line L)) s r t st' W text text'
calls_then T S P L v w =
    let q = v.stands in
    took_then (judged_line L) v (took_is (λ i. call_by (q.table_is i) (q.store_is i) (line_command L)) (w q.room))

went_then : (a : Answer) (T S P L : List ℕ) {s r₁ r : Session} {t st₁ W st' text text₁ text' : List ℕ} → is_stopped r₁.phase ≡ false → Took (record { stage = after_load a T S; text = P }) s r₁ t st₁ W text text₁
    → (255 ≤ length W → Took (call_by (take r₁.end t) st₁ (line_command L)) r₁ r t st' W text₁ text')
    → Took (and_then (record { stage = after_load a T S; text = P }) (judged_line L)) s r t st' W text text'
went_then (Err q) T S P L h v w = clash (sym h ∙ ap is_stopped v.stands)
went_then (Ok Done) T S P L h v w = calls_then T S P L v w
went_then (Ok (Ran m b n u)) T S P L h v w = calls_then T S P L v w

module _ (T st L : List ℕ) where
  pub load_refused : {s r : Session} {t st' W text text' : List ℕ} {b : Bool} → b ≡ is_stopped r.phase → b ≡ true → Took (load_deed T st) s r t st' W text text'
      → Took (and_then (load_deed T st) (judged_line L)) s r t st' W text text'
  unfolding load_deed
  load_refused p q w = refused_then (load_answer T st) T (load_store T st) (answer_line (load_answer T st)) L (sym p ∙ q) w

  pub load_done : {s r₁ r : Session} {t st₁ W st' text text₁ text' : List ℕ} {b : Bool} → b ≡ is_stopped r₁.phase → b ≡ false → Took (load_deed T st) s r₁ t st₁ W text text₁
      → (255 ≤ length W → Took (call_by (take r₁.end t) st₁ (line_command L)) r₁ r t st' W text₁ text')
      → Took (and_then (load_deed T st) (judged_line L)) s r t st' W text text'
  unfolding load_deed
  load_done p q v w = went_then (load_answer T st) T (load_store T st) (answer_line (load_answer T st)) L (sym p ∙ q) v w

  pub opens_load : {b : Bool} → b ≡ opens L → b ≡ true → and_then (load_deed T st) (judged_line L) ≡ line_deed (tabled T st) L
  opens_load p q = sym (choose_true _ _ _ (sym p ∙ q))

  pub opens_not : {b : Bool} → b ≡ opens L → b ≡ false → frame_deed T st L ≡ line_deed (tabled T st) L
  opens_not p q = sym (choose_false _ _ _ (sym p ∙ q))

-- ---- which deed it is
pub call_by_lem : (T st L : List ℕ) {c k : Command} → c ≡ line_command L → c ≡ k → call_by T st k ≡ call_by T st (line_command L)
call_by_lem T st L a b = ap (call_by T st) (sym b ∙ a)

pub value_by_lem : (T st vs L : List ℕ) (n o birth : ℕ) {c k : Command} → c ≡ line_command L → c ≡ k → value_by T st n o birth vs k ≡ value_by T st n o birth vs (line_command L)
value_by_lem T st vs L n o birth a b = ap (value_by T st n o birth vs) (sym b ∙ a)

-- any command but a value
pub value_other : (T st vs L : List ℕ) (n o birth : ℕ) (c : Command) → c ≡ line_command L → ((v : ℕ) → c ≡ Value v → ⊥) → malformed ≡ value_by T st n o birth vs (line_command L)
value_other T st vs L n o birth c a h = other c h ∙ ap (value_by T st n o birth vs) a
  where
    other : (k : Command) → ((v : ℕ) → k ≡ Value v → ⊥) → malformed ≡ value_by T st n o birth vs k
    other Wrong u = refl
    other (Advance to) u = refl
    other (Arrival m e b) u = refl
    other (Value v) u = absurd (u v refl)
    other (Run b) u = refl

-- ---- the phase of the code is that of the stage
-- two phases at once
differ : {A : Type 0} {p q x : Phase} → x ≡ p → x ≡ q → (p ≡ q → A) → A
differ a b n = n (sym a ∙ b)

module _ (s : Session) (t st W : List ℕ) where
  -- in the table
  pub by_table : (f : Stage → Deed) {r : Session} {t' st' W' text text' : List ℕ} → s.phase ≡ Table → ((T : List ℕ) → InTable T st s t st W → Took (f (tabled T st)) s r t' st' W' text text')
      → (g : Stage) → Stands g s t st W → Took (f g) s r t' st' W' text text'
  by_table f e k (tabled T q) w =
      took_is (ap (λ (x : List ℕ). f (tabled T x)) w.store_is) (k T (record { phase_is = w.phase_is; table_is = w.table_is; store_is = refl; room = w.room }))
  by_table f e k (calling T q) w = differ e w.phase_is (λ z. cc)
  by_table f e k (awaiting T q n o b vs) w = differ e w.phase_is (λ z. cc)
  by_table f e k halted w = differ e w (λ z. cc)

  -- in the calls
  pub by_calls : (f : Stage → Deed) {r : Session} {t' st' W' text text' : List ℕ} → s.phase ≡ Calls → (255 ≤ length W → InCalls (take s.end t) st s t st W → Took (f (calling (take s.end t) st)) s r t' st' W' text text')
      → (g : Stage) → Stands g s t st W → Took (f g) s r t' st' W' text text'
  by_calls f e k (tabled T q) w = differ e w.phase_is (λ z. cc)
  by_calls f e k (calling T q) w =
      took_is (λ i. f (calling (w.table_is i) (w.store_is i))) (k w.room (record { phase_is = e; table_is = refl; store_is = refl; room = w.room }))
  by_calls f e k (awaiting T q n o b vs) w = differ e w.phase_is (λ z. cc)
  by_calls f e k halted w = differ e w (λ z. cc)

  -- in the values of an arrival
  pub by_values : (f : Stage → Deed) {r : Session} {t' st' W' text text' : List ℕ} {a : Arriving} → s.phase ≡ Values a
      → ((vs : List ℕ) → Came vs a.number a.got W → a.got < a.number → Took (f (awaiting (take s.end t) st a.number a.event a.birth vs)) s r t' st' W' text text')
      → (g : Stage) → Stands g s t st W → Took (f g) s r t' st' W' text text'
  by_values f e k (tabled T q) w = differ e w.phase_is (λ z. cc)
  by_values f e k (calling T q) w = differ e w.phase_is (λ z. cc)
  by_values f {a = a} e k (awaiting T q m u b vs) w =
      let d : Values a ≡ Values (record { number = m; event = u; birth = b; got = length vs }) = sym e ∙ w.phase_is in
      let i : a ≡ record { number = m; event = u; birth = b; got = length vs } = cc in
      let c = w.came in
      took_is (λ j. f (awaiting (w.table_is j) (w.store_is j) (i j).number (i j).event (i j).birth vs))
      (k vs (subst (λ (x : Arriving). Came vs x.number x.got W) (sym i) c) (subst (λ (x : Arriving). x.got < x.number) (sym i) w.fewer))
  by_values f e k halted w = differ e w (λ z. cc)

  -- after the program has stopped
  pub by_stopped : (f : Stage → Deed) {r : Session} {t' st' W' text text' : List ℕ} → s.phase ≡ Stopped → Took (f halted) s r t' st' W' text text'
      → (g : Stage) → Stands g s t st W → Took (f g) s r t' st' W' text text'
  by_stopped f e k (tabled T q) w = differ e w.phase_is (λ z. cc)
  by_stopped f e k (calling T q) w = differ e w.phase_is (λ z. cc)
  by_stopped f e k (awaiting T q n o b vs) w = differ e w.phase_is (λ z. cc)
  by_stopped f e k halted w = k
