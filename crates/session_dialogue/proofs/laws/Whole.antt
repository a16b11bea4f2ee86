-- A program that starts a session, feeds it an input in any pieces, writes the text whenever it likes and finishes prints what the definition says of the input.
use Rattle.std.specs.Prelude.{◌≡◌, refl, List, ◌++◌, ℕ, ◌+◌, ◌≤◌, length, drop}
use Rattle.std.proofs.Math.Path.{sym, ap, subst}
use Rattle.std.proofs.Common.{◌∙◌, append-nil, take_all, take-add}
use Rattle.std.proofs.Math.ListN.{take}
use Rattle.session_dialogue.specs.declared.session.Session.{Session}
use Rattle.session_dialogue.specs.declared.feeding.Fed.{Fed}
use Rattle.rules_sessions.specs.Session.{Stage, tabled, calling, awaiting, halted, prints_with}
use Rattle.rules_sessions.specs.Reading.{Reading, opening, after_bytes}
use Rattle.session_dialogue.specs.Standing.{Tabled, Stands, Follows, KeepsUp, Feeds, Finishes}
use Rattle.session_dialogue.specs.Runs.{Buffers, Runs, begins, feeds, writes}
use Rattle.rules_sessions.proofs.laws.Session.{after_append, whole}

-- the same phase and the same end of the table
pub stands_same : (g : Stage) (r q : Session) (t st W : List ℕ) → r.phase ≡ q.phase → r.end ≡ q.end → Stands g q t st W → Stands g r t st W
stands_same (tabled T s) r q t st W p e w =
    record { phase_is = p ∙ w.phase_is; table_is = subst (λ (n : ℕ). Tabled T n t) (sym e) w.table_is; store_is = w.store_is; room = w.room }
stands_same (calling T s) r q t st W p e w =
    record { phase_is = p ∙ w.phase_is; table_is = ap (λ (n : ℕ). take n t) e ∙ w.table_is; store_is = w.store_is; room = w.room }
stands_same (awaiting T s n o b vs) r q t st W p e w =
    record { phase_is = p ∙ w.phase_is; table_is = ap (λ (n : ℕ). take n t) e ∙ w.table_is; store_is = w.store_is; came = w.came; fewer = w.fewer }
stands_same halted r q t st W p e w = p ∙ w

-- the text that waited is written
written_follows : (rd : Reading) (out : List ℕ) (s r : Session) (t st W line text : List ℕ) → (r.phase ≡ s.phase) × (r.end ≡ s.end) × (r.length ≡ s.length) × (r.at ≡ 0)
    → Follows rd out s t st W line text → Follows rd (out ++ take s.at text) r t st W line text
written_follows rd out s r t st W line text e w =
    record {
      stands = stands_same rd.stage r s t st W e.0 e.1 w.stands;
      line_size = w.line_size;
      line_end = e.2 ∙ w.line_end;
      line_held = ap (λ (k : ℕ). take k line) e.2 ∙ w.line_held;
      text_is = w.text_is ∙ sym (append-nil (out ++ take s.at text)) ∙ ap (λ (k : ℕ). (out ++ take s.at text) ++ take k text) (sym e.3);
    }

pub written_keeps : (rd : Reading) (s r : Session) (t st W line text : List ℕ) → (r.phase ≡ s.phase) × (r.end ≡ s.end) × (r.length ≡ s.length) × (r.at ≡ 0)
    → KeepsUp rd s t st W line text → KeepsUp rd r t st W line text
written_keeps rd s r t st W line text e w = record { out = w.out ++ take s.at text; follows = written_follows rd w.out s r t st W line text e w.follows }

-- ---- a piece that is fed from a place on: what was taken of it follows what was taken before
pub none_keeps : (rd : Reading) (l : List ℕ) (s : Session) (t st W line text : List ℕ) → KeepsUp rd s t st W line text → KeepsUp (after_bytes rd (take 0 l)) s t st W line text
unfolding after_bytes
none_keeps rd l s t st W line text w = w

pub fed_keeps : (rd : Reading) (l piece : List ℕ) (from : ℕ) (s : Session) (r : Fed) (t st W line text t' st' W' line' text' : List ℕ) → piece ≡ drop from l
    → Feeds piece s r t st W line text t' st' W' line' text' → KeepsUp (after_bytes rd (take from l)) s t st W line text
    → KeepsUp (after_bytes rd (take (from + r.taken) l)) r.session t' st' W' line' text'
fed_keeps rd l piece from s r t st W line text t' st' W' line' text' p f w =
    let e : after_bytes (after_bytes rd (take from l)) (take r.taken piece) ≡ after_bytes rd (take (from + r.taken) l) =
    sym (after_append rd (take from l) (take r.taken piece)) ∙ ap (λ (q : List ℕ). after_bytes rd (take from l ++ take r.taken q)) p ∙ ap (after_bytes rd) (sym (take-add from r.taken l)) in
    subst (λ (q : Reading). KeepsUp q r.session t' st' W' line' text') e
    (record { out = w.out; follows = f.reads (after_bytes rd (take from l)) w.out w.follows })

pub all_keeps : (rd : Reading) (l : List ℕ) (from : ℕ) (s : Session) (t st W line text : List ℕ) → length l ≤ from → KeepsUp (after_bytes rd (take from l)) s t st W line text
    → KeepsUp (after_bytes rd l) s t st W line text
all_keeps rd l from s t st W line text h w = subst (λ (q : List ℕ). KeepsUp (after_bytes rd q) s t st W line text) (take_all from l h) w

module _ (store : List ℕ) where
  runs_hold : {input out : List ℕ} {s : Session} {b : Buffers} → Runs store input out s b → Follows (after_bytes (opening store) input) out s b.table b.store b.values b.line b.text
  unfolding after_bytes
  runs_hold (begins s b n z e) =
      record {
        stands = record {
          phase_is = n.0;
          table_is = record { size = z.table_size; frames_whole = refl; end_is = n.1; held = ap (λ (k : ℕ). take k b.table) n.1 };
          store_is = e;
          room = z.values_size;
        };
        line_size = z.line_size;
        line_end = n.2;
        line_held = ap (λ (k : ℕ). take k b.line) n.2;
        text_is = sym (ap (λ (k : ℕ). take k b.text) n.3);
      }
  runs_hold (feeds input out piece s r b c k f) =
      subst (λ (q : Reading). Follows q out r.session c.table c.store c.values c.line c.text) (sym (after_append (opening store) input (take r.taken piece)))
      (f.reads (after_bytes (opening store) input) out (runs_hold k))
  runs_hold (writes input out s r b k e) =
      written_follows (after_bytes (opening store) input) out s r b.table b.store b.values b.line b.text e (runs_hold k)

  -- all that was written, and what waits at the end
  pub runs_print : (input out text' : List ℕ) (s : Session) (b : Buffers) (at : ℕ) → Runs store input out s b → Finishes s b.table b.store b.values b.line b.text at text' → out ++ take at text' ≡ prints_with store input
  runs_print input out text' s b at k f = sym (f.last_printed (after_bytes (opening store) input) out (runs_hold k)) ∙ whole store input
