-- What a byte, a piece and the end of the input leave, over plain variables.
use mathlib.Core.Path.{◌≡◌, refl, sym, ap, ◌∙◌, subst}
use mathlib.Core.List.{List, [], ◌∷◌, ◌++◌}
use Prim.Native.Nat.{ℕ, zero, suc, ◌+◌, ◌≤◌, ◌<◌}
use native.Mathlib.Omega.{arith}
use lib.ListN.{length, take, set, get_or, length-set}
use borrow.Author.Tests.{eq-eqb, ne_eqb}
use Rattle.rules_walks.proofs.laws.Choose.{choose_true, choose_false}
use Rattle.session_dialogue.specs.declared.session.Session.{Session}
use Rattle.rules_sessions.specs.Session.{Stage, and_then, line_deed, end_deed}
use Rattle.rules_sessions.specs.Reading.{Reading, line_ended, after_byte, after_bytes, last_deed, closed}
use Rattle.rules_sessions.proofs.laws.Session.{after_next, first_characters}
use Rattle.session_dialogue.specs.Standing.{one_more, Stands, Took, Follows}
use Rattle.session_dialogue.proofs.Buffers.{character_end, character_held, none_came, some_came, text_grows}
use Rattle.session_dialogue.proofs.Telling.{took_is, took_then}
use Rattle.session_dialogue.proofs.laws.Whole.{stands_same}

after_line : (rd : Reading) (b : ℕ) → b ≡ 10 → after_byte rd b ≡ line_ended rd (line_deed rd.stage rd.line)
unfolding after_byte
after_line rd b h = choose_true _ _ _ (eq-eqb b 10 h)

after_character : (rd : Reading) (b : ℕ) → (b ≡ 10 → ⊥) → after_byte rd b ≡ record { stage = rd.stage; line = rd.line ++ (b ∷ []); text = rd.text }
unfolding after_byte
after_character rd b h = choose_false _ _ _ (ne_eqb b 10 h)

module _ (rd : Reading) (out : List ℕ) (s : Session) (t st W line text : List ℕ) (w : Follows rd out s t st W line text) where
  -- what the buffer holds of the line does what the line does
  line_done : (X : List ℕ) {r : Session} {t' st' W' text' : List ℕ} → X ≡ take s.length line → ((g : Stage) → Stands g s t st W → Took (line_deed g X) s r t' st' W' text text')
      → Took (line_deed rd.stage rd.line) s r t' st' W' text text'
  line_done X x k = took_is (ap (line_deed rd.stage) (x ∙ w.line_held) ∙ first_characters rd.stage rd.line) (k rd.stage w.stands)

  -- the byte ends the line
  pub line_ends : (b : ℕ) (X : List ℕ) {r₁ r : Session} {t' st' W' text' : List ℕ} → b ≡ 10 → X ≡ take s.length line
      → ((g : Stage) → Stands g s t st W → Took (line_deed g X) s r₁ t' st' W' text text') → r₁.at ≤ length text
      → (r.phase ≡ r₁.phase) × (r.end ≡ r₁.end) × (r.length ≡ 0) × (r.at ≡ r₁.at) → Follows (after_byte rd b) out r t' st' W' line text'
  line_ends b X {r₁} {r} {t'} {st'} {W'} {text'} h x k l e =
      let v = line_done X x k in
      let d = line_deed rd.stage rd.line in
      let p = v.place_is in
      subst (λ (q : Reading). Follows q out r t' st' W' line text') (sym (after_line rd b h))
      (record {
        stands = stands_same d.stage r r₁ t' st' W' e.0 e.1 v.stands;
        line_size = w.line_size;
        line_end = e.2;
        line_held = ap (λ (n : ℕ). take n line) e.2;
        text_is = text_grows rd.text out text text' d.text s.at r.at w.text_is (e.3 ∙ p) v.text_is (omega arith);
      })

  -- the byte is one more character
  pub line_grows : (b : ℕ) {r : Session} {line' : List ℕ} {k : ℕ} → (b ≡ 10 → ⊥) → line' ≡ set line s.length b → k ≡ one_more s.length (length line)
      → (r.phase ≡ s.phase) × (r.end ≡ s.end) × (r.length ≡ k) × (r.at ≡ s.at) → Follows (after_byte rd b) out r t st W line' text
  line_grows b {r} {line'} {k} h u m e =
      subst (λ (q : Reading). Follows q out r t st W line' text) (sym (after_character rd b h))
      (record {
        stands = stands_same rd.stage r s t st W e.0 e.1 w.stands;
        line_size = ap length u ∙ length-set line s.length b ∙ w.line_size;
        line_end = e.2 ∙ m ∙ character_end rd.line line s.length b w.line_size w.line_end w.line_held;
        line_held = (λ i. take ((e.2 ∙ m) i) (u i)) ∙ character_held rd.line line s.length b w.line_size w.line_end w.line_held;
        text_is = w.text_is ∙ ap (λ (n : ℕ). out ++ take n text) (sym e.3);
      })

  -- the end of the input
  last_done : {r : Session} {t' st' W' text' : List ℕ} → r.at ≤ length text → Took (last_deed rd.stage rd.line) s r t' st' W' text text' → closed rd ≡ out ++ take r.at text'
  unfolding closed
  last_done {r} {text' = text'} l v =
      let p = v.place_is in
      text_grows rd.text out text text' (last_deed rd.stage rd.line).text s.at r.at w.text_is p v.text_is (omega arith)

  last_none : s.length ≡ 0 → end_deed rd.stage ≡ last_deed rd.stage rd.line
  unfolding last_deed
  last_none z = sym (choose_true _ _ _ (eq-eqb (length rd.line) 0 (none_came rd.line s.length w.line_end z)))

  last_some : (s.length ≡ 0 → ⊥) → and_then (line_deed rd.stage rd.line) end_deed ≡ last_deed rd.stage rd.line
  unfolding last_deed
  last_some n = sym (choose_false _ _ _ (ne_eqb (length rd.line) 0 (some_came rd.line s.length w.line_end n)))

  pub ends_bare : {r : Session} {st' text' : List ℕ} → s.length ≡ 0 → ((g : Stage) (X : List ℕ) → Stands g s t st X → Took (end_deed g) s r t st' X text text') → r.at ≤ length text
      → closed rd ≡ out ++ take r.at text'
  ends_bare z k l = last_done l (took_is (last_none z) (k rd.stage W w.stands))

  pub ends_line : (X : List ℕ) {r₁ r : Session} {t' st₁ st' W' text₁ text' : List ℕ} → (s.length ≡ 0 → ⊥) → X ≡ take s.length line
      → ((g : Stage) → Stands g s t st W → Took (line_deed g X) s r₁ t' st₁ W' text text₁)
      → ((g : Stage) (X : List ℕ) → Stands g r₁ t' st₁ X → Took (end_deed g) r₁ r t' st' X text₁ text') → r.at ≤ length text → closed rd ≡ out ++ take r.at text'
  ends_line X {W' = W'} n x k m l =
      let v = line_done X x k in
      last_done l (took_is (last_some n) (took_then end_deed v (m (line_deed rd.stage rd.line).stage W' v.stands)))

-- ---- pieces
-- from session s with its buffers to session r with its own, the bytes l were read
abbrev pub Reads : List ℕ → Session → List ℕ → List ℕ → List ℕ → List ℕ → List ℕ → Session → List ℕ → List ℕ → List ℕ → List ℕ → List ℕ → Type 0
Reads l s t st W line text r t' st' W' line' text' =
    (rd : Reading) (out : List ℕ) → Follows rd out s t st W line text → Follows (after_bytes rd l) out r t' st' W' line' text'

pub read_none : (l : List ℕ) (s : Session) (t st W line text : List ℕ) → Reads (take 0 l) s t st W line text s t st W line text
unfolding after_bytes
read_none l s t st W line text rd out w = w

pub read_more : (l : List ℕ) (i b : ℕ) {s q r : Session} {t st W line text t₁ st₁ W₁ line₁ text₁ t' st' W' line' text' : List ℕ} → i < length l → b ≡ get_or l i 0
    → Reads (take i l) s t st W line text q t₁ st₁ W₁ line₁ text₁
    → ((rd : Reading) (out : List ℕ) → Follows rd out q t₁ st₁ W₁ line₁ text₁ → Follows (after_byte rd b) out r t' st' W' line' text')
    → Reads (take (i + 1) l) s t st W line text r t' st' W' line' text'
read_more l i b {r = r} {t' = t'} {st' = st'} {W' = W'} {line' = line'} {text' = text'} h e f k rd out w =
    subst (λ (z : Reading). Follows z out r t' st' W' line' text') (ap (after_byte (after_bytes rd (take i l))) e ∙ sym (after_next rd l i h)) (k (after_bytes rd (take i l)) out (f rd out w))

-- where there was room at first, some byte was taken
pub some_taken : (i a b m : ℕ) → (i ≡ 0 → b ≡ a) → m < b + 12338 → a + 12338 ≤ m → 0 < i
some_taken zero a b m h l k = absurd (let e = h refl in omega arith)
some_taken (suc i) a b m h l k = omega arith
