-- Laws of frames told: one list after another, and the room that is left for the second.
use Rattle.std.specs.Prelude.{ℕ, zero, suc, ◌+◌, ◌*◌, ◌≤◌, ◌<◌, ◌≡◌, refl, List, [], ◌∷◌, ◌++◌, Bool, false, length}
use Rattle.std.proofs.Common.{sym, ap, subst, ◌∙◌, append_assoc, append-nil, arith, length-append, eq-eqb, ne_eqb, ⊎_elim, eq-or-lt_of_le, le_of_suc-le-suc, add-one}
use Rattle.std.proofs.lemmas.List.Edits.{sets}
use Rattle.std.proofs.Math.Seq.{length-sets}
use Rattle.rules_numbers.proofs.laws.Sets.{and_then_lem}
use Rattle.rules_traces.specs.declared.Entry.{Entry}
use Rattle.rules_traces.specs.Entry.{entry, trace_byte, entry_frame, entry_frames}
use Rattle.rules_numbers.specs.Bytes.{half_bytes, word_bytes}
use Rattle.rules_numbers.proofs.laws.Bytes.{length_half, length_word}
use Rattle.rules_walks.proofs.laws.Choose.{choose_true, choose_false}
use Rattle.table_index.specs.Leads.{Leads}
use Rattle.rules_traces.specs.Gather.{gather}
use Rattle.rules_traces.proofs.laws.Gather.{gather_none, gather_next, gather_rest}
use Rattle.rules_traces.specs.Trace.{differing}
use Rattle.moves_tell.specs.Told.{Told, Room}

pub frames_append : (a b : List Entry) → entry_frames (a ++ b) ≡ entry_frames a ++ entry_frames b
unfolding entry_frames
frames_append [] b = refl
frames_append (e ∷ a) b = rw (frames_append a b) (sym (append_assoc (entry_frame e) (entry_frames a) (entry_frames b)))

pub frame_one : (e : Entry) → entry_frames (e ∷ []) ≡ entry_frame e
unfolding entry_frames
frame_one e = append-nil (entry_frame e)

pub frame_length : (e : Entry) → length (entry_frame e) ≡ 12
unfolding entry_frame half_bytes word_bytes
frame_length e = refl

pub frames_length : (es : List Entry) → length (entry_frames es) ≡ 12 * length es
unfolding entry_frames
frames_length [] = refl
frames_length (e ∷ es) = simp (length-append, frame_length) (omega (arith, frames_length es))

-- ---- one list after another
pub frames_both : (a b : List Entry) → length (entry_frames (a ++ b)) ≡ length (entry_frames a) + length (entry_frames b)
frames_both a b = ap length (frames_append a b) ∙ length-append (entry_frames a) (entry_frames b)

module _ (a b : List Entry) (at : ℕ) (tr : List ℕ) where
  pub room_first : Room (a ++ b) at tr → Room a at tr
  room_first w = record { enough = let h = w.enough in let q = frames_both a b in omega arith }

  pub room_rest : {tr' : List ℕ} {p : ℕ} → Room (a ++ b) at tr → Told a at tr tr' p → Room b p tr'
  room_rest w d =
      let l = ap length d.bytes_are ∙ length-sets tr at (entry_frames a) in
      record { enough = let h = w.enough in let q = frames_both a b in let z = d.place_is in omega arith }

  pub told_then : {tr' tr'' : List ℕ} {p r : ℕ} → Told a at tr tr' p → Told b p tr' tr'' r → Told (a ++ b) at tr tr'' r
  told_then d c =
      record {
        bytes_are = and_then_lem tr at _ (entry_frames a) (entry_frames b) d.place_is d.bytes_are c.bytes_are ∙ ap (sets tr at) (sym (frames_append a b));
        place_is = let q = frames_both a b in let y = d.place_is in let z = c.place_is in omega arith;
      }

-- ---- four lists one after another
module _ (a b c d : List Entry) (at : ℕ) (tr : List ℕ) (w : Room (a ++ b ++ c ++ d) at tr) where
  pub room_1 : Room a at tr
  room_1 = room_first a b at tr (room_first (a ++ b) c at tr (room_first (a ++ b ++ c) d at tr w))

  module _ {p : ℕ} {tr₁ : List ℕ} (ta : Told a at tr tr₁ p) where
    pub room_2 : Room b p tr₁
    room_2 = room_rest a b at tr (room_first (a ++ b) c at tr (room_first (a ++ b ++ c) d at tr w)) ta

    module _ {q : ℕ} {tr₂ : List ℕ} (tb : Told b p tr₁ tr₂ q) where
      pub room_3 : Room c q tr₂
      room_3 = room_rest (a ++ b) c at tr (room_first (a ++ b ++ c) d at tr w) (told_then a b at tr ta tb)

      module _ {r : ℕ} {tr₃ : List ℕ} (tc : Told c q tr₂ tr₃ r) where
        pub room_4 : Room d r tr₃
        room_4 = room_rest (a ++ b ++ c) d at tr w (told_then (a ++ b) c at tr (told_then a b at tr ta tb) tc)

        pub told_4 : {z : ℕ} {tr₄ : List ℕ} → Told d r tr₃ tr₄ z → Told (a ++ b ++ c ++ d) at tr tr₄ z
        told_4 td = told_then (a ++ b ++ c) d at tr (told_then (a ++ b) c at tr (told_then a b at tr ta tb) tc) td

-- the trace keeps its length
pub told_length : {es : List Entry} {at r : ℕ} {tr tr' : List ℕ} → Told es at tr tr' r → length tr' ≡ length tr
told_length {es} {at} {r} {tr} d = ap length d.bytes_are ∙ length-sets tr at (entry_frames es)

-- nothing told
pub told_none : (at : ℕ) (tr : List ℕ) → Told [] at tr tr at
unfolding entry_frames
told_none at tr = record { bytes_are = refl; place_is = omega arith }

-- lists that are equal
pub told_same : {a b : List Entry} {at r : ℕ} {tr tr' : List ℕ} → a ≡ b → Told a at tr tr' r → Told b at tr tr' r
told_same {a} {b} {at} {r} {tr} {tr'} e d = subst (λ (es : List Entry). Told es at tr tr' r) e d

pub room_same : {a b : List Entry} {at : ℕ} {tr : List ℕ} → a ≡ b → Room a at tr → Room b at tr
room_same {a} {b} {at} {tr} e w = subst (λ (es : List Entry). Room es at tr) e w

-- ---- a value that differs, or not
pub differing_same : {b : ℕ} (e : Entry) → b ≡ e.value → differing b e ≡ []
unfolding differing
differing_same {b} e h = choose_true _ [] (e ∷ []) (eq-eqb b e.value h)

pub differing_other : {b : ℕ} (e : Entry) → (b ≡ e.value → ⊥) → differing b e ≡ e ∷ []
unfolding differing
differing_other {b} e h = choose_false _ [] (e ∷ []) (ne_eqb b e.value h)

-- ---- one frame
pub one_length : (e : Entry) → length (entry_frames (e ∷ [])) ≡ 12
one_length e = ap length (frame_one e) ∙ frame_length e

module _ (e : Entry) (at : ℕ) (tr : List ℕ) where
  pub room_one : Room (e ∷ []) at tr → at + 12 ≤ length tr
  room_one w = let h = w.enough in let q = one_length e in omega arith

  pub told_one : {tr' : List ℕ} {r : ℕ} → tr' ≡ sets tr at (entry_frame e) → r ≡ at + 12 → Told (e ∷ []) at tr tr' r
  told_one h z = record { bytes_are = h ∙ ap (sets tr at) (sym (frame_one e)); place_is = let q = one_length e in omega arith }

-- its bytes, as they are written one after another
pub frame_written : (l l₁ l₂ l₃ l₄ l₅ : List ℕ) (at kind el id x : ℕ) → l₁ ≡ sets l at (trace_byte ∷ kind ∷ []) → l₂ ≡ sets l₁ (at + 2) (half_bytes el)
    → l₃ ≡ sets l₂ (at + 4) (half_bytes id) → l₄ ≡ sets l₃ (at + 6) (word_bytes x) → l₅ ≡ sets l₄ (at + 10) (half_bytes 0) → l₅ ≡ sets l at (entry_frame (entry kind el id x))
unfolding entry_frame
frame_written l l₁ l₂ l₃ l₄ l₅ at kind el id x p₁ p₂ p₃ p₄ p₅ =
    let h = trace_byte ∷ kind ∷ [] in
    let a = and_then_lem l at (at + 2) h (half_bytes el) refl p₁ p₂ in
    let b = and_then_lem l at (at + 4) (h ++ half_bytes el) (half_bytes id) (simp length_half) a p₃ in
    let c = and_then_lem l at (at + 6) ((h ++ half_bytes el) ++ half_bytes id) (word_bytes x) (simp (length-append, length_half)) b p₄ in
    let d = and_then_lem l at (at + 10) (((h ++ half_bytes el) ++ half_bytes id) ++ word_bytes x) (half_bytes 0) (simp (length-append, length_half, length_word)) c p₅ in
    let e : (((h ++ half_bytes el) ++ half_bytes id) ++ word_bytes x) ++ half_bytes 0 ≡ h ++ half_bytes el ++ half_bytes id ++ word_bytes x ++ half_bytes 0 = simp append_assoc in
    d ∙ ap (sets l at) e

-- ---- lists put together, one after another
module _ (f : ℕ → List Entry) where
  gather_grows : (m n : ℕ) → m ≤ n → length (gather f m) ≤ length (gather f n)
  gather_grows m zero l = let e : m ≡ 0 = omega arith in rw e (omega arith)
  gather_grows m (suc n) l =
      ⊎_elim (λ e. rw e (omega arith))
      (λ lt. let h = gather_grows m n (le_of_suc-le-suc lt) in rw (← add-one n, gather_next f n, length-append) (omega arith))
      (eq-or-lt_of_le l)

  told_start : (at : ℕ) (tr : List ℕ) → Told (gather f 0) at tr tr at
  told_start at tr = told_same (sym (gather_none f)) (told_none at tr)

  module _ (v at : ℕ) (tr : List ℕ) {tr' : List ℕ} {p : ℕ} (so_far : Told (gather f v) at tr tr' p) where
    told_more : {tr'' : List ℕ} {r : ℕ} → Told (f v) p tr' tr'' r → Told (gather f (v + 1)) at tr tr'' r
    told_more d = told_same (sym (gather_next f v)) (told_then (gather f v) (f v) at tr so_far d)

    pub room_more : (n : ℕ) → v < n → Room (gather f n) at tr → Room (f v) p tr'
    room_more n l w =
        let h = gather_grows (v + 1) n (omega arith) in
        let a = frames_length (gather f (v + 1)) in
        let b = frames_length (gather f n) in
        let e = w.enough in
        room_rest (gather f v) (f v) at tr (room_same (gather_next f v) (record { enough = omega arith })) so_far

  -- a loop that goes where it is led, past numbers that tell nothing: at its beginning, and over a turn
  module _ {p : ℕ → Bool} (silent : (j : ℕ) → p j ≡ false → f j ≡ []) {b n : ℕ} where
    pub gather_led : {a : ℕ} → Leads p a b n → gather f b ≡ gather f a
    gather_led {a} l = gather_rest f a b l.from (λ j u v. silent j (l.skipped j u v))

    pub told_first : Leads p 0 b n → (at : ℕ) (tr : List ℕ) → Told (gather f b) at tr tr at
    told_first l at tr = told_same (sym (gather_led l)) (told_start at tr)

    pub told_next : (v at : ℕ) (tr : List ℕ) {tr' tr'' : List ℕ} {q r : ℕ} → Leads p (v + 1) b n → Told (gather f v) at tr tr' q → Told (f v) q tr' tr'' r
        → Told (gather f b) at tr tr'' r
    told_next v at tr l so_far d = told_same (sym (gather_led l)) (told_more v at tr so_far d)
