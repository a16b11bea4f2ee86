-- Laws of the verdict: what the three passes of the check together answer, and that no frame of an accepted table has a fault.
use Rattle.std.specs.Prelude.{◌≡◌, List, true, not, eqb, leb, Ok, Err}
use Rattle.std.proofs.Math.Path.{refl, ap}
use Rattle.std.proofs.Common.{◌∙◌, eq-or-lt_of_le, le_of_suc-le-suc, not-suc-le-zero}
use Rattle.std.proofs.Math.Logic.{⊎_elim}
use Prim.Native.Nat.{ℕ, zero, suc, ◌%◌, ◌≤◌, ◌<◌}
use native.Mathlib.Omega.{arith}
use Rattle.std.proofs.Math.ListN.{length}
use borrow.Author.Tests.{leb-true}
use Rattle.rules_walks.proofs.laws.Pick.{both3}
use Rattle.rules_walks.specs.Held.{Held, held_to}
use Rattle.rules_walks.proofs.laws.Held.{held_means}
use Rattle.rules_tables.specs.Frame.{frames_of}
use Rattle.rules_tables.specs.Form.{form_ok}
use Rattle.rules_tables.specs.Reference.{refers_ok}
use Rattle.rules_tables.specs.Network.{rules_ok}
use Rattle.rules_tables.specs.declared.Shape.{Shape}
use Rattle.rules_tables.specs.declared.Refusal.{Refusal}
use Rattle.rules_tables.specs.Judge.{Verdict, accepted, refused, next, fault_at, scan_to, length_ok, judge, answer, judged, shape_of, number, frame, refusal_number, faulty_frame}

next_fault : (q f : ℕ) → (q ≡ 0 → ⊥) → next accepted q f ≡ refused q f
next_fault zero f h = absurd (h refl)
next_fault (suc q) f h = refl

-- an accepted verdict comes of an accepted one and no fault
next_accepted : (v : Verdict) (q f : ℕ) → next v q f ≡ accepted → (v ≡ accepted) × (q ≡ 0)
next_accepted (refused p g) q f e = absurd (let z : ◌≡◌ {A = ℕ} 0 1 = cc in omega arith)
next_accepted accepted zero f e = (refl, refl)
next_accepted accepted (suc q) f e = absurd (let z : ◌≡◌ {A = ℕ} 0 1 = cc in omega arith)

module _ (T : List ℕ) where
  -- a table of a right length has at most 4,096 frames
  pub length_few : length_ok T ≡ true → frames_of T ≤ 4096
  unfolding length_ok
  length_few h =
      let l : length T ≤ 49152 = leb-true _ _ (both3 (not (eqb (length T) 0)) (eqb (length T % 12) 0) (leb (length T) 49152) h).2 in
      omega arith

  -- frames without fault are accepted
  pub scan_clean : (n : ℕ) → ((f : ℕ) → f < n → fault_at T f ≡ 0) → scan_to T n ≡ accepted
  unfolding scan_to
  scan_clean zero h = refl
  scan_clean (suc n) h = rw (scan_clean n (λ f l. h f (omega arith)), h n (omega arith))

  -- the first fault is the verdict
  pub scan_stop : (n f q : ℕ) → f < n → ((i : ℕ) → i < f → fault_at T i ≡ 0) → fault_at T f ≡ q → (q ≡ 0 → ⊥) → scan_to T n ≡ refused q f
  unfolding scan_to
  scan_stop zero f q l h e ne = absurd (not-suc-le-zero l)
  scan_stop (suc n) f q l h e ne =
      ⊎_elim (λ z. rw (← z) (rw (scan_clean f h, e) (next_fault q f ne)))
      (λ lt. rw (scan_stop n f q lt h e ne)) (eq-or-lt_of_le (le_of_suc-le-suc l))

  -- each frame of an accepted table is without fault
  pub scan_at : (n f : ℕ) → f < n → scan_to T n ≡ accepted → fault_at T f ≡ 0
  unfolding scan_to
  scan_at zero f l h = absurd (not-suc-le-zero l)
  scan_at (suc n) f l h =
      let w = next_accepted (scan_to T n) (fault_at T n) n h in
      ⊎_elim (λ z. ap (fault_at T) z ∙ w.1) (λ lt. scan_at n f lt w.0) (eq-or-lt_of_le (le_of_suc-le-suc l))

  -- ---- the three passes: a frames have their form, of these b refer rightly, of these c keep the rules
  module _ (n a b c : ℕ) (ea : a ≡ held_to (form_ok T) n) (eb : b ≡ held_to (refers_ok T) a) (ec : c ≡ held_to (rules_ok T) b) where
    form : Held (form_ok T) n a
    form = held_means (form_ok T) n a ea

    refers : Held (refers_ok T) a b
    refers = held_means (refers_ok T) a b eb

    rules : Held (rules_ok T) b c
    rules = held_means (rules_ok T) b c ec

    clean : (f : ℕ) → f < c → fault_at T f ≡ 0
    unfolding fault_at
    clean f l =
        let p = refers.within in
        let q = rules.within in
        rw (form.before f (omega arith), refers.before f (omega arith), rules.before f l)

    pub passed_rules : c < b → scan_to T n ≡ refused 4 c
    unfolding fault_at
    passed_rules l =
        let p = form.within in
        let q = refers.within in
        scan_stop n c 4 (omega arith) clean
        (rw (form.before c (omega arith), refers.before c (omega arith), rules.stopped l)) (λ e. omega arith)

    pub passed_refers : b ≤ c → b < a → scan_to T n ≡ refused 3 b
    unfolding fault_at
    passed_refers e l =
        let p = form.within in
        scan_stop n b 3 (omega arith) (λ f h. clean f (omega arith))
        (rw (form.before b (omega arith), refers.stopped l)) (λ z. omega arith)

    pub passed_form : b ≤ c → a ≤ b → a < n → scan_to T n ≡ refused 2 a
    unfolding fault_at
    passed_form e g l = scan_stop n a 2 l (λ f h. clean f (omega arith)) (rw (form.stopped l)) (λ z. omega arith)

    pub passed_all : b ≤ c → a ≤ b → n ≤ a → scan_to T n ≡ accepted
    passed_all e g h = scan_clean n (λ f l. clean f (omega arith))

  -- ---- what the answer tells
  pub numbers : (v : Verdict) → (refusal_number (answer v (shape_of T)) ≡ number v) × (faulty_frame (answer v (shape_of T)) ≡ frame v)
  numbers accepted = (refl, refl)
  numbers (refused q f) = (refl, refl)

sound_case : (v : Verdict) (s s' : Shape) → answer v s ≡ Ok s' → (v ≡ accepted) × (s' ≡ s)
sound_case accepted s s' e = (refl, cc)
sound_case (refused q f) s s' e = absurd (let z : ◌≡◌ {A = ℕ} 0 1 = cc in omega arith)

refused_case : (v : Verdict) (s : Shape) (r : Refusal) → answer v s ≡ Err r → v ≡ refused r.number r.frame
refused_case accepted s r e = absurd (let z : ◌≡◌ {A = ℕ} 0 1 = cc in omega arith)
refused_case (refused p g) s r e =
    let q : p ≡ r.number = ap refusal_number e in
    let f : g ≡ r.frame = ap faulty_frame e in
    cc

-- what a caller knows of either answer
pub was_sound : (T : List ℕ) (s : Shape) → judged T ≡ Ok s → (judge T ≡ accepted) × (s ≡ shape_of T)
was_sound T s e = sound_case (judge T) (shape_of T) s e

pub was_refused : (T : List ℕ) (r : Refusal) → judged T ≡ Err r → judge T ≡ refused r.number r.frame
was_refused T r e = refused_case (judge T) (shape_of T) r e
