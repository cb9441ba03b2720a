-- THEOREM: what is read as a formula of an `08` stands there as it is spelled, and what is spelled is read.
-- One induction over the reader, for any property of a place, a formula and its end.
use Prim.Native.Nat.{ℕ, zero, suc, ◌+◌, ◌≤◌, ◌<◌}
use Rattle.std.proofs.Common.{arith, sym, ◌∙◌, length-append, eqb-true, ltb-true, ltb-false}
use Rattle.std.specs.Prelude.{◌≡◌, Bool, List, [], ◌∷◌, ◌++◌, eqb, ltb, length, get_or}
use Rattle.std.proofs.Math.Path.{refl}
use Rattle.std.proofs.Math.Bool.{true, false}
use Rattle.std.proofs.Math.ListN.{get_or-eq_default}
use Rattle.meaning.specs.Logic.{cases}
use Rattle.formulas.specs.Decode.{Parsed, none, some, then}
use Rattle.formulas.proofs.Decoded.{Every, unread, each, every_then, every_last}
use Rattle.spelling.specs.Spelled.{either_code}
use Rattle.spelling.specs.Stands.{Stands, first, after_one, left_part, right_part}
use Rattle.spelling.specs.SpelledThere.{There}
use Rattle.spelling.proofs.SpelledThere.{there_nothing, there_byte, there_both, read_there}
use Rattle.translation.specs.Modal.{Actions, any_action, only, other_than}
use Rattle.translation.specs.Modal.{Modal, truth, combined, after, fixed_point, of_fixed_point}
use Rattle.inputs.specs.Modals.{actions_at, modal_of_code, modal_at}
use Rattle.inputs.specs.InputFrames.{spelled_actions, spelled_modal}

-- ---- what is read, by the code
module _ (s : List ℕ) (at : ℕ) where
  pub shape_any : get_or s at 0 ≡ 0x11 → actions_at s at ≡ some any_action (at + 1)
  unfolding actions_at
  shape_any h = rw h refl

  pub shape_only : get_or s at 0 ≡ 0x36 → actions_at s at ≡ some (only (get_or s (at + 1) 0)) (at + 2)
  unfolding actions_at
  shape_only h = rw h refl

  pub shape_other : get_or s at 0 ≡ 0x35 → actions_at s at ≡ some (other_than (get_or s (at + 1) 0)) (at + 2)
  unfolding actions_at
  shape_other h = rw h refl

module _ (n : ℕ) (s : List ℕ) (at : ℕ) where
  pub shape_truth : (b : Bool) → get_or s at 0 ≡ either_code b 0x11 0x10 →
      modal_at (suc n) s at ≡ some (truth b) (at + 1)
  unfolding modal_at modal_of_code either_code
  shape_truth true h = rw h refl
  shape_truth false h = rw h refl

  pub shape_combined : (all : Bool) → get_or s at 0 ≡ either_code all 0x12 0x13 → modal_at (suc n) s at ≡
      then (modal_at n s (at + 1)) (λ f m. then (modal_at n s m) (λ g e. some (combined all f g) e))
  unfolding modal_at modal_of_code either_code
  shape_combined true h = rw h refl
  shape_combined false h = rw h refl

  pub shape_after : (all : Bool) → get_or s at 0 ≡ either_code all 0x30 0x31 → modal_at (suc n) s at ≡
      then (actions_at s (at + 1)) (λ A m. then (modal_at n s m) (λ f e. some (after all A f) e))
  unfolding modal_at modal_of_code either_code
  shape_after true h = rw h refl
  shape_after false h = rw h refl

  pub shape_fixed_point : (greatest : Bool) → get_or s at 0 ≡ either_code greatest 0x33 0x32 →
      modal_at (suc n) s at ≡ then (modal_at n s (at + 1)) (λ f e. some (fixed_point greatest f) e)
  unfolding modal_at modal_of_code either_code
  shape_fixed_point true h = rw h refl
  shape_fixed_point false h = rw h refl

  pub shape_of_fixed_point : get_or s at 0 ≡ 0x34 →
      modal_at (suc n) s at ≡ some (of_fixed_point (get_or s (at + 1) 0)) (at + 2)
  unfolding modal_at modal_of_code
  shape_of_fixed_point h = rw h refl

-- ---- what is spelled is read
pub actions_read : (A : Actions) (s : List ℕ) (at : ℕ) → Stands s at (spelled_actions A) →
    actions_at s at ≡ some A (at + length (spelled_actions A))
unfolding spelled_actions
actions_read any_action s at h = shape_any s at (first s at 0x11 [] h)
actions_read (only a) s at h =
    let operand = first s (at + 1) a [] (after_one s at 0x36 (a ∷ []) h) in
    rw (shape_only s at (first s at 0x36 (a ∷ []) h), operand) refl
actions_read (other_than a) s at h =
    let operand = first s (at + 1) a [] (after_one s at 0x35 (a ∷ []) h) in
    rw (shape_other s at (first s at 0x35 (a ∷ []) h), operand) refl

-- ends at e
modal_read_to : (f : Modal) (n : ℕ) (s : List ℕ) (at e : ℕ) → Stands s at (spelled_modal f) →
    length (spelled_modal f) ≤ n → at + length (spelled_modal f) ≡ e → modal_at n s at ≡ some f e
unfolding spelled_modal
modal_read_to (truth b) zero s at e h l o = absurd (omega arith)
modal_read_to (truth b) (suc n) s at e h l o =
    rw (shape_truth n s at b (first s at (either_code b 0x11 0x10) [] h), o) refl
modal_read_to (combined all f g) zero s at e h l o = absurd (omega arith)
modal_read_to (combined all f g) (suc n) s at e h l o =
    let both = spelled_modal f ++ spelled_modal g in
    let count = length-append (spelled_modal f) (spelled_modal g) in
    let m = at + 1 + length (spelled_modal f) in
    let code = first s at (either_code all 0x12 0x13) both h in
    let one = after_one s at (either_code all 0x12 0x13) both h in
    let f_there = left_part s (at + 1) (spelled_modal f) (spelled_modal g) one in
    let g_there = right_part s (at + 1) (spelled_modal f) (spelled_modal g) one in
    let in_f = modal_read_to f n s (at + 1) m f_there (omega arith) refl in
    let in_g = modal_read_to g n s m e g_there (omega arith) (omega arith) in
    rw (shape_combined n s at all code, in_f, in_g) refl
modal_read_to (after all A f) zero s at e h l o = absurd (omega arith)
modal_read_to (after all A f) (suc n) s at e h l o =
    let both = spelled_actions A ++ spelled_modal f in
    let count = length-append (spelled_actions A) (spelled_modal f) in
    let m = at + 1 + length (spelled_actions A) in
    let code = first s at (either_code all 0x30 0x31) both h in
    let one = after_one s at (either_code all 0x30 0x31) both h in
    let A_there = left_part s (at + 1) (spelled_actions A) (spelled_modal f) one in
    let f_there = right_part s (at + 1) (spelled_actions A) (spelled_modal f) one in
    let in_f = modal_read_to f n s m e f_there (omega arith) (omega arith) in
    rw (shape_after n s at all code, actions_read A s (at + 1) A_there, in_f) refl
modal_read_to (fixed_point greatest f) zero s at e h l o = absurd (omega arith)
modal_read_to (fixed_point greatest f) (suc n) s at e h l o =
    let code = first s at (either_code greatest 0x33 0x32) (spelled_modal f) h in
    let one = after_one s at (either_code greatest 0x33 0x32) (spelled_modal f) h in
    let in_f = modal_read_to f n s (at + 1) e one (omega arith) (omega arith) in
    rw (shape_fixed_point n s at greatest code, in_f) refl
modal_read_to (of_fixed_point x) zero s at e h l o = absurd (omega arith)
modal_read_to (of_fixed_point x) (suc n) s at e h l o =
    let operand = first s (at + 1) x [] (after_one s at 0x34 (x ∷ []) h) in
    rw (shape_of_fixed_point n s at (first s at 0x34 (x ∷ []) h), operand, o) refl

pub modal_read : (f : Modal) (n : ℕ) (s : List ℕ) (at : ℕ) → Stands s at (spelled_modal f) →
    length (spelled_modal f) ≤ n → modal_at n s at ≡ some f (at + length (spelled_modal f))
modal_read f n s at h l = modal_read_to f n s at (at + length (spelled_modal f)) h l refl

-- ---- the codes, told apart
pub data ActionsCode (s : List ℕ) (at : ℕ) : Type 0 where
  is_any : get_or s at 0 ≡ 0x11 → ActionsCode s at
  is_only : get_or s at 0 ≡ 0x36 → ActionsCode s at
  is_other : get_or s at 0 ≡ 0x35 → ActionsCode s at
  no_actions : actions_at s at ≡ none → ActionsCode s at

pub actions_code : (s : List ℕ) (at : ℕ) → ActionsCode s at
unfolding actions_at
actions_code s at =
    let c = get_or s at 0 in
    cases (eqb c 0x11) (λ h. is_any (eqb-true c 0x11 h)) (λ a.
    cases (eqb c 0x36) (λ h. is_only (eqb-true c 0x36 h)) (λ b.
    cases (eqb c 0x35) (λ h. is_other (eqb-true c 0x35 h)) (λ d.
    no_actions (rw (a, b, d) refl))))

pub data ModalCode (s : List ℕ) (at : ℕ) : Type 0 where
  is_truth : (b : Bool) → get_or s at 0 ≡ either_code b 0x11 0x10 → ModalCode s at
  is_combined : (all : Bool) → get_or s at 0 ≡ either_code all 0x12 0x13 → ModalCode s at
  is_after : (all : Bool) → get_or s at 0 ≡ either_code all 0x30 0x31 → ModalCode s at
  is_fixed_point : (greatest : Bool) → get_or s at 0 ≡ either_code greatest 0x33 0x32 → ModalCode s at
  is_of_fixed_point : get_or s at 0 ≡ 0x34 → ModalCode s at
  no_modal : ((n : ℕ) → modal_at n s at ≡ none) → ModalCode s at

pub modal_code : (s : List ℕ) (at : ℕ) → ModalCode s at
unfolding modal_at modal_of_code either_code
modal_code s at =
    let c = get_or s at 0 in
    cases (eqb c 0x10) (λ h. is_truth false (eqb-true c 0x10 h)) (λ h0.
    cases (eqb c 0x11) (λ h. is_truth true (eqb-true c 0x11 h)) (λ h1.
    cases (eqb c 0x12) (λ h. is_combined true (eqb-true c 0x12 h)) (λ h2.
    cases (eqb c 0x13) (λ h. is_combined false (eqb-true c 0x13 h)) (λ h3.
    cases (eqb c 0x30) (λ h. is_after true (eqb-true c 0x30 h)) (λ h4.
    cases (eqb c 0x31) (λ h. is_after false (eqb-true c 0x31 h)) (λ h5.
    cases (eqb c 0x32) (λ h. is_fixed_point false (eqb-true c 0x32 h)) (λ h6.
    cases (eqb c 0x33) (λ h. is_fixed_point true (eqb-true c 0x33 h)) (λ h7.
    cases (eqb c 0x34) (λ h. is_of_fixed_point (eqb-true c 0x34 h)) (λ h8.
    no_modal (λ n. elim n as (λ k. modal_at k s at ≡ none) [
      | zero ↦ refl
      | suc m ↦ rw (
        h0,
        h1,
        h2,
        h3,
        h4,
        h5,
        h6,
        h7,
        h8,
      ) refl
    ]))))))))))

-- ---- what was read, known to be that
pub read_as : {A : Type 0} (p : Parsed A) → Every (λ a e. p ≡ some a e) p
read_as none = unread
read_as (some a e) = each refl

pub every_actions : (s : List ℕ) (at : ℕ) → Every (λ A m. There s at (spelled_actions A) m) (actions_at s at)
unfolding spelled_actions
every_actions s at = by_code (actions_code s at)
  where
    two_bytes : {b : ℕ} → get_or s at 0 ≡ b → There s at (b ∷ get_or s (at + 1) 0 ∷ []) (at + 2)
    two_bytes h = there_byte h refl (there_byte refl (omega arith) (there_nothing (at + 2)))

    by_code : ActionsCode s at → Every (λ A m. There s at (spelled_actions A) m) (actions_at s at)
    by_code (is_any h) = rw (shape_any s at h) (each (there_byte h refl (there_nothing (at + 1))))
    by_code (is_only h) = rw (shape_only s at h) (each (two_bytes h))
    by_code (is_other h) = rw (shape_other s at h) (each (two_bytes h))
    by_code (no_actions h) = rw h unread

-- ---- a property P of a place, a formula and its end that each kind of formula keeps
pub record Kept (s : List ℕ) (P : ℕ → Modal → ℕ → Type 0) : Type 0 where
  pub of_truth : (at : ℕ) (b : Bool) → get_or s at 0 ≡ either_code b 0x11 0x10 → P at (truth b) (at + 1)
  pub of_combined : (at m e : ℕ) (all : Bool) (f g : Modal) → get_or s at 0 ≡ either_code all 0x12 0x13 →
      P (at + 1) f m → P m g e → P at (combined all f g) e
  pub of_after : (at m e : ℕ) (all : Bool) (A : Actions) (f : Modal) →
      get_or s at 0 ≡ either_code all 0x30 0x31 → actions_at s (at + 1) ≡ some A m → P m f e →
      P at (after all A f) e
  pub of_fixed : (at e : ℕ) (greatest : Bool) (f : Modal) → get_or s at 0 ≡ either_code greatest 0x33 0x32 →
      P (at + 1) f e → P at (fixed_point greatest f) e
  pub of_variable : (at : ℕ) → get_or s at 0 ≡ 0x34 → P at (of_fixed_point (get_or s (at + 1) 0)) (at + 2)

module _ {s : List ℕ} {P : ℕ → Modal → ℕ → Type 0} (kept : Kept s P) where
  by_code : (n : ℕ) → ((at : ℕ) → Every (P at) (modal_at n s at)) → (at : ℕ) → ModalCode s at →
      Every (P at) (modal_at (suc n) s at)
  by_code n sub at (is_truth b h) = rw (shape_truth n s at b h) (each (kept.of_truth at b h))
  by_code n sub at (is_combined all h) =
      rw (shape_combined n s at all h) (every_then _ (sub (at + 1)) (λ f m x.
      every_last _ (sub m) (λ g e y. kept.of_combined at m e all f g h x y)))
  by_code n sub at (is_after all h) =
      rw (shape_after n s at all h) (every_then _ (read_as (actions_at s (at + 1))) (λ A m x.
      every_last _ (sub m) (λ f e y. kept.of_after at m e all A f h x y)))
  by_code n sub at (is_fixed_point greatest h) =
      rw (shape_fixed_point n s at greatest h)
      (every_last _ (sub (at + 1)) (λ f e x. kept.of_fixed at e greatest f h x))
  by_code n sub at (is_of_fixed_point h) = rw (shape_of_fixed_point n s at h) (each (kept.of_variable at h))
  by_code n sub at (no_modal h) = rw (h (suc n)) unread

  pub every_modal : (n at : ℕ) → Every (P at) (modal_at n s at)
  unfolding modal_at
  every_modal zero at = unread
  every_modal (suc n) at = by_code n (every_modal n) at (modal_code s at)

  pub modal_has : (n at : ℕ) (f : Modal) (e : ℕ) → modal_at n s at ≡ some f e → P at f e
  modal_has n at f e h = read_there (every_modal n at) h

-- ---- what was read stands there as it is spelled
modal_there : (s : List ℕ) → Kept s (λ at f e. There s at (spelled_modal f) e)
unfolding spelled_modal
modal_there s = record {
  of_truth = λ at b h. there_byte h refl (there_nothing (at + 1));
  of_combined = λ at m e all f g h x y. there_byte h refl (there_both x y);
  of_after = λ at m e all A f h a x.
      there_byte h refl (there_both (read_there (every_actions s (at + 1)) a) x);
  of_fixed = λ at e greatest f h x. there_byte h refl x;
  of_variable = λ at h. there_byte h refl (there_byte refl (omega arith) (there_nothing (at + 2)));
}

some_byte : (f : Modal) → 1 ≤ length (spelled_modal f)
unfolding spelled_modal
some_byte (truth b) = omega arith
some_byte (combined all f g) = omega arith
some_byte (after all A f) = omega arith
some_byte (fixed_point greatest f) = omega arith
some_byte (of_fixed_point n) = omega arith

module _ (n : ℕ) (s : List ℕ) (at : ℕ) (f : Modal) (e : ℕ) (h : modal_at n s at ≡ some f e) where
  pub modal_end : e ≡ at + length (spelled_modal f)
  modal_end = (modal_has (modal_there s) n at f e h).end

  pub modal_spelled : e ≤ length s → Stands s at (spelled_modal f) × (e ≡ at + length (spelled_modal f))
  modal_spelled l = ((modal_has (modal_there s) n at f e h).stands l, modal_end)

  pub modal_on : at < e
  modal_on = omega (arith, modal_end, some_byte f)

-- ---- how deep the reader may go does not matter, where it is as many as the bytes that are left
pub record Deep (s : List ℕ) (at : ℕ) (f : Modal) (e : ℕ) : Type 0 where
  pub on : at < e
  pub read : (n : ℕ) → length s ≤ n + at → modal_at n s at ≡ some f e

-- a code that is not 0 stands inside
code_inside : (s : List ℕ) (at c : ℕ) → get_or s at 0 ≡ suc c → at < length s
code_inside s at c h = cases (ltb at (length s)) (λ b. ltb-true at (length s) b) (λ b.
    absurd (omega (arith, h, get_or-eq_default s 0 (ltb-false at (length s) b))))

module _ (s : List ℕ) (at c : ℕ) (f : Modal) (e : ℕ) (code : get_or s at 0 ≡ suc c) where
  deeper : ((n : ℕ) → length s ≤ n + (at + 1) → modal_at (suc n) s at ≡ some f e) →
      (n : ℕ) → length s ≤ n + at → modal_at n s at ≡ some f e
  deeper k zero l = absurd (omega (arith, code_inside s at c code))
  deeper k (suc n) l = k n (omega arith)

either_suc : (b : Bool) (t f : ℕ) → either_code b (suc t) (suc f) ≡ suc (either_code b t f)
unfolding either_code
either_suc true t f = refl
either_suc false t f = refl

actions_on : (s : List ℕ) (at : ℕ) (A : Actions) (m : ℕ) → actions_at s at ≡ some A m → at < m
unfolding spelled_actions
actions_on s at A m h = on A (read_there (every_actions s at) h)
  where
    on : (A : Actions) → There s at (spelled_actions A) m → at < m
    on any_action x = omega (arith, x.end)
    on (only a) x = omega (arith, x.end)
    on (other_than a) x = omega (arith, x.end)

modal_deep : (s : List ℕ) → Kept s (Deep s)
modal_deep s = record {
  of_truth = λ at b h. record {
    on = omega arith;
    read = deeper s at _ _ _ (h ∙ either_suc b 0x10 0x0f) (λ n l. shape_truth n s at b h);
  };
  of_combined = λ at m e all f g h x y. record {
    on = omega (arith, x.on, y.on);
    read = deeper s at _ _ _ (h ∙ either_suc all 0x11 0x12) (λ n l.
        rw (shape_combined n s at all h, x.read n l, y.read n (omega (arith, x.on))) refl);
  };
  of_after = λ at m e all A f h a y. record {
    on = omega (arith, actions_on s (at + 1) A m a, y.on);
    read = deeper s at _ _ _ (h ∙ either_suc all 0x2f 0x30) (λ n l.
        rw (shape_after n s at all h, a, y.read n (omega (arith, actions_on s (at + 1) A m a))) refl);
  };
  of_fixed = λ at e greatest f h x. record {
    on = omega (arith, x.on);
    read = deeper s at _ _ _ (h ∙ either_suc greatest 0x32 0x31) (λ n l.
        rw (shape_fixed_point n s at greatest h, x.read n l) refl);
  };
  of_variable = λ at h. record {
    on = omega arith;
    read = deeper s at 0x33 _ _ h (λ n l. shape_of_fixed_point n s at h);
  };
}

module _ (n m : ℕ) (s : List ℕ) (at : ℕ) where
  pub modal_deeper : (f : Modal) (e : ℕ) → modal_at n s at ≡ some f e → length s ≤ m + at →
      modal_at m s at ≡ some f e
  modal_deeper f e h l = (modal_has (modal_deep s) n at f e h).read m l

pub modal_bound : (n m : ℕ) (s : List ℕ) (at : ℕ) → length s ≤ n + at → length s ≤ m + at →
    modal_at n s at ≡ modal_at m s at
modal_bound n m s at k l = by_result (modal_at n s at) (modal_at m s at) refl refl
  where
    by_result : (p q : Parsed Modal) → modal_at n s at ≡ p → modal_at m s at ≡ q →
        modal_at n s at ≡ modal_at m s at
    by_result none none g h = g ∙ sym h
    by_result (some f e) q g h = g ∙ sym (modal_deeper n m s at f e g l)
    by_result none (some f e) g h = modal_deeper m n s at f e h k ∙ sym h
