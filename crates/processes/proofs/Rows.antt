-- Where formulas in a row end, found one code after the other.
-- `Head` is what a code begins: how many bytes it takes, and how many formulas come after them.
use Prim.Native.Nat.{ℕ, zero, suc, ◌+◌, ◌-◌, ◌≤◌, ◌<◌}
use native.Mathlib.Omega.{arith}
use mathlib.Core.Path.{◌≡◌, refl, sym, ap, ◌∙◌}
use mathlib.Core.Bool.{Bool, true, false}
use mathlib.Core.List.{List}
use lib.Dec.{eqb, ltb}
use lib.ListN.{length, get_or, get_or-eq_default}
use borrow.Author.Tests.{eqb-true, ltb-true, ltb-false}
use Rattle.std.specs.Prelude.{Option, None, Some, unwrap_or}
use Rattle.std.proofs.lemmas.Option.{none-some}
use Rattle.meaning.specs.Logic.{cases}
use Rattle.formulas.specs.Decode.{Parsed, none, some, then}
use Rattle.spelling.specs.Spelled.{either_code}
use Rattle.translation.specs.Modal.{Actions, any_action, only, other_than}
use Rattle.translation.specs.Modal.{Modal, truth, combined, after, fixed_point, of_fixed_point}
use Rattle.inputs.specs.Modals.{actions_at, modal_of_code, modal_at}
use Rattle.inputs.specs.ModalRead.{shape_any, shape_only, shape_other, shape_truth, shape_combined, shape_after}
use Rattle.inputs.specs.ModalRead.{shape_fixed_point, shape_of_fixed_point, modal_bound}
use Rattle.processes.specs.Ends.{ModalEnds, end_of}
use Rattle.scans.specs.Formulas.{parts_of, after_width, code_width}

-- ---- what a byte begins as actions; the code before them is counted with their width
pub data ActionsHead (s : List ℕ) (at : ℕ) : Type 0 where
  some_actions : (A : Actions) (w : ℕ) → w ≤ 2 → after_width (get_or s at 0) ≡ Some (suc w) → actions_at s at ≡ some A (at + w)
      → ActionsHead s at
  no_actions : after_width (get_or s at 0) ≡ None → actions_at s at ≡ none → ActionsHead s at

pub actions_head : (s : List ℕ) (at : ℕ) → ActionsHead s at
unfolding actions_at after_width
actions_head s at =
    let c = get_or s at 0 in
    cases (eqb c 0x11) (λ h. let e = eqb-true c 0x11 h in
    some_actions any_action 1 (omega arith) (rw e refl) (shape_any s at e)) (λ x.
    cases (eqb c 0x36) (λ h. let e = eqb-true c 0x36 h in
    some_actions (only (get_or s (at + 1) 0)) 2 (omega arith) (rw e refl) (shape_only s at e)) (λ y.
    cases (eqb c 0x35) (λ h. let e = eqb-true c 0x35 h in
    some_actions (other_than (get_or s (at + 1) 0)) 2 (omega arith) (rw e refl) (shape_other s at e)) (λ z.
    no_actions (rw (x, y, z) refl) (rw (x, y, z) refl))))

-- ---- what a code begins
pub data Head (s : List ℕ) (at : ℕ) : Type 0 where
  none_inside : (f : Modal) (w : ℕ) → w ≤ 2 → code_width (get_or s at 0) (get_or s (at + 1) 0) ≡ Some (suc w)
      → parts_of (get_or s at 0) ≡ 0 → ((n : ℕ) → modal_at (suc n) s at ≡ some f (at + suc w)) → Head s at
  one_inside : (g : Modal → Modal) (w : ℕ) → w ≤ 2 → code_width (get_or s at 0) (get_or s (at + 1) 0) ≡ Some (suc w)
      → parts_of (get_or s at 0) ≡ 1
      → ((n : ℕ) → modal_at (suc n) s at ≡ then (modal_at n s (at + suc w)) (λ f e. some (g f) e)) → Head s at
  two_inside : (g : Modal → Modal → Modal) → code_width (get_or s at 0) (get_or s (at + 1) 0) ≡ Some 1
      → parts_of (get_or s at 0) ≡ 2
      → ((n : ℕ) → modal_at (suc n) s at
      ≡ then (modal_at n s (at + 1)) (λ f m. then (modal_at n s m) (λ h e. some (g f h) e))) → Head s at
  no_head : code_width (get_or s at 0) (get_or s (at + 1) 0) ≡ None → ((n : ℕ) → modal_at n s at ≡ none) → Head s at

module _ (s : List ℕ) (at : ℕ) where
  after_head : (all : Bool) → get_or s at 0 ≡ either_code all 0x30 0x31
      → code_width (get_or s at 0) (get_or s (at + 1) 0) ≡ after_width (get_or s (at + 1) 0) → parts_of (get_or s at 0) ≡ 1
      → ActionsHead s (at + 1) → Head s at
  unfolding modal_at
  after_head all h e i (some_actions A w l x y) =
      let next : at + 1 + w ≡ at + suc w = omega arith in
      one_inside (after all A) w l (e ∙ x) i (λ n. rw (shape_after n s at all h, y, next) refl)
  after_head all h e i (no_actions x y) =
      no_head (e
      ∙ x) (λ n. elim n as (λ k. modal_at k s at ≡ none) [ zero ↦ refl | suc m ↦ rw (shape_after m s at all h, y) refl ])

  pub head : Head s at
  unfolding modal_at modal_of_code code_width parts_of either_code
  head =
      let c = get_or s at 0 in
      cases (eqb c 0x10) (λ h. let e = eqb-true c 0x10 h in
      none_inside (truth false) 0 (omega arith) (rw e refl) (rw e refl) (λ n. shape_truth n s at false e)) (λ h0.
      cases (eqb c 0x11) (λ h. let e = eqb-true c 0x11 h in
      none_inside (truth true) 0 (omega arith) (rw e refl) (rw e refl) (λ n. shape_truth n s at true e)) (λ h1.
      cases (eqb c 0x12) (λ h. let e = eqb-true c 0x12 h in
      two_inside (combined true) (rw e refl) (rw e refl) (λ n. shape_combined n s at true e)) (λ h2.
      cases (eqb c 0x13) (λ h. let e = eqb-true c 0x13 h in
      two_inside (combined false) (rw e refl) (rw e refl) (λ n. shape_combined n s at false e)) (λ h3.
      cases (eqb c 0x30) (λ h. let e = eqb-true c 0x30 h in
      after_head true e (rw e refl) (rw e refl) (actions_head s (at + 1))) (λ h4.
      cases (eqb c 0x31) (λ h. let e = eqb-true c 0x31 h in
      after_head false e (rw e refl) (rw e refl) (actions_head s (at + 1))) (λ h5.
      cases (eqb c 0x32) (λ h. let e = eqb-true c 0x32 h in
      one_inside (fixed_point false) 0 (omega arith) (rw e refl) (rw e refl) (λ n. shape_fixed_point n s at false e)) (λ h6.
      cases (eqb c 0x33) (λ h. let e = eqb-true c 0x33 h in
      one_inside (fixed_point true) 0 (omega arith) (rw e refl) (rw e refl) (λ n. shape_fixed_point n s at true e)) (λ h7.
      cases (eqb c 0x34) (λ h. let e = eqb-true c 0x34 h in
      none_inside (of_fixed_point (get_or s (at + 1) 0)) 1 (omega arith) (rw e refl) (rw e refl)
      (λ n. shape_of_fixed_point n s at e)) (λ h8.
      no_head (rw (h0, h1, h2, h3, h4, h5, h6, h7, h8) refl)
      (λ n. elim n as (λ k. modal_at k s at ≡ none) [
        | zero ↦ refl
        | suc m ↦ rw (
          h0,
          h1,
          h2,
          h3,
          h4,
          h5,
          h6,
          h7,
          h8,
        ) refl
      ]))))))))))

  abbrev here : Option ℕ
  here = code_width (get_or s at 0) (get_or s (at + 1) 0)

  -- 0 where no code stands
  abbrev pub width : ℕ
  width = unwrap_or here 0

  abbrev bytes : Option ℕ → ℕ
  bytes w = unwrap_or w 0

  pub no_code : None ≡ here → width ≡ 0
  no_code q = ap bytes (sym q)

  pub wide : {w : ℕ} → Some w ≡ here → w ≡ width
  wide q = ap bytes q

  pub coded : {w : ℕ} → Some w ≡ here → width ≡ 0 → ⊥
  coded {w} q z = elim head [
    | none_inside f v l e i r ↦ omega (arith, ap bytes e, z)
    | one_inside g v l e i r ↦ omega (arith, ap bytes e, z)
    | two_inside g e i r ↦ omega (arith, ap bytes e, z)
    | no_head e r ↦ none-some w (sym (q ∙ e))
  ]

  pub width_most : width ≤ 3
  width_most = elim head [
    | none_inside f w l e i r ↦ omega (arith, ap bytes e)
    | one_inside g w l e i r ↦ omega (arith, ap bytes e)
    | two_inside g e i r ↦ omega (arith, ap bytes e)
    | no_head e r ↦ omega (arith, ap bytes e)
  ]

  pub inside_most : (width ≡ 0 → ⊥) → parts_of (get_or s at 0) ≤ 1 + width
  inside_most x = elim head [
    | none_inside f w l e i r ↦ omega (arith, i)
    | one_inside g w l e i r ↦ omega (arith, i)
    | two_inside g e i r ↦ omega (arith, i, ap bytes e)
    | no_head e r ↦ absurd (x (ap bytes e))
  ]

  -- a byte past the end is no code
  pub width_inside : (width ≡ 0 → ⊥) → at < length s
  unfolding code_width
  width_inside x = cases (ltb at (length s)) (λ b. ltb-true at (length s) b) (λ b.
      absurd (x (rw (get_or-eq_default s 0 {n = at} (ltb-false at (length s) b)) refl)))

-- ---- the end of a row of formulas, each read by `sub`; none where one of them is none
abbrev ended_by : {A : Type 0} → Parsed A → (ℕ → Option ℕ) → Option ℕ
ended_by none k = None
ended_by (some a e) k = k e

unfoldable pub row_end : (ℕ → Parsed Modal) → ℕ → ℕ → Option ℕ
row_end sub zero at = Some at
row_end sub (suc c) at = ended_by (sub at) (row_end sub c)

pub row_none : (sub : ℕ → Parsed Modal) (at : ℕ) → row_end sub 0 at ≡ Some at
unfolding row_end
row_none sub at = refl

pub row_one : (sub : ℕ → Parsed Modal) (at : ℕ) → end_of (sub at) ≡ row_end sub 1 at
unfolding row_end
row_one sub at = one (sub at)
  where
    one : (p : Parsed Modal) → end_of p ≡ ended_by p Some
    one none = refl
    one (some f e) = refl

last_ended : {A B : Type 0} (g : A → B) (k : ℕ → Option ℕ) (p : Parsed A)
    → ended_by (then p (λ a e. some (g a) e)) k ≡ ended_by p k
last_ended g k none = refl
last_ended g k (some a e) = refl

both_ended : {A B : Type 0} (sub : ℕ → Parsed A) (g : A → A → B) (k : ℕ → Option ℕ) (p : Parsed A)
    → ended_by (then p (λ a m. then (sub m) (λ b e. some (g a b) e))) k ≡ ended_by p (λ m. ended_by (sub m) k)
both_ended sub g k none = refl
both_ended sub g k (some a m) = last_ended (g a) k (sub m)

module _ (s : List ℕ) (n at c : ℕ) where
  abbrev number : Option ℕ → ℕ
  number w = unwrap_or w 0

  abbrev sub : ℕ → Parsed Modal
  sub = modal_at n s

  pub row_stops : width s at ≡ 0 → row_end sub (suc c) at ≡ None
  unfolding row_end
  row_stops x = elim (head s at) [
    | none_inside f w l e i r ↦ absurd (omega (arith, ap number e))
    | one_inside g w l e i r ↦ absurd (omega (arith, ap number e))
    | two_inside g e i r ↦ absurd (omega (arith, ap number e))
    | no_head e r ↦ rw (r n) refl
  ]

  module _ (deep : length s ≤ n + at) where
    one_more : sub at ≡ modal_at (suc n) s at
    one_more = modal_bound n (suc n) s at deep (omega arith)

    pub row_goes : (k : ℕ) → (width s at ≡ 0 → ⊥) → k ≡ c + parts_of (get_or s at 0)
        → row_end sub (suc c) at ≡ row_end sub k (at + width s at)
    unfolding row_end
    row_goes k x count = elim (head s at) [
      | none_inside f w l e i r ↦ let o : k ≡ c = omega (arith, i) in rw (o, e, one_more, r n) refl
      | one_inside g w l e i r ↦
          let o : k ≡ suc c = omega (arith, i) in
          rw (o, e, one_more, r n) (last_ended g (row_end sub c) (sub (at + suc w)))
      | two_inside g e i r ↦
          let o : k ≡ suc (suc c) = omega (arith, i) in
          rw (o, e, one_more, r n) (both_ended sub g (row_end sub c) (sub (at + 1)))
      | no_head e r ↦ absurd (x (ap number e))
    ]

-- ---- `left` formulas from `at` on are still to be read of that at `start`
pub record Ending (s : List ℕ) (start at left : ℕ) : Type 0 where
  pub near : at ≤ 260
  pub on : start ≤ at
  pub few : left + start ≤ at + 1
  pub same : (n : ℕ) → length s ≤ n + start → end_of (modal_at n s start) ≡ row_end (modal_at n s) left at

pub ending_start : (s : List ℕ) (start : ℕ) → start ≤ 256 → Ending s start start 1
ending_start s start l = record {
  near = omega arith;
  on = omega arith;
  few = omega arith;
  same = λ n d. row_one (modal_at n s) start;
}

pub ending_more : (s : List ℕ) (start at left : ℕ) → Ending s start at left → length s ≤ 256 → 0 < left
    → (width s at ≡ 0 → ⊥) → Ending s start (at + width s at) (left - 1 + parts_of (get_or s at 0))
ending_more s start at zero h l z x = absurd (omega arith)
ending_more s start at (suc c) h l z x =
    let inside = width_inside s at x in
    let most = width_most s at in
    let two = inside_most s at x in
    record {
      near = omega (arith, inside, most);
      on = omega (arith, h.on);
      few = omega (arith, h.few, two);
      same = λ n d. h.same n d ∙ row_goes s n at c (omega (arith, h.on)) _ x (omega arith);
    }

-- where no code stands, and where no formula is left
pub ending_none : (s : List ℕ) (start at left : ℕ) → Ending s start at left → 0 < left → width s at ≡ 0 → ModalEnds s start None
ending_none s start at zero h z x = absurd (omega arith)
ending_none s start at (suc c) h z x = record { ended = λ n d. sym (h.same n d ∙ row_stops s n at c x) }

pub ending_all : (s : List ℕ) (start at left : ℕ) → Ending s start at left → left ≤ 0 → ModalEnds s start (Some at)
ending_all s start at zero h z = record { ended = λ n d. sym (h.same n d ∙ row_none (modal_at n s) at) }
ending_all s start at (suc c) h z = absurd (omega arith)
