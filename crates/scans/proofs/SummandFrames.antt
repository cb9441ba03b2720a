-- A summand's frame that stands at a place: where its parts stand, and what the rules say of it.
-- The frame is taken apart from the front; the terms in front of a term are counted.
use Prim.Native.Nat.{ℕ, zero, suc, ◌+◌, ◌≤◌, ◌<◌}
use native.Mathlib.Omega.{arith}
use mathlib.Core.Path.{◌≡◌, refl, sym, ap, ◌∙◌, subst}
use mathlib.Core.List.{List, [], ◌∷◌, ◌++◌, append_assoc}
use lib.ListN.{length, length-append, get_or, take, drop}
use borrow.Author.Tests.{leb-true}
use Rattle.meaning.specs.Logic.{Is, Is→eq, never, and_l, and_r}
use Rattle.meaning.specs.Formulas.{Term, number, variable, calculated}
use Rattle.meaning.specs.Ranges.{arguments_fit}
use Rattle.spelling.specs.Spelled.{spelled, spelled_term, spelled_terms}
use Rattle.spelling.specs.Stands.{Stands, first, after_one, left_part, right_part, moved}
use Rattle.translation.specs.Processes.{Summand, Process}
use Rattle.translation.specs.Modal.{Modal}
use Rattle.translation.specs.Rules.{plain, well_formed_summand, well_formed_summands, well_formed_process, well_formed_input}
use Rattle.inputs.specs.Inputs.{no_summand}
use Rattle.inputs.specs.InputFrames.{summand_frame}
use Rattle.scans.specs.Summands.{nth_summand, action_place, next_place}

-- ---- terms one after the other
pub term_long : (t : Term) → 2 ≤ length (spelled_term t)
unfolding spelled_term
term_long (number v) = omega arith
term_long (variable i) = omega arith
term_long (calculated plus r a b) = omega arith

pub terms_split : (ts : List Term) (i : ℕ) (d : Term) → i < length ts
    → spelled_terms ts ≡ spelled_terms (take i ts) ++ (spelled_term (get_or ts i d) ++ spelled_terms (drop (suc i) ts))
unfolding spelled_terms
terms_split [] i d l = absurd (omega (arith, l))
terms_split (t ∷ ts) zero d l = refl
terms_split (t ∷ ts) (suc i) d l =
    ap (λ (x : List ℕ). spelled_term t ++ x) (terms_split ts i d (omega (arith, l))) ∙
    sym (append_assoc (spelled_term t) (spelled_terms (take i ts)) _)

pub terms_length : (ts : List Term) (i : ℕ) (d : Term) → i < length ts
    → length (spelled_terms (take (suc i) ts)) ≡ length (spelled_terms (take i ts)) + length (spelled_term (get_or ts i d))
unfolding spelled_terms
terms_length [] i d l = absurd (omega (arith, l))
terms_length (t ∷ ts) zero d l = omega (arith, length-append (spelled_term t) [])
terms_length (t ∷ ts) (suc i) d l =
    omega (
      arith,
      terms_length ts i d (omega (arith, l)),
      length-append (spelled_term t) (spelled_terms (take (suc i) ts)),
      length-append (spelled_term t) (spelled_terms (take i ts)),
    )

-- ---- the parts of a frame
pub frame_length : (x : Summand) → length (summand_frame x) ≡ action_place x + 1 + length (spelled_terms x.next)
unfolding summand_frame
frame_length x =
    let c = spelled x.condition in
    let end = x.action ∷ spelled_terms x.next in
    omega (arith, length-append x.own (c ++ end), length-append c end)

module _ {s : List ℕ} {b : ℕ} (x : Summand) (h : Stands s b (summand_frame x)) where
  pub first_byte : get_or s b 0 ≡ 7
  unfolding summand_frame
  first_byte = first s b 7 _ h

  behind_first : Stands s (b + 1)
      (length x.own ∷ (x.own ++ (spelled x.condition ++ (x.action ∷ spelled_terms x.next))))
  unfolding summand_frame
  behind_first = after_one s b 7 _ h

  pub own_count : get_or s (b + 1) 0 ≡ length x.own
  own_count = first s (b + 1) _ _ behind_first

  behind_own : Stands s (b + (2 + length x.own)) (spelled x.condition ++ (x.action ∷ spelled_terms x.next))
  behind_own =
      let place : b + 1 + 1 + length x.own ≡ b + (2 + length x.own) = omega arith in
      moved s _ _ _ place (right_part s (b + 1 + 1) x.own _ (after_one s (b + 1) _ _ behind_first))

  pub condition_stands : Stands s (b + (2 + length x.own)) (spelled x.condition)
  condition_stands = left_part s _ (spelled x.condition) _ behind_own

  action_stands : Stands s (b + action_place x) (x.action ∷ spelled_terms x.next)
  action_stands =
      let place : b + (2 + length x.own) + length (spelled x.condition) ≡ b + action_place x = omega arith in
      moved s _ _ _ place (right_part s _ (spelled x.condition) _ behind_own)

  pub action_read : get_or s (b + action_place x) 0 ≡ x.action
  action_read = first s _ _ _ action_stands

  -- next-state term i
  pub term_stands : (i : ℕ) (d : Term) → i < length x.next → Stands s (b + next_place x i) (spelled_term (get_or x.next i d))
  term_stands i d l =
      let terms = subst (Stands s (b + action_place x + 1)) (terms_split x.next i d l) (after_one s _ _ _ action_stands) in
      let place : b + action_place x + 1 + length (spelled_terms (take i x.next)) ≡ b + next_place x i = omega arith in
      let from_it = right_part s _ (spelled_terms (take i x.next)) _ terms in
      moved s _ _ _ place (left_part s _ (spelled_term (get_or x.next i d)) _ from_it)

pub next_term : (x : Summand) (i : ℕ) (d : Term) → i < length x.next
    → next_place x (suc i) ≡ next_place x i + length (spelled_term (get_or x.next i d))
next_term x i d l = omega (arith, terms_length x.next i d l)

-- a term stands inside the frame
pub term_inside : (x : Summand) (i : ℕ) (d : Term) → i < length x.next
    → next_place x i + length (spelled_term (get_or x.next i d)) ≤ length (summand_frame x)
term_inside x i d l =
    let whole = ap length (terms_split x.next i d l) in
    let t = spelled_term (get_or x.next i d) in
    let rest = spelled_terms (drop (suc i) x.next) in
    omega (arith, frame_length x, whole, length-append (spelled_terms (take i x.next)) (t ++ rest), length-append t rest)

-- ---- what the rules say of a summand
pub nth_formed : (rs : List ℕ) (ss : List Summand) (j : ℕ) → Is (well_formed_summands rs ss) → j < length ss
    → Is (well_formed_summand rs (get_or ss j no_summand))
unfolding well_formed_summands
nth_formed rs [] j p l = absurd (omega (arith, l))
nth_formed rs (x ∷ ss) zero p l = and_l _ _ p
nth_formed rs (x ∷ ss) (suc j) p l = nth_formed rs ss j (and_r (well_formed_summand rs x) _ p) (omega (arith, l))

pub as_many_terms : (ts : List Term) (ps rs : List ℕ) → Is (arguments_fit ts ps rs) → length ts ≡ length ps
unfolding arguments_fit
as_many_terms [] [] rs p = refl
as_many_terms [] (r ∷ ps) rs p = never p
as_many_terms (t ∷ ts) [] rs p = never p
as_many_terms (t ∷ ts) (r ∷ ps) rs p = ap suc (as_many_terms ts ps rs (and_r _ _ p))

pub record Ruled (process : Process) : Type 0 where
  pub few : length process.summands ≤ 16
  pub plain_condition : (j : ℕ) → j < length process.summands → Is (plain (nth_summand process j).condition)
  pub few_terms : (j : ℕ) → j < length process.summands → length (nth_summand process j).next ≤ 4

condition_plain : (rs : List ℕ) (x : Summand) → Is (well_formed_summand rs x) → Is (plain x.condition)
unfolding well_formed_summand
condition_plain rs x p = and_l _ _ (and_r _ _ (and_l _ _ (and_l _ _ p)))

term_for_each : (rs : List ℕ) (x : Summand) → Is (well_formed_summand rs x) → length x.next ≡ length rs
unfolding well_formed_summand
term_for_each rs x p = as_many_terms x.next rs (rs ++ x.own) (and_r _ _ (and_r _ _ p))

pub ruled : (process : Process) (f : Modal) → Is (well_formed_input process f) → Ruled process
unfolding well_formed_input well_formed_process
ruled process f p =
    let rs = process.ranges in
    let ss = process.summands in
    let parts = and_l _ _ p in
    let numbers = and_l _ _ parts in
    let ranges = leb-true (length rs) 4 (Is→eq (and_l _ _ (and_l _ _ (and_l _ _ numbers)))) in
    record {
      few = leb-true (length ss) 16 (Is→eq (and_r _ _ numbers));
      plain_condition = λ j l. condition_plain rs _ (nth_formed rs ss j (and_r _ _ parts) l);
      few_terms = λ j l. omega (arith, ranges, term_for_each rs _ (nth_formed rs ss j (and_r _ _ parts) l));
    }
