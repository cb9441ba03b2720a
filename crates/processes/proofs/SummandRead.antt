-- A summand by the tests that the reader makes: counts, ranges, where the condition ends, action, where the terms end.
-- What was read is sound, so of the rules only these tests are left; a condition that was read stands behind all of the ranges.
use Prim.Native.Nat.{ℕ, ◌+◌, ◌≤◌, ◌<◌, min}
use native.Mathlib.Omega.{arith}
use mathlib.Core.Path.{◌≡◌, refl, sym, ap, ◌∙◌}
use mathlib.Core.Bool.{Bool, true, false, false≢true, cond, ◌&&◌}
use mathlib.Core.List.{List, ◌++◌}
use lib.Dec.{eqb, ltb, leb}
use lib.ListN.{length, get_or, length-append}
use borrow.Author.Tests.{le-leb, lt-leb, lt-ltb, leb-true, leb-false, eqb-true}
use Rattle.std.specs.Prelude.{Option, None, Some}
use Rattle.std.specs.Option.{option_eq}
use Rattle.meaning.specs.Logic.{Is, Is→eq, ◌and◌, and-false, cases}
use Rattle.meaning.specs.Formulas.{Term, Formula}
use Rattle.meaning.specs.Ranges.{sound, sound_terms, arguments_fit, all_ranges}
use Rattle.formulas.specs.Decode.{Parsed, none, some, then, terms_at, formula_at}
use Rattle.formulas.specs.Bodies.{ends}
use Rattle.formulas.specs.Ends.{place_where, condition_place, terms_place}
use Rattle.formulas.specs.Contract.{part, Told}
use Rattle.formulas.proofs.Told.{told_whole}
use Rattle.formulas.proofs.Signatures.{part_length}
use Rattle.formulas.proofs.Decoded.{terms_sound, formula_sound}
use Rattle.formulas.proofs.ByKind.{formula_late}
use Rattle.translation.specs.Processes.{Summand}
use Rattle.translation.specs.Rules.{plain, well_formed_summand}
use Rattle.inputs.specs.Inputs.{count_of, ranges_of, summand_from, summand_at, read_or, no_summand, is_summand}
use Rattle.processes.specs.SummandTests.{counted_bytes, four_bytes, is_step, is_step_behind, SummandJudged}
use Rattle.processes.proofs.Conditions.{condition_plain}
use Rattle.processes.proofs.FrameTests.{ranges_taken}

-- ---- a formula that was read stands within the bytes
not_refused : {A X : Type 0} {P : A → Type 0} {a : A} {m e : ℕ} → Told P e (some a m) false → X
not_refused = elim [ ]

read_inside : (s : List ℕ) (n k at : ℕ) {c : Formula} {e : ℕ} → length s ≤ n + at → formula_at n s k 0 at ≡ some c e
    → at < length s
read_inside s n k at deep read = cases (leb (length s) at) late (leb-false (length s) at)
  where
    late : leb (length s) at ≡ true → at < length s
    late h =
        let none = formula_late {P = λ f. f ≡ f} {s = s} {limit = length s} {k = k} {q = 0} {at = at} {e = 0}
        (leb-true (length s) at h) in
        not_refused (told_whole (omega arith) (rw read at (none.tells n deep)))

-- ---- the rules of a summand where its condition and its terms are sound
module _ (rs : List ℕ) (s : Summand) where
  not_plain : plain s.condition ≡ false → well_formed_summand rs s ≡ false
  unfolding well_formed_summand ◌and◌
  not_plain h = rw (h, and-false (leb (length s.own) 4 and all_ranges s.own)) refl

  rules_left : plain s.condition ≡ true → Is (sound (length (rs ++ s.own)) 0 s.condition)
      → Is (sound_terms (length (rs ++ s.own)) s.next)
      → well_formed_summand rs s ≡ leb (length s.own) 4 and all_ranges s.own and (true and true) and leb s.action 15
      and (true and arguments_fit s.next rs (rs ++ s.own))
  unfolding well_formed_summand
  rules_left h c t = rw (h, Is→eq c, Is→eq t) refl

-- ---- tests in another order
same_tests : (x y t z w b : Bool) → (b ≡ true → t ≡ true)
    → x && (y && (t && (z && (w and b)))) ≡ b && (x and y and (true and true) and z and (true and w))
unfolding ◌and◌
same_tests false y t z w true h = refl
same_tests false y t z w false h = refl
same_tests true false t z w true h = refl
same_tests true false t z w false h = refl
same_tests true true true false w true h = refl
same_tests true true true false w false h = refl
same_tests true true false z w true h = absurd (false≢true (h refl))
same_tests true true false z w false h = refl
same_tests true true true true true true h = refl
same_tests true true true true true false h = refl
same_tests true true true true false true h = refl
same_tests true true true true false false h = refl

end_test : (w : Bool) (e size : ℕ) → option_eq eqb (cond w (Some e) None) (Some size) ≡ w and eqb e size
unfolding ◌and◌
end_test true e size = refl
end_test false e size = refl

last_fails : (x y : Bool) → x && (y && false) ≡ false
last_fails true true = refl
last_fails true false = refl
last_fails false y = refl

-- ---- a summand of a process whose parameters have the ranges rs
module _ (rs f : List ℕ) (short : length f ≤ 256) where
  abbrev reach : ℕ
  reach = length rs + count_of f

  abbrev first : ℕ
  first = 2 + count_of f

  abbrev scope : List ℕ
  scope = rs ++ counted_bytes f

  abbrev tests : Option ℕ → Bool
  tests p = leb (count_of f) 4 && (all_ranges (counted_bytes f) && is_step_behind f p scope rs)

  scope_length : length scope ≡ reach
  scope_length = length-append rs (counted_bytes f) ∙ ap (λ (x : ℕ). length rs + x) (part_length f 2 (count_of f))

  no_condition : tests None ≡ false
  no_condition = last_fails (leb (count_of f) 4) (all_ranges (counted_bytes f))

  terms_read : (at : ℕ) → terms_place f at scope rs
      ≡ place_where (λ ts. arguments_fit ts rs scope) (terms_at (length f) (length rs) f reach at)
  unfolding terms_place
  terms_read at = rw (le-leb (length f) 256 short, scope_length) refl

  -- nothing read
  unread : formula_at (length f) f reach 0 first ≡ none → false ≡ is_summand rs f
  unfolding is_summand summand_at
  unread h = rw h refl

  module _ {c : Formula} {e : ℕ} (read : formula_at (length f) f reach 0 first ≡ some c e) where
    -- the condition stands behind the ranges, within the frame
    behind : first < e
    behind = (formula_sound f (length f) reach first 0 read).1

    inside : first < length f
    inside = read_inside f (length f) reach first (omega arith) read

    taken : counted_bytes f ≡ ranges_of f
    taken = ranges_taken f (omega (arith, inside))

    own_length : length (ranges_of f) ≡ count_of f
    own_length = ap length (sym taken) ∙ part_length f 2 (count_of f)

    all_reach : length (rs ++ ranges_of f) ≡ reach
    all_reach = ap (λ l. length (rs ++ l)) (sym taken) ∙ scope_length

    abbrev terms : Parsed (List Term)
    terms = terms_at (length f) (length rs) f reach (e + 1)

    -- with a quantifier or an instance in it
    rejected : plain c ≡ false → false ≡ is_summand rs f
    unfolding is_summand summand_at
    rejected h = rw read (by_terms terms)
      where
        by_terms : (p : Parsed (List Term)) → let q = then p (λ ts end. some (summand_from f c e ts) end) in
            false ≡ ends (length f) q && well_formed_summand rs (read_or no_summand q)
        by_terms none = refl
        by_terms (some ts m) = rw (not_plain rs (summand_from f c e ts) h) (sym (last_fails (eqb m (length f)) true))

    -- the tests, with this for the last one
    abbrev tests_with : Bool → Bool
    tests_with b =
        leb (count_of f) 4
        && (all_ranges (counted_bytes f) && ((ltb 0 e && ltb e (length f)) && (leb (get_or f e 0) 15 && b)))

    abbrev last_test : Bool
    last_test = option_eq eqb (place_where (λ ts. arguments_fit ts rs scope) terms) (Some (length f))

    tests_are : tests (Some e) ≡ tests_with last_test
    unfolding is_step
    tests_are = rw (terms_read (e + 1)) refl

    reordered : (w b : Bool) → (b ≡ true → ltb 0 e && ltb e (length f) ≡ true) → tests_with (w and b)
        ≡ b && (leb (count_of f) 4 and all_ranges (counted_bytes f) and (true and true) and leb (get_or f e 0) 15 and
        (true and w))
    reordered w b =
        same_tests (leb (count_of f) 4) (all_ranges (counted_bytes f)) (ltb 0 e && ltb e (length f)) (leb (get_or f e 0) 15) w b

    -- no terms
    unread_summand : terms ≡ none → false ≡ is_summand rs f
    unfolding is_summand summand_at
    unread_summand t = rw (read, t) refl

    unread_terms : terms ≡ none → tests (Some e) ≡ is_summand rs f
    unfolding ◌and◌
    unread_terms t =
        let no : last_test ≡ true and false = rw t refl in
        tests_are ∙ ap tests_with no ∙ reordered true false (λ x. absurd (false≢true x)) ∙ unread_summand t

    -- terms
    module _ (h : plain c ≡ true) {ts : List Term} {m : ℕ} (t : terms ≡ some ts m) where
      abbrev fit : Bool
      fit = arguments_fit ts rs scope

      all_terms : Is (sound_terms reach ts) × (e + 1 ≤ m)
      all_terms = terms_sound f (length f) reach (e + 1) (length rs) t

      ends_inside : eqb m (length f) ≡ true → ltb 0 e && ltb e (length f) ≡ true
      ends_inside x =
          let end = eqb-true m (length f) x in
          rw (lt-ltb 0 e (omega (arith, behind)), lt-ltb e (length f) (omega (arith, end, all_terms.1))) refl

      judged : well_formed_summand rs (summand_from f c e ts)
          ≡ leb (count_of f) 4 and all_ranges (counted_bytes f) and (true and true) and leb (get_or f e 0) 15 and (true and fit)
      judged =
          rules_left rs (summand_from f c e ts) h (rw all_reach (formula_sound f (length f) reach first 0 read).0)
          (rw all_reach all_terms.0)
          ∙ rw (own_length, taken) refl

      read_summand : eqb m (length f) && well_formed_summand rs (summand_from f c e ts) ≡ is_summand rs f
      unfolding is_summand summand_at
      read_summand = rw (read, t) refl

      read_terms : tests (Some e) ≡ is_summand rs f
      read_terms =
          let last : last_test ≡ fit and eqb m (length f) = rw t (end_test fit m (length f)) in
          tests_are ∙ ap tests_with last ∙ reordered fit (eqb m (length f)) ends_inside ∙
          ap (λ b. eqb m (length f) && b) (sym judged) ∙ read_summand

    by_terms : plain c ≡ true → (p : Parsed (List Term)) → terms ≡ p → tests (Some e) ≡ is_summand rs f
    by_terms h none t = unread_terms t
    by_terms h (some ts m) t = read_terms h t

  -- ---- all cases
  by_formula : (p : Parsed Formula) → formula_at (length f) f reach 0 first ≡ p → tests (place_where plain p) ≡ is_summand rs f
  by_formula none read = no_condition ∙ unread read
  by_formula (some c e) read =
      cases (plain c) (λ h. rw h (by_terms read h (terms read) refl)) (λ h. rw h (no_condition ∙ rejected read h))

  pub summand_tested : leb (count_of f) 4
      && (all_ranges (counted_bytes f) && is_step_behind f (condition_place f first scope) scope rs)
      ≡ is_summand rs f
  summand_tested =
      ap tests (condition_plain f first scope short scope_length) ∙ by_formula (formula_at (length f) f reach 0 first) refl

-- ---- as the reader makes the tests, one after the other
module _ (process f : List ℕ) (short : length f ≤ 256) {own : ℕ} (same : own ≡ count_of f) where
  pub summand_many : 4 < own → SummandJudged process f false
  summand_many h = record {
    judged = λ _ _. rw (lt-leb (count_of f) 4 (omega (arith, same, h))) at (summand_tested (ranges_of process) f short);
  }

  module _ (few : own ≤ 4) where
    four : leb (count_of f) 4 ≡ true
    four = le-leb (count_of f) 4 (omega (arith, same, few))

    pub summand_no_ranges : all_ranges (counted_bytes f) ≡ false → SummandJudged process f false
    summand_no_ranges h = record { judged = λ _ _. rw (four, h) at (summand_tested (ranges_of process) f short) }

    pub summand_rest : all_ranges (counted_bytes f) ≡ true → {parameters scope : List ℕ} {end : Option ℕ} {r : Bool}
        → parameters ≡ four_bytes process → scope ≡ parameters ++ four_bytes f
        → end ≡ condition_place f (2 + own) scope → r ≡ is_step_behind f end scope parameters → SummandJudged process f r
    summand_rest h {parameters} {scope} {end} {r} ps ss es rs = record { judged = by_parameters }
      where
        by_parameters : count_of process ≤ 4 → 6 ≤ length process → r ≡ is_summand (ranges_of process) f
        by_parameters k l =
            let all : min (count_of process) 4 ≡ count_of process = omega (arith, k) in
            let own_all : min (count_of f) 4 ≡ count_of f = omega (arith, same, few) in
            let known : parameters ≡ ranges_of process =
            ps ∙ ap (part process 2) all ∙ ranges_taken process (omega (arith, k, l)) in
            let reach : scope ≡ ranges_of process ++ counted_bytes f =
            ss ∙ rw (own_all, known) refl in
            rs ∙ rw (es, same, reach, known) (rw (four, h) at (summand_tested (ranges_of process) f short))
