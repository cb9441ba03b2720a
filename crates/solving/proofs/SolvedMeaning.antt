-- The reached instances of a well-formed model, solved by turns, have their meaning.
-- A reached instance's right side hangs on reached instances alone, and each of these is found by its word.
use Prim.Native.Nat.{ℕ, zero, suc, ◌+◌, ◌≤◌, ◌<◌}
use native.Mathlib.Decide.{dec_lt}
use native.Mathlib.Omega.{arith}
use mathlib.Core.Path.{◌≡◌, refl, sym, subst, ◌∙◌, ap}
use mathlib.Core.Bool.{Bool, true, false, cond}
use mathlib.Core.List.{List, [], ◌∷◌, map}
use mathlib.Core.Logic.{◌⊎◌, inl, inr}
use lib.ListN.{length, length-map, get_or, get_or-map, get_or-eq_default}
use lib.Dec.{eqb}
use borrow.Author.Tests.{eq-eqb, lt-ltb, le-ltb, eqb-true}
use Rattle.meaning.specs.Logic.{Is, never, eq→Is}
use Rattle.meaning.specs.Solution.{Args, Assign, mem}
use Rattle.meaning.specs.Formulas.{Formula, holds}
use Rattle.meaning.specs.Models.{Model, system, nowhere, meaning}
use Rattle.meaning.specs.Reach.{Instance, body_of, next, reached}
use Rattle.meaning.specs.Ranges.{typed}
use Rattle.meaning.specs.Words.{word}
use Rattle.meaning.proofs.Members.{mem_cases, mem_nothing}
use Rattle.meaning.specs.Systems.{AllRising}
use Rattle.meaning.proofs.Monotone.{system_rising}
use Rattle.meaning.specs.Table.{narrow}
use Rattle.meaning.proofs.Table.{narrow_rising}
use Rattle.meaning.proofs.Reached.{reached_closed, reached_typed}
use Rattle.meaning.proofs.Solving.{table_value}
use Rattle.meaning.proofs.WordLaws.{word_injective}
use Rattle.formulas.specs.declared.Equation.{Equation}
use Rattle.truth.specs.Bits as sets
use Rattle.truth.specs.Words.{truth_words}
use Rattle.truth.proofs.Bits.{Eight}
use Rattle.truth.proofs.Words.{truth_words_unique}
use Rattle.words.specs.Unpacked.{equation_number}
use Rattle.evaluator.specs.Values.{known, valued, index_of, value_in}
use Rattle.evaluator.proofs.AsTruth.{Knows, known_valued}
use Rattle.answers.specs.Answers.{truth_in}
use Rattle.systems.specs.Numbered.{Truths, Numbered}
use Rattle.instances.specs.Sides.{side_of, is_true, sides, among_first, names, numbered_system}
use Rattle.instances.specs.Models.{model_from, model_in, WellFormedModel}
use Rattle.instances.proofs.Models.{model_length, body_there, Typed, named, typed_below, word_number, word_names}
use Rattle.systems.specs.Solved.{solved}
use Rattle.systems.proofs.Nested as outside
use Rattle.solving.proofs.Agreement.{Agrees, inside, mem_at, listed, Divided, Right, Follows, solved_agrees}

-- ---- the words of a list of instances

-- number j's word
pub word_at : (l : List Instance) (j : ℕ) → get_or (map word l) j 0 ≡ word (get_or l j [])
unfolding word
word_at l j = get_or-map word l j []

-- p is the number of an instance with the word of i
abbrev Numbers : List Instance → Instance → ℕ → Type 0
Numbers l i p = (p < length l) × (word (get_or l p []) ≡ word i)

-- an instance of the list is found by its word
found_at : (l : List Instance) (i : Instance) → Is (mem i l) → Numbers l i (index_of (map word l) (word i))
unfolding index_of
found_at [] i h = absurd (mem_nothing i h)
found_at (k ∷ l) i h = go (eqb (word k) (word i)) refl (found_at l i) (mem_cases i k l h)
  where
    p : ℕ
    p = index_of (map word l) (word i)

    further : Numbers l i p → Numbers (k ∷ l) i (suc p)
    further n = (omega (arith, n.0), n.1)

    go : (b : Bool) → eqb (word k) (word i) ≡ b → (Is (mem i l) → Numbers l i p) → (i ≡ k) ⊎ Is (mem i l)
        → Numbers (k ∷ l) i (cond b 0 (suc p))
    go true e f m = (omega arith, eqb-true (word k) (word i) e)
    go false e f (inl q) = never (subst Is e (eq→Is (eq-eqb (word k) (word i) (ap word (sym q)))))
    go false e f (inr m) = further (f m)

system_length : (n : ℕ) (model : Model) → length (system n model) ≡ length model
unfolding system
system_length n [] = refl
system_length n (e ∷ es) = ap suc (system_length (suc n) es)

known_true : (b : Bool) → is_true (known b) ≡ b
known_true true = refl
known_true false = refl

module _ {bodies : List ℕ} {equations : List Equation} {count : ℕ} {start : Instance}
    (m : WellFormedModel bodies equations count start) where
  abbrev model : Model
  model = model_in bodies equations count

  abbrev l : List Instance
  l = reached model start

  abbrev table : List ℕ
  table = map word l

  abbrev S : Numbered
  S = numbered_system bodies equations table

  all_typed : (i : Instance) → Is (mem i l) → Typed (named m) i
  all_typed = reached_typed model start m.well

  instance_typed : (j e : ℕ) (x : Args) → get_or l j [] ≡ e ∷ x → Typed (named m) (e ∷ x)
  instance_typed j e x q = all_typed (e ∷ x) (listed l j e x q)

  word_is : (j e : ℕ) (x : Args) → get_or l j [] ≡ e ∷ x → get_or table j 0 ≡ word (e ∷ x)
  word_is j e x q = word_at l j ∙ ap word q

  -- its equation
  number_is : (j e : ℕ) (x : Args) → get_or l j [] ≡ e ∷ x → equation_number (get_or table j 0) ≡ e
  number_is j e x q = ap equation_number (word_is j e x q) ∙ word_number (named m) e x (instance_typed j e x q)

  divided : Divided l S
  unfolding numbered_system among_first names
  divided e j i x q = rw (lt-ltb j (length table) (omega (arith, length-map l word, inside l j i x q)), number_is j i x q)

  -- a reached instance is as true as the set says of its number
  in_table : (v : Truths) (θ : Assign) → Agrees l v θ → Knows (value_in table v) θ l
  unfolding value_in
  in_table v θ h e x q =
      let n = found_at l (e ∷ x) q in
      let p = index_of table (word (e ∷ x)) in
      let same : get_or l p [] ≡ e ∷ x = word_injective model start m.well (get_or l p []) (e ∷ x)
      (all_typed (get_or l p []) (mem_at l p n.0)) (all_typed (e ∷ x) q) n.1 in
      rw (lt-ltb p (length table) (omega (arith, length-map l word, n.0))) (ap known (h p e x same))

  side_is : (v : Truths) (j e : ℕ) (x : Args) → get_or l j [] ≡ e ∷ x
      → side_of bodies equations table v (get_or table j 0) ≡ valued (body_of model e) (value_in table v) x
  unfolding side_of
  side_is v j e x q =
      let t = instance_typed j e x q in
      let there = body_there bodies equations count e (typed_below m e x t) in
      rw (word_is j e x q, word_names (named m) e x t, word_number (named m) e x t, there) refl

  -- the right side of a reached instance
  right : (e : ℕ) → Right l S e (holds (body_of model e))
  unfolding numbered_system sides next
  right e v θ h j x q =
      let closed = reached_closed model start m.well (e ∷ x) (listed l j e x q) in
      let value = known_valued (body_of model e) (value_in table v) θ x (λ n y i. in_table v θ h n y (closed (n ∷ y) i)) in
      ap is_true (side_is v j e x q ∙ value) ∙ known_true (holds (body_of model e) θ x)

  follows : (n e : ℕ) → e + n ≤ count → Follows l S e (system e (model_from bodies equations e n))
  unfolding system numbered_system model_from
  follows zero e h = tt
  follows (suc n) e h =
      let there = body_there bodies equations count e (omega arith) in
      (refl, refl, subst (λ (g : Formula). Right l S e (holds g)) there (right e), follows n (suc e) (omega arith))

  -- ---- the theorems

  rising : AllRising (narrow l (system 0 model))
  rising = narrow_rising l (system 0 model) (system_rising 0 model)

  -- a reached instance gets its meaning
  solved_meaning : (j e : ℕ) (x : Args) → get_or l j [] ≡ e ∷ x → solved S count 0 sets.nowhere j ≡ meaning model e x
  unfolding numbered_system
  solved_meaning j e x q =
      ap (λ (n : ℕ). solved S n 0 sets.nowhere j) (sym (system_length 0 model ∙ model_length bodies equations count 0))
      ∙ solved_agrees l S divided (omega (arith, length-map l word)) 0 (system 0 model) rising
      (follows count 0 (omega arith)) sets.nowhere nowhere (λ k i y _. refl) j e x q
      ∙ table_value model start m.well e x (listed l j e x q)

  -- what is no instance's number stays out of the set
  solved_past : (j : ℕ) → length l ≤ j → solved S count 0 sets.nowhere j ≡ false
  unfolding numbered_system among_first
  solved_past j h =
      outside.solved_past S count 0 sets.nowhere j (λ e _ _. rw (le-ltb j (length table) (omega (arith, length-map l word, h))))

  -- so the set says of each number the value of its instance, in the order of finding
  value_at : (j : ℕ) → solved S count 0 sets.nowhere j ≡ truth_in model (get_or l j [])
  unfolding typed truth_in
  value_at j = elim (dec_lt j (length l)) [
    | yes h ↦ go (get_or l j []) refl (all_typed (get_or l j []) (mem_at l j h))
    | no h ↦ solved_past j (omega arith) ∙ sym (ap (truth_in model) (get_or-eq_default l [] {n = j} (omega arith)))
  ]
    where
      go : (i : Instance) → get_or l j [] ≡ i → Typed (named m) i → solved S count 0 sets.nowhere j ≡ truth_in model i
      go [] q t = never t
      go (e ∷ x) q t = solved_meaning j e x q

  -- eight words that say what the set says are the words of the values
  pub solved_words : (r : List ℕ) → Eight r → sets.bit_of r ≡ solved S count 0 sets.nowhere
      → r ≡ truth_words (map (truth_in model) l)
  unfolding truth_in
  solved_words r h q = truth_words_unique r (map (truth_in model) l) h
      (λ j _. ap (λ (v : Truths). v j) q ∙ value_at j ∙ sym (get_or-map (truth_in model) l j []))
