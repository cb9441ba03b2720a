-- The equations of a model, one by one: which fixed point each is of, and that the formula inside keeps the rules.
-- By the formula: a fixed point stands in one of its parts, and the numbers around it grow by those that it is in.
use Prim.Native.Nat.{ℕ, zero, suc, ◌+◌, ◌-◌, ◌≤◌, ◌<◌}
use native.Mathlib.Omega.{arith}
use native.Mathlib.Decide.{dec_lt}
use mathlib.Core.Path.{◌≡◌, refl, sym, subst, ap, ◌∙◌}
use mathlib.Core.Bool.{true, false}
use mathlib.Core.List.{List, [], ◌∷◌, ◌++◌}
use lib.ListN.{length, get_or, get_or-append}
use lib.Seq.{get_or-append-add}
use Rattle.meaning.specs.Logic.{Is, and_l, and_r}
use Rattle.translation.specs.Processes.{Process}
use Rattle.translation.specs.Modal.{fixed_points}
use Rattle.translation.specs.Modal.{Modal, truth, combined, after, fixed_point, of_fixed_point}
use Rattle.translation.specs.Rules.{well_formed_formula}
use Rattle.translation.specs.RuleLaws.{Around, around_none, around_more}
use Rattle.translation.specs.Translation.{translated, equation_of, equations, begins_with_fixed_point}
use Rattle.scans.specs.FixedPoints.{Fixed, fixed_in, no_fixed}
use Rattle.scans.specs.Equations.{fixed_count, equations_length, equations_nth}
use Rattle.sides.specs.Told.{before_of}
use Rattle.emitter.specs.Built.{Inner, no_equation}

-- ---- the formula inside fixed point i of f, whose own first fixed point has number n
abbrev inner_of : Modal → ℕ → Modal
inner_of f i = (get_or (fixed_in f) i no_fixed).inner

-- of a formula with so many fixed points in all
record Nth (around : List ℕ) (n all i : ℕ) (inner : Modal) : Type 0 where
  more : List ℕ
  formed : Is (well_formed_formula more (suc (n + i)) inner)
  below : (b : ℕ) → Around around (λ m. m < b) → n + all ≤ b → Around more (λ m. m < b)
  few : suc i + fixed_points inner ≤ all

-- in the first of two parts, or in the second
nth_first : (around : List ℕ) (n : ℕ) (f g : Modal) (i : ℕ) → i < fixed_points f
    → Nth around n (fixed_points f) i (inner_of f i)
    → Nth around n (fixed_points f + fixed_points g) i (get_or (fixed_in f ++ fixed_in g) i no_fixed).inner
nth_first around n f g i l h =
    let same = get_or-append (fixed_in f) (fixed_in g) no_fixed i (omega (arith, fixed_count f)) in
    subst (λ (x : Fixed). Nth around n (fixed_points f + fixed_points g) i x.inner) (sym same) (record {
      more = h.more;
      formed = h.formed;
      below = λ b a s. h.below b a (omega arith);
      few = omega (arith, h.few);
    })

nth_second : (around : List ℕ) (n : ℕ) (f g : Modal) (i k : ℕ) → length (fixed_in f) + k ≡ i
    → Nth around (n + fixed_points f) (fixed_points g) k (inner_of g k)
    → Nth around n (fixed_points f + fixed_points g) i (get_or (fixed_in f ++ fixed_in g) i no_fixed).inner
nth_second around n f g i k e h =
    let same = ap (λ (j : ℕ). get_or (fixed_in f ++ fixed_in g) j no_fixed) (sym e) ∙
    get_or-append-add (fixed_in f) (fixed_in g) k no_fixed in
    let number : suc (n + fixed_points f + k) ≡ suc (n + i) = omega (arith, fixed_count f) in
    subst (λ (x : Fixed). Nth around n (fixed_points f + fixed_points g) i x.inner) (sym same) (record {
      more = h.more;
      formed = subst (λ (m : ℕ). Is (well_formed_formula h.more m (inner_of g k))) number h.formed;
      below = λ b a s. h.below b a (omega arith);
      few = omega (arith, h.few, fixed_count f);
    })

nth_formed : (f : Modal) (around : List ℕ) (n i : ℕ) → i < fixed_points f → Is (well_formed_formula around n f)
    → Nth around n (fixed_points f) i (inner_of f i)
unfolding fixed_in fixed_points well_formed_formula
nth_formed (truth b) around n i l h = absurd (omega arith)
nth_formed (combined all f g) around n i l h = elim (dec_lt i (fixed_points f)) [
  | yes s ↦ nth_first around n f g i s (nth_formed f around n i s (and_l _ _ h))
  | no s ↦
      let k = i - fixed_points f in
      nth_second around n f g i k (omega (arith, fixed_count f))
      (nth_formed g around (n + fixed_points f) k (omega arith) (and_r _ _ h))
]
nth_formed (after all A f) around n i l h = nth_formed f around n i l (and_r _ _ h)
nth_formed (fixed_point greatest f) around n zero l h =
    let e : suc n ≡ suc (n + 0) = omega arith in
    record {
      more = n ∷ around;
      formed = subst (λ (m : ℕ). Is (well_formed_formula (n ∷ around) m f)) e h;
      below = λ b a s. around_more (λ m. m < b) n around (omega arith) a;
      few = omega arith;
    }
nth_formed (fixed_point greatest f) around n (suc i) l h =
    let inside = nth_formed f (n ∷ around) (suc n) i (omega arith) h in
    let e : suc (suc n + i) ≡ suc (n + suc i) = omega arith in
    record {
      more = inside.more;
      formed = subst (λ (m : ℕ). Is (well_formed_formula inside.more m (inner_of f i))) e inside.formed;
      below = λ b a s. inside.below b (around_more (λ m. m < b) n around (omega arith) a) (omega arith);
      few = omega (arith, inside.few);
    }
nth_formed (of_fixed_point m) around n i l h = absurd (omega arith)

-- ---- of a formula whose fixed points, and the added one, are at most eight
module _ (f : Modal) (formed : Is (well_formed_formula [] 0 f)) where
  pub nth_inner : (i : ℕ) → i < fixed_points f → fixed_points f ≤ 8 → Inner (inner_of f i) (i + 1)
  nth_inner i l s =
      let nth = nth_formed f [] 0 i l formed in
      let e : suc (0 + i) ≡ i + 1 = omega arith in
      record {
        around = nth.more;
        formed = subst (λ (m : ℕ). Is (well_formed_formula nth.more m (inner_of f i))) e nth.formed;
        below = nth.below 8 (around_none (λ m. m < 8)) (omega arith);
        few = omega (arith, nth.few);
      }

  pub whole_inner : fixed_points f ≤ 8 → Inner f 0
  whole_inner s = record { around = []; formed = formed; below = around_none (λ m. m < 8); few = omega arith }

-- ---- how many equations there are, and which
module _ (process : Process) (f : Modal) where
  pub begun : begins_with_fixed_point f ≡ true → translated process f ≡ equations process 0 f 0
  unfolding translated
  begun e = rw e refl

  pub enclosed : begins_with_fixed_point f ≡ false
      → translated process f ≡ equation_of process 1 true f 0 ∷ equations process 1 f 0
  unfolding translated
  enclosed e = rw e refl

  pub count_begun : begins_with_fixed_point f ≡ true → length (translated process f) ≡ fixed_points f
  count_begun e = ap length (begun e) ∙ equations_length process 0 f 0

  pub count_enclosed : begins_with_fixed_point f ≡ false → length (translated process f) ≡ suc (fixed_points f)
  count_enclosed e = ap length (enclosed e) ∙ ap suc (equations_length process 1 f 0)

  pub nth_begun : (e : begins_with_fixed_point f ≡ true) (i : ℕ) → i < fixed_points f
      → get_or (translated process f) i no_equation
      ≡ equation_of process (before_of f) (get_or (fixed_in f) i no_fixed).greatest (inner_of f i) (i + 1)
  nth_begun e i l =
      let n : suc (0 + i) ≡ i + 1 = omega arith in
      rw (e, ← n) (ap (λ m. get_or m i no_equation) (begun e) ∙ equations_nth process 0 f 0 i no_equation l)

  pub nth_enclosed : (e : begins_with_fixed_point f ≡ false) (i : ℕ) → i < fixed_points f
      → get_or (translated process f) (suc i) no_equation
      ≡ equation_of process (before_of f) (get_or (fixed_in f) i no_fixed).greatest (inner_of f i) (i + 1)
  nth_enclosed e i l =
      let n : suc (0 + i) ≡ i + 1 = omega arith in
      rw (e, ← n) (ap (λ m. get_or m (suc i) no_equation) (enclosed e) ∙ equations_nth process 1 f 0 i no_equation l)

  pub first_enclosed : (e : begins_with_fixed_point f ≡ false)
      → get_or (translated process f) 0 no_equation ≡ equation_of process (before_of f) true f 0
  first_enclosed e = rw e (ap (λ m. get_or m 0 no_equation) (enclosed e))
