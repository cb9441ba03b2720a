-- In a well-formed model, what is left in the right side of an instance is an instance of the model again.
-- A sound term's value is below its range, and refusal 7 has items that its range fits.
use Rattle.std.specs.Prelude.{ℕ, zero, suc, ◌≤◌, ◌<◌, ◌≡◌, refl, true, length, get_or, leb}
use Rattle.std.proofs.Common.{arith, sym, subst, ap, length-append, ltb→lt, lt→ltb, leb→le}
use mathlib.Core.List.{List, [], ◌∷◌, ◌++◌}
use Rattle.std.proofs.lemmas.List.{length-map}
use Rattle.meaning.specs.Logic.{◌and◌, Is, is, never, Is→T, T→Is, Is→eq, eq→Is}
use Rattle.meaning.specs.Logic.{and_l, and_r, and_i}
use Rattle.meaning.specs.Formulas.{Term, number, variable, calculated, value, values}
use Rattle.meaning.specs.Formulas.{Formula, constant, joined, quantified, compared, instance}
use Rattle.meaning.specs.Models.{Model}
use Rattle.meaning.specs.Simplification.{simplified}
use Rattle.meaning.specs.Reach.{Instance, leaves, instances, body_of, next}
use Rattle.meaning.specs.Ranges.{is_range, sound_term, sound_terms, sound, term_range, arguments_fit}
use Rattle.meaning.specs.Ranges.{fits, signatures, within, typed, all_ranges}
use Rattle.meaning.specs.Ranges.{well_formed_equation, well_formed_equations, well_formed}
use Rattle.meaning.proofs.Calculations.{calculation_below}
use Rattle.meaning.specs.Members.{AllOf}
use Rattle.meaning.proofs.Members.{mem_one, mem_nothing}
use Rattle.meaning.proofs.Simplified.{join_left, over_left}
use Rattle.meaning.specs.Typed.{ranges_at}

-- within its ranges
pub within_length : (x rs : List ℕ) → Is (within x rs) → length x ≡ length rs
unfolding within
within_length [] [] h = refl
within_length [] (r ∷ rs) h = never h
within_length (a ∷ x) [] h = never h
within_length (a ∷ x) (r ∷ rs) h = ap suc (within_length x rs (and_r _ _ h))

pub within_at : (x rs : List ℕ) (i : ℕ) → Is (within x rs) → i < length rs → get_or x i 0 < get_or rs i 0
unfolding within
within_at [] [] i h l = absurd (omega arith)
within_at [] (r ∷ rs) i h l = never h
within_at (a ∷ x) [] i h l = never h
within_at (a ∷ x) (r ∷ rs) zero h l = ltb→lt a r (Is→T (and_l _ _ h))
within_at (a ∷ x) (r ∷ rs) (suc i) h l = within_at x rs i (and_r _ _ h) (omega arith)

within_more : (x rs : List ℕ) (a r : ℕ) → Is (within x rs) → a < r →
    Is (within (x ++ (a ∷ [])) (rs ++ (r ∷ [])))
unfolding within
within_more [] [] a r w l = and_i (T→Is _ (lt→ltb a r l)) is
within_more [] (q ∷ rs) a r w l = never w
within_more (b ∷ x) [] a r w l = never w
within_more (b ∷ x) (q ∷ rs) a r w l = and_i (and_l _ _ w) (within_more x rs a r (and_r _ _ w) l)

pub range_positive : (r : ℕ) → is_range r ≡ true → 0 < r
range_positive r h = leb→le 1 r (Is→T (and_l _ _ (eq→Is h)))

-- a sound term's value is below its range
pub value_below : (t : Term) (v rs : List ℕ) → Is (within v rs) → Is (sound_term (length rs) t) →
    value t v < term_range t rs
unfolding value term_range sound_term
value_below (number n) v rs w s = omega arith
value_below (variable i) v rs w s = within_at v rs i w (ltb→lt i _ (Is→T s))
value_below (calculated plus r a b) v rs w s =
    calculation_below plus r _ _ (range_positive r (Is→eq (and_l _ _ (and_l _ _ s))))

pub values_within : (ts : List Term) (ps v rs : List ℕ) → Is (within v rs) → Is (sound_terms (length rs) ts) →
    Is (arguments_fit ts ps rs) → Is (within (values ts v) ps)
unfolding within arguments_fit sound_terms
values_within [] [] v rs w s f = is
values_within [] (p ∷ ps) v rs w s f = never f
values_within (t ∷ ts) [] v rs w s f = never f
values_within (t ∷ ts) (p ∷ ps) v rs w s f =
    let below = value_below t v rs w (and_l _ _ s) in
    let fit = leb→le (term_range t rs) p (Is→T (and_l _ _ f)) in
    and_i (T→Is _ (lt→ltb _ p (omega arith))) (values_within ts ps v rs w (and_r _ _ s) (and_r _ _ f))

pub instances_typed : (declared : List (List ℕ)) (f : Formula) (v rs : List ℕ) (q : ℕ) → Is (within v rs) →
    Is (sound (length rs) q f) → Is (fits declared f rs) → AllOf (typed declared) (instances (simplified f v))
unfolding simplified sound fits instances leaves typed
instances_typed declared (constant b) v rs q w s t = λ i h. absurd (mem_nothing i h)
instances_typed declared (joined all f g) v rs q w s t =
    join_left (typed declared) all _ _ (instances_typed declared f v rs q w (and_l _ _ s) (and_l _ _ t))
    (instances_typed declared g v rs q w (and_r _ _ s) (and_r _ _ t))
instances_typed declared (quantified all r f) v rs q w s t =
    over_left (typed declared) all r _ (λ k l.
    instances_typed declared f (v ++ (k ∷ [])) (rs ++ (r ∷ [])) (suc q) (within_more v rs k r w l) deeper t)
  where
    deeper : Is (sound (length (rs ++ (r ∷ []))) (suc q) f)
    deeper =
        let longer : length (rs ++ (r ∷ [])) ≡ suc (length rs) = omega (arith, length-append rs (r ∷ [])) in
        rw longer (and_r _ _ s)
instances_typed declared (compared t a b) v rs q w s f = λ i h. absurd (mem_nothing i h)
instances_typed declared (instance e ts) v rs q w s f =
    λ i h. subst (λ (j : Instance). Is (typed declared j)) (sym (mem_one i _ h)) call
  where
    call : Is (typed declared (e ∷ values ts v))
    call = and_i (and_l _ _ f) (values_within ts (get_or declared e []) v rs w (and_r _ _ s) (and_r _ _ f))

-- an instance names one of the equations
pub typed_equation : (declared : List (List ℕ)) (e : ℕ) (x : List ℕ) → Is (typed declared (e ∷ x)) →
    e < length declared
unfolding typed
typed_equation declared e x t = ltb→lt e _ (Is→T (and_l _ _ t))

-- the parts of a well-formed model
pub well_formed_start : (model : Model) (start : Instance) → Is (well_formed model start) →
    Is (typed (signatures model) start)
unfolding well_formed
well_formed_start model start h = and_r _ _ h

pub well_formed_count : (model : Model) (start : Instance) → Is (well_formed model start) → length model ≤ 8
unfolding well_formed
well_formed_count model start h = leb→le _ 8 (Is→T (and_l _ _ (and_l _ _ h)))

pub well_formed_all : (model : Model) (start : Instance) → Is (well_formed model start) →
    Is (well_formed_equations (signatures model) model)
unfolding well_formed
well_formed_all model start h = and_r _ _ (and_l _ _ h)

pub signatures_length : (model : Model) → length (signatures model) ≡ length model
signatures_length model = length-map model (λ e. e.ranges)

-- what is known of equation e, by its ranges rs and its right side f
abbrev Checked : List (List ℕ) → List ℕ → Formula → Type 0
Checked declared rs f =
    Is (leb (length rs) 4 and all_ranges rs and sound (length rs) 0 f and fits declared f rs)

equation_checked : (declared : List (List ℕ)) (model : Model) → Is (well_formed_equations declared model) →
    (e : ℕ) → e < length (signatures model) → Checked declared (ranges_at model e) (body_of model e)
unfolding body_of well_formed_equations well_formed_equation
equation_checked declared [] h e l = absurd (omega arith)
equation_checked declared (m ∷ ms) h zero l = and_l _ _ h
equation_checked declared (m ∷ ms) h (suc e) l = equation_checked declared ms (and_r _ _ h) e (omega arith)

module _ (model : Model) (start : Instance) (w : Is (well_formed model start)) where
  module _ (e : ℕ) (l : e < length (signatures model)) where
    checked : Checked (signatures model) (ranges_at model e) (body_of model e)
    checked = equation_checked (signatures model) model (well_formed_all model start w) e l

    pub body_sound : Is (sound (length (ranges_at model e)) 0 (body_of model e))
    body_sound = and_r _ _ (and_l _ _ checked)

    pub body_fits : Is (fits (signatures model) (body_of model e) (ranges_at model e))
    body_fits = and_r _ _ checked

    pub ranges_count : length (ranges_at model e) ≤ 4
    ranges_count = leb→le _ 4 (Is→T (and_l _ _ (and_l _ _ (and_l _ _ checked))))

    pub ranges_sound : Is (all_ranges (ranges_at model e))
    ranges_sound = and_r _ _ (and_l _ _ (and_l _ _ checked))

  -- an instance of the model leaves only instances of the model
  pub next_typed : (i : Instance) → Is (typed (signatures model) i) →
      AllOf (typed (signatures model)) (next model i)
  unfolding next typed
  next_typed [] t = never t
  next_typed (e ∷ x) t =
      let l = typed_equation (signatures model) e x t in
      instances_typed (signatures model) (body_of model e) x (ranges_at model e) 0 (and_r _ _ t)
      (body_sound e l) (body_fits e l)
