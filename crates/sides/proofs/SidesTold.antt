-- What the functions of right sides promise, from what those that they call promise.
-- Each way out of a function is one law; where a formula is too long for a place, it does not stand there.
use Prim.Native.Nat.{ℕ, ◌+◌, ◌-◌, ◌*◌, ◌≤◌, ◌<◌}
use native.Mathlib.Omega.{arith}
use mathlib.Core.Path.{◌≡◌, refl, sym, ◌∙◌, ap, subst}
use mathlib.Core.Bool.{Bool, true, false}
use mathlib.Core.List.{List, [], ◌∷◌, map}
use lib.Dec.{eqb, leb}
use lib.ListN.{length, get_or, drop, set}
use borrow.Author.Tests.{le-leb, lt-leb, leb-true, leb-false}
use Rattle.std.specs.Prelude.{Option, Some, None, IfSome, is_some, unwrap_or}
use Rattle.meaning.specs.Logic.{cases}
use Rattle.meaning.specs.Formulas.{Term, Formula, joined, instance}
use Rattle.spelling.specs.Spelled.{either_code, spelled}
use Rattle.translation.specs.Processes.{Summand, Process}
use Rattle.translation.specs.Modal.{Actions}
use Rattle.translation.specs.Modal.{Modal, truth, combined, after, fixed_point, of_fixed_point}
use Rattle.translation.specs.RuleLaws.{condition_plain, condition_sound}
use Rattle.translation.specs.Translation.{substituted, guard}
use Rattle.translation.specs.Translation.{right_side, matching, joined_all, after_summand, four_quantifiers}
use Rattle.inputs.specs.Sheet.{Sheet}
use Rattle.scans.specs.Items.{condition, spelled_item}
use Rattle.scans.specs.Formulas.{Skips}
use Rattle.scans.specs.Summands.{nth_summand, Matches, FirstMatch}
use Rattle.scans.specs.declared.Skipped.{Skipped}
use Rattle.scans.proofs.SummandFrames.{own_count, condition_stands, ruled}
use Rattle.sides.specs.declared.Listed.{Listed}
use Rattle.sides.specs.declared.Spot.{Spot}
use Rattle.sides.specs.declared.Part.{Part}
use Rattle.sides.specs.Emitted.{Emits, Grows, Puts}
use Rattle.sides.specs.Steps.{Step, listed, Stacked, state_after, terms_in, item_after}
use Rattle.sides.specs.Told.{Laid, PartTold, InstanceTold, QuantifiersTold, before_of, equation_number, inner_place}
use Rattle.sides.specs.Told.{inside, moved, Ready, Spotted, Kept, side_of, EmitsFormula, SideTold, BothTold, FixedTold}
use Rattle.sides.specs.Told.{StepTold, ConnectiveTold, SummandsTold}
use Rattle.sides.proofs.EmittedLaws.{emits_full, emits_fifth, emits_fits, emits_next}
use Rattle.sides.proofs.EmittedLaws.{grows_then, grows_on}
use Rattle.sides.proofs.StateLaws.{summand_formed}
use Rattle.sides.proofs.StepList.{stacked_kept, stacked_more, kept_same, kept_then, kept_around, kept_written}
use Rattle.sides.proofs.Spots.{kind, modal_kind, kind_at, spot_inside, begins_inside, box_code, joined_code, truth_code}
use Rattle.sides.proofs.Spots.{equation_numbered}
use Rattle.sides.proofs.Spots.{behind_code, first_spotted, second_inside, second_small, second_number, second_spotted}
use Rattle.sides.proofs.Spots.{actions_stand, inner_inside, inside_spotted, fixed_small, named_number, named_small}
use Rattle.sides.proofs.Boxes.{inner_formula, emits_joined, emits_after, none_matching, first_matching}

-- nothing more is put: the count is 257
pub grows_no : {out left : List ℕ} {count : ℕ} → length left ≡ length out → Grows out count left 257
grows_no e = record { size = e; more = λ h. omega arith; full = λ h. refl; most = omega arith }

-- the byte, the frame and the count under other names
pub byte_as : {a b : ℕ} {out left : List ℕ} {count r : ℕ} → a ≡ b → Puts true (a ∷ []) out count left r
    → Puts true (b ∷ []) out count left r
byte_as e p = rw (← e) p

pub puts_as : {fits : Bool} {w out one left : List ℕ} {count c r : ℕ} → one ≡ left → c ≡ r → Puts fits w out count left r
    → Puts fits w out count one c
puts_as e h p = rw (e, h) p

-- ---- one step
-- how many variables of its own the summand has
own_of : {process : Process} {f : Modal} {sheet : List ℕ} {slot own : ℕ} → own ≡ get_or sheet (256 * slot + 1) 0 → (j : ℕ)
    → Sheet process f sheet → slot ≡ j + 1 → j < length process.summands → own ≡ length (nth_summand process j).own
own_of {process} own_is j sh e l = own_is ∙ rw e (own_count (nth_summand process j) (sh.summand j l))

module _ (sheet places : List ℕ) (spot : Spot) (slot own : ℕ) (steps : List Listed) (out : List ℕ) (count : ℕ)
    (own_is : own ≡ get_or sheet (256 * slot + 1) 0) where
  pub step_fifth : 4 < spot.q + own → StepTold sheet places spot slot steps out count steps out 257
  step_fifth g = record {
    grows = grows_no refl;
    kept = kept_same steps spot;
    written = λ l. absurd (omega arith);
    told = λ process f h b A j ss laid st stacked e l q.
        let own_many = own_of own_is j laid.sheet_is e l in
        emits_fifth (lt-leb (spot.q + length (nth_summand process j).own) 4 (omega (arith, own_many))) refl;
  }

  pub step_full : 256 < count → StepTold sheet places spot slot steps out count steps out 257
  step_full g = record {
    grows = grows_no refl;
    kept = kept_same steps spot;
    written = λ l. absurd (omega arith);
    told = λ process f h b A j ss laid st stacked e l q. emits_full g refl;
  }

  module _ (all : Bool) (few : spot.q + own ≤ 4) (near : count ≤ 257) (all_is : all ≡ eqb (get_or sheet (4352 + spot.at) 0) 0x30)
      {middle before : List ℕ} {b c : ℕ} (quantified : QuantifiersTold sheet slot all out count middle b)
      (coded : Puts true (either_code all 0x13 0x12 ∷ []) middle b before c) where
    head_grows : Grows out count before c
    head_grows = record {
      size = coded.0.size ∙ quantified.size;
      more = λ h. let on = quantified.more near in cases (leb b 256)
          (λ l. let x = coded.0.more (leb-true b 256 l) in omega (arith, on.0))
          (λ l. let x = coded.0.full (leb-false b 256 l) in omega arith);
      full = λ h. let on = quantified.more near in coded.0.full (omega (arith, on.0));
      most = coded.0.most;
    }

    pub step_long : 256 < c → StepTold sheet places spot slot steps out count steps before 257
    step_long g = record {
      grows = grows_no (coded.0.size ∙ quantified.size);
      kept = kept_same steps spot;
      written = λ l. absurd (omega arith);
      told = λ process f h a A j ss laid st stacked e l q.
          let x = quantified.told process f j laid.sheet_is e l near in
          let fits = le-leb (spot.q + length (nth_summand process j).own) 4
          (omega (arith, own_of own_is j laid.sheet_is e l)) in
          let same = all_is ∙ box_code sheet (4352 + spot.at) a A h st in
          emits_fits (sym fits) (rw (← same) (emits_next x (emits_next coded.1 (emits_full g refl))));
    }

    module _ (ready : Ready spot count) (long : length steps ≡ 128) (short : c ≤ 256) where
      pub step_room : spot.depth < 128
      step_room =
          let on = grows_on head_grows near in
          let more = head_grows.more (omega (arith, on.0)) in
          omega (arith, ready.near)

      abbrev condition_part : Part
      condition_part = record { at = 2 + own; step = spot.depth + 1; flip = all }

      condition_told : {written : List Listed} {left : List ℕ} {r : ℕ} → written ≡ set steps spot.depth (listed slot spot.q)
          → PartTold sheet places condition_part written before c left r
          → (process : Process) (f : Modal) (j : ℕ) (ss : List Step) → Laid process f sheet places
          → Stacked process steps spot.depth ss → slot ≡ j + 1 → j < length process.summands → spot.q ≤ 4
          → let s = nth_summand process j in
          Emits true (spelled (substituted (terms_in process (record { index = j; quantifiers = spot.q }) ss)
          (guard all s.condition))) before c left r
      unfolding item_after spelled_item
      condition_told is_written part process f j ss laid stacked e l q =
          let x = nth_summand process j in
          let s : Step = record { index = j; quantifiers = spot.q } in
          let there = condition_stands x (laid.sheet_is.summand j l) in
          let formed = summand_formed process f laid.formed j l in
          part.told process f s ss (condition x.condition) laid
          (rw (is_written, e) (stacked_more process steps spot.depth ss s stacked l q (omega (arith, long, step_room))))
          (condition_plain process.ranges x formed) (condition_sound process.ranges x formed)
          (rw (own_of own_is j laid.sheet_is e l) there)

      pub step_told : {written : List Listed} {left : List ℕ} {r : ℕ} → written ≡ set steps spot.depth (listed slot spot.q)
          → PartTold sheet places condition_part written before c left r
          → StepTold sheet places spot slot steps out count written left r
      step_told is_written part = record {
        grows = grows_then head_grows part.grows;
        kept = rw is_written (kept_written spot steps (listed slot spot.q));
        written = λ l.
            let on = grows_on head_grows near in
            let more = head_grows.more (omega (arith, on.0)) in
            let then = part.grows.more short in
            (is_written, omega arith, omega (arith, own_is));
        told = λ process f h a A j ss laid st stacked e l q.
            let x = quantified.told process f j laid.sheet_is e l near in
            let fits = le-leb (spot.q + length (nth_summand process j).own) 4
            (omega (arith, own_of own_is j laid.sheet_is e l)) in
            let same = all_is ∙ box_code sheet (4352 + spot.at) a A h st in
            emits_fits (sym fits) (rw (← same) (emits_next x (emits_next coded.1
            (condition_told is_written part process f j ss laid stacked e l q))));
      }

-- ---- the instance of a fixed point's equation
pub fixed_told : {sheet places : List ℕ} {spot : Spot} {number e : ℕ} {steps : List Listed} {out : List ℕ} {count : ℕ}
    {left : List ℕ} {r : ℕ}
    → (number < 255 → e ≡ equation_number sheet number)
    → InstanceTold sheet places e spot.depth steps out count left r
    → FixedTold sheet places spot number steps out count left r
fixed_told {sheet} {places} {spot} {number} {e} {steps} {out} {count} {left} {r} x i = record {
  grows = i.grows;
  told = λ process f ss laid small stacked.
      subst (λ (n : ℕ). Emits true (spelled (instance n (state_after process ss))) out count left r)
      (x small ∙ equation_numbered laid.sheet_is number) (i.told process f ss laid stacked);
}

-- ---- a formula at a spot, by its code
abbrev pub code_here : List ℕ → Spot → ℕ
code_here sheet spot = get_or sheet (4352 + spot.at) 0

abbrev Emitted : List ℕ → List ℕ → Spot → List Listed → List ℕ → ℕ → List ℕ → ℕ → Modal → Type 0
Emitted sheet places spot steps out count left r g = (process : Process) (f : Modal) (ss : List Step)
    → Laid process f sheet places → Spotted sheet spot g → Stacked process steps spot.depth ss
    → EmitsFormula spot.q (side_of process f spot ss g) out count left r

-- another kind of formula does not stand there
other_kind : {X : Type 0} {sheet : List ℕ} {spot : Spot} {g : Modal} (n : ℕ) → kind (code_here sheet spot) ≡ n
    → Spotted sheet spot g → (modal_kind g ≡ n → ⊥) → X
other_kind {X} {sheet} {spot} {g} n k p clash =
    absurd (clash (sym (kind_at sheet (4352 + spot.at) g p.stands) ∙ k))

module _ {sheet places : List ℕ} {spot : Spot} {steps : List Listed} {out : List ℕ} {count : ℕ} where
  pub side_full : 256 < count → SideTold sheet places spot steps out count steps out 257
  side_full g = record {
    grows = grows_no refl;
    kept = kept_same steps spot;
    told = λ process f h ss laid p st. emits_full g refl;
  }

  pub side_truth : {left : List ℕ} {r : ℕ}
      → ((n : ℕ) → kind (code_here sheet spot) ≡ n → 1 ≤ n → n ≤ 4 → ⊥)
      → Puts true (code_here sheet spot ∷ []) out count left r → SideTold sheet places spot steps out count steps left r
  unfolding right_side four_quantifiers spelled
  side_truth {left} {r} other e = record {
    grows = e.0;
    kept = kept_same steps spot;
    told = λ process f g ss laid p st. by g process f ss laid p st;
  }
    where
      none : {X : Type 0} (g : Modal) → Spotted sheet spot g → 1 ≤ modal_kind g → modal_kind g ≤ 4 → X
      none g p a b = absurd (other (modal_kind g) (kind_at sheet (4352 + spot.at) g p.stands) a b)

      by : (g : Modal) → Emitted sheet places spot steps out count left r g
      by (truth b) process f ss laid p st = rw (← truth_code sheet (4352 + spot.at) b p.stands) e.1
      by (combined all g h) process f ss laid p st = none (combined all g h) p (omega arith) (omega arith)
      by (after all A g) process f ss laid p st = none (after all A g) p (omega arith) (omega arith)
      by (fixed_point greatest g) process f ss laid p st = none (fixed_point greatest g) p (omega arith) (omega arith)
      by (of_fixed_point m) process f ss laid p st = none (of_fixed_point m) p (omega arith) (omega arith)

  pub side_fixed : {left : List ℕ} {r : ℕ} → kind (code_here sheet spot) ≡ 3
      → FixedTold sheet places spot spot.number steps out count left r
      → SideTold sheet places spot steps out count steps left r
  unfolding right_side four_quantifiers
  side_fixed {left} {r} k e = record {
    grows = e.grows;
    kept = kept_same steps spot;
    told = λ process f g ss laid p st. by g process f ss laid p st;
  }
    where
      by : (g : Modal) → Emitted sheet places spot steps out count left r g
      by (truth b) process f ss laid p st = other_kind 3 k p (λ x. omega arith)
      by (combined all g h) process f ss laid p st = other_kind 3 k p (λ x. omega arith)
      by (after all A g) process f ss laid p st = other_kind 3 k p (λ x. omega arith)
      by (fixed_point greatest g) process f ss laid p st = e.told process f ss laid (fixed_small p) st
      by (of_fixed_point m) process f ss laid p st = other_kind 3 k p (λ x. omega arith)

  pub side_named : {left : List ℕ} {r number : ℕ} → kind (code_here sheet spot) ≡ 4
      → number ≡ get_or sheet (4352 + spot.at + 1) 0
      → FixedTold sheet places spot number steps out count left r → SideTold sheet places spot steps out count steps left r
  unfolding right_side four_quantifiers
  side_named {left} {r} {number} k n e = record {
    grows = e.grows;
    kept = kept_same steps spot;
    told = λ process f g ss laid p st. by g process f ss laid p st;
  }
    where
      by : (g : Modal) → Emitted sheet places spot steps out count left r g
      by (truth b) process f ss laid p st = other_kind 4 k p (λ x. omega arith)
      by (combined all g h) process f ss laid p st = other_kind 4 k p (λ x. omega arith)
      by (after all A g) process f ss laid p st = other_kind 4 k p (λ x. omega arith)
      by (fixed_point greatest g) process f ss laid p st = other_kind 4 k p (λ x. omega arith)
      by (of_fixed_point m) process f ss laid p st =
          let same = n ∙ named_number p in
          rw (← same) (e.told process f ss laid (omega (arith, same, named_small p)) st)

  module _ {steps_left : List Listed} {left : List ℕ} {r : ℕ} where
    pub side_both : kind (code_here sheet spot) ≡ 1 → BothTold sheet places spot steps out count steps_left left r
        → SideTold sheet places spot steps out count steps_left left r
    side_both k e = record {
      grows = e.grows;
      kept = e.kept;
      told = λ process f g ss laid p st. by g process f ss laid p st;
    }
      where
        by : (g : Modal) → Emitted sheet places spot steps out count left r g
        by (truth b) process f ss laid p st = other_kind 1 k p (λ x. omega arith)
        by (combined all g h) process f ss laid p st = e.told process f g h all ss laid p st
        by (after all A g) process f ss laid p st = other_kind 1 k p (λ x. omega arith)
        by (fixed_point greatest g) process f ss laid p st = other_kind 1 k p (λ x. omega arith)
        by (of_fixed_point m) process f ss laid p st = other_kind 1 k p (λ x. omega arith)

    pub side_summands : kind (code_here sheet spot) ≡ 2
        → SummandsTold sheet places spot 1 steps out count steps_left left r
        → SideTold sheet places spot steps out count steps_left left r
    unfolding right_side
    side_summands k e = record {
      grows = e.grows;
      kept = e.kept;
      told = λ process f g ss laid p st. by g process f ss laid p st;
    }
      where
        by : (g : Modal) → Emitted sheet places spot steps out count left r g
        by (truth b) process f ss laid p st = other_kind 2 k p (λ x. omega arith)
        by (combined all g h) process f ss laid p st = other_kind 2 k p (λ x. omega arith)
        by (after all A g) process f ss laid p st = e.told process f g all A ss laid p st (omega arith)
        by (fixed_point greatest g) process f ss laid p st = other_kind 2 k p (λ x. omega arith)
        by (of_fixed_point m) process f ss laid p st = other_kind 2 k p (λ x. omega arith)

-- ---- a connective and both formulas
module _ {sheet places : List ℕ} {spot : Spot} {steps : List Listed} {out : List ℕ} {count : ℕ} where
  pub both_late : 254 < spot.at → BothTold sheet places spot steps out count steps out 257
  both_late g = record {
    grows = grows_no refl;
    kept = kept_same steps spot;
    told = λ process f h i all ss laid p st.
        let there = begins_inside sheet (spot.at + 1) h laid.sheet_is.size (first_spotted p).stands in
        absurd (omega arith);
  }

  module _ {one two : List ℕ} {steps₁ : List Listed} {c d : ℕ} (coded : Puts true (code_here sheet spot ∷ []) out count one c)
      (first : SideTold sheet places (behind_code spot) steps one c steps₁ two d) where
    first_kept : Kept steps spot steps₁
    first_kept = kept_around spot (omega arith) first.kept

    -- there was no more room
    pub both_full : 256 < d → BothTold sheet places spot steps out count steps₁ two 257
    unfolding right_side
    both_full full = record {
      grows = grows_no (grows_then coded.0 first.grows).size;
      kept = first_kept;
      told = λ process f g h all ss laid p st.
          emits_joined spot.q all _ _ (rw (← joined_code sheet (4352 + spot.at) all g h p.stands) coded.1)
          (first.told process f g ss laid (first_spotted p) st) (emits_full full refl);
    }

    pub both_long : {next : Skipped} → Skips sheet (spot.at + 1) next → 255 < next.next
        → BothTold sheet places spot steps out count steps₁ two 257
    both_long s g = record {
      grows = grows_no (grows_then coded.0 first.grows).size;
      kept = first_kept;
      told = λ process f h i all ss laid p st.
          let there = second_inside p s laid.sheet_is.size in
          absurd (omega arith);
    }

    pub both_told : {next : Skipped} → Skips sheet (spot.at + 1) next → {second : Spot} {steps₂ : List Listed} {left : List ℕ}
        {r : ℕ}
        → second.depth ≡ spot.depth
        → (spot.number + next.count ≤ 255 → second ≡ moved spot next.next next.count)
        → SideTold sheet places second steps₁ two d steps₂ left r
        → BothTold sheet places spot steps out count steps₂ left r
    unfolding right_side
    both_told {next} s {second} {steps₂} {left} {r} deep is_second e = record {
      grows = grows_then (grows_then coded.0 first.grows) e.grows;
      kept = kept_then first_kept (kept_around spot (omega (arith, deep)) e.kept);
      told = λ process f g h all ss laid p st.
          let size = laid.sheet_is.size in
          let stacked = stacked_kept process steps steps₁ spot.depth ss first_kept.same st in
          let a = first.told process f g ss laid (first_spotted p) st in
          let at_second = is_second (omega (arith, second_small p s size)) in
          let b = (subst (λ (x : Spot). SideTold sheet places x steps₁ two d steps₂ left r) at_second e
          ).told process f h ss laid (second_spotted p s size) stacked in
          emits_joined spot.q all _ _ (rw (← joined_code sheet (4352 + spot.at) all g h p.stands) coded.1)
          a (rw (second_number p s size) at b);
    }

-- ---- a box or a diamond over the matching summands from a place on
module _ {sheet places : List ℕ} {spot : Spot} {from : ℕ} {steps : List Listed} {out : List ℕ} {count : ℕ} where
  pub summands_late : 255 < inner_place sheet spot.at → SummandsTold sheet places spot from steps out count steps out 257
  summands_late g = record {
    grows = grows_no refl;
    kept = kept_same steps spot;
    told = λ process f h all A ss laid p st some.
        let there = inner_inside sheet spot.at all A h p.stands laid.sheet_is.size in
        absurd (omega arith);
  }

  pub summands_full : 256 < count → SummandsTold sheet places spot from steps out count steps out 257
  summands_full g = record {
    grows = grows_no refl;
    kept = kept_same steps spot;
    told = λ process f h all A ss laid p st some. emits_full g refl;
  }

  pub summands_none : {all : Bool} {slot : ℕ} {left : List ℕ} {r : ℕ} → all ≡ eqb (code_here sheet spot) 0x30 → from ≤ 17
      → Matches sheet places (spot.at + 1) from slot → 16 < slot → Puts true (either_code all 0x11 0x10 ∷ []) out count left r
      → SummandsTold sheet places spot from steps out count steps left r
  unfolding joined_all spelled four_quantifiers
  summands_none {all} {slot} {left} {r} all_is low m g e = record {
    grows = e.0;
    kept = kept_same steps spot;
    told = λ process f h a A ss laid p st some.
        let same = all_is ∙ box_code sheet (4352 + spot.at) a A h p.stands in
        let found = m.first process f A laid.sheet_is laid.placed
        (actions_stand sheet spot.at a A h p.stands) some low in
        let few = (ruled process f laid.formed).few in
        rw (none_matching found some g few, ← same) e.1;
  }

-- what is known before the step of the first matching summand is put: a connective stands there, if another one matches
pub record Connected (sheet places : List ℕ) (spot : Spot) (from : ℕ) (steps : List Listed) (out : List ℕ) (count slot next : ℕ)
    (one : List ℕ)
    (c : ℕ) : Type 0 where
  pub low : from ≤ 17
  pub high : slot ≤ 16
  pub ready : Ready spot count
  pub long : length steps ≡ 128
  pub all : Bool
  pub all_is : all ≡ eqb (code_here sheet spot) 0x30
  pub found : Matches sheet places (spot.at + 1) from slot
  pub follows : Matches sheet places (spot.at + 1) (slot + 1) next
  pub joined : next ≤ 16 → Puts true (either_code all 0x12 0x13 ∷ []) out count one c
  pub bare : 16 < next → (one ≡ out) × (c ≡ count)

some_below : (o : Option ℕ) → unwrap_or o 17 ≤ 16 → is_some o ≡ true
some_below (Some n) l = refl
some_below None l = absurd (omega arith)

none_above : (o : Option ℕ) → IfSome o (λ n. n < 17) → 16 < unwrap_or o 17 → is_some o ≡ false
none_above (Some n) within g = absurd (omega arith)
none_above None within g = refl

pub connected : {sheet places : List ℕ} {spot : Spot} {from : ℕ} {steps : List Listed} {out : List ℕ} {count slot : ℕ}
    {one : List ℕ}
    {c : ℕ} (next : Option ℕ) → from ≤ 17 → slot < 17 → Ready spot count → length steps ≡ 128 → (all : Bool)
    → all ≡ eqb (code_here sheet spot) 0x30 → Matches sheet places (spot.at + 1) from slot → IfSome next (λ n. n < 17)
    → Matches sheet places (spot.at + 1) (slot + 1) (unwrap_or next 17) → ConnectiveTold all (is_some next) out count one c
    → Connected sheet places spot from steps out count slot (unwrap_or next 17) one c
connected next low high ready long all all_is found within follows told = record {
  low = low;
  high = omega arith;
  ready = ready;
  long = long;
  all = all;
  all_is = all_is;
  found = found;
  follows = follows;
  joined = λ l. told.joined (some_below next l);
  bare = λ g. told.bare (none_above next within g);
}

module _ {sheet places : List ℕ} {spot : Spot} {from : ℕ} {steps : List Listed} {out : List ℕ} {count slot next : ℕ}
    {one : List ℕ} {c : ℕ}
    (x : Connected sheet places spot from steps out count slot next one c) where
  -- the count has not fallen
  connected_on : (count ≤ c) × (c ≤ 257)
  connected_on = cases (leb next 16)
      (λ l. grows_on (x.joined (leb-true next 16 l)).0 (omega (arith, x.ready.most)))
      (λ l. let same = x.bare (leb-false next 16 l) in (omega (arith, same.1), omega (arith, same.1, x.ready.most)))

  connected_size : length one ≡ length out
  connected_size = cases (leb next 16)
      (λ l. (x.joined (leb-true next 16 l)).0.size)
      (λ l. ap length (x.bare (leb-false next 16 l)).0)

  pub connected_ready : c ≤ 256 → Ready spot c
  connected_ready l = record { near = omega (arith, x.ready.near, connected_on.0); most = l }

-- and once it is put
module _ {sheet places : List ℕ} {spot : Spot} {from : ℕ} {steps : List Listed} {out : List ℕ} {count slot next : ℕ}
    {one : List ℕ} {c : ℕ}
    (x : Connected sheet places spot from steps out count slot next one c) {steps₁ : List Listed} {two : List ℕ} {d : ℕ}
    (step : StepTold sheet places spot slot steps one c steps₁ two d) where
  first_grows : Grows out count two d
  first_grows = cases (leb next 16)
      (λ l. grows_then (x.joined (leb-true next 16 l)).0 step.grows)
      (λ l. let same = x.bare (leb-false next 16 l) in
      subst (λ (o : List ℕ). Grows o count two d) same.0 (subst (λ (n : ℕ). Grows one n two d) same.1 step.grows))

  pub deeper_few : d ≤ 256 → (2 * spot.depth + 2 ≤ d) × (spot.q + get_or sheet (256 * slot + 1) 0 ≤ 4)
  deeper_few l = let w = step.written l in (omega (arith, w.1, (connected_on x).0, x.ready.near), w.2)

  pub deeper_ready : (inner own : ℕ) → d ≤ 256 → Ready (inside spot inner own) d
  deeper_ready inner own l = record { near = omega (arith, (deeper_few l).0); most = l }

  module _ {process : Process} {f g : Modal} {all : Bool} {A : Actions} {ss : List Step} (laid : Laid process f sheet places)
      (p : Spotted sheet spot (after all A g)) (st : Stacked process steps spot.depth ss) (some : 1 ≤ from) where
    abbrev this : Summand
    this = nth_summand process (slot - 1)

    abbrev the_step : Step
    the_step = record { index = slot - 1; quantifiers = spot.q }

    abbrev side_inside : List Term → ℕ → Formula
    side_inside = right_side process (before_of f) g spot.number

    abbrev for_summand : Summand → Formula
    for_summand = after_summand process all side_inside (state_after process ss) spot.q

    abbrev over_summands : ℕ → Formula
    over_summands n = joined_all all (map for_summand (matching A (drop (n - 1) process.summands)))

    abbrev formula_inside : Formula
    formula_inside = inner_formula process all side_inside (state_after process ss) spot.q this

    slot_is : slot ≡ slot - 1 + 1
    slot_is = omega (arith, x.found.onward x.low)

    first_match : {a b : ℕ} → Matches sheet places (spot.at + 1) a b → 1 ≤ a → a ≤ 17 → FirstMatch process A a b
    first_match m = m.first process f A laid.sheet_is laid.placed (actions_stand sheet spot.at all A g p.stands)

    there : slot - 1 < length process.summands
    there = ((first_match x.found some x.low).matched (slot - 1) slot_is (omega (arith, x.high))).0

    -- its step, and what is put for the formula inside
    one_emits : {three : List ℕ} {e : ℕ} → EmitsFormula (spot.q + length this.own) formula_inside two d three e
        → EmitsFormula spot.q (for_summand this) one c three e
    one_emits i = emits_after process all side_inside (state_after process ss) spot.q this p.four
        (condition_plain process.ranges this (summand_formed process f laid.formed (slot - 1) there))
        (step.told process f g all A (slot - 1) ss laid p.stands st slot_is there p.four) i

    inside_emits : d ≤ 256 → {steps₂ : List Listed} {three : List ℕ} {e : ℕ}
        → SideTold sheet places (spot_inside sheet spot slot) steps₁ two d steps₂ three e
        → EmitsFormula (spot.q + length this.own) formula_inside two d three e
    unfolding state_after
    inside_emits l i =
        let w = step.written l in
        let room : spot.depth < length steps = omega (arith, (deeper_few l).0, x.long) in
        let stacked = stacked_more process steps spot.depth ss the_step st there p.four room in
        let list = w.0 ∙ ap (λ (n : ℕ). set steps spot.depth (listed n spot.q)) slot_is in
        rw own_is_count at (i.told process f g (the_step ∷ ss) laid (inside_spotted p slot w.2)
        (subst (λ (l : List Listed). Stacked process l (spot.depth + 1) (the_step ∷ ss)) (sym list) stacked))
      where
        own_is_count : get_or sheet (256 * slot + 1) 0 ≡ length this.own
        own_is_count = own_of refl (slot - 1) laid.sheet_is slot_is there

    abbrev from_place : ℕ → List Summand
    from_place n = matching A (drop n process.summands)

    found_first : from_place (from - 1) ≡ this ∷ from_place slot
    found_first = (first_matching (first_match x.found some x.low) some (slot - 1) slot_is x.high).1

    behind : from_place slot ≡ from_place (slot + 1 - 1)
    behind = let e : slot ≡ slot + 1 - 1 = omega arith in ap from_place e

    follows_first : FirstMatch process A (slot + 1) next
    follows_first = first_match x.follows (omega arith) (omega (arith, x.high))

    -- no other matches
    only_this : 16 < next → over_summands from ≡ for_summand this
    unfolding joined_all
    only_this g =
        let none = none_matching follows_first (omega arith) g (ruled process f laid.formed).few in
        ap (λ (l : List Summand). joined_all all (map for_summand l))
        (found_first ∙ ap (λ (l : List Summand). this ∷ l) (behind ∙ none))

    last_emits : 16 < next → {left : List ℕ} {r : ℕ} → EmitsFormula (spot.q + length this.own) formula_inside two d left r
        → EmitsFormula spot.q (over_summands from) out count left r
    last_emits g i =
        let same = x.bare g in
        rw (only_this g, ← same.0, ← same.1) (one_emits i)

    -- or others match too
    this_and_more : next ≤ 16 → over_summands from ≡ joined all (for_summand this) (over_summands next)
    unfolding joined_all
    this_and_more l =
        let late = x.follows.onward (omega (arith, x.high)) in
        let next_is : next ≡ next - 1 + 1 = omega arith in
        let second = first_matching follows_first (omega arith) (next - 1) next_is l in
        ap (λ (l : List Summand). joined_all all (map for_summand l))
        (found_first ∙ ap (λ (l : List Summand). this ∷ l) (behind ∙ second.1))
        ∙ ap (λ (l : List Summand). joined all (for_summand this) (joined_all all (map for_summand l)))
        (sym second.1 ∙ second.0)

    more_emits : next ≤ 16 → {three left : List ℕ} {e r : ℕ}
        → EmitsFormula (spot.q + length this.own) formula_inside two d three e
        → EmitsFormula spot.q (over_summands next) three e left r
        → EmitsFormula spot.q (over_summands from) out count left r
    more_emits l i rest =
        let same = x.all_is ∙ box_code sheet (4352 + spot.at) all A g p.stands in
        rw (this_and_more l) (emits_joined spot.q all (for_summand this) (over_summands next)
        (rw (← same) (x.joined l).1) (one_emits i) rest)

  -- ---- the ways out
  pub summands_long : 256 < d → SummandsTold sheet places spot from steps out count steps₁ two 257
  summands_long g = record {
    grows = grows_no first_grows.size;
    kept = step.kept;
    told = λ process f h all A ss laid p st some. cases (leb next 16)
        (λ l. more_emits laid p st some (leb-true next 16 l) (emits_full {left = two} {r = 257} g refl)
        (emits_full (omega arith) refl))
        (λ l. last_emits laid p st some (leb-false next 16 l) (emits_full g refl));
  }

  module _ (short : d ≤ 256) {steps₂ : List Listed} {three : List ℕ} {e : ℕ}
      (i : SideTold sheet places (spot_inside sheet spot slot) steps₁ two d steps₂ three e) where
    pub later_ready : e ≤ 256 → Ready spot e
    later_ready l = record { near = omega (arith, (deeper_few short).0, i.grows.more short); most = l }

    inner_kept : Kept steps spot steps₂
    inner_kept = kept_then step.kept (kept_around spot (omega arith) i.kept)

    -- there was no more room
    pub summands_over : 256 < e → SummandsTold sheet places spot from steps out count steps₂ three 257
    summands_over g = record {
      grows = grows_no (grows_then first_grows i.grows).size;
      kept = inner_kept;
      told = λ process f h all A ss laid p st some. cases (leb next 16)
          (λ l. more_emits laid p st some (leb-true next 16 l) (inside_emits laid p st some short i) (emits_full g refl))
          (λ l. let full : e ≡ 257 = omega (arith, i.grows.most) in
          last_emits laid p st some (leb-false next 16 l) (rw (← full) (inside_emits laid p st some short i)));
    }

    pub summands_last : 16 < next → SummandsTold sheet places spot from steps out count steps₂ three e
    summands_last g = record {
      grows = grows_then first_grows i.grows;
      kept = inner_kept;
      told = λ process f h all A ss laid p st some. last_emits laid p st some g (inside_emits laid p st some short i);
    }

    pub summands_more : {steps₃ : List Listed} {left : List ℕ} {r : ℕ} → next ≤ 16
        → SummandsTold sheet places spot next steps₂ three e steps₃ left r
        → SummandsTold sheet places spot from steps out count steps₃ left r
    summands_more l rest = record {
      grows = grows_then (grows_then first_grows i.grows) rest.grows;
      kept = kept_then inner_kept rest.kept;
      told = λ process f h all A ss laid p st some.
          let late = x.follows.onward (omega (arith, x.high)) in
          let stacked = stacked_kept process steps steps₂ spot.depth ss inner_kept.same st in
          more_emits laid p st some l (inside_emits laid p st some short i)
          (rest.told process f h all A ss laid p stacked (omega arith));
    }
