-- The fixed point of a number, sought code by code: it is one of those in the formulas that are still to come.
-- A code of a fixed point is the first of them; where it is not the one, the number of those before it falls by one.
use Prim.Native.Nat.{ℕ, suc, ◌+◌, ◌-◌, ◌≤◌, ◌<◌}
use native.Mathlib.Omega.{arith}
use mathlib.Core.Path.{◌≡◌, sym, ap, ◌∙◌, subst}
use mathlib.Core.Bool.{true, false}
use mathlib.Core.List.{List, [], ◌∷◌, ◌++◌}
use lib.ListN.{length, get_or}
use Rattle.spelling.specs.Stands.{Stands}
use Rattle.translation.specs.Modal.{Modal, fixed_point, fixed_points}
use Rattle.inputs.specs.InputFrames.{spelled_modal}
use Rattle.scans.specs.FixedPoints.{Fixed, fixed_in, no_fixed}
use Rattle.scans.specs.Equations.{fixed_count}
use Rattle.scans.specs.Formulas.{is_fixed, width_at, Finds}
use Rattle.scans.proofs.ScannedFormulas.{spelled_modals, fixed_in_all, modals_in, one_alone, one_fixed}
use Rattle.scans.proofs.ScannedFormulas.{turn, first_stands, none_past, code_at, width_small}

-- what is sought is fixed point number `left` of the formulas fs, which stand at a place
pub record Sought (s : List ℕ) (sought : Fixed) (left at : ℕ) (fs : List Modal) : Type 0 where
  pub there : Stands s (4352 + at) (spelled_modals fs)
  pub enough : left < length (fixed_in_all fs)
  pub same : get_or (fixed_in_all fs) left no_fixed ≡ sought

module _ {s : List ℕ} {sought : Fixed} {left at : ℕ} where
  no_more : Sought s sought left at [] → ⊥
  unfolding fixed_in_all
  no_more p = omega (arith, p.enough)

  passed : (fs : List Modal) → Sought s sought left at fs → is_fixed (code_at s at) ≡ false
      → (gs : List Modal) × Sought s sought left (at + width_at s at) gs
  passed [] p e = absurd (no_more p)
  passed (f ∷ fs) p e =
      let t = turn s at f fs p.there in (
        modals_in f ++ fs,
        record {
          there = t.rest;
          enough = omega (arith, p.enough, ap length (t.other e));
          same = ap (λ (l : List Fixed). get_or l left no_fixed) (sym (t.other e)) ∙ p.same;
        },
      )

  one_less : (fs : List Modal) → Sought s sought left at fs → is_fixed (code_at s at) ≡ true → 0 < left
      → (gs : List Modal) × Sought s sought (left - 1) (at + width_at s at) gs
  one_less [] p e l = absurd (no_more p)
  one_less (f ∷ fs) p e l =
      let t = turn s at f fs p.there in
      let it = t.fixed e in
      let next : left ≡ suc (left - 1) = omega arith in (
        modals_in f ++ fs,
        record {
          there = t.rest;
          enough = omega (arith, p.enough, ap length it.follow);
          same =
              sym (ap (λ (l : List Fixed). get_or l left no_fixed) it.follow ∙
              ap (λ (n : ℕ). get_or (it.it ∷ fixed_in_all (modals_in f ++ fs)) n no_fixed) next) ∙ p.same;
        },
      )

  found : (fs : List Modal) → Sought s sought left at fs → is_fixed (code_at s at) ≡ true → left ≡ 0
      → Stands s (4352 + at) (spelled_modal (fixed_point sought.greatest sought.inner))
  found [] p e z = absurd (no_more p)
  found (f ∷ fs) p e z =
      let it = (turn s at f fs p.there).fixed e in
      let is_sought : it.it ≡ sought =
      sym (ap (λ (l : List Fixed). get_or l 0 no_fixed) it.follow) ∙
      ap (λ (n : ℕ). get_or (fixed_in_all (f ∷ fs)) n no_fixed) (sym z) ∙ p.same in
      let named : f ≡ fixed_point sought.greatest sought.inner =
      it.is_it ∙ ap (λ (x : Fixed). fixed_point x.greatest x.inner) is_sought in
      subst (λ (g : Modal). Stands s (4352 + at) (spelled_modal g)) named (first_stands s at f fs p.there)

  not_past : (fs : List Modal) → Sought s sought left at fs → length s ≡ 4608 → at < 256
  not_past [] p size = absurd (no_more p)
  not_past (f ∷ fs) p size = none_past s at f fs size p.there

-- the whole
pub record Seeking (s : List ℕ) (number left at : ℕ) : Type 0 where
  pub near : at ≤ 258
  pub so_far : (f : Modal) → length s ≡ 4608 → Stands s 4353 (spelled_modal f) → number < fixed_points f
      → (fs : List Modal) × Sought s (get_or (fixed_in f) number no_fixed) left at fs

pub seeking_start : (s : List ℕ) (number : ℕ) → Seeking s number number 1
seeking_start s number = record {
  near = omega arith;
  so_far = λ f size h l. (
    f ∷ [],
    record {
      there = subst (Stands s 4353) (sym (one_alone f)) h;
      enough = omega (arith, ap length (one_fixed f), fixed_count f);
      same = ap (λ (x : List Fixed). get_or x number no_fixed) (one_fixed f);
    },
  );
}

module _ {s : List ℕ} {number left at : ℕ} (k : Seeking s number left at) where
  pub seeking_passed : at < 256 → {width : ℕ} → width ≡ width_at s at → is_fixed (code_at s at) ≡ false
      → Seeking s number left (at + width)
  seeking_passed l ew e = record {
    near = omega (arith, (width_small s at).1, ew);
    so_far = λ f size h m. let p = k.so_far f size h m in rw ew (passed p.0 p.1 e);
  }

  pub seeking_less : at < 256 → {width : ℕ} → width ≡ width_at s at → is_fixed (code_at s at) ≡ true → 0 < left
      → Seeking s number (left - 1) (at + width)
  seeking_less l ew e some = record {
    near = omega (arith, (width_small s at).1, ew);
    so_far = λ f size h m. let p = k.so_far f size h m in rw ew (one_less p.0 p.1 e some);
  }

  pub seeking_found : at < 256 → is_fixed (code_at s at) ≡ true → left ≡ 0 → Finds s number at
  seeking_found l e z = record {
    near = omega arith;
    found = λ f size h m. let p = k.so_far f size h m in found p.0 p.1 e z;
  }

  pub seeking_end : 256 ≤ at → Finds s number 256
  seeking_end l = record {
    near = omega arith;
    found = λ f size h m.
        let p = k.so_far f size h m in
        absurd (omega (arith, not_past p.0 p.1 size));
  }
