-- The proof of the cycle of calls {put_both, put_side, put_summands}.
-- `put_side` answers by the kind of the code; `connected` is what `put_summands` knows of the first matching summand.
use Prim.Native.Nat.{ℕ, ◌+◌, ◌≤◌, ◌<◌}
use native.Mathlib.Omega.{arith}
use mathlib.Core.Path.{◌≡◌, refl, sym, ap, ◌∙◌}
use lib.Dec.{eqb}
use lib.ListN.{length, get_or}
use borrow.Author.Rules.{rules}
use Rattle.std.specs.Prelude.{Option, unwrap_or}
use Rattle.sides.proofs.Spots.{kind, kind_joined, kind_box, kind_fixed, kind_other, same_byte, no_byte}
use Rattle.sides.proofs.SidesTold.{byte_as, side_full, side_truth, side_fixed, side_named, side_both}
use Rattle.sides.proofs.SidesTold.{both_late, both_full, both_long, both_told, summands_late, summands_none}
use Rattle.sides.proofs.SidesTold.{connected, step_full}
use Rattle.sides.proofs.SidesTold.{summands_long, summands_over, side_summands, summands_last, summands_more}
use Rattle.sides.proofs.Source.+put_both_put_side_put_summands.Goals as goal

-- ---- `put_side`
pub put_side-returns-in-18 : goal.put_side-returns-in-18
put_side-returns-in-18 t c =
    let low : 0x12 ≤ c.code-code.result = omega arith in
    let high : c.code-code.result < 0x14 = omega arith in
    record {
      few = c.put_both.ensures.few;
      told = side_both (sym (ap kind c.code-code.ensures) ∙ kind_joined low high) c.put_both.ensures.told;
    }

pub put_side-returns-in-48 : goal.put_side-returns-in-48
put_side-returns-in-48 t c =
    let low : 0x30 ≤ c.code-code.result = omega arith in
    let high : c.code-code.result < 0x32 = omega arith in
    record {
      few = c.put_summands.ensures.few;
      told = side_summands (sym (ap kind c.code-code.ensures) ∙ kind_box low high) c.put_summands.ensures.told;
    }

pub put_side-returns-in-50 : goal.put_side-returns-in-50
put_side-returns-in-50 t c =
    let low : 0x32 ≤ c.code-code.result = omega arith in
    let high : c.code-code.result < 0x34 = omega arith in
    record {
      few = c.put_fixed-in-50.ensures.few;
      told = side_fixed (sym (ap kind c.code-code.ensures) ∙ kind_fixed low high) c.put_fixed-in-50.ensures.told;
    }

pub put_side-returns-in-52 : goal.put_side-returns-in-52
unfolding kind
put_side-returns-in-52 t c =
    let place : 4353 + c.from.result ≡ 4352 + c.args.spot.at + 1 = omega (arith, c.from.ensures) in
    record {
      few = c.put_fixed.ensures.few;
      told = side_named (sym (ap kind c.code-code.ensures) ∙ ap kind c.in-52.is)
          (c.element-number.ensures ∙ ap (λ (n : ℕ). get_or c.args.self.sheet.now n 0) place) c.put_fixed.ensures.told;
    }

pub put_side-returns-in_default : goal.put_side-returns-in_default
put_side-returns-in_default t c =
    let other : kind c.code-code.result ≡ 0 = kind_other (λ a b. grind arith) (λ a b. grind arith) in
    record {
      few = c.put.ensures.few;
      told = side_truth (λ n e low high. omega (arith, sym (ap kind c.code-code.ensures ∙ e) ∙ other))
          (byte_as c.code-code.ensures c.put.ensures.told);
    }

-- ---- `put_both`
pub put_both-returns-in_err-at : goal.put_both-returns-in_err-at
put_both-returns-in_err-at t c =
    rw c.from_residual.ensures (record { few = tt; told = both_late (omega (arith, c.in_err-at.ensures)) })

pub put_both-returns-in_err-c : goal.put_both-returns-in_err-c
put_both-returns-in_err-c t c =
    rw c.from_residual-in_err-c.ensures (record {
      few = tt;
      told = both_full (byte_as c.code.ensures c.in_err-c.ensures.told) (side_full (omega arith)) (omega arith);
    })

pub put_both-returns-in_err-d : goal.put_both-returns-in_err-d
put_both-returns-in_err-d t c =
    let behind : c.in_ok-at.at ≡ c.args.spot.at + 1 = omega (arith, c.in_ok-at.ensures) in
    let first = rw behind at c.in_err-d.ensures.told in
    rw c.from_residual-in_err-d.ensures
    (record { few = tt; told = both_full (byte_as c.code.ensures c.in_ok-c.ensures.told) first (omega arith) })

pub put_both-returns-in_err-next : goal.put_both-returns-in_err-next
put_both-returns-in_err-next t c =
    let behind : c.in_ok-at.at ≡ c.args.spot.at + 1 = omega (arith, c.in_ok-at.ensures) in
    let first = rw behind at c.in_ok-d.ensures.told in
    let skips = rw behind at c.skip-s.ensures in
    let far = no_byte c.try_from.result c.try_from.ensures c.in_err-next.ensures.variant in
    rw c.from_residual-in_err-next.ensures
    (record { few = tt; told = both_long (byte_as c.code.ensures c.in_ok-c.ensures.told) first skips far })

pub put_both-returns : goal.put_both-returns
put_both-returns t c =
    let behind : c.in_ok-at.at ≡ c.args.spot.at + 1 = omega (arith, c.in_ok-at.ensures) in
    let first = rw behind at c.in_ok-d.ensures.told in
    let skips = rw behind at c.skip-s.ensures in
    let next = same_byte c.try_from.result c.try_from.ensures c.in_ok-next.ensures.value in
    let second = rw next at c.moved-second.ensures.0 in
    record {
      few = c.put_side-2.ensures.few;
      told = both_told (byte_as c.code.ensures c.in_ok-c.ensures.told) first skips c.moved-second.ensures.2 second
          c.put_side-2.ensures.told;
    }

-- ---- `put_summands`
pub put_summands-returns-in_err-inner : goal.put_summands-returns-in_err-inner
put_summands-returns-in_err-inner t c =
    let far = no_byte c.try_from.result c.try_from.ensures c.in_err-inner.ensures.variant in
    rw c.from_residual.ensures
    (record { few = tt; told = summands_late (omega (arith, far, c.inner_place.ensures)) })

pub put_summands-returns-in_default : goal.put_summands-returns-in_default
put_summands-returns-in_default t c =
    record {
      few = c.put.ensures.few;
      told = summands_none (ap (λ (n : ℕ). eqb n 0x30) c.code-all.ensures) c.requires.1 c.in_default.ensures.first
          (omega arith) (byte_as c.either_code.ensures c.put.ensures.told);
    }

pub put_summands-returns-in_err-c : goal.put_summands-returns-in_err-c
put_summands-returns-in_err-c t c =
    let long : length c.args.steps.now ≡ 128 = search rules in
    let x = connected _ c.requires.1 c.in-Some.ensures.within c.requires.0 long (eqb c.code-all.result 0x30)
    (ap (λ (n : ℕ). eqb n 0x30) c.code-all.ensures) c.in-Some.ensures.first c.next_matching-next.ensures.within
    c.next_matching-next.ensures.first (rw c.is_some.ensures at c.in_err-c.ensures.told) in
    rw c.from_residual-in_err-c.ensures
    (record { few = tt; told = summands_long x (step_full _ _ _ _ _ _ _ _ refl (omega arith)) (omega arith) })

pub put_summands-returns-in_err-d : goal.put_summands-returns-in_err-d
put_summands-returns-in_err-d t c =
    let long : length c.args.steps.now ≡ 128 = search rules in
    let x = connected _ c.requires.1 c.in-Some.ensures.within c.requires.0 long (eqb c.code-all.result 0x30)
    (ap (λ (n : ℕ). eqb n 0x30) c.code-all.ensures) c.in-Some.ensures.first c.next_matching-next.ensures.within
    c.next_matching-next.ensures.first (rw c.is_some.ensures at c.in_ok-c.ensures.told) in
    rw c.from_residual-in_err-d.ensures
    (record { few = tt; told = summands_long x c.in_err-d.ensures.told (omega arith) })

pub put_summands-returns-in_err-e : goal.put_summands-returns-in_err-e
put_summands-returns-in_err-e t c =
    let long : length c.args.steps.now ≡ 128 = search rules in
    let x = connected _ c.requires.1 c.in-Some.ensures.within c.requires.0 long (eqb c.code-all.result 0x30)
    (ap (λ (n : ℕ). eqb n 0x30) c.code-all.ensures) c.in-Some.ensures.first c.next_matching-next.ensures.within
    c.next_matching-next.ensures.first (rw c.is_some.ensures at c.in_ok-c.ensures.told) in
    let place = same_byte c.try_from.result c.try_from.ensures c.in_ok-inner.ensures.value ∙ c.inner_place.ensures in
    let inner = rw (c.inside.ensures, place, c.own.ensures) at c.in_err-e.ensures.told in
    rw c.from_residual-in_err-e.ensures (record {
      few = tt;
      told = summands_over x c.in_ok-d.ensures.told c.in_ok-d.ensures.few inner (omega arith);
    })

pub put_summands-returns-in-Some-next : goal.put_summands-returns-in-Some-next
put_summands-returns-in-Some-next t c =
    let long : length c.args.steps.now ≡ 128 = search rules in
    let x = connected _ c.requires.1 c.in-Some.ensures.within c.requires.0 long (eqb c.code-all.result 0x30)
    (ap (λ (n : ℕ). eqb n 0x30) c.code-all.ensures) c.in-Some.ensures.first c.next_matching-next.ensures.within
    c.next_matching-next.ensures.first (rw c.is_some.ensures at c.in_ok-c.ensures.told) in
    let place = same_byte c.try_from.result c.try_from.ensures c.in_ok-inner.ensures.value ∙ c.inner_place.ensures in
    let inner = rw (c.inside.ensures, place, c.own.ensures) at c.in_ok-e.ensures.told in
    let next : c.in-Some-next.next ≡ unwrap_or c.next_matching-next.result 17 =
    sym (ap (λ (o : Option ℕ). unwrap_or o 17) c.in-Some-next.is) in
    let within : c.in-Some-next.next < 17 = rw c.in-Some-next.is at c.next_matching-next.ensures.within in
    record {
      few = c.put_summands.ensures.few;
      told = summands_more x c.in_ok-d.ensures.told c.in_ok-d.ensures.few inner (omega (arith, next, within))
          (rw next at c.put_summands.ensures.told);
    }

pub put_summands-returns-in-None : goal.put_summands-returns-in-None
put_summands-returns-in-None t c =
    let long : length c.args.steps.now ≡ 128 = search rules in
    let x = connected _ c.requires.1 c.in-Some.ensures.within c.requires.0 long (eqb c.code-all.result 0x30)
    (ap (λ (n : ℕ). eqb n 0x30) c.code-all.ensures) c.in-Some.ensures.first c.next_matching-next.ensures.within
    c.next_matching-next.ensures.first (rw c.is_some.ensures at c.in_ok-c.ensures.told) in
    let place = same_byte c.try_from.result c.try_from.ensures c.in_ok-inner.ensures.value ∙ c.inner_place.ensures in
    let inner = rw (c.inside.ensures, place, c.own.ensures) at c.in_ok-e.ensures.told in
    let last : unwrap_or c.next_matching-next.result 17 ≡ 17 =
    ap (λ (o : Option ℕ). unwrap_or o 17) c.in-None.is in
    record {
      few = c.in_ok-e.ensures.few;
      told = summands_last x c.in_ok-d.ensures.told c.in_ok-d.ensures.few inner (omega (arith, last));
    }
