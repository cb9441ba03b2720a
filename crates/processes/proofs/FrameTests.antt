-- A process by the tests that the reader makes.
-- Where a frame is as long as its count says, the bytes behind the count are its ranges, and those behind them its values.
use Prim.Native.Nat.{ℕ, ◌+◌, ◌≤◌, ◌<◌}
use native.Mathlib.Omega.{arith}
use mathlib.Core.Path.{◌≡◌, refl}
use mathlib.Core.Bool.{false, ◌&&◌}
use mathlib.Core.List.{List}
use lib.ListN.{length}
use borrow.Author.Tests.{le-leb, lt-leb, eq-eqb, ne_eqb}
use Rattle.meaning.specs.Ranges.{all_ranges, within}
use Rattle.formulas.proofs.Ended.{part_taken}
use Rattle.inputs.specs.Inputs.{count_of, ranges_of, is_process}
use Rattle.processes.specs.SummandTests.{counted_bytes, following_bytes}

pub ranges_taken : (f : List ℕ) → 2 + count_of f ≤ length f → counted_bytes f ≡ ranges_of f
ranges_taken f h = part_taken f 2 (count_of f) h

module _ (f : List ℕ) {count : ℕ} (same : count ≡ count_of f) where
  pub process_many : 4 < count → false ≡ is_process f
  unfolding is_process
  process_many h = rw (← same, lt-leb count 4 h) refl

  module _ (few : count ≤ 4) where
    pub process_size : (length f ≡ 2 + count + count → ⊥) → false ≡ is_process f
    unfolding is_process
    process_size h = rw (← same, le-leb count 4 few, ne_eqb (length f) (2 + count + count) h) refl

    pub process_rest : length f ≡ 2 + count + count
        → all_ranges (counted_bytes f) && within (following_bytes f) (counted_bytes f) ≡ is_process f
    unfolding is_process
    process_rest h =
        let ranges = ranges_taken f (omega (arith, h, same)) in
        let values = part_taken f (2 + count_of f) (count_of f) (omega (arith, h, same)) in
        rw (
          ranges,
          values,
          le-leb (count_of f) 4 (omega (arith, same, few)),
          eq-eqb (length f) (2 + count_of f + count_of f) (omega (arith, h, same)),
        ) refl
