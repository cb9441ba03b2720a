-- The numbers noted as words are added are those that the words have in the table in the end.
-- A word that was added stays where it stands: what is added later comes behind.
use Prim.Native.Nat.{ℕ, suc, ◌/◌, ◌≤◌, ◌<◌}
use native.Mathlib.Omega.{arith}
use native.Mathlib.Decide.{dec_lt}
use mathlib.Core.Path.{◌≡◌, refl, sym, ap, ◌∙◌}
use mathlib.Core.Bool.{Bool, true, false, true≢false, cond, ◌||◌}
use mathlib.Core.List.{List, [], ◌∷◌, ◌++◌}
use lib.Dec.{eqb, ltb}
use lib.ListN.{length, length-append}
use borrow.Author.Tests.{lt-ltb, le-ltb, ltb-true, ltb-false, eq-eqb}
use Rattle.meaning.specs.Logic.{cases}
use Rattle.truth.specs.Bits.{bit_of, put_in, updated}
use Rattle.truth.specs.Rows.{with_bit, Becomes}
use Rattle.evaluator.specs.Values.{index_of}
use Rattle.instances.specs.Graph.{numbers}
use Rattle.instances.proofs.Numbers.{Inside, index_longer}
use Rattle.gathering.specs.FoundWords.{FoundWords, has_word, add-one, add, number_of, noted}
use Rattle.gathering.proofs.FoundWordsLaws.{add_over, add_behind, add_known, add_new, add_last}

-- ---- a number that is put into a set of eight words
pub marked_number : {entry exit : List ℕ} (at : ℕ) → length entry ≡ 8 → Becomes entry exit (with_bit entry at)
    → bit_of exit ≡ put_in (bit_of entry) at true
marked_number {entry} at eight b = b.bits ∙ same (dec_lt at 512)
  where
    same : Dec (at < 512) → with_bit entry at ≡ put_in (bit_of entry) at true
    same (yes h) = rw (lt-ltb (at / 64) (length entry) (omega (arith, eight)), lt-ltb at 512 h) refl
    same (no h) = rw (le-ltb (at / 64) (length entry) (omega (arith, eight)), le-ltb at 512 (omega arith)) refl

-- ---- where a word stands
-- a word that does not stands behind, where it comes next
index_next : (l : List ℕ) (w : ℕ) → length l ≤ index_of l w
    → (index_of (l ++ (w ∷ [])) w ≡ index_of l w) × (index_of l w ≡ length l)
unfolding index_of
index_next [] w h = (rw (eq-eqb w w refl) refl, refl)
index_next (x ∷ l) w h = go (eqb x w) h (index_next l w)
  where
    go : (b : Bool) → suc (length l) ≤ cond b 0 (suc (index_of l w))
        → (length l ≤ index_of l w → (index_of (l ++ (w ∷ [])) w ≡ index_of l w) × (index_of l w ≡ length l))
        → (cond b 0 (suc (index_of (l ++ (w ∷ [])) w)) ≡ cond b 0 (suc (index_of l w)))
        × (cond b 0 (suc (index_of l w)) ≡ suc (length l))
    go true h e = absurd (omega arith)
    go false h e = let both = e (omega arith) in (ap suc both.0, ap suc both.1)

-- ---- what is added comes behind
-- w stands in the list, at the number that it had or was to get in front
pub record Stands (l : List ℕ) (w n : ℕ) : Type 0 where
  pub there : index_of l w ≡ n
  pub below : n < length l

stands_on : {l : List ℕ} {w n : ℕ} (m : List ℕ) → Stands l w n → Stands (l ++ m) w n
stands_on {l} {w} m s = record {
  there = index_longer l m w (omega (arith, s.there, s.below)) ∙ s.there;
  below = omega (arith, s.below, length-append l m);
}

module _ (room : ℕ) where
  -- where nothing went over, one word more stands in the table
  one_stands : (l : List ℕ) (w : ℕ) → (add-one room (l, false) w).1 ≡ false
      → Stands (add-one room (l, false) w).0 w (index_of l w)
  one_stands l w fits = cases (has_word l w)
      (λ h. rw (add_known room l w h) (record { there = refl; below = ltb-true (index_of l w) (length l) h }))
      (λ h. cases (ltb (length l) room)
      (λ r. let next = index_next l w (ltb-false (index_of l w) (length l) h) in
      rw (add_new room l w h (ltb-true (length l) room r))
      (record { there = next.0; below = omega (arith, next.1, length-append l (w ∷ [])) }))
      (λ r. absurd (true≢false (rw (add_last room l w h (ltb-false (length l) room r)) at fits))))

  -- no word that stands in the table is moved
  all_keep : (s : FoundWords) (ws : List ℕ) {w n : ℕ} → Stands s.0 w n → Stands (add room s ws).0 w n
  all_keep s ws h = let begins = add_behind room s ws in rw begins.is (stands_on begins.rest h)

  -- where nothing goes over in the end, nothing went over before
  pub fitted : (l : List ℕ) (over : Bool) (ws : List ℕ) → (add room (l, over) ws).1 ≡ false → over ≡ false
  fitted l true ws h = absurd (true≢false (rw add_over at h))
  fitted l false ws h = refl

  -- the number of a word that is added, in front and in the end
  pub numbered : (l : List ℕ) (over : Bool) (w : ℕ) (ws : List ℕ) → over ≡ false
      → (add room (add-one room (l, over) w) ws).1 ≡ false
      → Stands (add room (add-one room (l, over) w) ws).0 w (number_of (l, over) w)
  numbered l true w ws o h = absurd (true≢false o)
  numbered l false w ws o h =
      let s = add-one room (l, false) w in
      all_keep s ws (one_stands l w (fitted s.0 s.1 ws h))

  -- a number below 512 that is put into a set
  put_number : (set : ℕ → Bool) (j k : ℕ) (rest : Bool) → j < 512
      → (put_in set j true k || rest) ≡ (set k || (eqb k j || rest))
  unfolding updated
  put_number set j k rest h = rw (lt-ltb j 512 h) (go (eqb k j) (set k))
    where
      go : (b c : Bool) → (cond b true c || rest) ≡ (c || (b || rest))
      go true true = refl
      go true false = refl
      go false c = refl

  pub noted_numbers : (s : FoundWords) (ws : List ℕ) (set : ℕ → Bool) → (add room s ws).1 ≡ false
      → length (add room s ws).0 ≤ 512 → (k : ℕ)
      → noted room s ws set k ≡ (set k || numbers (add room s ws).0 ws k)
  unfolding add noted numbers
  noted_numbers s [] set fits few k = go (set k)
    where
      go : (b : Bool) → b ≡ (b || false)
      go true = refl
      go false = refl
  noted_numbers s (w ∷ ws) set fits few k =
      let t = add-one room s w in
      let n = numbered s.0 s.1 w ws (fitted s.0 s.1 (w ∷ ws) fits) fits in
      noted_numbers t ws (put_in set (number_of s w) true) fits few k
      ∙ put_number set (number_of s w) k (numbers (add room t ws).0 ws k) (omega (arith, n.below))
      ∙ ap (λ (j : ℕ). set k || (eqb k j || numbers (add room t ws).0 ws k)) (sym n.there)

  -- each word that is added stands in the table
  pub all_inside : (s : FoundWords) (ws : List ℕ) → (add room s ws).1 ≡ false → Inside (add room s ws).0 ws
  unfolding add
  all_inside s [] fits = tt
  all_inside s (w ∷ ws) fits =
      let n = numbered s.0 s.1 w ws (fitted s.0 s.1 (w ∷ ws) fits) fits in
      (omega (arith, n.there, n.below), all_inside (add-one room s w) ws fits)
