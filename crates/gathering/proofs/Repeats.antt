-- Words that are added again change nothing, and what is taken several times in a row is taken as if once.
-- A word that was added stands where it first stood; where there was no room for all, nothing changes any more.
use Prim.Native.Nat.{ℕ, zero, suc, ◌+◌, ◌<◌}
use native.Mathlib.Omega.{arith}
use mathlib.Core.Path.{◌≡◌, refl, sym, ap, ap₂, ◌∙◌, fun_ext}
use mathlib.Core.Bool.{Bool, true, false, true≢false, cond}
use mathlib.Core.List.{List, [], ◌∷◌, append-nil}
use lib.Dec.{eqb, ltb}
use lib.ListN.{length}
use borrow.Author.Tests.{lt-ltb, ltb-true, eq-eqb, eqb-true}
use Rattle.meaning.specs.Logic.{over, cases}
use Rattle.truth.specs.Bits.{put_in, updated}
use Rattle.evaluator.specs.Values.{index_of}
use Rattle.gathering.specs.declared.Shape.{Shape}
use Rattle.gathering.specs.FoundWords.{FoundWords, has_word, add-one, add, number_of, noted}
use Rattle.gathering.specs.Shapes.{joined_shape, Gist, joined_gist, no_gist}
use Rattle.gathering.specs.Gathered.{Takes}
use Rattle.gathering.proofs.FoundWordsLaws.{add_append, noted_append, add_known}
use Rattle.gathering.proofs.Noting.{fitted, numbered}
use Rattle.gathering.proofs.ShapeLaws.{gist_last, joined_associative, joined_thrice}

-- ---- a number in a set; from 512 on none is in it and none is put into it
abbrev Has : (ℕ → Bool) → ℕ → Type 0
Has set n = n < 512 → set n ≡ true

put_has : (set : ℕ → Bool) (n : ℕ) → Has (put_in set n true) n
unfolding updated
put_has set n h = rw (lt-ltb n 512 h, eq-eqb n n refl) refl

put_keeps : (set : ℕ → Bool) (j n : ℕ) → Has set n → Has (put_in set j true) n
unfolding updated
put_keeps set j n h l = go (ltb j 512)
  where
    go : (b : Bool) → cond b (updated set j true) set n ≡ true
    go true = cases (eqb n j) (λ e. rw e refl) (λ e. rw e (h l))
    go false = h l

-- a number that is in a set is put into it in vain
put_again : (set : ℕ → Bool) (n : ℕ) → Has set n → put_in set n true ≡ set
unfolding updated
put_again set n h = cases (ltb n 512) (λ l. rw l (fun_ext λ k. there (h (ltb-true n 512 l)) k)) (λ l. rw l refl)
  where
    there : set n ≡ true → (k : ℕ) → cond (eqb k n) true (set k) ≡ set k
    there e k = cases (eqb k n)
        (λ q. rw q (sym (ap set (eqb-true k n q) ∙ e)))
        (λ q. rw q refl)

-- ---- words that stand in a list, their numbers in a set
Known : List ℕ → (ℕ → Bool) → List ℕ → Type 0
Known l set [] = Unit {0}
Known l set (w ∷ ws) = (has_word l w ≡ true) × Has set (index_of l w) × Known l set ws

module _ (room : ℕ) where
  noted_keeps : (s : FoundWords) (ws : List ℕ) (set : ℕ → Bool) (n : ℕ) → Has set n → Has (noted room s ws set) n
  unfolding noted
  noted_keeps s [] set n h = h
  noted_keeps s (w ∷ ws) set n h =
      noted_keeps (add-one room s w) ws (put_in set (number_of s w) true) n (put_keeps set (number_of s w) n h)

  -- all that was added is known then
  all_known : (s : FoundWords) (ws : List ℕ) (set : ℕ → Bool) → (add room s ws).1 ≡ false
      → Known (add room s ws).0 (noted room s ws set) ws
  unfolding add noted Known
  all_known s [] set fits = tt
  all_known s (w ∷ ws) set fits =
      let t = add-one room s w in
      let l = (add room t ws).0 in
      let set' = put_in set (number_of s w) true in
      let n = numbered room s.0 s.1 w ws (fitted room s.0 s.1 (w ∷ ws) fits) fits in (
        lt-ltb (index_of l w) (length l) (omega (arith, n.there, n.below)),
        rw n.there (noted_keeps t ws set' (number_of s w) (put_has set (number_of s w))),
        all_known t ws set' fits,
      )

  -- what is known changes nothing, nor does anything where one more was found than there is room
  vain : (l : List ℕ) (over : Bool) (ws : List ℕ) (set : ℕ → Bool) → (over ≡ false → Known l set ws)
      → (add room (l, over) ws ≡ (l, over)) × (noted room (l, over) ws set ≡ set)
  unfolding add add-one noted Known
  vain l over [] set h = (refl, refl)
  vain l true (w ∷ ws) set h = vain l true ws set (λ e. absurd (true≢false e))
  vain l false (w ∷ ws) set h =
      let k = h refl in
      rw (add_known room l w k.0, put_again set (index_of l w) k.1) (vain l false ws set (λ _. k.2))

  module _ (s : FoundWords) (ws : List ℕ) (set : ℕ → Bool) where
    again : (add room (add room s ws) ws ≡ add room s ws)
        × (noted room (add room s ws) ws (noted room s ws set) ≡ noted room s ws set)
    again = vain (add room s ws).0 (add room s ws).1 ws (noted room s ws set) (all_known s ws set)

    pub add_again : add room (add room s ws) ws ≡ add room s ws
    add_again = again.0

    pub noted_again : noted room (add room s ws) ws (noted room s ws set) ≡ noted room s ws set
    noted_again = again.1

-- ---- the same several times in a row
abbrev pub copies : Bool → Gist → ℕ → ℕ → Gist
copies all y v n = over (joined_gist all) (no_gist all) v n (λ _. y)

module _ (all : Bool) (y : Gist) where
  module _ (room : ℕ) where
    copies_taken : (v n : ℕ) (s : FoundWords) (set : ℕ → Bool)
        → (add room s (copies all y v (suc n)).0 ≡ add room s y.0)
        × (noted room s (copies all y v (suc n)).0 set ≡ noted room s y.0 set)
    unfolding over
    copies_taken v zero s set = rw append-nil (refl, refl)
    copies_taken v (suc n) s set =
        let t = add room s y.0 in
        let set' = noted room s y.0 set in
        let more = copies_taken (v + 1) n t set' in (
          add_append room s y.0 _ ∙ more.0 ∙ add_again room s y.0 set,
          noted_append room s y.0 _ set ∙ more.1 ∙ noted_again room s y.0 set,
        )

  abbrev twice : Shape
  twice = joined_shape all y.1 y.1

  one_shape : (v : ℕ) → (copies all y v 1).1 ≡ y.1
  unfolding over
  one_shape v = ap (λ (x : Gist). x.1) (gist_last all y)

  more_shape : (v n : ℕ) → (copies all y v (suc (suc n))).1 ≡ twice
  unfolding over
  more_shape v zero = ap (joined_shape all y.1) (one_shape (v + 1))
  more_shape v (suc n) = ap (joined_shape all y.1) (more_shape (v + 1) n) ∙ joined_thrice all y.1

  -- some of them beside as many have the shape of any greater number of them
  copies_shape : (v a n : ℕ)
      → joined_shape all (copies all y v (suc a)).1 (copies all y v (suc a)).1 ≡ (copies all y v (suc (suc n))).1
  copies_shape v zero n = ap₂ (joined_shape all) (one_shape v) (one_shape v) ∙ sym (more_shape v n)
  copies_shape v (suc a) n =
      ap₂ (joined_shape all) (more_shape v a) (more_shape v a)
      ∙ sym (joined_associative all y.1 y.1 twice)
      ∙ ap (joined_shape all y.1) (joined_thrice all y.1) ∙ joined_thrice all y.1 ∙ sym (more_shape v n)

  -- where some of them were taken, more of them are: the shape is joined with itself
  pub takes_copies : {room : ℕ} {s e : FoundWords} {set set' : ℕ → Bool} {shape : Shape} (v a n : ℕ) → 0 < a
      → a < n → Takes room s e set set' shape (copies all y v a)
      → Takes room s e set set' (joined_shape all shape shape) (copies all y v n)
  takes_copies v zero n l m t = absurd (omega arith)
  takes_copies v (suc a) zero l m t = absurd (omega arith)
  takes_copies v (suc a) (suc zero) l m t = absurd (omega arith)
  takes_copies {room} {s} {set = set} v (suc a) (suc (suc n)) l m t =
      let some = copies_taken room v a s set in
      let more = copies_taken room v (suc n) s set in
      record {
        added = t.added ∙ some.0 ∙ sym more.0;
        noted = t.noted ∙ some.1 ∙ sym more.1;
        shaped = ap₂ (joined_shape all) t.shaped t.shaped ∙ copies_shape v a n;
      }
