-- One word added to a table: the ways out of `add_word`.
-- A table that is written behind the words found begins with them and then the new word.
use Prim.Native.Nat.{ℕ, ◌+◌, ◌≤◌, ◌<◌}
use native.Mathlib.Omega.{arith}
use native.Mathlib.Numerals.{add-one as one_more}
use mathlib.Core.Path.{◌≡◌, refl, sym, ap, ◌∙◌}
use mathlib.Core.Bool.{false}
use Rattle.std.proofs.Common.{Some, None}
use mathlib.Core.List.{List, [], ◌∷◌, ◌++◌}
use lib.ListN.{length, take, set, length-set}
use lib.Seq.{length-take-le, take-suc-set}
use borrow.Author.Tests.{lt-ltb, le-ltb}
use Rattle.evaluator.specs.Values.{index_of}
use Rattle.gathering.specs.FoundWords.{FoundWords, has_word, add-one, number_of}
use Rattle.gathering.proofs.FoundWordsLaws.{add_known, add_new, add_last}
use Rattle.gathering.specs.Filling.{found_of, found_words, added_word, Adds, found_fits, found_over}

-- there is room for the n words found, and w is not among them
pub record New (t : List ℕ) (n w at : ℕ) : Type 0 where
  pub fits : n ≤ length t
  pub looked : at ≡ index_of (take n t) w
  pub absent : n ≤ at

module _ (t : List ℕ) (n w : ℕ) where
  abbrev room : ℕ
  room = length t

  pub adds_full : n ≤ room + 1 → room < n → Adds room t t n w (added_word n None)
  unfolding add-one
  adds_full few h = record {
    within = few;
    size = refl;
    added = rw (lt-ltb room n h) refl;
    numbered = rw (lt-ltb room n h) refl;
  }

  module _ (fits : n ≤ room) where
    known_length : length (take n t) ≡ n
    known_length = length-take-le n t (omega arith)

    added : {x s : FoundWords} → x ≡ s → add-one room (take n t, false) w ≡ s
        → x ≡ add-one room (found_words t (found_of room n)) w
    added p q = p ∙ sym q ∙ sym (ap (λ (s : FoundWords). add-one room s w) (found_fits room t fits))

    numbered : {at : ℕ} → at ≡ index_of (take n t) w → at ≡ number_of (found_words t (found_of room n)) w
    numbered e = e ∙ sym (ap (λ (s : FoundWords). number_of s w) (found_fits room t fits))

    pub adds_there : {at : ℕ} → at ≡ index_of (take n t) w → at < n → Adds room t t n w (added_word n (Some at))
    adds_there e h =
        let there = lt-ltb (index_of (take n t) w) (length (take n t)) (omega (arith, known_length, e)) in
        let known = add_known room (take n t) w there in
        record {
          within = omega arith;
          size = refl;
          added = added (found_fits room t fits) known;
          numbered = numbered e;
        }

module _ {t : List ℕ} {n w at : ℕ} (new : New t n w at) where
  long : length (take n t) ≡ n
  long = known_length t n w new.fits

  unknown : has_word (take n t) w ≡ false
  unknown = le-ltb (index_of (take n t) w) (length (take n t)) (omega (arith, long, new.absent, new.looked))

  pub adds_past : length t ≤ n → Adds (length t) t t n w (added_word (n + 1) (Some at))
  adds_past h =
      let whole : length t ≡ n = omega (arith, new.fits) in
      let last = add_last n (take n t) w unknown (omega (arith, long)) in
      record {
        within = omega (arith, new.fits);
        size = refl;
        added = added t n w new.fits (found_over (length t) t (omega arith)) (rw whole last);
        numbered = numbered t n w new.fits new.looked;
      }

  pub adds_behind : n < length t → Adds (length t) t (set t n w) n w (added_word (n + 1) (Some at))
  adds_behind h =
      let longer : take (n + 1) (set t n w) ≡ take n t ++ (w ∷ []) = rw (one_more n) (take-suc-set t n w (omega arith)) in
      record {
        within = omega arith;
        size = length-set t n w;
        added = added t n w new.fits
            (found_fits (length t) (set t n w) (omega arith) ∙ ap (λ (k : List ℕ). (k, false)) longer)
            (add_new (length t) (take n t) w unknown (omega (arith, long)));
        numbered = numbered t n w new.fits new.looked;
      }
