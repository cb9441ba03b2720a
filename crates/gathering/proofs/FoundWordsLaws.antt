-- Adding the words of instances to a table is finding the fresh ones among them, as far as there is room.
-- By induction over the instances: a word is in the table exactly when its instance is among those found, since typed
-- instances have different words.
use Prim.Native.Nat.{ℕ, suc, ◌≤◌, ◌<◌, min}
use native.Mathlib.Omega.{arith}
use native.Mathlib.Decide.{dec_lt}
use mathlib.Core.Path.{◌≡◌, refl, sym, ap, ◌∙◌}
use mathlib.Core.Bool.{Bool, true, false, cond}
use mathlib.Core.List.{List, [], ◌∷◌, ◌++◌, map, map-append, append_assoc, append-nil}
use mathlib.Core.Logic.{◌⊎◌, inl, inr}
use lib.Dec.{eqb, ltb, eqb→eq, leb-suc-suc}
use lib.ListN.{length, take, drop, length-append, length-map, take-append-drop}
use lib.Seq.{take_at, take_all, length-take-le}
use borrow.Author.Tests.{lt-ltb, le-ltb, eqb-false}
use Rattle.meaning.specs.Logic.{◌or◌, Is, or_l, or_r, or_e, same_truth, Is→eq}
use Rattle.meaning.specs.Solution.{mem, same}
use Rattle.meaning.proofs.Members.{same_eq, same_refl, mem_head, mem_tail, mem_cases, mem_left, mem_right, mem_split}
use Rattle.meaning.proofs.Members.{mem_one}
use Rattle.meaning.specs.Reach.{Instance, fresh}
use Rattle.meaning.proofs.Fresh.{fresh_same}
use Rattle.meaning.specs.Words.{word}
use Rattle.truth.specs.Bits.{put_in}
use Rattle.evaluator.specs.Values.{index_of}
use Rattle.gathering.specs.FoundWords.{FoundWords, has_word, add-one, add, number_of, noted, found_within}
use Rattle.gathering.specs.Filling.{found_of, found_words}

pub add_append : (room : ℕ) (s : FoundWords) (ws us : List ℕ) → add room s (ws ++ us) ≡ add room (add room s ws) us
unfolding add
add_append room s [] us = refl
add_append room s (w ∷ ws) us = add_append room (add-one room s w) ws us

pub noted_append : (room : ℕ) (s : FoundWords) (ws us : List ℕ) (set : ℕ → Bool)
    → noted room s (ws ++ us) set ≡ noted room (add room s ws) us (noted room s ws set)
unfolding add noted
noted_append room s [] us set = refl
noted_append room s (w ∷ ws) us set = noted_append room (add-one room s w) ws us (put_in set (number_of s w) true)

-- where one more was found than there is room, nothing changes
pub add_over : (room : ℕ) (found : List ℕ) (ws : List ℕ) → add room (found, true) ws ≡ (found, true)
unfolding add add-one
add_over room found [] = refl
add_over room found (w ∷ ws) = add_over room found ws

-- ---- what is added comes behind
-- m begins with l
pub record Begins (l m : List ℕ) : Type 0 where
  pub rest : List ℕ
  pub is : m ≡ l ++ rest

begins_itself : (l : List ℕ) → Begins l l
begins_itself l = record { rest = []; is = sym (append-nil l) }

module _ (room : ℕ) where
  one_behind : (s : FoundWords) (w : ℕ) → Begins s.0 (add-one room s w).0
  unfolding add-one
  one_behind s w = go s.1 (has_word s.0 w) (ltb (length s.0) room)
    where
      go : (over has fits : Bool)
          → Begins s.0 (cond over s (cond has s (cond fits (s.0 ++ (w ∷ []), false) (s.0, true)))).0
      go true has fits = begins_itself s.0
      go false true fits = begins_itself s.0
      go false false true = record { rest = w ∷ []; is = refl }
      go false false false = begins_itself s.0

  pub add_behind : (s : FoundWords) (ws : List ℕ) → Begins s.0 (add room s ws).0
  unfolding add
  add_behind s [] = begins_itself s.0
  add_behind s (w ∷ ws) =
      let one = one_behind s w in
      let more = add_behind (add-one room s w) ws in
      record {
        rest = one.rest ++ more.rest;
        is = more.is ∙ ap (λ (l : List ℕ). l ++ more.rest) one.is ∙ append_assoc s.0 one.rest more.rest;
      }

-- the words found at first still stand in a table to which others were added
pub found_before : (room : ℕ) (entry exit : List ℕ) (n m : ℕ) (ws : List ℕ) → room ≤ length entry
    → found_words exit (found_of room m) ≡ add room (found_words entry (found_of room n)) ws
    → found_words exit (found_of room n) ≡ found_words entry (found_of room n)
found_before room entry exit n m ws long e =
    let words = take (min n room) entry in
    let begins = add_behind room (found_words entry (found_of room n)) ws in
    let whole : exit ≡ words ++ (begins.rest ++ drop (min m room) exit) =
    sym (take-append-drop (min m room) exit)
    ∙ ap (λ (l : List ℕ). l ++ drop (min m room) exit) (ap (λ (s : FoundWords). s.0) e ∙ begins.is)
    ∙ append_assoc words begins.rest (drop (min m room) exit) in
    ap (λ (l : List ℕ). (l, ltb room n))
    (ap (take (min n room)) whole ∙ take_at words _ (min n room) (length-take-le (min n room) entry (omega arith)))

-- instances that C allows have different words
abbrev pub Distinct : (Instance → Bool) → Type 0
Distinct C = (i j : Instance) → Is (C i) → Is (C j) → word i ≡ word j → i ≡ j

abbrev pub AllIn : (Instance → Bool) → List Instance → Type 0
AllIn C l = (i : Instance) → Is (mem i l) → Is (C i)

-- a word stands in the table exactly when its instance is among those found
has_mem : (C : Instance → Bool) → Distinct C → (l : List Instance) (i : Instance) → AllIn C l → Is (C i)
    → has_word (map word l) (word i) ≡ mem i l
unfolding index_of mem
has_mem C d [] i a c = refl
has_mem C d (j ∷ l) i a c = go (eqb (word j) (word i)) refl (has_mem C d l i (λ k h. a k (mem_tail k j l h)) c)
  where
    go : (b : Bool) → eqb (word j) (word i) ≡ b → has_word (map word l) (word i) ≡ mem i l
        → ltb (cond b 0 (suc (index_of (map word l) (word i)))) (suc (length (map word l))) ≡ (same i j or mem i l)
    go true e h =
        let k : j ≡ i = d j i (a j (mem_head j l)) c (eqb→eq _ _ (rw e tt)) in
        lt-ltb 0 (suc (length (map word l))) (omega arith) ∙ sym (rw k (Is→eq (or_l (mem i l) (same_refl i))))
    go false e h = leb-suc-suc (suc (index_of (map word l) (word i))) (length (map word l)) ∙ h
        ∙ same_truth _ _ (or_r _) (λ k. other (or_e _ _ k))
      where
        other : Is (same i j) ⊎ Is (mem i l) → Is (mem i l)
        other (inl s) = absurd (eqb-false _ _ e (ap word (sym (same_eq i j s))))
        other (inr m) = m

mem_snoc : (l : List Instance) (i j : Instance) → mem j (l ++ (i ∷ [])) ≡ mem j (i ∷ l)
mem_snoc l i j = same_truth _ _ (λ h. one (mem_split l (i ∷ []) j h)) (λ h. two (mem_cases j i l h))
  where
    one : Is (mem j l) ⊎ Is (mem j (i ∷ [])) → Is (mem j (i ∷ l))
    one (inl m) = mem_tail j i l m
    one (inr m) = rw (mem_one j i m) (mem_head i l)

    two : (j ≡ i) ⊎ Is (mem j l) → Is (mem j (l ++ (i ∷ [])))
    two (inl e) = rw e (mem_right l (i ∷ []) i (mem_head i []))
    two (inr m) = mem_left l (i ∷ []) j m

-- there is room for all
within_all : (room : ℕ) (ws : List ℕ) → length ws ≤ room → found_within room ws ≡ (ws, false)
within_all room ws h = rw (take_all room ws h, le-ltb room (length ws) h) refl

-- there is none behind the first
within_more : (room : ℕ) (ws : List ℕ) (w : ℕ) (us : List ℕ) → length ws ≡ room → found_within room (ws ++ (w ∷ us)) ≡ (ws, true)
within_more room ws w us h =
    let more : room < length (ws ++ (w ∷ us)) = omega (arith, length-append ws (w ∷ us)) in
    rw (take_at ws (w ∷ us) room h, lt-ltb room _ more) refl

module _ (room : ℕ) (found : List ℕ) (w : ℕ) where
  -- the three ways of one word
  pub add_known : has_word found w ≡ true → add-one room (found, false) w ≡ (found, false)
  unfolding add-one
  add_known h = rw h refl

  pub add_new : has_word found w ≡ false → length found < room → add-one room (found, false) w ≡ (found ++ (w ∷ []), false)
  unfolding add-one
  add_new h l = rw (h, lt-ltb _ _ l) refl

  pub add_last : has_word found w ≡ false → room ≤ length found → add-one room (found, false) w ≡ (found, true)
  unfolding add-one
  add_last h l = rw (h, le-ltb _ _ l) refl

module _ (C : Instance → Bool) (d : Distinct C) (room : ℕ) where
  snoc_in : (found : List Instance) (i : Instance) → AllIn C found → Is (C i) → AllIn C (found ++ (i ∷ []))
  snoc_in found i a c k m = go (mem_split found (i ∷ []) k m)
    where
      go : Is (mem k found) ⊎ Is (mem k (i ∷ [])) → Is (C k)
      go (inl h) = a k h
      go (inr h) = rw (mem_one k i h) c

  -- adding the words of a list to those found: the fresh ones come behind, as far as there is room
  pub add_fresh : (found l : List Instance) → AllIn C found → AllIn C l → length found ≤ room
      → add room (map word found, false) (map word l) ≡ found_within room (map word (found ++ fresh found l))
  unfolding add fresh
  add_fresh found [] a c h = rw append-nil (sym (within_all room (map word found) (omega (arith, length-map found word))))
  add_fresh found (i ∷ l) a c h = go (mem i found) refl (dec_lt (length found) room)
      (add_fresh found l a (λ k m. c k (mem_tail k i l m)) h)
      (λ p. add_fresh found' l (snoc_in found i a (c i (mem_head i l))) (λ k m. c k (mem_tail k i l m))
      (omega (arith, length-append found (i ∷ []))))
    where
      found' : List Instance
      found' = found ++ (i ∷ [])

      known : has_word (map word found) (word i) ≡ mem i found
      known = has_mem C d found i a (c i (mem_head i l))

      size : length (map word found) ≡ length found
      size = length-map found word

      -- the words of the others, added to s
      others : {s s' : FoundWords} → s ≡ s' → add room s (map word l) ≡ add room s' (map word l)
      others = ap (λ (s : FoundWords). add room s (map word l))

      go : (b : Bool) → mem i found ≡ b → Dec (length found < room)
          → add room (map word found, false) (map word l) ≡ found_within room (map word (found ++ fresh found l))
          → (length found < room
          → add room (map word found', false) (map word l) ≡ found_within room (map word (found' ++ fresh found' l)))
          → add room (add-one room (map word found, false) (word i)) (map word l)
          ≡ found_within room (map word (found ++ cond b (fresh found l) (i ∷ fresh (i ∷ found) l)))
      go true e q p r = others (add_known room (map word found) (word i) (known ∙ e)) ∙ p
      go false e (yes q) p r =
          others (add_new room (map word found) (word i) (known ∙ e) (omega (arith, size)) ∙ ap (λ (k : List ℕ). (k, false))
          (sym (map-append word found (i ∷ []))))
          ∙ r q
          ∙ ap (λ (k : List Instance). found_within room (map word k))
          (ap (λ (k : List Instance). found' ++ k) (fresh_same found' (i ∷ found) l (mem_snoc found i))
          ∙ append_assoc found (i ∷ []) (fresh (i ∷ found) l))
      go false e (no q) p r =
          others (add_last room (map word found) (word i) (known ∙ e) (omega (arith, size)))
          ∙ add_over room (map word found) (map word l)
          ∙ sym (ap (found_within room) (map-append word found (i ∷ fresh (i ∷ found) l))
          ∙ within_more room (map word found) (word i) (map word (fresh (i ∷ found) l)) (omega (arith, size)))
