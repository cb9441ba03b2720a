-- THEOREM: the frames of a well-formed process and formula, laid out, are a sheet of the two.
-- Each frame comes behind those laid before it, in a place of its own, so it changes nothing of theirs.
use Prim.Native.Nat.{ℕ, zero, suc, ◌+◌, ◌-◌, ◌*◌, ◌≤◌, ◌<◌, min}
use native.Mathlib.Omega.{arith}
use Rattle.std.specs.Prelude.{◌≡◌, false, take, drop, set, replicate, eqb}
use Rattle.std.proofs.Math.Path.{refl, ap}
use Rattle.std.proofs.Common.{sym, subst, ◌∙◌, length-drop, take-append-drop, length-take-le, take_at, get_or-set_other, leb→le}
use mathlib.Core.List.{List, [], ◌∷◌, ◌++◌, map, append_assoc}
use Rattle.std.proofs.Math.ListN.{length, get_or, length-append, get_or-append, length-map}
use Rattle.std.proofs.lemmas.List.{length-replicate, get_or-replicate, take-set-le, take-append-le, drop-append-le}
use Rattle.std.proofs.lemmas.List.Edits.{sets, sets-eq}
use Rattle.std.proofs.Math.Seq.{length-sets, take-append-add, get_or-append_seam}
use Rattle.meaning.specs.Logic.{Is, Is→T, and_l, and_r, cases}
use Rattle.spelling.specs.Stands.{Stands}
use Rattle.translation.specs.Processes.{Summand, Process}
use Rattle.translation.specs.Modal.{Modal}
use Rattle.translation.specs.Rules.{well_formed_process, well_formed_input}
use Rattle.inputs.specs.Inputs.{count_of, ranges_of}
use Rattle.inputs.specs.Inputs.{no_summand, input_refusal, content_of, process_of, formula_of}
use Rattle.inputs.specs.InputFrames.{process_frame, summand_frame, formula_frame, input_frames}
use Rattle.inputs.specs.Sheet.{slot_of, sheet_over, sheet_of, Sheet}
use Rattle.inputs.proofs.Content.{Each, content_spelled, content_formed, content_writable}

-- ---- bytes that are stored: they stand there, and all others are as they were
stored : (l w : List ℕ) (q : ℕ) → q + length w ≤ length l → Stands (sets l q w) q w
stored l w q h = record {
  front = take q l;
  back = drop (q + length w) l;
  place = length-take-le q l (omega arith);
  whole = sets-eq w l q h ∙ append_assoc (take q l) w (drop (q + length w) l);
}

before_store : (n : ℕ) (l : List ℕ) (q : ℕ) (v : List ℕ) → n ≤ q → take n (sets l q v) ≡ take n l
before_store n l q [] h = refl
before_store n l q (a ∷ v) h = before_store n (set l q a) (suc q) v (omega arith) ∙ take-set-le n l q a h

beside_store : (l : List ℕ) (q : ℕ) (v : List ℕ) (x : ℕ) → ((i : ℕ) → i < length v → x ≡ q + i → ⊥) →
    get_or (sets l q v) x 0 ≡ get_or l x 0
beside_store l q [] x other = refl
beside_store l q (a ∷ v) x other =
    beside_store (set l q a) (suc q) v x (λ i h e. other (suc i) (omega arith) (omega arith)) ∙
    get_or-set_other l q x a 0 (λ e. other 0 (omega arith) (omega arith))

still_stands : (l : List ℕ) (p q : ℕ) (w v : List ℕ) → p + length w ≤ q → Stands l p w →
    Stands (sets l q v) p w
still_stands l p q w v h there =
    let n = p + length w in
    let s = sets l q v in
    let parts = length-append there.front w in
    let begins : length (there.front ++ w) ≡ n = omega (arith, parts, there.place) in
    let front : take n l ≡ there.front ++ w =
    ap (take n) (there.whole ∙ sym (append_assoc there.front w there.back)) ∙
    take_at (there.front ++ w) there.back n begins in
    record {
      front = there.front;
      back = drop n s;
      place = there.place;
      whole = sym (take-append-drop n s) ∙
          ap (λ (r : List ℕ). r ++ drop n s) (before_store n l q v h ∙ front) ∙
          append_assoc there.front w (drop n s);
    }

-- ---- any frames: how large the sheet is, and one frame more
pub sheet_size : (count : ℕ) (fs : List (List ℕ)) (there : List ℕ) →
    length (sheet_over count fs there) ≡ length there
unfolding sheet_over
sheet_size count [] there = refl
sheet_size count (f ∷ fs) there =
    let place = 256 * slot_of (get_or f 0 0) count in
    sheet_size (suc count) fs (sets there place f) ∙ length-sets there place f

pub sheet_more : (count : ℕ) (fs : List (List ℕ)) (f there : List ℕ) →
    sheet_over count (fs ++ (f ∷ [])) there ≡
    sets (sheet_over count fs there) (256 * slot_of (get_or f 0 0) (count + length fs)) f
unfolding sheet_over
sheet_more count [] f there = let e : count + 0 ≡ count = omega arith in rw e refl
sheet_more count (g ∷ fs) f there =
    let e : suc count + length fs ≡ count + suc (length fs) = omega arith in
    rw (← e) (sheet_more (suc count) fs f (sets there (256 * slot_of (get_or g 0 0) count) g))

-- the first of them stays in its place
later_place : (code count : ℕ) → 256 ≤ 256 * slot_of code (suc count)
later_place code count = cases (eqb code 0x08) (λ h. rw h (omega arith)) (λ h. rw h (omega arith))

over_keeps : (count : ℕ) (fs : List (List ℕ)) (there w : List ℕ) → length w ≤ 256 → Stands there 0 w →
    Stands (sheet_over (suc count) fs there) 0 w
unfolding sheet_over
over_keeps count [] there w h s = s
over_keeps count (f ∷ fs) there w h s =
    let place = 256 * slot_of (get_or f 0 0) (suc count) in
    over_keeps (suc count) fs (sets there place f) w h
    (still_stands there 0 place w f (omega (arith, later_place (get_or f 0 0) count)) s)

pub sheet_first : (f : List ℕ) (fs : List (List ℕ)) (there : List ℕ) → eqb (get_or f 0 0) 0x08 ≡ false →
    length f ≤ 256 → length there ≡ 4608 → Stands (sheet_over 0 (f ∷ fs) there) 0 f
unfolding sheet_over
sheet_first f fs there code short size =
    over_keeps 0 fs _ f short (rw code (stored there f 0 (omega arith)))

-- a head says the same where more follows its frame
ranges_longer : (f more : List ℕ) → 2 + count_of f ≤ length f → ranges_of (f ++ more) ≡ ranges_of f
ranges_longer f more h =
    let count : count_of (f ++ more) ≡ count_of f = get_or-append f more 0 1 (omega arith) in
    ap (λ (n : ℕ). take n (drop 2 (f ++ more))) count ∙
    ap (take (count_of f)) (drop-append-le 2 f more (omega arith)) ∙
    take-append-le (count_of f) (drop 2 f) more (omega (arith, length-drop 2 f))

pub first_ranges : (sheet f : List ℕ) → Stands sheet 0 f → 2 + count_of f ≤ length f → length f ≤ 256 →
    ranges_of (take 256 sheet) ≡ ranges_of f
first_ranges sheet f there head short =
    let more = take (256 - length f) there.back in
    let size : 256 ≡ length f + (256 - length f) = omega arith in
    let first : take 256 (f ++ there.back) ≡ f ++ more =
    ap (λ (n : ℕ). take n (f ++ there.back)) size ∙ take-append-add f there.back (256 - length f) in
    let all : sheet ≡ f ++ there.back =
    there.whole ∙ ap (λ (l : List ℕ). l ++ (f ++ there.back)) (nothing there.front there.place) in
    ap (λ (l : List ℕ). ranges_of (take 256 l)) all ∙ ap ranges_of first ∙ ranges_longer f more head
  where
    nothing : (l : List ℕ) → length l ≡ 0 → l ≡ []
    nothing [] e = refl
    nothing (a ∷ l) e = absurd (omega arith)

-- ---- summands and a formula, laid after `count` frames
module _ (f : Modal) where
  abbrev laid : ℕ → List Summand → List ℕ → List ℕ
  laid count ss there = sheet_over count (map summand_frame ss ++ (formula_frame f ∷ [])) there

  laid_last : (count : ℕ) (there : List ℕ) → laid count [] there ≡ sets there 4352 (formula_frame f)
  unfolding sheet_over formula_frame
  laid_last count there = refl

  laid_more : (count : ℕ) (s : Summand) (ss : List Summand) (there : List ℕ) → count ≤ 16 →
      laid count (s ∷ ss) there ≡ laid (suc count) ss (sets there (256 * count) (summand_frame s))
  unfolding sheet_over summand_frame
  laid_more count s ss there h =
      let e : min count 16 ≡ count = omega arith in
      ap (λ (n : ℕ). laid (suc count) ss (sets there (256 * n) (summand_frame s))) e

  laid_keeps : (count : ℕ) (ss : List Summand) (there : List ℕ) (p : ℕ) (w : List ℕ) →
      count + length ss ≤ 17 → p + length w ≤ 256 * count → Stands there p w →
      Stands (laid count ss there) p w
  laid_keeps count [] there p w room h s =
      rw (laid_last count there) (still_stands there p 4352 w (formula_frame f) (omega arith) s)
  laid_keeps count (g ∷ ss) there p w room h s =
      rw (laid_more count g ss there (omega arith))
      (laid_keeps (suc count) ss _ p w (omega arith) (omega arith)
      (still_stands there p (256 * count) w (summand_frame g) h s))

  -- what is past them, and before the formula
  laid_beside : (count : ℕ) (ss : List Summand) (there : List ℕ) (x : ℕ) → count + length ss ≤ 17 →
      ((j : ℕ) → j < length ss → length (summand_frame (get_or ss j no_summand)) ≤ 256) →
      256 * (count + length ss) ≤ x → x < 4352 → get_or (laid count ss there) x 0 ≡ get_or there x 0
  laid_beside count [] there x room short l u =
      rw (laid_last count there) (beside_store there 4352 (formula_frame f) x (λ i h e. omega arith))
  laid_beside count (g ∷ ss) there x room short l u =
      rw (laid_more count g ss there (omega arith))
      (laid_beside (suc count) ss _ x (omega arith) (λ j h. short (suc j) (omega arith)) (omega arith) u ∙
      beside_store there (256 * count) (summand_frame g) x (λ i h e. omega (arith, short 0 (omega arith))))

  laid_formula : (count : ℕ) (ss : List Summand) (there : List ℕ) → count + length ss ≤ 17 →
      4352 + length (formula_frame f) ≤ length there → Stands (laid count ss there) 4352 (formula_frame f)
  laid_formula count [] there room h = rw (laid_last count there) (stored there (formula_frame f) 4352 h)
  laid_formula count (g ∷ ss) there room h =
      rw (laid_more count g ss there (omega arith))
      (laid_formula (suc count) ss _ (omega arith)
      (omega (arith, length-sets there (256 * count) (summand_frame g))))

  laid_summand : (count : ℕ) (ss : List Summand) (there : List ℕ) (j : ℕ) → count + length ss ≤ 17 →
      ((i : ℕ) → i < length ss → length (summand_frame (get_or ss i no_summand)) ≤ 256) → length there ≡ 4608 →
      j < length ss → Stands (laid count ss there) (256 * (count + j)) (summand_frame (get_or ss j no_summand))
  laid_summand count [] there j room short size h = absurd (omega arith)
  laid_summand count (g ∷ ss) there zero room short size h =
      let fits = short 0 (omega arith) in
      let e : count + 0 ≡ count = omega arith in
      rw (laid_more count g ss there (omega arith), e)
      (laid_keeps (suc count) ss _ (256 * count) (summand_frame g) (omega arith) (omega (arith, fits))
      (stored there (summand_frame g) (256 * count) (omega (arith, fits))))
  laid_summand count (g ∷ ss) there (suc j) room short size h =
      let e : count + suc j ≡ suc count + j = omega arith in
      rw (laid_more count g ss there (omega arith), e)
      (laid_summand (suc count) ss _ j (omega arith) (λ i l. short (suc i) (omega arith))
      (length-sets there (256 * count) (summand_frame g) ∙ size) (omega arith))

-- ---- frames that have a place each
-- "a frame has 1 to 256 bytes"
abbrev pub Short : List (List ℕ) → Type 0
Short fs = Each (λ f. length f ≤ 256) fs

pub at_most_sixteen : (process : Process) (f : Modal) → Is (well_formed_input process f) →
    length process.summands ≤ 16
unfolding well_formed_input well_formed_process
at_most_sixteen process f h =
    leb→le (length process.summands) 16 (Is→T (and_r _ _ (and_l _ _ (and_l _ _ h))))

module _ (process : Process) (f : Modal) (formed : Is (well_formed_input process f))
    (short : Short (input_frames process f)) where
  few : length process.summands ≤ 16
  few = at_most_sixteen process f formed

  first_short : length (process_frame process) ≤ 256
  unfolding input_frames
  first_short = short 0 (omega arith)

  summand_short : (j : ℕ) → j < length process.summands →
      length (summand_frame (get_or process.summands j no_summand)) ≤ 256
  unfolding input_frames
  summand_short j h =
      let ss = process.summands in
      let count = length-map ss summand_frame in
      let fs = map summand_frame ss in
      let last = formula_frame f ∷ [] in
      let all = length-append fs last in
      let there : get_or (fs ++ last) j [] ≡ summand_frame (get_or ss j no_summand) =
      get_or-append fs last [] j (omega (arith, count)) ∙ mapped ss j h in
      omega (arith, ap length there, short (suc j) (omega (arith, count, all)))
    where
      mapped : (ss : List Summand) (j : ℕ) → j < length ss →
          get_or (map summand_frame ss) j [] ≡ summand_frame (get_or ss j no_summand)
      mapped [] j h = absurd (omega arith)
      mapped (s ∷ ss) zero h = refl
      mapped (s ∷ ss) (suc j) h = mapped ss j (omega arith)

  last_short : length (formula_frame f) ≤ 256
  unfolding input_frames
  last_short =
      let ss = process.summands in
      let count = length-map ss summand_frame in
      let all = length-append (map summand_frame ss) (formula_frame f ∷ []) in
      let there = get_or-append_seam (map summand_frame ss) (formula_frame f) [] [] in
      omega (arith, ap length there, short (suc (length (map summand_frame ss))) (omega (arith, all)))

  first_laid : (there : List ℕ) → sheet_over 0 (input_frames process f) there ≡
      laid f 1 process.summands (sets there 0 (process_frame process))
  unfolding input_frames sheet_over process_frame
  first_laid there = refl

  laid_over : (there : List ℕ) → length there ≡ 4608 → ((x : ℕ) → x < 4608 → get_or there x 0 ≡ 0) →
      Sheet process f (sheet_over 0 (input_frames process f) there)
  laid_over there size zeros =
      let ss = process.summands in
      let one = process_frame process in
      let begun = sets there 0 one in
      let room : 1 + length ss ≤ 17 = omega (arith, few) in
      let long : length begun ≡ 4608 = length-sets there 0 one ∙ size in
      rw (first_laid there) (record {
        size = sheet_size 1 (map summand_frame ss ++ (formula_frame f ∷ [])) begun ∙ long;
        first = laid_keeps f 1 ss begun 0 one room (omega (arith, first_short))
            (stored there one 0 (omega (arith, first_short)));
        summand = λ j h.
            let e : 1 + j ≡ j + 1 = omega arith in
            rw e at (laid_summand f 1 ss begun j room summand_short long h);
        fits = summand_short;
        empty = λ j l u.
            laid_beside f 1 ss begun (256 * (j + 1)) room summand_short (omega arith) (omega arith) ∙
            beside_store there 0 one (256 * (j + 1)) (λ i h e. omega (arith, first_short)) ∙
            zeros (256 * (j + 1)) (omega arith);
        last = laid_formula f 1 ss begun room (omega (arith, last_short));
      })

  -- THEOREM: the sheet of their frames
  pub sheet_laid : Sheet process f (sheet_of (input_frames process f))
  sheet_laid =
      laid_over (replicate 4608 0) (length-replicate {A = ℕ} 4608 0)
      (λ x h. get_or-replicate {A = ℕ} 4608 x 0 0 h)

-- THEOREM: so the frames of a text that is not refused are a sheet of its process and its formula
pub content_sheet : (t : List ℕ) → (input_refusal t).number ≡ 0 →
    Sheet (process_of t) (formula_of t) (sheet_of (content_of t))
content_sheet t h =
    let all = content_spelled t h in
    let short = subst (Each (λ f. length f ≤ 256)) all (λ i l. (content_writable t h i l).most) in
    let process = process_of t in
    let f = formula_of t in
    subst (λ (fs : List (List ℕ)). Sheet process f (sheet_of fs)) (sym all)
    (sheet_laid process f (content_formed t h) short)
