-- Finding: the words found are a stage of the search, until nothing is left to take or there is no room.
-- Taking an instance adds the words that are fresh in its right side, so the table has the next stage, as far as there
-- is room.
use Prim.Native.Nat.{ℕ, ◌+◌, ◌≤◌, ◌<◌}
use native.Mathlib.Omega.{arith}
use mathlib.Core.Path.{◌≡◌, refl, sym, ap, ap₂, subst, ◌∙◌}
use mathlib.Core.Bool.{Bool, true, false}
use mathlib.Core.List.{List, [], ◌∷◌, ◌++◌, map, map-append, append-nil}
use lib.ListN.{length, take, drop, get_or, set, length-append, length-set, length-map, take-append-drop}
use lib.ListN.{get_or-map}
use lib.Seq.{take-suc-set, get_or-take, get_or_at, take_all, take_at, take-append-le, length-take-le}
use borrow.Author.Tests.{lt-ltb, le-ltb, ltb-true, ltb-false}
use Rattle.meaning.specs.Logic.{Is, never}
use Rattle.meaning.proofs.Members.{mem_right, mem_head}
use Rattle.meaning.specs.Solution.{mem}
use Rattle.meaning.specs.Models.{Model}
use Rattle.meaning.specs.Ranges.{signatures, typed, well_formed}
use Rattle.meaning.proofs.Typed.{next_typed}
use Rattle.meaning.specs.Reach.{Instance, next, reached}
use Rattle.meaning.specs.Words.{word}
use Rattle.meaning.proofs.WordLaws.{word_injective}
use Rattle.meaning.specs.Search.{new}
use Rattle.meaning.proofs.Search.{regroup}
use Rattle.meaning.specs.Stages.{Stage, Begins}
use Rattle.meaning.proofs.Stages.{stage_start, stage_step, stage_typed, stage_prefix, stage_end, begins_length}
use Rattle.formulas.specs.declared.Equation.{Equation}
use Rattle.truth.specs.Bits.{bit_of, nowhere}
use Rattle.words.specs.Unpacked.{equation_number}
use Rattle.instances.specs.Models.{model_in}
use Rattle.instances.specs.Graph.{left_in, words_left}
use Rattle.instances.proofs.Models.{body_there, named, typed_below, word_number, word_names, word_readable}
use Rattle.gathering.specs.declared.Side.{Side}
use Rattle.gathering.specs.FoundWords.{FoundWords, add, found_within}
use Rattle.gathering.specs.Filling.{found_of, found_words, found_fits, found_over}
use Rattle.gathering.specs.Shapes.{gist}
use Rattle.gathering.specs.Gathered.{Takes}
use Rattle.gathering.specs.Side.{SideTold, SideGathers}
use Rattle.gathering.proofs.FoundWordsLaws.{add_fresh}
use Rattle.finding.specs.Found.{Found, Searchable, FoundIn}

-- ---- the words of a beginning
take_beginning : (n : ℕ) (l k : List Instance) → Begins l k → n ≤ length k → take n (map word k) ≡ take n (map word l)
take_beginning n l k b h =
    sym (ap (λ (z : List Instance). take n (map word z)) b.1 ∙ ap (take n) (map-append word k b.0)
    ∙ take-append-le n (map word k) (map word b.0) (omega (arith, length-map k word)))

-- ---- the search
-- the first n words of a table are a stage of the search of which the first i instances are taken
pub record AtStage (model : Model) (first : Instance) (t : List ℕ) (n i : ℕ) : Type 0 where
  pub done : List Instance
  pub todo : List Instance
  pub stage : Stage model first done todo
  pub taken : length done ≡ i
  pub counted : length (done ++ todo) ≡ n
  pub words : take n t ≡ map word (done ++ todo)

-- a table in the midst of the search
pub record Searching (bodies : List ℕ) (equations : List Equation) (start room : ℕ) (t : List ℕ) (n i : ℕ) : Type 0 where
  pub within : n ≤ room
  pub few : room ≤ 512
  pub lent : length t ≡ room
  pub stage : (count : ℕ) (first : Instance) → Searchable bodies equations start count first
      → AtStage (model_in bodies equations count) first t n i

-- instance i is taken: of which equation it is, and what is found with it
pub record Taken (bodies : List ℕ) (equations : List Equation) (room : ℕ) (t t' : List ℕ) (n i : ℕ) (r : Side) : Type 0 where
  pub few : equation_number (get_or t i 0) < 8
  pub more : List ℕ
  pub grown : take r.found t' ≡ take n t ++ more
  pub takes : Takes room (take n t, false) (take n t ++ more, false) nowhere (bit_of r.reads) r.shape
      (gist (left_in bodies equations (get_or t i 0)))

-- what is gathered on the way has the search's room
in_room : {bodies : List ℕ} {equations : List Equation} {start w room : ℕ} {t t' : List ℕ} {n i : ℕ}
    {r : Side} → Searching bodies equations start room t n i → SideGathers bodies equations w (length t) t t' n r
    → SideGathers bodies equations w room t t' n r
in_room s g = rw s.lent at g

pub search_starts : {bodies : List ℕ} {equations : List Equation} {start room : ℕ} (t : List ℕ) (w : ℕ) → 0 < room
    → room ≤ 512 → length t ≡ room → w ≡ start → Searching bodies equations start room (set t 0 w) 1 0
search_starts t w some few lent is = record {
  within = some;
  few = few;
  lent = rw length-set lent;
  stage = λ count first h. record {
    done = [];
    todo = first ∷ [];
    stage = stage_start _ first h.model.well;
    taken = refl;
    counted = refl;
    words = take-suc-set t 0 w (omega arith) ∙ ap (λ (x : ℕ). x ∷ []) (is ∙ h.named);
  };
}

-- the first n words of a table with more behind it are copied into another
pub copied_words : (n : ℕ) (words rest table : List ℕ) → n ≤ length words
    → take n (take n (words ++ rest) ++ drop n table) ≡ take n words
copied_words n words rest table h =
    let first = take-append-le n words rest h in
    take_at (take n (words ++ rest)) (drop n table) n (ap length first ∙ length-take-le n words h) ∙ first

-- so what is found is found in the other table too
pub found_copied : {model : Model} {first : Instance} {room : ℕ} {words table : List ℕ} {r : Found} (rest : List ℕ)
    → r.count ≤ length words → FoundIn model first room words words r
    → FoundIn model first room table (take r.count (words ++ rest) ++ drop r.count table) r
found_copied {model} {first} {room} {words} {table} {r} rest h f = record {
  over = f.over;
  count = f.count;
  table = ap (λ (l : List ℕ). l ++ drop r.count table)
      (take-append-le r.count words rest h ∙ ap (take r.count) f.table
      ∙ take_at (take room (map word (reached model first))) (drop r.count words) r.count (sym f.count));
}

module _ {bodies : List ℕ} {equations : List Equation} {start count : ℕ} {first : Instance}
    (searchable : Searchable bodies equations start count first) where
  abbrev model : Model
  model = model_in bodies equations count

  well : Is (well_formed model first)
  well = searchable.model.well

  abbrev l : List Instance
  l = reached model first

  abbrev C : Instance → Bool
  C = typed (signatures model)

  -- what is left of an instance's right side is what comes next
  next_words : (i : Instance) → Is (C i) → words_left (left_in bodies equations (word i)) ≡ map word (next model i)
  unfolding typed next
  next_words [] t = never t
  next_words (e ∷ x) t =
      let m = searchable.model in
      rw (word_names (named m) e x t, word_number (named m) e x t, body_there bodies equations count e (typed_below m e x t)) refl

  few_equations : (i : Instance) → Is (C i) → equation_number (word i) < 8
  unfolding typed
  few_equations [] t = never t
  few_equations (e ∷ x) t = (word_readable (named searchable.model) e x t).0

  -- no room at all
  pub no_room : {room : ℕ} {t : List ℕ} → room ≡ 0 → FoundIn model first room t t (record { count = room; over = true })
  no_room {room} h =
      let some = begins_length l (first ∷ []) (stage_prefix model first well [] (first ∷ []) (stage_start model first well)) in
      record { over = sym (lt-ltb room (length l) (omega (arith, some))); count = rw h refl; table = rw h refl }

  module _ {room : ℕ} {t : List ℕ} {n i : ℕ} (s : Searching bodies equations start room t n i) where
    at : AtStage model first t n i
    at = s.stage count first searchable

    -- nothing is left to take
    pub all_found : n ≤ i → FoundIn model first room t t (record { count = n; over = false })
    all_found h = record {
      over = sym (le-ltb room (length l) (omega (arith, ap length all, s.within, at.counted)));
      count = sym (ap length (kept ∙ at.words) ∙ long ∙ at.counted);
      table = sym (take-append-drop n t) ∙ ap (λ (l : List ℕ). l ++ drop n t) (sym kept);
    }
      where
        nothing_left : (k : List Instance) → length (at.done ++ k) ≤ length at.done → k ≡ []
        nothing_left [] m = refl
        nothing_left (j ∷ k) m = absurd (omega (arith, length-append at.done (j ∷ k)))

        empty : at.todo ≡ []
        empty = nothing_left at.todo (omega (arith, at.counted, at.taken))

        all : l ≡ at.done ++ at.todo
        all = stage_end model first well at.done (subst (Stage model first at.done) empty at.stage)
            ∙ sym (ap (λ (k : List Instance). at.done ++ k) empty ∙ append-nil at.done)

        long : length (map word (at.done ++ at.todo)) ≡ length (at.done ++ at.todo)
        long = length-map (at.done ++ at.todo) word

        kept : take room (map word l) ≡ take n t
        kept = ap (λ (k : List Instance). take room (map word k)) all
            ∙ take_all room (map word (at.done ++ at.todo)) (omega (arith, long, s.within, at.counted)) ∙ sym at.words

    module _ (more : i < n) where
      -- the instance that is taken
      abbrev taking : Instance
      taking = get_or (at.done ++ at.todo) i []

      abbrev later : List Instance
      later = drop 1 at.todo

      splits : at.todo ≡ taking ∷ later
      splits = go at.todo (omega (arith, at.counted))
        where
          go : (k : List Instance) → i < length (at.done ++ k) → k ≡ get_or (at.done ++ k) i [] ∷ drop 1 k
          go [] h = absurd (omega (arith, ap length (append-nil at.done), at.taken))
          go (j ∷ k) h = ap (λ (z : Instance). z ∷ k) (sym (get_or_at at.done j k [] i at.taken))

      at_stage : Stage model first at.done (taking ∷ later)
      at_stage = subst (Stage model first at.done) splits at.stage

      abbrev found : List Instance
      found = at.done ++ (taking ∷ later)

      abbrev found' : List Instance
      found' = found ++ new model at.done taking later

      same_found : at.done ++ at.todo ≡ found
      same_found = ap (λ (k : List Instance). at.done ++ k) splits

      taken_word : get_or t i 0 ≡ word taking
      unfolding word
      taken_word = sym (get_or-take n t i 0 more) ∙ ap (λ (k : List ℕ). get_or k i 0) at.words
          ∙ get_or-map word (at.done ++ at.todo) i []

      all_typed : (j : Instance) → Is (mem j found) → Is (C j)
      all_typed = stage_typed model first well at.done (taking ∷ later) at_stage

      is_typed : Is (C taking)
      is_typed = all_typed taking (mem_right at.done (taking ∷ later) taking (mem_head taking later))

      -- the next stage
      same_found' : (at.done ++ (taking ∷ [])) ++ (later ++ new model at.done taking later) ≡ found'
      same_found' = regroup at.done later (new model at.done taking later) taking

      stage' : Stage model first (at.done ++ (taking ∷ [])) (later ++ new model at.done taking later)
      stage' = stage_step model first well at.done taking later at_stage

      begins : Begins l found'
      begins = subst (Begins l) same_found'
          (stage_prefix model first well (at.done ++ (taking ∷ [])) (later ++ new model at.done taking later) stage')

      module _ {t' : List ℕ} {r : Side} (side : SideGathers bodies equations (get_or t i 0) (length t) t t' n r) where
        g : SideGathers bodies equations (get_or t i 0) room t t' n r
        g = in_room s side

        told : SideTold bodies equations (get_or t i 0) room t t' n r
        told = g.told

        -- the table has the next stage, as far as there is room
        filled : found_words t' (found_of room r.found) ≡ found_within room (map word found')
        filled =
            told.added
            ∙ ap₂ (add room)
            (found_fits room t s.within ∙ ap (λ (k : List ℕ). (k, false)) (at.words ∙ ap (map word) same_found))
            (ap (λ (w : ℕ). words_left (left_in bodies equations w)) taken_word ∙ next_words taking is_typed)
            ∙ add_fresh C (word_injective model first well) room found (next model taking) all_typed
            (next_typed model first well taking is_typed) (omega (arith, ap length same_found, s.within, at.counted))

        pub search_over : room < r.found → FoundIn model first room t' t' (record { count = room; over = true })
        search_over h =
            let p = sym (found_over room t' h) ∙ filled in
            let more' = ltb-true room (length (map word found')) (sym (ap (λ (k : FoundWords). k.1) p)) in
            let long = length-map found' word in
            let whole = ap (λ (k : FoundWords). k.0) p ∙ take_beginning room l found' begins (omega arith) in
            record {
              over = sym (lt-ltb room (length l) (omega (arith, begins_length l found' begins)));
              count = sym (length-take-le room t' (omega (arith, g.size, s.lent))) ∙ ap length whole;
              table = sym (take-append-drop room t') ∙ ap (λ (l : List ℕ). l ++ drop room t') whole;
            }

        -- all of it, where there is room
        all_in : r.found ≤ room → take r.found t' ≡ map word found'
        all_in h =
            let p = sym (found_fits room t' h) ∙ filled in
            let all = ltb-false room (length (map word found')) (sym (ap (λ (k : FoundWords). k.1) p)) in
            ap (λ (k : FoundWords). k.0) p ∙ take_all room (map word found') all

        next_stage : r.found ≤ room → AtStage model first t' r.found (i + 1)
        next_stage h =
            let long = length-take-le r.found t' (omega (arith, g.size, s.lent)) in
            record {
              done = at.done ++ (taking ∷ []);
              todo = later ++ new model at.done taking later;
              stage = stage';
              taken = length-append at.done (taking ∷ []) ∙ ap (λ (k : ℕ). k + 1) at.taken;
              counted = ap length same_found' ∙ sym (length-map found' word) ∙ sym (ap length (all_in h)) ∙ long;
              words = all_in h ∙ ap (map word) (sym same_found');
            }

        abbrev fresh_words : List ℕ
        fresh_words = map word (new model at.done taking later)

        grown : r.found ≤ room → take r.found t' ≡ take n t ++ fresh_words
        grown h = all_in h ∙ map-append word found (new model at.done taking later)
            ∙ ap (λ (k : List ℕ). k ++ fresh_words) (sym (at.words ∙ ap (map word) same_found))

        pub taken : r.found ≤ room → Taken bodies equations room t t' n i r
        taken h = record {
          few = rw taken_word (few_equations taking is_typed);
          more = fresh_words;
          grown = grown h;
          takes = rw (found_fits room t s.within, found_fits room t' h, grown h) at told;
        }

-- one more instance is taken
pub search_on : {bodies : List ℕ} {equations : List Equation} {start room : ℕ} {t t' : List ℕ} {n i : ℕ} {r : Side}
    → Searching bodies equations start room t n i → i < n
    → SideGathers bodies equations (get_or t i 0) (length t) t t' n r → r.found ≤ room
    → Searching bodies equations start room t' r.found (i + 1)
search_on s more side h = record {
  within = h;
  few = s.few;
  lent = side.size ∙ s.lent;
  stage = λ count first k. next_stage k s more side h;
}
