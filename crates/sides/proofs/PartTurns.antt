-- A condition or a term of a step's summand, put code by code.
-- The items that are still to be put stand at the place; in each turn the first is replaced by the items inside it.
use Prim.Native.Nat.{ℕ, ◌+◌, ◌*◌, ◌-◌, ◌≤◌, ◌<◌}
use native.Mathlib.Omega.{arith}
use mathlib.Core.Path.{◌≡◌, refl, sym, ap, ap₂, ◌∙◌, subst}
use mathlib.Core.Bool.{Bool, true}
use mathlib.Core.List.{List, [], ◌∷◌, ◌++◌, append-nil}
use lib.Dec.{eqb, leb, ltb}
use lib.ListN.{length, get_or, length-append}
use borrow.Author.Tests.{leb-true, leb-false, ltb-true, ltb-false, eqb-true, eqb-false}
use Rattle.meaning.specs.Logic.{Is, and_l, cases}
use Rattle.meaning.specs.Formulas.{Term, number}
use Rattle.spelling.specs.Spelled.{spelled_term}
use Rattle.spelling.specs.Stands.{Stands, moved}
use Rattle.translation.specs.Processes.{Process}
use Rattle.translation.specs.Modal.{Modal}
use Rattle.scans.specs.Items.{Item, plain_item, spelled_item, spelled_items, items_in, part_parts, part_width}
use Rattle.scans.specs.Summands.{nth_summand}
use Rattle.scans.proofs.ScannedItems.{plain_items, ItemTurn, item_turn, item_alone, plain_alone}
use Rattle.scans.proofs.ScannedItems.{part_parts_few, part_width_small}
use Rattle.sides.specs.declared.Listed.{Listed}
use Rattle.sides.specs.declared.Part.{Part}
use Rattle.sides.specs.Emitted.{Emits, Grows, Puts}
use Rattle.sides.specs.Steps.{Step, Stacked, terms_in, item_after, items_after, sound_item, flipped, nth_step}
use Rattle.sides.specs.Told.{Laid, code_bytes, PartTold, VariableTold}
use Rattle.sides.proofs.EmittedLaws.{emits_none, emits_full, emits_as, emits_next}
use Rattle.sides.proofs.ItemLaws.{sound_items, sound_alone, sound_inside, items_put, other_put, variable_put}
use Rattle.sides.proofs.StateLaws.{last_step, parameter_in}

-- how many variables a step's summand has in reach
abbrev pub reached : Process → Step → ℕ
reached process s = length (process.ranges ++ (nth_summand process s.index).own)

-- ---- one turn: what is put for the code at a place, with what follows it, are the items from there on
pub record PartTurn (sheet places : List ℕ) (steps : List Listed) (step : ℕ) (flip : Bool) (at : ℕ) (out : List ℕ) (c : ℕ)
    (out' : List ℕ) (c' : ℕ) : Type 0 where
  pub grows : Grows out c out' c'
  pub told : (process : Process) (f : Modal) (s : Step) (ss : List Step) → Laid process f sheet places
      → Stacked process steps step (s ∷ ss) → (i : Item) (js : List Item) → Is (plain_items (i ∷ js))
      → Is (sound_items (reached process s) (i ∷ js)) → ItemTurn sheet at i js → {left : List ℕ} {r : ℕ}
      → Emits true (items_after (terms_in process s ss) flip (items_in i ++ js)) out' c' left r
      → Emits true (items_after (terms_in process s ss) flip (i ∷ js)) out c left r

first_plain : (i : Item) (js : List Item) → Is (plain_items (i ∷ js)) → Is (plain_item i)
unfolding plain_items
first_plain i js p = and_l (plain_item i) (plain_items js) p

first_sound : (k : ℕ) (i : Item) (js : List Item) → Is (sound_items k (i ∷ js)) → Is (sound_item k i)
unfolding sound_items
first_sound k i js p = and_l (sound_item k i) (sound_items k js) p

module _ {sheet places : List ℕ} {steps : List Listed} {step : ℕ} {out : List ℕ} {c x : ℕ} {out' : List ℕ} {c' : ℕ} where
  -- a variable of the last step's summand
  variable_told : VariableTold sheet places x step steps out c out' c' → (process : Process) (f : Modal) (s : Step)
      (ss : List Step) → Laid process f sheet places → Stacked process steps step (s ∷ ss) → x < reached process s
      → Emits true (spelled_term (get_or (terms_in process s ss) x (number 0))) out c out' c'
  variable_told v process f s ss laid stacked l =
      let before = (last_step stacked).before in
      cases (ltb x (length process.ranges))
      (λ t. let low = ltb-true x (length process.ranges) t in
      emits_as (ap spelled_term (sym (parameter_in process f laid.formed s ss before x low)))
      (v.parameter process f ss laid before low))
      (λ t. v.own process f s ss laid stacked (ltb-false x (length process.ranges) t) l)

  pub variable_turn : (flip : Bool) (at : ℕ) → get_or sheet at 0 ≡ 0x21 → x ≡ get_or sheet (at + 1) 0
      → VariableTold sheet places x step steps out c out' c' → PartTurn sheet places steps step flip at out c out' c'
  variable_turn flip at is it v = record {
    grows = v.grows;
    told = λ process f s ss laid stacked i js p l turn {left} {r} rest.
        let σ = terms_in process s ss in
        let plain = first_plain i js p in
        let put = variable_put sheet at σ flip (reached process s) i _ plain (first_sound _ i js l) turn.own
        (sym turn.code ∙ is) in
        let near : x < reached process s = omega (arith, put.0, it) in
        let bytes = ap (λ (n : ℕ). spelled_term (get_or σ n (number 0))) it ∙ put.1 in
        let this = emits_as bytes (variable_told v process f s ss laid stacked near) in
        emits_as (sym (items_put σ flip i js plain)) (emits_next this rest);
  }

  pub code_turn : (flip : Bool) (at : ℕ) {code : ℕ} → (get_or sheet at 0 ≡ 0x21 → ⊥) → x ≡ get_or sheet (at + 1) 0
      → code ≡ flipped flip (get_or sheet at 0) → Puts true (code_bytes code x) out c out' c'
      → PartTurn sheet places steps step flip at out c out' c'
  code_turn flip at {code} other it is puts = record {
    grows = puts.0;
    told = λ process f s ss laid stacked i js p l turn {left} {r} rest.
        let σ = terms_in process s ss in
        let plain = first_plain i js p in
        let put = other_put sheet at σ flip i _ plain turn.own (λ e. other (turn.code ∙ e)) in
        let bytes = ap₂ code_bytes (is ∙ ap (flipped flip) turn.code) it ∙ put in
        emits_as (sym (items_put σ flip i js plain)) (emits_next (emits_as bytes puts.1) rest);
  }

-- ---- the loop
pub record Pending (sheet : List ℕ) (k : ℕ) (σ : List Term) (flip : Bool) (whole out₀ : List ℕ) (count : ℕ) (out : List ℕ)
    (at pending c : ℕ) (js : List Item) : Type 0 where
  pub as_many : length js ≡ pending
  pub all_plain : Is (plain_items js)
  pub all_sound : Is (sound_items k js)
  pub there : Stands sheet at (spelled_items js)
  pub rest : {left : List ℕ} {r : ℕ} → Emits true (items_after σ flip js) out c left r → Emits true whole out₀ count left r

pub record Parting (sheet places : List ℕ) (part : Part) (steps : List Listed) (out₀ : List ℕ) (count : ℕ) (out : List ℕ)
    (at pending c : ℕ)
    : Type 0 where
  pub size : length out ≡ length out₀
  pub near : at ≤ 65535 + 2 * c
  pub few : pending ≤ c + 1
  pub most : c ≤ 257
  pub on : count ≤ c
  pub first : c ≡ count → pending ≡ 1
  pub told : (process : Process) (f : Modal) (s : Step) (ss : List Step) (i : Item) → Laid process f sheet places
      → Stacked process steps part.step (s ∷ ss) → Is (plain_item i) → Is (sound_item (reached process s) i)
      → Stands sheet (256 * (s.index + 1) + part.at) (spelled_item i)
      → let σ = terms_in process s ss in
      (js : List Item) × Pending sheet (reached process s) σ part.flip (item_after σ part.flip i) out₀ count out at
      pending c js

alone_after : (σ : List Term) (flip : Bool) (i : Item) → items_after σ flip (i ∷ []) ≡ item_after σ flip i
unfolding items_after
alone_after σ flip i = append-nil (item_after σ flip i)

pub parting_start : (sheet places : List ℕ) (part : Part) (steps : List Listed) (out : List ℕ) (count slot at : ℕ) → count ≤ 257
    → part.at < 256 → slot < 256 → slot ≡ (nth_step steps part.step).slot → at ≡ 256 * slot + part.at
    → Parting sheet places part steps out count out at 1 count
parting_start sheet places part steps out count slot at most low few is place = record {
  size = refl;
  near = omega arith;
  few = omega arith;
  most = most;
  on = omega arith;
  first = λ e. refl;
  told = λ process f s ss i laid stacked plain sound stands.
      let here : 256 * (s.index + 1) + part.at ≡ at = omega (arith, (last_step stacked).slot, is, place) in (
        i ∷ [],
        record {
          as_many = refl;
          all_plain = plain_alone i plain;
          all_sound = sound_alone _ i sound;
          there = moved sheet _ at _ here (subst (Stands sheet (256 * (s.index + 1) + part.at)) (sym (item_alone i)) stands);
          rest = λ {left} {r} e. emits_as (alone_after _ _ i) e;
        },
      );
}

module _ {sheet places : List ℕ} {steps : List Listed} {out₀ : List ℕ} {count : ℕ} {out : List ℕ} {at pending c : ℕ} where
  pending_turn : (process : Process) (f : Modal) (s : Step) (ss : List Step) (step : ℕ) (flip : Bool)
      → Laid process f sheet places → Stacked process steps step (s ∷ ss) → {whole out' : List ℕ} {c' parts width : ℕ}
      → PartTurn sheet places steps step flip at out c out' c'
      → parts ≡ part_parts (get_or sheet at 0) → width ≡ part_width (get_or sheet at 0) → 0 < pending → (js : List Item)
      → Pending sheet (reached process s) (terms_in process s ss) flip whole out₀ count out at pending c js
      → (ks : List Item) × Pending sheet (reached process s) (terms_in process s ss) flip whole out₀ count out' (at + width)
      (pending + parts - 1) c' ks
  pending_turn process f s ss step flip laid stacked turn many wide some [] p = absurd (omega (arith, p.as_many))
  pending_turn process f s ss step flip laid stacked turn many wide some (j ∷ js) p =
      let t = item_turn sheet at j js p.all_plain p.there in
      let place = ap (λ (n : ℕ). at + n) (sym (wide ∙ ap part_width t.code)) in
      let parts = many ∙ ap part_parts t.code ∙ t.parts in (
        items_in j ++ js,
        record {
          as_many = omega (arith, p.as_many, parts, length-append (items_in j) js);
          all_plain = t.plain_rest;
          all_sound = sound_inside _ j js p.all_sound;
          there = moved sheet _ _ (spelled_items (items_in j ++ js)) place t.rest;
          rest = λ {left} {r} e. p.rest (turn.told process f s ss laid stacked j js p.all_plain p.all_sound t e);
        },
      )

module _ {sheet out₀ : List ℕ} {count : ℕ} {out : List ℕ} {at pending c : ℕ} where
  pending_end : {k : ℕ} {σ : List Term} {flip : Bool} {whole : List ℕ} → c ≤ 257 → (0 < pending → c ≤ 256 → ⊥) → (js : List Item)
      → Pending sheet k σ flip whole out₀ count out at pending c js → Emits true whole out₀ count out c
  unfolding items_after
  pending_end most none [] p = p.rest (emits_none most)
  pending_end most none (j ∷ js) p = cases (leb c 256)
      (λ l. absurd (none (omega (arith, p.as_many)) (leb-true c 256 l)))
      (λ l. let past = leb-false c 256 l in p.rest (emits_full past (omega arith)))

module _ {sheet places : List ℕ} {part : Part} {steps : List Listed} {out₀ : List ℕ} {count : ℕ} {out : List ℕ} {at pending c : ℕ}
    (k : Parting sheet places part steps out₀ count out at pending c) where
  pub parting_turn : {out' : List ℕ} {c' parts width : ℕ} → 0 < pending → c ≤ 256
      → PartTurn sheet places steps part.step part.flip at out c out' c'
      → parts ≡ part_parts (get_or sheet at 0) → width ≡ part_width (get_or sheet at 0)
      → Parting sheet places part steps out₀ count out' (at + width) (pending + parts - 1) c'
  parting_turn some room turn many wide =
      let more = turn.grows.more room in
      let code = get_or sheet at 0 in
      record {
        size = turn.grows.size ∙ k.size;
        near = omega (arith, k.near, wide, (part_width_small code).1);
        few = omega (arith, k.few, many, part_parts_few code);
        most = turn.grows.most;
        on = omega (arith, k.on);
        first = λ e. absurd (omega (arith, k.on));
        told = λ process f s ss i laid stacked plain sound stands.
            let p = k.told process f s ss i laid stacked plain sound stands in
            pending_turn process f s ss part.step part.flip laid stacked turn many wide some p.0 p.1;
      }

  pub parting_end : (0 < pending → c ≤ 256 → ⊥) → PartTold sheet places part steps out₀ count out c
  parting_end none = record {
    grows = record {
      size = k.size;
      more = λ l. cases (eqb c count)
          (λ e. let same = eqb-true c count e in absurd (none (omega (arith, k.first same)) (omega arith)))
          (λ e. let other = eqb-false c count e in omega (arith, k.on, other));
      full = λ l. omega (arith, k.on, k.most);
      most = k.most;
    };
    told = λ process f s ss i laid stacked plain sound stands.
        let p = k.told process f s ss i laid stacked plain sound stands in
        pending_end k.most none p.0 p.1;
  }

-- a turn after which there was no more room
pub parting_full : {sheet places : List ℕ} {part : Part} {steps : List Listed} {out₀ : List ℕ} {count : ℕ} {out : List ℕ}
    {at pending c : ℕ}
    {out' : List ℕ} → Parting sheet places part steps out₀ count out at pending c → 0 < pending → c ≤ 256
    → PartTurn sheet places steps part.step part.flip at out c out' 257 → PartTold sheet places part steps out₀ count out' 257
parting_full k some room turn = parting_end (parting_turn k some room turn refl refl) (λ more fits. omega arith)
