-- A body as the code cuts it out of the bodies, and a part that was written over in a list of parts.
-- A part that would end past the list ends with it; what is written over one part leaves the others.
use Prim.Native.Nat.{ℕ, ◌+◌, ◌-◌, ◌*◌, ◌≤◌, ◌<◌, min}
use native.Mathlib.Omega.{arith}
use mathlib.Core.Path.{◌≡◌, sym, ap, ◌∙◌}
use mathlib.Core.List.{List, ◌++◌}
use lib.Dec.{ltb, leb}
use lib.ListN.{length, take, drop, get_or, replicate, length-take, length-drop, length-replicate, drop_of_length-le}
use lib.ListN.{get_or-replicate, get_or-eq_default}
use lib.Seq.{take_all, take_at, drop_at, length-take-le, get_or-take, get_or-drop, ext_get_or}
use borrow.Author.Tests.{ltb-true, ltb-false, leb-true, leb-false}
use borrow.Rule.Slice.PartMut.{mid_of, post_of, put_mid, same_len_mid, take_put, drop_put}
use Rattle.meaning.specs.Logic.{cases}
use Rattle.formulas.specs.declared.Equation.{Equation}
use Rattle.prepared.specs.Decoded.{equation_at, body_part, body_in}
use Rattle.prepared.specs.Prepared.{prepared_part}
use Rattle.preparing.specs.Ends.{Clear, Cut, Marked}
use Rattle.preparing.specs.Promise.{PreparedOf}
use Rattle.preparing.proofs.Standing.{marked_prepared}

-- the parts of a list from two places on are the same where these are the same, or both behind it
same_drop : (l : List ℕ) (place : ℕ) {from : ℕ} → from ≡ min place (length l) → drop from l ≡ drop place l
same_drop l place {from} h =
    cases (leb place (length l))
    (λ b. let e : from ≡ place = omega (arith, leb-true place (length l) b) in ap (λ (i : ℕ). drop i l) e)
    (λ b. let past = leb-false place (length l) b in
    drop_of_length-le l {i = from} (omega arith) ∙ sym (drop_of_length-le l {i = place} (omega arith)))

same_take : (l : List ℕ) (n m : ℕ) → min n (length l) ≡ min m (length l) → take n l ≡ take m l
same_take l n m h =
    cases (leb (length l) n)
    (λ b. take_all n l (leb-true (length l) n b) ∙ sym (take_all m l (omega (arith, leb-true (length l) n b))))
    (λ b. let e : n ≡ m = omega (arith, leb-false (length l) n b) in ap (λ (i : ℕ). take i l) e)

cut_size : (from room size : ℕ) {to long : ℕ} → from ≤ size → to ≡ min (from + room) size → long ≡ size - from
    → to - from ≡ min room long
cut_size from room size a b c = omega arith

cut_same : (n long : ℕ) {room size : ℕ} → room ≡ min n 256 → size ≡ min room long → min n long ≤ 256 → min size long ≡ min n long
cut_same n long a b c = omega arith

-- n bytes from a place on, cut after 256 of them and at the list's end
pub body_cut : (l : List ℕ) (place n : ℕ) {from room to : ℕ} → from ≡ min place (length l) → room ≡ min n 256
    → to ≡ min (from + room) (length l) → Cut (take n (drop place l)) (take (to - from) (drop from l))
body_cut l place n {from} {room} {to} f r t =
    let rest = drop from l in
    let size = cut_size from room (length l) (omega arith) t (length-drop from l) in
    rw (← same_drop l place f) (record {
      short = omega (arith, length-take (to - from) rest, size);
      same = λ b. same_take rest (to - from) n (cut_same n (length rest) r size (rw (length-take n rest) at b));
    })

-- ---- zeros
pub clear_zeros : (n : ℕ) → Clear (replicate n 0) n
clear_zeros n = record {
  size = length-replicate {A = ℕ} n 0;
  zeros = λ i. cases (ltb i n) (λ h. get_or-replicate n i 0 0 (ltb-true i n h))
      (λ h. get_or-eq_default (replicate n 0) 0 (omega (arith, ltb-false i n h, length-replicate {A = ℕ} n 0)));
}

-- a body that was cut is prepared, where it is short enough
cut_prepared : {s r p : List ℕ} → Cut s r → Marked r p 0 → PreparedOf s p
cut_prepared cut m k f whole = marked_prepared (rw (cut.same whole.short) at m) k f whole

-- ---- the part of number e is written over
module _ (all new : List ℕ) (e : ℕ) (few : e < 8) (size : length all ≡ 4096) (long : length new ≡ 512) where
  abbrev first : ℕ
  first = e * 512

  abbrev put : List ℕ
  put = put_mid first (first + 512 - first) all new

  put_size : length put ≡ 4096
  put_size =
      same_len_mid first (first + 512 - first) all new
      (omega (arith, length-take (first + 512 - first) (drop first all), length-drop first all)) ∙ size

  put_before : (i : ℕ) → i < first → get_or put i 0 ≡ get_or all i 0
  put_before i h =
      sym (get_or-take first put i 0 h)
      ∙ ap (λ (l : List ℕ). get_or l i 0) (take_put first (first + 512 - first) all new (omega arith))
      ∙ get_or-take first all i 0 h

  put_behind : (i : ℕ) → first + 512 ≤ i → get_or put i 0 ≡ get_or all i 0
  put_behind i h =
      let last = first + 512 in
      let n = i - last in
      let e : i ≡ last + n = omega arith in
      rw e (sym (get_or-drop last put n 0)
      ∙ ap (λ (l : List ℕ). get_or l n 0) (drop_put first last all new (omega arith) (omega arith) (omega arith))
      ∙ get_or-drop last all n 0)

  put_part : prepared_part put e ≡ new
  put_part =
      let behind = post_of first (first + 512 - first) all in
      let there : drop first put ≡ new ++ behind =
      drop_at (take first all) (new ++ behind) first (length-take-le first all (omega arith)) in
      rw there (take_at new behind 512 long)

  put_other : (j : ℕ) → j < e → prepared_part put j ≡ prepared_part all j
  put_other j h =
      let size_of : (l : List ℕ) → length l ≡ 4096 → length (prepared_part l j) ≡ 512 =
      λ l s. length-take 512 (drop (j * 512) l) ∙ omega (arith, length-drop (j * 512) l) in
      ext_get_or 0 (prepared_part put j) (prepared_part all j) (size_of put put_size ∙ sym (size_of all size))
      (λ i l. let b : i < 512 = omega (arith, size_of put put_size) in
      get_or-take 512 (drop (j * 512) put) i 0 b ∙ get_or-drop (j * 512) put i 0 ∙ put_before (j * 512 + i) (omega arith)
      ∙ sym (get_or-take 512 (drop (j * 512) all) i 0 b ∙ get_or-drop (j * 512) all i 0))

-- ---- the bodies before number e are prepared; from the place of the next on all is 0
pub record Preparing (bodies : List ℕ) (equations : List Equation) (all : List ℕ) (e : ℕ) : Type 0 where
  pub few : e ≤ 8
  pub size : length all ≡ 4096
  pub left : (i : ℕ) → e * 512 ≤ i → get_or all i 0 ≡ 0
  pub done : (j : ℕ) → j < e → PreparedOf (body_in bodies equations j) (prepared_part all j)

module _ {bodies : List ℕ} {equations : List Equation} {all : List ℕ} {e : ℕ} (k : Preparing bodies equations all e)
    (more : e < 8) where
  pub next_clear : Clear (mid_of (e * 512) (e * 512 + 512 - e * 512) all) 512
  next_clear =
      let first = e * 512 in
      let n : first + 512 - first ≡ 512 = omega arith in
      let rest = drop first all in
      let long : length (take 512 rest) ≡ 512 = length-take 512 rest ∙ omega (arith, length-drop first all, k.size) in
      rw n (record {
        size = long;
        zeros = λ i. cases (ltb i 512)
            (λ h. get_or-take 512 rest i 0 (ltb-true i 512 h) ∙ get_or-drop first all i 0 ∙ k.left (first + i) (omega arith))
            (λ h. get_or-eq_default (take 512 rest) 0 (omega (arith, ltb-false i 512 h)));
      })

  pub one_prepared : {body new : List ℕ} → Cut (body_part bodies e (equation_at equations e).length) body → Marked body new 0
      → Preparing bodies equations (put_mid (e * 512) (e * 512 + 512 - e * 512) all new) (e + 1)
  unfolding body_in
  one_prepared {body} {new} cut m = record {
    few = omega arith;
    size = put_size all new e more k.size m.size;
    left = λ i l. put_behind all new e more k.size m.size i (omega arith) ∙ k.left i (omega arith);
    done = λ j l. cases (ltb j e)
        (λ h. let before = ltb-true j e h in
        rw (put_other all new e more k.size m.size j before) (k.done j before))
        (λ h. let here : j ≡ e = omega (arith, ltb-false j e h) in
        rw (here, put_part all new e more k.size m.size) (cut_prepared cut m));
  }
