-- `reading::keep_body` meets its contract.
-- The body is put where that of the equation stands.
use Prim.Native.Nat.{ℕ, ◌+◌, ◌-◌, ◌*◌, ◌≤◌, ◌<◌, min}
use native.Mathlib.Omega.{arith}
use native.Mathlib.Decide.{dec_le}
use mathlib.Core.Path.{◌≡◌, refl, sym, ◌∙◌}
use mathlib.Core.List.{List, append_assoc}
use lib.ListN.{length, get_or, take, drop, length-drop, drop_of_length-le}
use lib.Seq.{sets, sets-eq, drop-drop, take_all}
use borrow.Rule.Slice.PartMut.{put_mid}
use Rattle.std.proofs.Common.{rules}
use Rattle.reading.proofs.drafting.keep_body.Goals as goal

-- what follows a head that ends within the frame, or nothing
what_follows : (f : List ℕ) (head from : ℕ) → from ≡ min head (length f) → take (length f - from) (drop from f) ≡ drop head f
what_follows f head from e = take_all _ (drop from f) (omega (arith, length-drop from f)) ∙ elim (dec_le head (length f)) [
  | yes h ↦ let same : from ≡ head = omega (arith, e) in rw same refl
  | no h ↦ drop_of_length-le f {i = from} (omega (arith, e)) ∙ sym (drop_of_length-le f {i = head} (omega arith))
]

put_in : (l w : List ℕ) (q n : ℕ) → n ≡ length w → q + n ≤ length l → put_mid q n l w ≡ sets l q w
put_in l w q n e h =
    rw (e, drop-drop (length w) q l) (sym (sets-eq w l q (omega (arith, e)) ∙ append_assoc (take q l) w _))

pub returns : goal.returns
returns c =
    let f = c.args.frame.now in
    let one_of_eight : c.args.j < 8 = c.requires.1 (sym c.element.ensures ∙ c.if-element-ne1.false) in
    let head : ℕ = 3 + get_or f 2 0 in
    let body = what_follows f head c.min.result (rw (c.from-head.ensures, c.element-2.ensures) at c.min.ensures) in
    let kept = rw body at c.copy_from_slice.ensures.after in
    let long : length c.args.bodies.now ≡ 2048 = search rules in
    let short : length (drop head f) ≤ 256 = omega (arith, length-drop head f, c.requires.0) in
    rw (← c.element.ensures, c.if-element-ne1.false, body, kept)
    (put_in c.args.bodies.now (drop head f) (256 * c.args.j) _ (omega arith) (omega (arith, one_of_eight, short, long)))
