-- What `replace` replies and leaves in the buffer, way by way: the refusals in their order, and the text.
-- Each is due for what is known there, and what is due is given.
use Prim.Native.Nat.{ℕ, ◌+◌, ◌*◌, ◌≤◌, ◌<◌, min}
use native.Mathlib.Omega.{arith}
use mathlib.Core.Path.{◌≡◌, sym, ap, ◌∙◌}
use mathlib.Core.List.{List, ◌++◌}
use lib.ListN.{length, get_or, take, drop}
use lib.Seq.{sets}
use Rattle.std.specs.Prelude.{Ok, Err}
use Rattle.std.proofs.Common.{Fits, w8}
use Rattle.refusals.specs.declared.Reason.{Reason}
use Rattle.refusals.specs.declared.Refusal.{Refusal as WhyNot}
use Rattle.refusals.specs.Numbers.{number_of}
use Rattle.refusals.specs.OneReply.{some_number}
use Rattle.frames.specs.Frames.{line_of}
use Rattle.formulas.specs.Bodies.{signatures_of}
use Rattle.reading.specs.declared.Reading.{Reading}
use Rattle.reading.specs.Reading.{Refusal, refused, text_refusal}
use Rattle.reading.specs.Records.{reading, told}
use Rattle.writing.specs.Writing.{refusal_reply, refusal_written, reply_to}
use Rattle.writing.proofs.Laws.{refuses, writes}
use Rattle.replacer.specs.Replaced.{replaced_text, Replaces}
use Rattle.replacer.specs.Order.{Due, old_text, not_there, new_text, no_room, none}
use Rattle.replacer.proofs.Order.{due_given}
use Rattle.replacer.specs.Result.{Small}
use Rattle.replacer.proofs.Result.{result_cut, result_length, reaches}
use Rattle.replacer.specs.Contract.{side_judged}
use Rattle.replacer.proofs.Known as known
use Rattle.replacer.proofs.Known.{ReadAs, Named, same_refusal, read, count_there, equation, in_text, there}
use Rattle.replacer.proofs.Known.{place_is, size_is, exact, long_told, judged_told}

-- a refusal that is due
due_stays : {t : List ℕ} {e : ℕ} {side out : List ℕ} {r : Refusal} → Due t e side (length out) r → (r.number ≡ 0 → ⊥)
    → Replaces t e side out (refusal_reply r.number r.line) out
due_stays d n = refuses _ _ (due_given d) n

pub old_stays : (t : List ℕ) (e : ℕ) (side out : List ℕ) (x : WhyNot) → told (Err x) ≡ reading t
    → Replaces t e side out (refusal_written x) out
old_stays t e side out x is =
    let same = same_refusal t x is in
    let some = some_number x.reason in
    let due : Due t e side (length out) (text_refusal t) = old_text (λ z. some (ap (λ (r : Refusal). r.number) same ∙ z)) in
    refuses _ out (due_given due ∙ sym same) some

pub gone_stays : {t : List ℕ} {r : Reading} → ReadAs t r → (e : ℕ) (side out : List ℕ) → r.model.count ≤ e
    → Replaces t e side out (refusal_reply 19 0) out
gone_stays a e side out h =
    due_stays {e = e} {side = side} {out = out} (not_there (read a) (omega (arith, count_there a))) (λ z. omega arith)

module _ {t : List ℕ} {r : Reading} {e : ℕ} (b : Named t r e) (side out : List ℕ) (added : ℕ)
    (cut : added ≡ min (length side) 16385) where
  abbrev size : ℕ
  size = known.size b side added cut

  new_stays : {x : Refusal} → text_refusal (replaced_text t e side) ≡ x → (x.number ≡ 0 → ⊥)
      → Replaces t e side out (refusal_reply x.number x.line) out
  new_stays {x} told n =
      let due : Due t e side (length out) (text_refusal (replaced_text t e side)) =
      new_text (read b.reads) (in_text b) (λ z. n (ap (λ (x : Refusal). x.number) (sym told) ∙ z)) in
      refuses _ out (due_given due ∙ told) n

  pub long_stays : 32768 < size → Replaces t e side out (refusal_reply 1 0) out
  long_stays long = new_stays (long_told b side added cut long) (λ z. omega arith)

  module _ (bytes : (i : ℕ) → Fits w8 (get_or side i 0)) (short : size ≤ 32768) where
    small : Small side
    small i = omega (arith, bytes i)

    pub side_stays : {reason : Reason}
        → Err reason ≡ side_judged side (equation b) (signatures_of r.model.equations r.model.count)
        → Replaces t e side out (refusal_reply (number_of reason) (get_or r.model.lines e 0)) out
    side_stays {reason} judged = new_stays (judged_told b side added cut small short judged) (some_number reason)

    module _ (judged : Ok tt ≡ side_judged side (equation b) (signatures_of r.model.equations r.model.count)) where
      not_refused : (text_refusal (replaced_text t e side)).number ≡ 0
      not_refused = ap (λ (x : Refusal). x.number) (judged_told b side added cut small short judged)

      long : size ≡ length (replaced_text t e side)
      long = exact b side added cut short

      pub room_stays : length out < size → Replaces t e side out (refusal_reply 10 0) out
      room_stays l =
          due_stays {e = e} {side = side} {out = out} (no_room (read b.reads) (in_text b) not_refused (omega (arith, long)))
          (λ z. omega arith)

      -- what `write_parts` asks for
      pub parts_fit : size ≤ length out → ((equation b).place + (2 * (equation b).length + 1) ≤ length t)
          × (length t + 2 * length side ≤ length out + 2 * (equation b).length)
      parts_fit room =
          rw (place_is b, size_is b) (reaches (there b), omega (arith, long, result_length (there b) side))

      pub text_written : {left : List ℕ} → size ≤ length out
          → left ≡ sets out 0 (take (equation b).place t ++
          (line_of side ++ drop ((equation b).place + (2 * (equation b).length + 1)) t))
          → Replaces t e side out (reply_to (Ok size)) left
      text_written {left} room written =
          let due : Due t e side (length out) (refused 0 0) =
          none (read b.reads) (in_text b) not_refused (omega (arith, long)) in
          let parts = sym (result_cut (there b) side) in
          rw (written, long, place_is b, size_is b, parts) (writes (replaced_text t e side) out (due_given due))
