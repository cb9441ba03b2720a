-- What `translate` answers, refusal by refusal in their order, and what it leaves in the buffer.
-- Each test that is made in the code is the test in the definition.
use Prim.Native.Nat.{ℕ, ◌≤◌, ◌<◌}
use native.Mathlib.Omega.{arith}
use mathlib.Core.Path.{◌≡◌, refl, sym, ap, ◌∙◌}
use mathlib.Core.Bool.{true, false}
use mathlib.Core.List.{List}
use lib.ListN.{length}
use borrow.Author.Tests.{eq-eqb, ne_eqb, le-leb, lt-leb}
use Rattle.std.specs.Prelude.{Ok, Err}
use Rattle.refusals.specs.declared.Refusal.{Refusal as WhyNot}
use Rattle.refusals.specs.Numbers.{number_of}
use Rattle.refusals.specs.OneReply.{some_number}
use Rattle.reading.specs.Reading.{Refusal, refused}
use Rattle.inputs.specs.Inputs.{input_refusal}
use Rattle.processes.specs.Kept.{Input, input, told}
use Rattle.emitter.specs.Limits.{within_limits}
use Rattle.writing.specs.Writing.{refusal_reply, refusal_written, reply_to, BytesPut}
use Rattle.writing.proofs.Laws.{refuses, writes_put}
use Rattle.translator.specs.Answers.{model_for, translated_text, translation_refusal, Translates}

-- ---- the refusals
module _ (t : List ℕ) (room : ℕ) where
  refused_input : ((input_refusal t).number ≡ 0 → ⊥) → translation_refusal t room ≡ input_refusal t
  unfolding translation_refusal
  refused_input n = rw (ne_eqb (input_refusal t).number 0 n) refl

  module _ (read : (input_refusal t).number ≡ 0) where
    refused_limits : within_limits (model_for t) ≡ false → translation_refusal t room ≡ refused 15 0
    unfolding translation_refusal
    refused_limits l = rw (eq-eqb (input_refusal t).number 0 read, l) refl

    module _ (limits : within_limits (model_for t) ≡ true) where
      refused_room : room < length (translated_text t) → translation_refusal t room ≡ refused 10 0
      unfolding translation_refusal
      refused_room l =
          rw (eq-eqb (input_refusal t).number 0 read, limits, lt-leb (length (translated_text t)) room l) refl

      not_refused : length (translated_text t) ≤ room → translation_refusal t room ≡ refused 0 0
      unfolding translation_refusal
      not_refused l =
          rw (eq-eqb (input_refusal t).number 0 read, limits, le-leb (length (translated_text t)) room l) refl

-- ---- what is promised, by the refusal
module _ (t out : List ℕ) where
  pub stays_input : (x : WhyNot) → told (Err x) ≡ input t → Translates t out (refusal_written x) out
  unfolding input
  stays_input x is =
      let same : refused (number_of x.reason) x.line ≡ input_refusal t =
      ap (λ (i : Input). refused i.number i.line) is in
      let some = some_number x.reason in
      let n = refused_input t (length out) (λ z. some (ap (λ (r : Refusal). r.number) same ∙ z)) in
      refuses (translated_text t) out (n ∙ sym same) some

  module _ (read : (input_refusal t).number ≡ 0) where
    pub stays_limits : within_limits (model_for t) ≡ false → Translates t out (refusal_reply 15 0) out
    stays_limits l = refuses (translated_text t) out (refused_limits t (length out) read l) (λ e. omega arith)

    module _ (limits : within_limits (model_for t) ≡ true) where
      pub stays_room : length out < length (translated_text t) → Translates t out (refusal_reply 10 0) out
      stays_room l = refuses (translated_text t) out (refused_room t (length out) read limits l) (λ e. omega arith)

      pub model_put : {n : ℕ} {left : List ℕ} → length (translated_text t) ≤ length out
          → BytesPut out 0 (translated_text t) n left → Translates t out (reply_to (Ok n)) left
      model_put l = writes_put (not_refused t (length out) read limits l) l
