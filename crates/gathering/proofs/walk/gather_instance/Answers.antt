-- The instance at a place: its word is added, and its number put into the set.
-- What the evaluator tells of the word, and what is told of adding it.
use mathlib.Core.Path.{◌≡◌, refl, ap}
use lib.ListN.{length}
use borrow.Author.Rules.{rules}
use Rattle.std.proofs.Common.{Some, None}
use Rattle.looked.specs.declared.Looked.{Looked}
use Prim.Native.Nat.{ℕ}
use Rattle.gathering.specs.declared.Shape.TheVariants.{One}
use Rattle.gathering.specs.Filling.{added_word}
use Rattle.gathering.specs.Gathered.{left_of}
use Rattle.gathering.proofs.Noting.{marked_number}
use Rattle.gathering.proofs.walk.gather_instance.Goals as goal

pub returns-in-Some : goal.returns-in-Some
returns-in-Some c =
    let eight : length c.args.reads.now ≡ 8 = search rules in
    record {
      one = added_word c.add_word.new.found (Some c.in-Some.number);
      added = rw (c.word_at-i.ensures, c.in-Some.is) at c.add_word.ensures;
      counted = refl;
      noted = marked_number _ eight c.mark.ensures;
      told = ap (λ (w : Looked ℕ). left_of One w.looked) c.word_at-i.ensures;
    }

pub returns-in_default : goal.returns-in_default
returns-in_default c = record {
  one = added_word c.add_word.new.found None;
  added = rw (c.word_at-i.ensures, c.in_default.is) at c.add_word.ensures;
  counted = refl;
  noted = refl;
  told = ap (λ (w : Looked ℕ). left_of One w.looked) c.word_at-i.ensures;
}
