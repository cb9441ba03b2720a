-- `words::count_with` meets its contract.
-- The words that are kept are those that the definition counts.
use Rattle.std.proofs.Common.{ℕ, suc, ◌≡◌, ◌+◌, ◌/◌, eqb, List, arith, rules, sym, refl, ◌∙◌}
use Rattle.std.specs.Prelude.{count_by}
use Rattle.std.proofs.lemmas.List.Recursion.{is_count_by}
use Rattle.words.specs.Counts.{count_with}
use Rattle.words.proofs.count_with.Goals as goal

counted : (e : ℕ) (ws : List ℕ) → count_with e ws ≡ count_by (λ w. eqb (w / 65536) e) ws
unfolding count_with
counted e ws =
    is_count_by (count_with e) (λ w. eqb (w / 65536) e) refl
    (λ x xs. let one : 1 + count_with e xs ≡ suc (count_with e xs) = omega arith in rw one refl) ws

pub returns : goal.returns
returns c =
    let kept : c.count.result ≡ count_by (λ w. eqb (w / 65536) c.args.equation) c.args.list.now = search rules in
    kept ∙ sym (counted c.args.equation c.args.list.now)
