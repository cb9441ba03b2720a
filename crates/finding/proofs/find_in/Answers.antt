-- The reached instances are found in order, as far as there is room, and their graph is drawn.
-- The invariant: table and rows are in the midst of the search, the first i of its instances are taken.
-- The measure is the room that is not yet taken.
use native.Mathlib.Omega.{arith}
use mathlib.Core.Path.{refl}
use mathlib.Core.Bool.{true≢false}
use Rattle.finding.proofs.Finding.{search_starts, search_on, search_over, no_room, all_found}
use Rattle.finding.proofs.FoundGraph.{drawing_starts, drawing_on, all_drawn}
use Rattle.finding.proofs.find_in.Goals as goal

pub returns-then-room-eq0 : goal.returns-then-room-eq0
returns-then-room-eq0 c =
    record {
      few = omega arith;
      found = record {
        finds = λ count first h. no_room h c.if-room-eq0.true;
        draws = λ count first h over. absurd (true≢false over);
      };
    }

pub loop-i-init : goal.loop-i-init
loop-i-init c = (search_starts c.args.table.now _ (omega arith) c.requires refl refl, drawing_starts)

-- there is no room for all that comes next
pub returns-then-room-side : goal.returns-then-room-side
returns-then-room-side c =
    let s = c.loop-i.invariant.0 in
    record {
      few = omega arith;
      found = record {
        finds = λ count first h. search_over h s c.loop-i-test.true c.gather_side-side.ensures c.if-room-side.true;
        draws = λ count first h over. absurd (true≢false over);
      };
    }

-- one more instance is taken
pub loop-i-preserved : goal.loop-i-preserved
loop-i-preserved c =
    let l = c.loop-i.invariant in
    let fits = c.if-room-side.false in (
      search_on l.0 c.loop-i-test.true c.gather_side-side.ensures fits,
      drawing_on l.0 l.1 c.loop-i-test.true c.gather_side-side.ensures fits c.equation_number.ensures
          c.draw_side.ensures,
    )

-- nothing is left to take
pub returns : goal.returns
returns c =
    let l = c.loop-i.invariant in
    record {
      few = l.0.within;
      found = record {
        finds = λ count first h. all_found h l.0 c.loop-i-test.false;
        draws = all_drawn l.0 l.1 c.loop-i-test.false;
      };
    }
