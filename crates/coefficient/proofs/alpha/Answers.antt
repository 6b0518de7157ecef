-- From the first key on `coefficient::alpha` meets its contract, by what the search ensures of the place.
-- Assumes nothing.
use Rattle.std.proofs.Common.{◌≡◌, ◌+◌, ◌<◌, ◌≤◌, ◌∙◌, sym, arith, ltb-true, ltb-false}
use Rattle.coefficient.proofs.Pairs.{pairs_length, pair_at}
use Rattle.coefficient.proofs.Reading.{reached_last, reached_piece, reached_line}
use Rattle.coefficient.specs.Table.{key_at, value_at}
use Rattle.coefficient.proofs.alpha.Goals.{In-Some}
use Rattle.coefficient.proofs.alpha.Goals as goal

pub returns-in_default : goal.returns-in_default
returns-in_default c =
    let last : 486 ≤ c.place-i.result + 1 = ltb-false _ _ (sym (rw (c.table2-table.ensures, pairs_length) at c.in_default.ensures.lookup.0)) in
    rw (c.table2-table.ensures, pair_at c.place-i.result (0, 0) (omega arith)) (reached_last c.place-i.ensures (omega arith))

next : (c : In-Some) → (c.place-i.result < 485) × (c.in-Some.field-0.now ≡ (key_at (c.place-i.result + 1), value_at (c.place-i.result + 1)))
next c =
    let more : c.place-i.result + 1 < 486 = ltb-true _ _ (sym (rw (c.table2-table.ensures, pairs_length) at c.in-Some.ensures.lookup.0)) in
    (omega arith, rw (c.table2-table.ensures, pair_at (c.place-i.result + 1) _ more) at c.in-Some.ensures.lookup.1)

pub line_at-requires : goal.line_at-requires
line_at-requires c =
    let n = next (goal.at.line_at-requires c).In-Some in
    rw (c.table2-table.ensures, n.1, pair_at c.place-i.result (0, 0) (omega arith)) (reached_piece c.place-i.ensures n.0)

pub returns : goal.returns
returns c =
    let n = next (goal.at.returns c).In-Some in
    c.line_at.ensures ∙
    rw (c.table2-table.ensures, n.1, pair_at c.place-i.result (0, 0) (omega arith))
    (reached_line c.place-i.ensures n.0 (omega arith))
