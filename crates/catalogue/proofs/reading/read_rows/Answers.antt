-- `catalogue::reading::read_rows` meets its contract, by what the search ensures of the row.
-- Assumes nothing.
use Rattle.std.proofs.Common.{◌≡◌, ◌-◌, length, arith}
use Rattle.std.specs.List.{concat}
use Rattle.catalogue.specs.Layout.{flow_at}
use Rattle.catalogue.specs.Reading.{served_of}
use Rattle.catalogue.proofs.Readings.{reading_over, drawn}
use Rattle.catalogue.proofs.reading.read_rows.Goals as goal

pub returns-then-row_at-q : goal.returns-then-row_at-q
unfolding served_of
returns-then-row_at-q c =
    let rows = c.args.rows.now in
    let last : c.row_at.result.flow ≡ flow_at (concat rows) (length rows - 1) = cc in
    rw (reading_over (concat rows) (length rows) c.args.q (omega arith))

pub line_at-requires : goal.line_at-requires
line_at-requires c =
    let d = drawn c.requires c.row_above-k.ensures in
    rw (c.on_velocity.ensures, c.on_velocity-2.ensures, c.row_before-low.ensures, c.row_at-high.ensures)
    (record { across = d.across; rising = d.velocity_rises; low = d.low; high = d.high })

pub line_at-requires-2 : goal.line_at-requires-2
line_at-requires-2 c =
    let d = drawn c.requires c.row_above-k.ensures in
    rw (c.on_slope.ensures, c.on_slope-2.ensures, c.row_before-low.ensures, c.row_at-high.ensures)
    (record { across = d.across; rising = d.slope_rises; low = d.low; high = d.high })

pub returns : goal.returns
unfolding served_of
returns c =
    let d = drawn c.requires c.row_above-k.ensures in
    rw (
      d.reading,
      c.line_at.ensures,
      c.line_at-2.ensures,
      c.on_velocity.ensures,
      c.on_velocity-2.ensures,
      c.on_slope.ensures,
      c.on_slope-2.ensures,
      c.row_before-low.ensures,
      c.row_at-high.ensures,
    )
