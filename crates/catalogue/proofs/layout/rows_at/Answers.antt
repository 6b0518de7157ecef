-- `catalogue::layout::rows_at`: what is handed on is the size's part.
-- Assumes nothing.
use Rattle.std.proofs.Common.{◌≡◌, ◌∙◌, ap}
use Rattle.std.specs.List.{concat}
use Rattle.catalogue.specs.Layout.{rows_of}
use Rattle.catalogue.proofs.Places.{part_handed, part_long}
use Rattle.catalogue.proofs.Chunks.{chunks_part}
use Rattle.catalogue.proofs.layout.rows_at.Goals as goal

pub returns-clause-part : goal.returns-clause-part
returns-clause-part c =
    let n : c.from.result ≡ rows_of c.args.cat.now = cc in
    ap concat c.as_chunks.ensures.front ∙
    chunks_part (rows_of c.args.cat.now) _ _ (part_handed c.requires c.size_from-from.result c.from.result c.size_from-from.ensures n) (part_long c.requires)
