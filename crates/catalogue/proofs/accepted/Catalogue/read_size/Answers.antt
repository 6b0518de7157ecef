-- `catalogue::accepted::Catalogue::read_size` meets its contract: what is handed on are the size's rows, which keep their rules.
-- Assumes nothing.
use Rattle.catalogue.proofs.AcceptedCat.{cat_sized, cat_rows}
use Rattle.catalogue.proofs.accepted.Catalogue.read_size.Goals as goal

pub rows_at-requires : goal.rows_at-requires
rows_at-requires c = cat_sized c.args.self.now.accepted c.args.s c.requires.0 c.requires.1

pub read_rows-requires : goal.read_rows-requires
read_rows-requires c =
    rw (c.rows_at.ensures.part, c.rows_at.ensures.count) (cat_rows c.args.self.now.accepted c.args.s c.requires.0 c.requires.1)
