-- The price's bytes lie within an accepted catalogue.
-- Assumes nothing.
use Rattle.catalogue.proofs.AcceptedCat.{cat_sized}
use Rattle.catalogue.proofs.accepted.Catalogue.price.Goals as goal

pub price-requires : goal.price-requires
price-requires c = cat_sized c.args.self.now.accepted c.args.s c.requires.0 c.requires.1
