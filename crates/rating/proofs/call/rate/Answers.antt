-- The rating's bytes, where the sections are rated.
-- Assumes nothing.
use Rattle.std.proofs.Common.{◌∙◌, refl, arith}
use Rattle.rating.proofs.Rated.{rated_stored, rated_room}
use Rattle.rating.proofs.call.rate.Goals as goal

pub returns-clause-buffer : goal.returns-clause-buffer
returns-clause-buffer c =
    let r = c.in_ok-rating.ensures.rated in
    c.put_sections.ensures ∙
    rw (c.put_heads.ensures, c.with_losses.ensures.0, c.with_losses.ensures.1)
    (rated_stored r c.sections.ensures _ (omega (arith, rated_room r 9 6 refl)) ∙ rw r.fields refl)
