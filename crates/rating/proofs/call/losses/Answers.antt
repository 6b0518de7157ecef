-- The sections' figures, where the sections are rated; the result has no bytes before them.
-- Assumes nothing.
use Rattle.std.proofs.Common.{◌∙◌, refl}
use Rattle.rating.proofs.Rated.{rated_sections}
use Rattle.rating.proofs.call.losses.Goals as goal

pub returns-clause-buffer : goal.returns-clause-buffer
returns-clause-buffer c =
    let r = c.in_ok-rating.ensures.rated in
    c.put_sections.ensures ∙ rw (rated_sections r c.sections.ensures, r.fields) refl
