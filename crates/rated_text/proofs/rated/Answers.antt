-- `rated_text::rated` meets its contract.
-- Assumes nothing.
use Rattle.std.proofs.Common.{w32, arith, append_assoc}
use mir.Val.{SFits}
use Rattle.std.proofs.lemmas.Int.{to_z-of_z}
use Rattle.rated_text.specs.RatedText.{lines_of}
use Rattle.rated_text.proofs.Figures.{flows_own}
use Rattle.rated_text.proofs.rated.Goals as goal

pub returns : goal.returns
unfolding lines_of
returns c =
    let own = flows_own c.args.rating.now.accepted.job c.args.rating.now.figures c.sections.ensures c.args.rating.now.flows in
    let fits : SFits w32 c.heads-heads.result.required = record { sfits = omega arith } in
    let required = simp to_z-of_z at c.put_head.ensures.bytes in
    let heads = rw (c.with_losses.ensures.0, c.with_losses.ensures.1) at c.heads-heads.ensures in
    rw (
      required,
      c.put_sections.ensures.bytes,
      c.put_house.ensures.bytes,
      c.new-text.ensures,
      c.from.ensures,
      own,
      c.hour.ensures,
      c.day.ensures,
      c.mean.ensures,
      heads.0,
      heads.1,
      heads.2,
      append_assoc,
    )
