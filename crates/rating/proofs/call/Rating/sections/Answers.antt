-- A job has at most 63 sections, so they lie within the 64 places.
-- Assumes nothing.
use Rattle.std.proofs.Common.{◌≡◌, ◌+◌, ◌-◌, length, rules, arith}
use borrow.Rule.Slice.PartMut.{mid_of}
use Rattle.std.specs.List.{slice_range}
use Rattle.fields.specs.Fields.{count_of}
use Rattle.demand.proofs.Validity.{valid_count}
use Rattle.rating.proofs.Rated.{alone}
use Rattle.rating.proofs.call.Rating.sections.Goals as goal

pub returns : goal.returns
returns c =
    let few = (valid_count c.args.self.now.accepted.accepted.valid).high in
    let places : length c.args.self.now.figures ≡ 64 = search rules in
    let count : c.count-count.result ≡ count_of c.args.self.now.accepted.job = c.count-count.ensures.is in
    let part : mid_of 1 (c.count-count.result + 1 - 1) c.args.self.now.figures ≡ slice_range c.args.self.now.figures 1 (count_of c.args.self.now.accepted.job + 1) =
    rw count (search rules) in
    alone _ _ part (omega arith)
