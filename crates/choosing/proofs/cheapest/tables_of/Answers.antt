-- The tables are a tree drawn from the job and the catalogue.
-- Assumes nothing.
use Rattle.std.proofs.Common.{◌≡◌, ℕ, ◌<◌, ◌≤◌, ◌∙◌, get_or}
use Rattle.fields.specs.Fields.{count_of, section_of}
use Rattle.tree.proofs.Below.{parent_at}
use Rattle.tree.proofs.Parents.{parents_held}
use Rattle.demand.proofs.Validity.{valid_count}
use Rattle.choosing.proofs.Trees.{tree_of, sound}
use Rattle.choosing.proofs.cheapest.tables_of.Goals as goal
use Rattle.choosing.proofs.cheapest.tables_of.Goals.{After-needs_of}

above : (c : After-needs_of) → (i : ℕ) → 0 < i → i ≤ count_of c.args.accepted.now.job → get_or c.parents_of.result i 0 ≡ (section_of c.args.accepted.now.job i).parent
above c i h k = parents_held c.args.accepted.now.job _ c.parents_of.ensures (valid_count c.args.accepted.now.accepted.valid).high i h k ∙ parent_at c.args.accepted.now.job i h

pub invariant_of-result : goal.invariant_of-result
invariant_of-result c =
    record {
      sound = sound c.args.accepted.now.accepted c.args.catalogue.now.accepted c.args.catalogue.now.fit c.put_options.ensures.losses c.put_options.ensures.costs
          c.parents_of.result c.count.ensures.is (c.from.ensures ∙ c.sizes.ensures) (above c) c.needs_of.ensures;
    }

pub returns : goal.returns
returns c =
    tree_of c.args.accepted.now.accepted c.args.catalogue.now.accepted c.args.catalogue.now.fit c.put_options.ensures.losses c.put_options.ensures.costs
    c.parents_of.result c.count.ensures.is (c.from.ensures ∙ c.sizes.ensures) (above (goal.at.returns c).After-needs_of) c.needs_of.ensures
