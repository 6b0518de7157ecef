-- What is found in pruned tables holds of those that they stand for.
-- Assumes nothing.
use Rattle.std.proofs.Common.{ℕ, subst, take, Option, None, Some, MatchOption}
use Rattle.nets.specs.Net.{Found, None as NoneSuits}
use Rattle.nets.specs.NetIn.{net_in}
use Rattle.nets.specs.declared.Tables.{Tables}
use Rattle.pruning.specs.Steps.{Pruned}
use Rattle.pruning.proofs.Keeping.{keeps_found, keeps_none}
use Rattle.search.specs.declared.Choice.{Choice}

pub kept : {before after : Tables} {a : ℕ} → Pruned before a after → (r : Option Choice) →
    MatchOption r (NoneSuits (net_in after) a) (λ c. Found (net_in after) a c.cost (take after.sections c.sizes)) →
    MatchOption r (NoneSuits (net_in before) a) (λ c. Found (net_in before) a c.cost (take before.sections c.sizes))
kept {a = a} st None n = keeps_none a st.keeps n
kept {before = before} {a = a} st (Some c) f = subst (λ n. Found (net_in before) a c.cost (take n c.sizes)) st.alike.sections (keeps_found a st.keeps f)
