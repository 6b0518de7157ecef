-- A kind's two counts in the rows of the counts, that of section i and that of the house, which is no less, and their bound.
-- Assumes nothing.
use mathlib.Core.Path.{◌≡◌, ◌∙◌}
use mathlib.Core.List.{List}
use Prim.Native.Nat.{ℕ, ◌+◌, ◌-◌, ◌≤◌, ◌<◌}
use native.Mathlib.Omega.{arith}
use Rattle.fields.specs.declared.Job.{Job}
use Rattle.tree.specs.Tree.{served_of, house_of, Rooted}
use Rattle.tree.specs.Rows.{cell, Counted}
use Rattle.tree.proofs.Served.{served_house, served_le}

pub record KindCounts (job : Job) (counts : List (List ℕ)) (i kind : ℕ) : Type 0 where
  pub served : cell counts i (kind - 1) ≡ served_of job i kind
  pub house : cell counts 0 (kind - 1) ≡ house_of job kind
  pub served_le : cell counts i (kind - 1) ≤ cell counts 0 (kind - 1)
  pub house_top : cell counts 0 (kind - 1) ≤ 4128705

pub kind_counts : {job : Job} {counts : List (List ℕ)} {i kind : ℕ} → Rooted job → Counted job counts → i < 64 → (1 ≤ kind) × (kind ≤ 12) →
    KindCounts job counts i kind
kind_counts {job} {counts} {i} {kind} r n h k =
    let s : kind - 1 + 1 ≡ kind = omega arith in
    let here : cell counts i (kind - 1) ≡ served_of job i kind = rw s at (n.at i (kind - 1) h (omega arith)) in
    let all : cell counts 0 (kind - 1) ≡ house_of job kind = (rw s at (n.at 0 (kind - 1) (omega arith) (omega arith))) ∙ served_house r kind in
    record {
      served = here;
      house = all;
      served_le = rw (here, all) (served_le r i kind);
      house_top = n.top 0 (kind - 1) (omega arith) (omega arith);
    }
