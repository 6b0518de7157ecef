-- A list that suits with some reading of the sizes suits with every lower one.
-- Assumes nothing.
use mathlib.Core.Path.{◌≡◌, refl}
use mathlib.Core.Bool.{true, false, not}
use mathlib.Core.List.{List}
use Prim.Native.Nat.{ℕ, ◌+◌, ◌≤◌, ◌<◌}
use native.Mathlib.Omega.{arith}
use lib.Dec.{ltb}
use lib.IntN.{pos, ◌+ℤ◌}
use lib.Signed.{le_z}
use borrow.Author.Tests.{le-ltb, ltb-false, not-false}
use Rattle.std.proofs.lemmas.Bool.{or_parts}
use Rattle.basis.specs.Sections.{size_of, path_of}
use Rattle.basis.proofs.Each.{any_at, any_each}
use Rattle.basis.proofs.Paths.{path_mono}
use Rattle.fields.specs.declared.Job.{Job}
use Rattle.fields.specs.Fields.{count_of, section_of}
use Rattle.tree.specs.Tree.{parent_of}
use Rattle.demand.specs.Demand.{Valid}
use Rattle.demand.proofs.Validity.{valid_rooted, valid_count}
use Rattle.catalogue.specs.Reading.{SizeAtFlow}
use Rattle.catalogue.specs.Layout.{sizes_of}
use Rattle.heads.specs.Heads.{reach_of}
use Rattle.heads.proofs.Loss.{parent_lower}
use Rattle.heads.proofs.Signed.{le_trans}
use Rattle.sizing.specs.Losses.{over_by, over_with, any_with, loss_with, losses_with}
use Rattle.sizing.proofs.LossBounds.{loss_mono}
use Rattle.sizing.proofs.Named.{list_names}
use Rattle.choosing.specs.Suitable.{SuitableWith}
use Rattle.choosing.proofs.EachEnd.{required_ends, ends_required}
use Rattle.choosing.proofs.Shifted.{add_mono, add_mono_right}
use Rattle.demands.specs.SmallFlows.{Lower}

-- a size that is not over stays so
over_lower : {r other : SizeAtFlow} (limit : ℕ) → Lower r other → over_by limit other ≡ false → over_by limit r ≡ false
unfolding over_by
over_lower {r} {other} limit l e =
    let parts = or_parts (not other.serves) (ltb limit other.velocity) e in
    let fast : other.velocity ≤ limit = ltb-false limit other.velocity parts.1 in
    rw (l.serves, not-false other.serves parts.0, le-ltb limit r.velocity (omega (arith, l.velocity)))

module _ (job : Job) (read other : ℕ → ℕ → SizeAtFlow) (s i : ℕ) (l : Lower (read s i) (other s i)) where
  pub over_with_lem : over_with job other s i ≡ false → over_with job read s i ≡ false
  unfolding over_with
  over_with_lem e = over_lower job.header.limit l e

  pub loss_with_lem : loss_with job read s i ≤ loss_with job other s i
  unfolding loss_with
  loss_with_lem = loss_mono _ _ (section_of job i).decimetres job.header.tenths l.slope

module _ {job : Job} (valid : Valid job) (cat : List ℕ) (read other : ℕ → ℕ → SizeAtFlow)
    (lower : (s i : ℕ) → 0 < s → s ≤ sizes_of cat → Lower (read s i) (other s i)) where
  module _ (delivered : ℕ) (list : List ℕ) (s : SuitableWith job cat other delivered list) where
    at : (i : ℕ) → 0 < i → i ≤ count_of job → Lower (read (size_of list i) i) (other (size_of list i) i)
    at i h k = let w = list_names job cat list s.sizes i h k in lower (size_of list i) i w.low w.high

    serves : any_with job read list ≡ false
    unfolding any_with
    serves =
        any_each (count_of job) (λ i. over_with job read (size_of list i) i)
        (λ i h k. over_with_lem job read other (size_of list i) i (at i h k) (any_at (count_of job) (λ j. over_with job other (size_of list j) j) s.serves i h k))

    -- no path loses more, so no end reaches higher
    path : (i : ℕ) → i ≤ count_of job → path_of (parent_of job) (losses_with job read list) i ≤ path_of (parent_of job) (losses_with job other list) i
    path =
        path_mono (parent_lower job (valid_rooted valid)) (parent_of job) (λ i h k. refl) (losses_with job other list) (losses_with job read list)
        (λ i h k. loss_with_lem job read other (size_of list i) i (at i h k))

    reach : (i : ℕ) → i ≤ count_of job → le_z (reach_of job (losses_with job read list) i) (reach_of job (losses_with job other list) i) ≡ true
    unfolding reach_of
    reach i k =
        add_mono_right (section_of job i).elevation ((section_of job i).free + path_of (parent_of job) (losses_with job read list) i)
        ((section_of job i).free + path_of (parent_of job) (losses_with job other list) i) (omega (arith, path i k))

    end : (i : ℕ) → 0 < i → i ≤ count_of job →
        le_z (pos job.header.meter +ℤ reach_of job (losses_with job read list) i) (pos delivered) ≡ true
    end i h k =
        le_trans (pos job.header.meter +ℤ reach_of job (losses_with job read list) i)
        (pos job.header.meter +ℤ reach_of job (losses_with job other list) i) (pos delivered)
        (add_mono job.header.meter (reach_of job (losses_with job read list) i) (reach_of job (losses_with job other list) i) (reach i k))
        (required_ends job (losses_with job other list) delivered s.reaches i h k)

    pub suits_lower : SuitableWith job cat read delivered list
    suits_lower =
        record { sizes = s.sizes; serves = serves; reaches = ends_required job (losses_with job read list) delivered (valid_count valid).low end }
