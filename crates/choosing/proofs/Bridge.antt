-- The tree that is drawn from a job and a catalogue has the same suitable lists at the same costs: document 01's words both ways.
-- Assumes nothing.
use mathlib.Core.Path.{◌≡◌, sym, ◌∙◌}
use mathlib.Core.Bool.{true, false}
use mathlib.Core.List.{List}
use Prim.Native.Nat.{ℕ, ◌+◌, ◌≤◌, ◌<◌}
use borrow.Author.Tests.{not-true}
use lib.IntN.{pos, ◌+ℤ◌}
use lib.ListN.{length}
use lib.Signed.{le_z}
use Rattle.basis.specs.Range.{within}
use Rattle.basis.specs.Sections.{size_of, path_of}
use Rattle.basis.proofs.Each.{all_each, any_at, any_each}
use Rattle.basis.proofs.Paths.{path_ext}
use Rattle.basis.proofs.Sum.{sum_ext}
use Rattle.basis.proofs.Within.{Within, in_within}
use Rattle.fields.specs.declared.Job.{Job}
use Rattle.fields.specs.Fields.{count_of, section_of}
use Rattle.tree.specs.Tree.{parent_of, Rooted}
use Rattle.tree.proofs.Below.{parent_at}
use Rattle.rules.proofs.HeaderBounds.{header_in}
use Rattle.demand.specs.Demand.{Valid}
use Rattle.demand.proofs.Validity.{valid_rooted, valid_count}
use Rattle.catalogue.specs.Layout.{sizes_of}
use Rattle.heads.specs.Heads.{reach_of}
use Rattle.heads.proofs.Loss.{parent_lower}
use Rattle.sizing.specs.Losses.{list_ok, over_at, any_with, over_any, losses_of}
use Rattle.sizing.proofs.Named.{list_all, list_long, list_names}
use Rattle.nets.specs.Net.{Net, loss_in, path_in, Suits, cost_in}
use Rattle.choosing.specs.Suitable.{SuitableAt, price_at, cost_of}
use Rattle.choosing.specs.Steps.{head_for, TreeOf}
use Rattle.choosing.proofs.Shifted.{met_reach, reach_met}
use Rattle.choosing.proofs.EachEnd.{required_ends, ends_required}

module _ (job : Job) (cat : List ℕ) (N : Net) (d : TreeOf job cat N) (valid : Valid job) (delivered : ℕ) where
  rooted : Rooted job
  rooted = valid_rooted valid

  pub lower : (s : ℕ) → 0 < s → s ≤ N.sections → N.parent s < s
  lower s h k = let l : s ≤ count_of job = rw (← d.sections) k in rw (d.parent s h l) (rooted.lower s h l)

  -- a list that names sizes, of which no section is over
  module _ (list : List ℕ) (named : list_ok job cat list ≡ true) (serves : over_any job cat list ≡ false) where
    under : (i : ℕ) → 0 < i → i ≤ count_of job → over_at job cat (size_of list i) i ≡ false
    unfolding any_with
    under i h k = any_at (count_of job) (λ j. over_at job cat (size_of list j) j) serves i h k

    loss_is : (i : ℕ) → 0 < i → i ≤ count_of job → N.loss i (size_of list i) ≡ losses_of job cat list i
    loss_is i h k = let w = list_names job cat list named i h k in d.loss i (size_of list i) h k w.low w.high (under i h k)

    pub path_is : (i : ℕ) → i ≤ count_of job → path_in N (size_of list) i ≡ path_of (parent_of job) (losses_of job cat list) i
    path_is =
        path_ext (parent_lower job rooted) N.parent (λ i h k. d.parent i h k ∙ sym (parent_at job i h))
        (losses_of job cat list) (loss_in N (size_of list)) loss_is

    -- the end of section i: its free head at the delivered head, and what the search asks there
    module _ (i : ℕ) (low : 0 < i) (high : i ≤ count_of job) where
      pub met_of : le_z (pos job.header.meter +ℤ reach_of job (losses_of job cat list) i) (pos delivered) ≡ true →
          path_in N (size_of list) i + N.need i ≤ head_for job delivered
      unfolding reach_of
      met_of e =
          rw (path_is i high)
          (reach_met (section_of job i).elevation (section_of job i).free (path_of (parent_of job) (losses_of job cat list) i) job.header.meter
          delivered (N.need i) (header_in job.header valid.header).meter (d.need i low high) e)

      pub of_met : path_in N (size_of list) i + N.need i ≤ head_for job delivered →
          le_z (pos job.header.meter +ℤ reach_of job (losses_of job cat list) i) (pos delivered) ≡ true
      unfolding reach_of
      of_met h =
          met_reach (section_of job i).elevation (section_of job i).free (path_of (parent_of job) (losses_of job cat list) i) job.header.meter
          delivered (N.need i) (header_in job.header valid.header).meter (d.need i low high) (rw (path_is i high) at h)

  -- document 01's words to the search's
  pub suits_net : (list : List ℕ) → SuitableAt job cat delivered list → Suits N (head_for job delivered) list
  suits_net list s =
      record {
        long = list_long job cat list s.sizes ∙ sym d.sections;
        sized = λ i h k. let w = list_names job cat list s.sizes i h (inside i k) in (w.low, rw d.sizes w.high);
        allowed = λ i h k. let w = list_names job cat list s.sizes i h (inside i k) in
            d.allowed i (size_of list i) h (inside i k) w.low w.high ∙ rw (under list s.sizes s.serves i h (inside i k));
        met = λ i h k. met_of list s.sizes s.serves i h (inside i k)
            (required_ends job (losses_of job cat list) delivered s.reaches i h (inside i k));
      }
    where
      inside : (i : ℕ) → i ≤ N.sections → i ≤ count_of job
      inside i k = rw (← d.sections) k

  -- and back
  module _ (list : List ℕ) (s : Suits N (head_for job delivered) list) where
    outside : (i : ℕ) → i ≤ count_of job → i ≤ N.sections
    outside i k = rw d.sections k

    long : length list ≡ count_of job
    long = s.long ∙ d.sections

    names : (i : ℕ) → 0 < i → i ≤ count_of job → Within 1 (sizes_of cat) (size_of list i)
    names i h k = let w = s.sized i h (outside i k) in record { low = w.0; high = rw (← d.sizes) w.1 }

    named : list_ok job cat list ≡ true
    named =
        list_all job cat list long ∙
        all_each (count_of job) (λ i. within 1 (sizes_of cat) (size_of list i)) (λ i h k. in_within 1 (sizes_of cat) (size_of list i) (names i h k))

    serving : over_any job cat list ≡ false
    unfolding any_with
    serving =
        any_each (count_of job) (λ i. over_at job cat (size_of list i) i)
        (λ i h k. let w = names i h k in
        not-true (over_at job cat (size_of list i) i) (sym (d.allowed i (size_of list i) h k w.low w.high) ∙ s.allowed i h (outside i k)))

    pub net_suits : SuitableAt job cat delivered list
    net_suits =
        record {
          sizes = named;
          serves = serving;
          reaches = ends_required job (losses_of job cat list) delivered (valid_count valid).low
              (λ i h k. of_met list named serving i h k (s.met i h (outside i k)));
        }

  -- the same cost
  pub cost_net : (list : List ℕ) → list_ok job cat list ≡ true → cost_in N list ≡ cost_of job cat list
  unfolding cost_in cost_of
  cost_net list named =
      rw d.sections
      (sum_ext (count_of job) (λ i. N.cost i (size_of list i)) (λ i. price_at job cat (size_of list i) i)
      (λ i h k. let w = list_names job cat list named i h k in d.cost i (size_of list i) h k w.low w.high))
