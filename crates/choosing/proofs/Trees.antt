-- The tables that the code fills are a tree drawn from the job and the catalogue, and one that the search takes.
-- Assumes nothing.
use mathlib.Core.Path.{◌≡◌, refl, ◌∙◌}
use mathlib.Core.Logic.{⊎_elim}
use mathlib.Core.Bool.{true, false, not}
use mathlib.Core.List.{List}
use Prim.Native.Nat.{ℕ, ◌+◌, ◌*◌, ◌≤◌, ◌<◌}
use native.Mathlib.Omega.{arith}
use borrow.Author.Tests.{lt-ltb}
use lib.Dec.{ltb}
use lib.ListN.{get_or}
use Rattle.std.proofs.lemmas.Bool.{cases_Bool}
use Rattle.fields.specs.declared.Job.{Job}
use Rattle.fields.specs.Fields.{count_of, section_of}
use Rattle.wire.specs.Wire.{byte_at}
use Rattle.demand.specs.Demand.{Accepted}
use Rattle.demand.proofs.Validity.{valid_count, valid_rooted}
use Rattle.catalogue.specs.Layout.{sizes_of}
use Rattle.catalogue.specs.Steps.{AcceptedCat}
use Rattle.catalogue.proofs.AcceptedCat.{cat_counts}
use Rattle.sizing.specs.Losses.{over_at, loss_with, loss_at}
use Rattle.sizing.proofs.LossBounds.{loss_top}
use Rattle.nets.specs.Tables.{top, net_of, Sound}
use Rattle.choosing.specs.Suitable.{price_at}
use Rattle.choosing.specs.Steps.{loss_entry, Pair, Tabled, NeedsOf, TreeOf}
use Rattle.choosing.proofs.Entries.{entry_over, entry_under, pair_section, pair_head, price_top, slope_top}

module _ {job : Job} {cat losses costs : List ℕ} (a : Accepted job) (l : AcceptedCat cat) (bytes : (k : ℕ) → byte_at cat k < 256)
    (t : Tabled (loss_entry job cat) (count_of job) (sizes_of cat) losses)
    (u : Tabled (λ i s. price_at job cat s i) (count_of job) (sizes_of cat) costs) where
  module _ (i s : ℕ) (first : 0 < i) (last : i ≤ count_of job) (low : 0 < s) (high : s ≤ sizes_of cat) where
    pair : Pair job cat i s
    pair = record { accepted = a; listed = l; first = first; last = last; low = low; high = high }

    -- a loss is below the mark
    loss_small : loss_at job cat s i < top
    unfolding loss_with
    loss_small = omega (arith, loss_top _ _ _ (slope_top pair bytes) (pair_section pair).decimetres.high (pair_head pair).tenths.high)

    loss_held : over_at job cat s i ≡ false → get_or losses (i * 13 + s) 0 ≡ loss_at job cat s i
    loss_held o = t.at i s first last low high ∙ entry_under job cat i s o

    marked : ltb (get_or losses (i * 13 + s) 0) top ≡ not (over_at job cat s i)
    marked =
        ⊎_elim
        (λ (o : over_at job cat s i ≡ true). rw (o, t.at i s first last low high, ← entry_over job cat i s o))
        (λ (o : over_at job cat s i ≡ false). rw (o, loss_held o) (lt-ltb (loss_at job cat s i) top loss_small))
        (cases_Bool (over_at job cat s i))

    price_held : get_or costs (i * 13 + s) 0 ≤ 50000000
    price_held = rw (u.at i s first last low high) (price_top pair)

  module _ {sections sizes : ℕ} (parents : List ℕ) {needs : List ℕ} (es : sections ≡ count_of job) (ez : sizes ≡ sizes_of cat)
      (above : (i : ℕ) → 0 < i → i ≤ count_of job → get_or parents i 0 ≡ (section_of job i).parent) (e : NeedsOf job needs) where
    pub tree_of : TreeOf job cat (net_of sections sizes parents needs losses costs)
    tree_of =
        record {
          sections = es;
          sizes = ez;
          parent = above;
          need = e.need;
          allowed = marked;
          loss = loss_held;
          cost = u.at;
        }

    pub sound : Sound (net_of sections sizes parents needs losses costs)
    sound =
        record {
          few = rw es (valid_count a.valid).high;
          sizes = rw ez (cat_counts l).0.high;
          lower = λ s h k. let m : s ≤ count_of job = rw (← es) k in rw (above s h m) ((valid_rooted a.valid).lower s h m);
          cheap = λ i s h k m n. price_held i s h (rw (← es) k) m (rw (← ez) n);
          marked = λ i s. refl;
        }
