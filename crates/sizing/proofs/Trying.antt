-- A section with a size: over its last row, over the limit, or neither; and the same of a job's section.
-- Assumes nothing.
use Rattle.std.proofs.Common.{Some, None}
use mathlib.Core.Path.{◌≡◌, sym, ◌∙◌}
use mathlib.Core.Bool.{true, false}
use mathlib.Core.List.{List}
use mathlib.Core.Logic.{⊎_elim}
use Prim.Native.Nat.{ℕ, ◌+◌, ◌*◌, ◌≤◌, ◌<◌}
use native.Mathlib.Omega.{arith}
use borrow.Author.Tests.{lt-ltb, le-ltb}
use Rattle.std.proofs.lemmas.Bool.{cases_Bool}
use Rattle.basis.proofs.Part.{part_below}
use Rattle.wire.specs.Wire.{byte_at}
use Rattle.fields.specs.declared.Job.{Job}
use Rattle.catalogue.specs.Layout.{sizes_of, rows_of, size_from, part_of}
use Rattle.catalogue.specs.Reading.{SizeAtFlow, read_rows, served_of}
use Rattle.catalogue.specs.declared.reading.Reading.{Reading}
use Rattle.catalogue.specs.Steps.{AcceptedCat}
use Rattle.catalogue.proofs.AcceptedCat.{cat_rows}
use Rattle.catalogue.proofs.Readings.{reading_top, served_none, served_some}
use Rattle.sizing.specs.declared.Tried.{Tried}
use Rattle.sizing.specs.Losses.{reading_of, over_by, over_with, over_at, loss_of, loss_with, loss_at}
use Rattle.sizing.specs.Steps.{tried_of, tried_at}

-- velocities and slopes read from an accepted catalogue are of two bytes
pub read_top : {cat : List ℕ} → AcceptedCat cat → (s : ℕ) → 0 < s → s ≤ sizes_of cat → ((k : ℕ) → byte_at cat k < 256) → (q : ℕ) →
    ((read_rows (part_of cat s) (rows_of cat) q).velocity ≤ 65535) × ((read_rows (part_of cat s) (rows_of cat) q).slope ≤ 65535)
unfolding part_of
read_top {cat} l s a b bytes q = reading_top (cat_rows l s a b) (part_below cat (size_from cat s + 4) (8 * rows_of cat) 256 (omega arith) bytes) q

-- by what was read of the size
module _ (r : SizeAtFlow) (limit decimetres tenths : ℕ) where
  pub tried_none : served_of r ≡ None → tried_of r limit decimetres tenths ≡ None
  unfolding tried_of over_by
  tried_none e = rw (served_none r e)

  module _ (x : Reading) (e : served_of r ≡ Some x) where
    pub tried_limit : limit < x.velocity → tried_of r limit decimetres tenths ≡ None
    unfolding tried_of over_by
    tried_limit h = let s = served_some r x e in rw (s.0, lt-ltb limit r.velocity (omega arith))

    pub tried_under : x.velocity ≤ limit →
        tried_of r limit decimetres tenths ≡ Some (record { velocity = x.velocity; loss = loss_of x.slope decimetres tenths })
    unfolding tried_of over_by
    tried_under h = let s = served_some r x e in rw (s.1, s.2) (rw (s.0, le-ltb limit r.velocity (omega arith)))

module _ (job : Job) (cat : List ℕ) (s i : ℕ) where
  pub tried_over : over_at job cat s i ≡ true → tried_at job cat s i ≡ None
  unfolding tried_of over_with
  tried_over e = rw e

  pub tried_not : over_at job cat s i ≡ false →
      tried_at job cat s i ≡ Some (record { velocity = (reading_of job cat s i).velocity; loss = loss_at job cat s i })
  unfolding tried_of over_with loss_with
  tried_not e = rw e

  -- and whether it is over can be told from it
  pub none_over : tried_at job cat s i ≡ None → over_at job cat s i ≡ true
  none_over e =
      ⊎_elim (λ o. o) (λ (o : over_at job cat s i ≡ false). absurd (let f = sym (tried_not o) ∙ e in cc))
      (cases_Bool (over_at job cat s i))

  pub some_under : (t : Tried) → tried_at job cat s i ≡ Some t →
      (over_at job cat s i ≡ false) × (t.velocity ≡ (reading_of job cat s i).velocity) × (t.loss ≡ loss_at job cat s i)
  some_under t e =
      ⊎_elim
      (λ (o : over_at job cat s i ≡ true). absurd (let f = sym (tried_over o) ∙ e in cc))
      (λ (o : over_at job cat s i ≡ false). let f = sym (tried_not o) ∙ e in (o, cc, cc))
      (cases_Bool (over_at job cat s i))
