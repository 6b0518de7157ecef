-- The rules of a meter and of a list of meters as bounds, and back.
-- Assumes nothing.
use mathlib.Core.Path.{◌≡◌, sym}
use mathlib.Core.Bool.{true, false}
use mathlib.Core.List.{List}
use Prim.Native.Nat.{ℕ, ◌*◌}
use lib.ListN.{length}
use lib.Dec.{eqb}
use borrow.Author.Tests.{eq-eqb, eqb-true}
use Rattle.std.proofs.lemmas.Bool.{false_from_ne_true}
use Rattle.basis.specs.Range.{within, all_to}
use Rattle.basis.proofs.Bools.{left, right}
use Rattle.basis.proofs.Within.{Within, within_in, in_within}
use Rattle.meters.specs.Meters.{meters_in, meter_at, meter_ok, meters_ok}

pub record ListIn (list : List ℕ) : Type 0 where
  pub few : Within 1 8 (meters_in list)
  pub whole : length list ≡ 5 * meters_in list
  pub each : all_to (meters_in list) (λ t. meter_ok (meter_at list t)) ≡ true

module _ (list : List ℕ) where
  pub list_in : meters_ok list ≡ true → ListIn list
  unfolding meters_ok
  list_in e =
      let rest = right (within 1 8 (meters_in list)) _ e in
      record {
        few = within_in 1 8 (meters_in list) (left _ _ e);
        whole = eqb-true (length list) (5 * meters_in list) (left _ _ rest);
        each = right (eqb (length list) (5 * meters_in list)) _ rest;
      }

  pub list_refused : (ListIn list → ⊥) → false ≡ meters_ok list
  list_refused n = sym (false_from_ne_true (meters_ok list) (λ e. n (list_in e)))

  -- of a list of the right length each meter is left to look at
  pub list_each : Within 1 8 (meters_in list) → length list ≡ 5 * meters_in list → all_to (meters_in list) (λ t. meter_ok (meter_at list t)) ≡ meters_ok list
  unfolding meters_ok
  list_each few whole = rw (in_within 1 8 (meters_in list) few, eq-eqb (length list) (5 * meters_in list) whole)
