-- The service in a record: byte 40 in version 2, where the record reaches that far, and total otherwise.
-- Assumes nothing.
use mathlib.Core.Path.{◌≡◌, ◌∙◌}
use mathlib.Core.List.{List}
use Prim.Native.Nat.{ℕ, ◌≤◌}
use lib.ListN.{length, get_or-eq_default}
use borrow.Author.Tests.{eq-eqb, ne_eqb}
use Rattle.wire.specs.Wire.{byte_at}
use Rattle.record.specs.Record.{version_at, service_at}

module _ (b : List ℕ) where
  pub service_two : version_at b ≡ 2 → service_at b ≡ byte_at b 40
  unfolding service_at
  service_two e = rw (eq-eqb (version_at b) 2 e)

  pub service_other : (version_at b ≡ 2 → ⊥) → service_at b ≡ 0
  unfolding service_at
  service_other n = rw (ne_eqb (version_at b) 2 n)

  pub service_past : version_at b ≡ 2 → length b ≤ 40 → service_at b ≡ 0
  service_past e h = service_two e ∙ get_or-eq_default b 0 h
