-- What one kind adds to the sums of a section, of the house or of its hour, with bounds that hold for every kind and service.
-- Assumes nothing.
use Rattle.std.specs.Prelude.{◌≡◌, cond, ℕ, ◌*◌, ◌≤◌, eqb, ltb}
use Rattle.basis.specs.Round.{up}
use Rattle.norms.specs.declared.Norm.{Norm}

-- a kind with these norms and residents, n of whose fixtures in the house are served
pub record Adds (norm : Norm) (residents n house share weighted tap : ℕ) : Type 0 where
  pub share_is : share ≡ cond (eqb house 0) 0 (up (25000 * norm.hour * residents * n) (9 * norm.fixture * house))
  pub share_top : share ≤ 22547890181250000
  pub weighted_is : weighted ≡ share * norm.fixture
  pub weighted_top : weighted ≤ 676436705437500000
  pub tap_is : tap ≡ 10 * cond (ltb 0 n) norm.fixture 0

-- a kind with these norms and residents, in the house's hour
pub record HourAdds (norm : Norm) (residents share weighted : ℕ) : Type 0 where
  pub share_is : share ≡ up (100000 * norm.hour * residents) norm.hourly
  pub share_top : share ≤ 32767500000
  pub weighted_is : weighted ≡ share * norm.hourly
  pub weighted_top : weighted ≤ 9830250000000
