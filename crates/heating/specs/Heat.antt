-- Document 02, L4: the heat flow that warms so many litres an hour, formulas 10 and 11, and what 20 and 21 look at.
-- Assumes nothing.
use Rattle.std.specs.Prelude.{ℕ, ◌+◌, ◌-◌, ◌*◌, Bool, ◌&&◌, leb, eqb}
use Rattle.basis.specs.Round.{up}
use Rattle.fields.specs.declared.Job.{Job}
use Rattle.fields.specs.Fields.{service_of}

-- in watts, from cold water of t °C: 116 × l/h × (55 - t) / 100, up, plus the stated loss
unfoldable pub watts_of : ℕ → ℕ → ℕ → ℕ
watts_of litres t loss = up (116 * litres * (55 - t)) 100 + loss

-- 20 finds nothing: the job is hot
unfoldable pub hot_job : Job → Bool
hot_job job = eqb (service_of job) 2

-- 21 finds nothing: cold water of 0 to 30 °C, and a loss of 0 to 1,000,000 W
unfoldable pub heat_ok : ℕ → ℕ → Bool
heat_ok t loss = leb t 30 && leb loss 1000000
