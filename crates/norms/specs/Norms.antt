-- Document 01, "Norms and design flows", and document 02, L4: the norms of the twelve kinds for a service, which is total (0), cold (1) or
-- hot (2).
-- Assumes nothing.
use Rattle.std.specs.Prelude.{ℕ, ◌+◌, ◌-◌, ◌*◌, min, List, [], ◌∷◌, ◌++◌, get_or}
use Rattle.basis.specs.Slots.{tabulate}
use Rattle.norms.specs.declared.Norm.{Norm}

-- a resident's norm for each service, one after another: total, cold, which is total less hot, and hot
unfoldable pub total_cold_hot : List ℕ → List ℕ → List ℕ
total_cold_hot total hot = total ++ (tabulate 12 (λ c. get_or total c 0 - get_or hot c 0) ++ hot)

-- D, litres per resident on the greatest day: total, and hot
unfoldable pub day_norms : List ℕ
day_norms =
    total_cold_hot
    (400 ∷ 100 ∷ 160 ∷ 120 ∷ 230 ∷ 200 ∷ 250 ∷ 300 ∷ 115 ∷ 15 ∷ 16 ∷ 20 ∷ [])
    (130 ∷ 60 ∷ 90 ∷ 70 ∷ 140 ∷ 100 ∷ 150 ∷ 180 ∷ 75 ∷ 6 ∷ 7 ∷ 8 ∷ [])

-- Q, tenths of a litre per resident in the greatest hour: total, and hot
unfoldable pub hour_norms : List ℕ
hour_norms =
    total_cold_hot
    (200 ∷ 104 ∷ 120 ∷ 125 ∷ 190 ∷ 224 ∷ 280 ∷ 300 ∷ 84 ∷ 26 ∷ 40 ∷ 27 ∷ [])
    (109 ∷ 63 ∷ 75 ∷ 82 ∷ 120 ∷ 104 ∷ 150 ∷ 160 ∷ 54 ∷ 12 ∷ 20 ∷ 12 ∷ [])

-- Z, hundredths of a litre a second of a fixture: total, and of either line
unfoldable pub fixture_norms : List ℕ
fixture_norms =
    (30 ∷ 20 ∷ 20 ∷ 30 ∷ 20 ∷ 30 ∷ 30 ∷ 30 ∷ 20 ∷ 20 ∷ 14 ∷ 14 ∷ []) ++
    (20 ∷ 14 ∷ 14 ∷ 20 ∷ 14 ∷ 20 ∷ 20 ∷ 20 ∷ 14 ∷ 14 ∷ 10 ∷ 10 ∷ [])

-- O, litres an hour of a fixture: total, and of either line
unfoldable pub hourly_norms : List ℕ
hourly_norms =
    (300 ∷ 100 ∷ 100 ∷ 300 ∷ 115 ∷ 250 ∷ 280 ∷ 300 ∷ 100 ∷ 80 ∷ 80 ∷ 100 ∷ []) ++
    (200 ∷ 60 ∷ 60 ∷ 200 ∷ 80 ∷ 180 ∷ 190 ∷ 200 ∷ 60 ∷ 60 ∷ 60 ∷ 60 ∷ [])

-- the place of a kind's norm, for a resident: total, cold or hot. Refusal 3 lets no service over 2 pass, and here it counts as 2
abbrev pub resident_place : ℕ → ℕ → ℕ
resident_place service kind = 12 * min service 2 + (kind - 1)

-- and for a fixture: total or either line
abbrev pub fixture_place : ℕ → ℕ → ℕ
fixture_place service kind = 12 * min service 1 + (kind - 1)

-- the norms of a kind for a service
unfoldable pub norm_of : ℕ → ℕ → Norm
norm_of service kind =
    record {
      day = get_or day_norms (resident_place service kind) 0;
      hour = get_or hour_norms (resident_place service kind) 0;
      fixture = get_or fixture_norms (fixture_place service kind) 0;
      hourly = get_or hourly_norms (fixture_place service kind) 0;
    }
