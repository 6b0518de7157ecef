-- Document 01, "Rating and choosing", and document 02, L3: the bytes of a rating result, and of the losses and heads results, from each section's figures.
-- Assumes nothing.
use Rattle.std.specs.Prelude.{ℕ, ◌+◌, ◌*◌, List, [], ◌∷◌, ◌++◌}
use Rattle.basis.specs.Range.{concat_to}
use Rattle.wire.specs.Wire.{bytes_of, bits_of}
use Rattle.fields.specs.declared.Job.{Job}
use Rattle.fields.specs.Fields.{count_of}
use Rattle.heads.specs.Heads.{required_of, pump_of, dictating_of}

-- the length of a heads result
abbrev pub heads_length : ℕ
heads_length = 9

-- of a rating result for S sections
abbrev pub rate_length : ℕ → ℕ
rate_length count = heads_length + 6 * count

-- and of a losses result
abbrev pub losses_length : ℕ → ℕ
losses_length count = 10 * count

-- required head (4, signed), pump head (4), dictating section (1)
unfoldable pub heads_bytes : Job → (ℕ → ℕ) → List ℕ
heads_bytes job loss = bytes_of 4 (bits_of 32 (required_of job loss)) ++ (bytes_of 4 (pump_of job loss) ++ (dictating_of job loss ∷ []))

-- a rating: the heads, then velocity (2) and loss (4) of each section
unfoldable pub result_bytes : Job → (ℕ → ℕ) → (ℕ → ℕ) → List ℕ
result_bytes job velocity loss = heads_bytes job loss ++ concat_to (count_of job) (λ i. bytes_of 2 (velocity i) ++ bytes_of 4 (loss i))

-- losses: flow (4), velocity (2) and loss (4) of each section
unfoldable pub figures_bytes : Job → (ℕ → ℕ) → (ℕ → ℕ) → (ℕ → ℕ) → List ℕ
figures_bytes job flow velocity loss = concat_to (count_of job) (λ i. bytes_of 4 (flow i) ++ (bytes_of 2 (velocity i) ++ bytes_of 4 (loss i)))
