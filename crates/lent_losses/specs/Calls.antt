-- The heads call, document 02, L3: 1 to 9, 19 and 14, and its result.
-- Assumes nothing.
use Rattle.std.specs.Prelude.{ℕ, not, List, [], ◌∷◌, ◌++◌}
use Rattle.answer.specs.Checks.{first_no, too_short}
use Rattle.fields.specs.declared.Job.{Job}
use Rattle.fields.specs.Fields.{count_of}
use Rattle.record.specs.Record.{decode}
use Rattle.acceptance.specs.Acceptance.{job_checks}
use Rattle.rated_bytes.specs.RatedBytes.{heads_length, heads_bytes}
use Rattle.lent_losses.specs.LentLosses.{loss_in, losses_ok}

-- the heads call with a result buffer of so many bytes
unfoldable pub heads_no : List ℕ → List ℕ → ℕ → ℕ
heads_no b losses room =
    first_no (job_checks b ++ ((not (losses_ok (count_of (decode b)) losses), 19) ∷ (too_short room heads_length, 14) ∷ []))

-- the result: the heads with the losses that are given
abbrev pub lent_bytes : Job → List ℕ → List ℕ
lent_bytes job losses = heads_bytes job (loss_in losses)
