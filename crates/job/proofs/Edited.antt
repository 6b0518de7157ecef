-- A record in which bytes behind the eighth are replaced: 1, 2 and 4 find nothing where they found nothing, and 3 where its ranges are kept.
-- Assumes nothing.
use mathlib.Core.Path.{◌≡◌, sym, ◌∙◌}
use mathlib.Core.Bool.{true}
use mathlib.Core.List.{List}
use Prim.Native.Nat.{ℕ, ◌≤◌}
use native.Mathlib.Omega.{arith}
use Rattle.answer.specs.Checks.{first_no}
use Rattle.wire.specs.Wire.{byte_at}
use Rattle.rules.specs.Rules.{version_ok, header_ok}
use Rattle.record.specs.Record.{header_at}
use Rattle.record.specs.Edited.{SameBut}
use Rattle.record.proofs.Edited.{field_kept}
use Rattle.job.specs.Calls.{shape_checks}
use Rattle.job.proofs.Shape.{header_clear, shaped, well_formed}

-- 2 looks at the version alone
version_same : (e b : List ℕ) → byte_at e 4 ≡ byte_at b 4 → version_ok (header_at e) ≡ version_ok (header_at b)
unfolding version_ok header_at
version_same e b same = rw same

pub shape_kept : {at width : ℕ} {b e : List ℕ} → SameBut at width b e → 8 ≤ at → first_no (shape_checks b) ≡ 0 → header_ok (header_at e) ≡ true →
    first_no (shape_checks e) ≡ 0
shape_kept {at} {width} {b} {e} same behind clear head =
    let s = shaped b clear in
    well_formed e
    (rw same.long s.long)
    (field_kept same 4 0 (λ k l c d. omega arith) ∙ s.stated ∙ sym same.long)
    (header_clear (header_at e) (version_same e b (same.bytes 4 (λ c d. omega arith)) ∙ s.version) head)
    (same.long ∙ s.whole ∙ rw (same.bytes 4 (λ c d. omega arith), same.bytes 6 (λ c d. omega arith)))
