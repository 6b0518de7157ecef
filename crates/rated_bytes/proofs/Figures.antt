-- The rows of bytes that a loop writes of the sections' figures.
-- Assumes nothing.
use Rattle.std.proofs.Common.{◌≡◌, ℕ, ◌+◌, ◌-◌, ◌*◌, ◌≤◌, ◌<◌, List, length, drop, get_or, refl, ◌∙◌, arith}
use Rattle.std.proofs.Math.Nat.{mul-le-mul_left}
use Rattle.basis.specs.Part.{part}
use Rattle.basis.specs.Stored.{stored}
use Rattle.basis.proofs.Runs.{Running, running_more}
use Rattle.rated_bytes.specs.declared.Figure.{Figure}
use Rattle.rated_bytes.specs.Figures.{blank_figure, figure_of, figure_bytes}
use Rattle.rated_bytes.proofs.Written.{rest_length, rest_part}

module _ (figures : List Figure) (each : ℕ) where
  -- the last bytes of section i's figures
  abbrev pub row : ℕ → List ℕ
  row i = drop (10 - each) (figure_bytes (figure_of figures i))

  -- one row more
  pub row_more : {before now next x : List ℕ} {from i : ℕ} → Running row before from i now → i < length figures → each ≤ 10 →
      from + each * length figures ≤ length before →
      x ≡ figure_bytes (get_or figures i blank_figure) → next ≡ stored now (from + each * i) (part x (10 - each) (10 - (10 - each))) → Running row before from (i + 1) next
  row_more {before = before} {now = now} {next = next} {from = from} {i = i} r high few fits e put =
      let less : each * (i + 1) ≤ each * length figures = mul-le-mul_left each (omega arith) in
      let width : 10 - (10 - each) ≡ each = omega arith in
      let before_it : i + 1 - 1 ≡ i = omega arith in
      let after_it : i + 1 + 1 - 1 ≡ i + 1 = omega arith in
      let so_far : Running row before from (i + 1 - 1) now = rw before_it r in
      let its : next ≡ stored now (from + each * (i + 1 - 1)) (row (i + 1)) = rw before_it (put ∙ rw (rest_part _ _ _ (10 - each) e) refl) in
      rw after_it at (running_more each (λ k. rest_length _ _ _ (10 - each) ∙ width) so_far (omega arith) (omega arith) its)
