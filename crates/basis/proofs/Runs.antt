-- Lists of one width written into a buffer, one after another: what a loop that writes them keeps.
-- Assumes nothing.
use mathlib.Core.Path.{◌≡◌, refl, sym, ◌∙◌}
use mathlib.Core.List.{List}
use Prim.Native.Nat.{ℕ, suc, ◌+◌, ◌-◌, ◌*◌, ◌≤◌, ◌<◌}
use native.Mathlib.Omega.{arith}
use native.Mathlib.Nat.{mul-suc}
use lib.ListN.{length}
use Rattle.basis.specs.Range.{concat_to}
use Rattle.basis.specs.Stored.{stored}
use Rattle.basis.proofs.Stored.{stored_none, stored_length}
use Rattle.basis.proofs.Concat.{concat_none, concat_length, concat_stored}

-- lists 1 to n of f stand in the buffer from the base on
pub record Running (f : ℕ → List ℕ) (before : List ℕ) (base n : ℕ) (now : List ℕ) : Type 0 where
  pub same : length now ≡ length before
  pub run : now ≡ stored before base (concat_to n f)

pub running_start : (f : ℕ → List ℕ) (l : List ℕ) (base : ℕ) → Running f l base (1 - 1) l
running_start f l base = record { same = refl; run = sym (rw (concat_none f) (stored_none l base)) }

module _ (w : ℕ) {f : ℕ → List ℕ} (wide : (i : ℕ) → length (f i) ≡ w) {before now : List ℕ} {base i : ℕ}
    (r : Running f before base (i - 1) now) (first : 0 < i) (fits : base + w * i ≤ length before) where
  -- the next list fits, and is then one of them
  pub running_room : base + w * (i - 1) + w ≤ length now
  running_room =
      let e : suc (i - 1) ≡ i = omega arith in
      let m : w * suc (i - 1) ≡ w * (i - 1) + w = mul-suc w (i - 1) in
      let m' : w * i ≡ w * (i - 1) + w = rw e at m in omega (arith, r.same)

  pub running_more : {next : List ℕ} → next ≡ stored now (base + w * (i - 1)) (f i) → Running f before base (i + 1 - 1) next
  running_more {next} e =
      let n : i + 1 - 1 ≡ i = omega arith in
      let s : next ≡ stored before base (concat_to i f) = e ∙ rw r.run (concat_stored w f wide before base i first fits) in
      let long : base + length (concat_to i f) ≤ length before = rw (concat_length w f wide i) fits in
      rw n (record { same = rw s (stored_length before base (concat_to i f) long); run = s })
