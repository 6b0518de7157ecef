-- A sum over the kinds as far as a loop has come, and a bound of it by the bound of a term: the same for every loop that adds one term a kind;
-- and the most as far as a loop has come.
-- Assumes nothing.
use mathlib.Core.Path.{◌≡◌, refl, sym}
use Prim.Native.Nat.{ℕ, suc, ◌+◌, ◌-◌, ◌*◌, ◌≤◌, ◌<◌, max}
use native.Mathlib.Omega.{arith}
use native.Mathlib.Nat.{suc-mul}
use Rattle.basis.specs.Range.{sum_to, most_to}
use Rattle.basis.proofs.Sum.{sum_none, sum_more}
use Rattle.basis.proofs.Most.{most_more}

-- s is the sum of f over the kinds before this one
pub record SoFar (f : ℕ → ℕ) (top kind s : ℕ) : Type 0 where
  pub is : s ≡ sum_to (kind - 1) f
  pub small : s ≤ (kind - 1) * top

pub sum_start : (f : ℕ → ℕ) (top : ℕ) → SoFar f top 1 0
sum_start f top = record { is = sym (sum_none f); small = omega arith }

module _ {f : ℕ → ℕ} {top kind s : ℕ} (p : SoFar f top kind s) where
  pub sum_turn : {x : ℕ} → 0 < kind → x ≡ f kind → x ≤ top → SoFar f top (kind + 1) (s + x)
  sum_turn {x} a e t =
      let i : kind + 1 - 1 ≡ suc (kind - 1) = omega arith in
      let j : suc (kind - 1) ≡ kind = omega arith in
      record {
        is = rw (i, sum_more (kind - 1) f, j, ← p.is, ← e) refl;
        small = rw (i, suc-mul (kind - 1) top) (omega (arith, p.small));
      }

  pub sum_end : 12 < kind → kind ≤ 13 → s ≡ sum_to 12 f
  sum_end a b =
      let i : kind - 1 ≡ 12 = omega arith in
      rw i at p.is

most_turn : (f : ℕ → ℕ) {kind s x : ℕ} → 0 < kind → s ≡ most_to (kind - 1) f → x ≡ f kind → max s x ≡ most_to (kind + 1 - 1) f
most_turn f {kind} a is e =
    let i : kind + 1 - 1 ≡ suc (kind - 1) = omega arith in
    let j : suc (kind - 1) ≡ kind = omega arith in
    rw (i, most_more (kind - 1) f, j, ← is, ← e) refl

-- ten times the most
pub tap_turn : (f : ℕ → ℕ) {kind s x : ℕ} → 0 < kind → s ≡ 10 * most_to (kind - 1) f → x ≡ 10 * f kind →
    max s x ≡ 10 * most_to (kind + 1 - 1) f
tap_turn f {kind} a is e = omega (arith, most_turn f {kind = kind} a refl refl)
