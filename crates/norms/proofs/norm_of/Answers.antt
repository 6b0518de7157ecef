-- `norms::norm_of` meets its contract: a row of a table, and a kind in it, is the place in the definition's list.
-- Assumes nothing.
use Rattle.std.proofs.Common.{◌≡◌, ◌≤◌, ℕ, zero, suc, ◌+◌, ◌-◌, ◌*◌, ◌<◌, List, length, ◌∷◌, [], ◌++◌, get_or, arith, refl, ◌∙◌}
use Rattle.std.proofs.lemmas.List.{get_or_append_left, get_or-append-add}
use Rattle.basis.specs.Slots.{tabulate}
use Rattle.norms.specs.declared.Norm.{Norm}
use Rattle.norms.specs.Norms.{norm_of, total_cold_hot, day_norms, hour_norms, fixture_norms, hourly_norms}
use Rattle.norms.proofs.norm_of.Goals as goal

module _ (a b : List ℕ) (long : length a ≡ 12) (k : ℕ) (h : k < 12) where
  first : get_or (a ++ b) (12 * 0 + k) 0 ≡ get_or a k 0
  first =
      let e : 12 * 0 + k ≡ k = omega arith in
      rw e (get_or_append_left a b 0 k (omega arith))

  later : (s : ℕ) → get_or (a ++ b) (12 * suc s + k) 0 ≡ get_or b (12 * s + k) 0
  later s =
      let e : 12 * suc s + k ≡ length a + (12 * s + k) = omega arith in
      rw e (get_or-append-add a b (12 * s + k) 0)

  -- two rows, one after the other
  two : (s : ℕ) → s ≤ 1 → get_or (get_or (a ∷ b ∷ []) s []) k 0 ≡ get_or (a ++ b) (12 * s + k) 0
  two zero i = rw first
  two (suc zero) i = let e : 12 * 0 + k ≡ k = omega arith in rw (later 0, e)
  two (suc (suc s)) i = absurd (omega arith)

-- and three
three : (a b d : List ℕ) → length a ≡ 12 → length b ≡ 12 → (k : ℕ) → k < 12 → (s : ℕ) → s ≤ 2 →
    get_or (get_or (a ∷ b ∷ d ∷ []) s []) k 0 ≡ get_or (a ++ (b ++ d)) (12 * s + k) 0
three a b d la lb k h zero i = rw (first a (b ++ d) la k h)
three a b d la lb k h (suc s) i = rw (later a (b ++ d) la k h s) (two b d lb k h s (omega arith))

norm_same : {d h f o d' h' f' o' : ℕ} → d ≡ d' → h ≡ h' → f ≡ f' → o ≡ o' →
    ◌≡◌ {A = Norm} record { day = d; hour = h; fixture = f; hourly = o } record { day = d'; hour = h'; fixture = f'; hourly = o' }
norm_same a b c e = cc

pub returns : goal.returns
unfolding tabulate norm_of total_cold_hot day_norms hour_norms fixture_norms hourly_norms
returns c =
    let k = c.args.kind - 1 in
    let h : k < 12 = omega arith in
    let r = c.min-of_resident.result in
    let f = c.min-of_fixture.result in
    let by_place : record {
      day = get_or day_norms (12 * r + k) 0;
      hour = get_or hour_norms (12 * r + k) 0;
      fixture = get_or fixture_norms (12 * f + k) 0;
      hourly = get_or hourly_norms (12 * f + k) 0;
    } ≡ norm_of c.args.service c.args.kind =
    rw (c.min-of_resident.ensures, c.min-of_fixture.ensures, c.from.ensures, c.from-2.ensures) in
    norm_same
    (three _ _ _ refl refl k h r (omega arith))
    (three _ _ _ refl refl k h r (omega arith))
    (two _ _ refl k h f (omega arith))
    (two _ _ refl k h f (omega arith)) ∙
    by_place
