-- The meter of least loss among the first n, one meter more at a time; over the whole list it is the winner.
-- Assumes nothing.
use Rattle.std.proofs.Common.{Option, Some, None, unwrap_or, option_map, IfSome, rules}
use mathlib.Core.Path.{◌≡◌, refl, sym, ◌∙◌}
use mathlib.Core.Bool.{Bool, true, false, not, ◌&&◌, ◌||◌}
use mathlib.Core.Logic.{◌⊎◌, inl, inr, ⊎_elim}
use mathlib.Core.List.{List}
use Prim.Native.Nat.{ℕ, zero, suc, ◌≤◌, ◌<◌}
use native.Mathlib.Nat.{eq-or-lt_of_le}
use native.Mathlib.Omega.{arith}
use lib.Dec.{leb}
use borrow.Author.Tests.{le-leb, leb-true, lt-ltb, ltb-true, not-true, not-false}
use Rattle.std.proofs.lemmas.Bool.{false_from_ne_true, cases_Bool, cases_lt}
use Rattle.basis.proofs.Bools.{apart, left, right, not_both}
use Rattle.basis.proofs.Each.{Found, all_at, all_each, any_at, any_found}
use Rattle.basis.proofs.Lowest.{lowest_only, lowest_none}
use Rattle.meters.specs.Meters.{meters_in, meter_at, meter_loss, qualifies, none_qualifies, least_at, winner_of}
use Rattle.meters.specs.Steps.{beats, better}
use Rattle.meters.proofs.Qualifying.{loss_top}

module _ (list : List ℕ) (q mean : ℕ) where
  -- of the meter at a place: whether it qualifies, and its loss
  abbrev fits : ℕ → Bool
  fits t = qualifies (meter_at list t) q mean

  abbrev loss : ℕ → ℕ
  loss t = meter_loss (meter_at list t) q

  -- a place among the first n, of a meter that qualifies, with more loss at every lower place that does
  pub record First (n place : ℕ) : Type 0 where
    pub low : 0 < place
    pub high : place ≤ n
    pub fit : fits place ≡ true
    pub lower : (u : ℕ) → 0 < u → u < place → fits u ≡ true → loss place < loss u

  -- the least loss so far, and its place; 501 and 0 before any meter qualifies
  pub record Leads (n place least : ℕ) : Type 0 where
    pub bound : (u : ℕ) → 0 < u → u ≤ n → fits u ≡ true → least ≤ loss u
    pub held : ((place ≡ 0) × (least ≡ 501)) ⊎ ((least ≡ loss place) × First n place)

  pub leads_start : Leads 0 0 501
  leads_start = record { bound = λ u h k e. absurd (omega arith); held = inl (refl, refl) }

  -- and then the meter at the next place
  module _ {n place least : ℕ} (l : Leads n place least) (t : ℕ) (next : t ≡ suc n) where
    -- it qualifies and loses less
    pub leads_less : loss t < least → fits t ≡ true → Leads t t (loss t)
    leads_less h e =
        record {
          bound = λ u p k f. ⊎_elim (λ (z : u ≡ t). rw z (omega arith)) (λ lt. omega (arith, l.bound u p (omega arith) f)) (eq-or-lt_of_le k);
          held = inr (refl, record { low = omega arith; high = omega arith; fit = e; lower = λ u p k f. omega (arith, l.bound u p (omega arith) f) });
        }

    -- or not
    pub leads_same : (loss t < least → fits t ≡ true → ⊥) → Leads t place least
    leads_same other =
        record {
          bound = λ u p k f. ⊎_elim
              (λ (z : u ≡ t). ⊎_elim (λ lt. absurd (other lt (rw (← z) f))) (λ ge. rw z ge) (cases_lt (loss t) least))
              (λ lt. l.bound u p (omega arith) f)
              (eq-or-lt_of_le k);
          held = ⊎_elim
              (λ none. inl none)
              (λ some. inr (some.0, record { low = some.1.low; high = omega (arith, some.1.high); fit = some.1.fit; lower = some.1.lower }))
              l.held;
        }

  -- the same with place and loss as an option
  abbrev pub Best : ℕ → Option (ℕ × ℕ) → Type 0
  Best n None = Leads n 0 501
  Best n (Some best) = (0 < best.0) × Leads n best.0 best.1

  module _ {n : ℕ} (t : ℕ) (next : t ≡ suc n) where
    take : (best : Option (ℕ × ℕ)) → Best n best → fits t ≡ true → beats (loss t) best ≡ true → Best t (Some (t, loss t))
    take None l e b = (omega arith, leads_less l t next (omega (arith, loss_top (meter_at list t) q mean e)) e)
    take (Some best) l e b = (omega arith, leads_less l.1 t next (ltb-true (loss t) best.1 b) e)

    pass : (best : Option (ℕ × ℕ)) → Best n best → (fits t && beats (loss t) best) ≡ false → Best t best
    pass None l e = leads_same l t next (λ h f. not_both _ _ e f refl)
    pass (Some best) l e = (l.0, leads_same l.1 t next (λ h f. not_both _ _ e f (lt-ltb (loss t) best.1 h)))

    pub best_more : (best : Option (ℕ × ℕ)) → Best n best → Best t (better best t (meter_at list t) q mean)
    unfolding better
    best_more best l =
        ⊎_elim
        (λ (e : (fits t && beats (loss t) best) ≡ true). rw e (take best l (left (fits t) (beats (loss t) best) e) (right (fits t) (beats (loss t) best) e)))
        (λ (e : (fits t && beats (loss t) best) ≡ false). rw e (pass best l e))
        (cases_Bool (fits t && beats (loss t) best))

  -- the definition's two parts
  abbrev no_less : ℕ → ℕ → Bool
  no_less t u = not (fits u) || leb (loss t) (loss u)

  least_fits : (t : ℕ) → least_at list q mean t ≡ true → fits t ≡ true
  unfolding least_at
  least_fits t e = left (fits t) _ e

  least_bound : (t u : ℕ) → least_at list q mean t ≡ true → 0 < u → u ≤ meters_in list → fits u ≡ true → loss t ≤ loss u
  unfolding least_at
  least_bound t u e p k f =
      let at : no_less t u ≡ true = all_at (meters_in list) (no_less t) (right (fits t) _ e) u p k in
      leb-true (loss t) (loss u) (rw f at at)

  least_of : (t : ℕ) → fits t ≡ true → ((u : ℕ) → 0 < u → u ≤ meters_in list → fits u ≡ true → loss t ≤ loss u) → least_at list q mean t ≡ true
  unfolding least_at
  least_of t e bound =
      rw (
        e,
        all_each (meters_in list) (no_less t) (λ u p k.
            ⊎_elim
            (λ (f : fits u ≡ true). rw (f, le-leb (loss t) (loss u) (bound u p k f)))
            (λ (f : fits u ≡ false). rw f)
            (cases_Bool (fits u))),
      )

  -- over the whole list
  leads_none : {place : ℕ} → Leads (meters_in list) place 501 → (u : ℕ) → 0 < u → u ≤ meters_in list → fits u ≡ false
  leads_none l u p k = false_from_ne_true (fits u) (λ f. omega (arith, l.bound u p k f, loss_top (meter_at list u) q mean f))

  leads_first : {place : ℕ} → Leads (meters_in list) place (loss place) → First (meters_in list) place → place ≡ winner_of list q mean
  unfolding winner_of
  leads_first {place} l f =
      lowest_only (meters_in list) (least_at list q mean) place
      (record {
        low = f.low;
        high = f.high;
        holds = least_of place f.fit l.bound;
        first = λ u p lt. false_from_ne_true (least_at list q mean u) (λ e.
            omega (arith, least_bound u place e f.low f.high f.fit, f.lower u p lt (least_fits u e)));
      })

  pub leads_wins : {place least : ℕ} → Leads (meters_in list) place least → place ≡ winner_of list q mean
  unfolding winner_of
  leads_wins {place} {least} l =
      ⊎_elim
      (λ none.
      let at : Leads (meters_in list) place 501 = rw none.1 at l in
      none.0 ∙
      sym (lowest_none (meters_in list) (least_at list q mean) (λ u p k. false_from_ne_true (least_at list q mean u) (λ e. apart (least_fits u e) (leads_none at u p k)))))
      (λ some. leads_first (rw some.0 at l) some.1)
      l.held

  pub best_wins : (best : Option (ℕ × ℕ)) → Best (meters_in list) best → unwrap_or (option_map (λ (b : ℕ × ℕ). b.0) best) 0 ≡ winner_of list q mean
  best_wins None l = leads_wins l
  best_wins (Some best) l = leads_wins l.1

  -- and the loss kept with a place is the loss there
  pub best_named : (n : ℕ) (best : Option (ℕ × ℕ)) → Best n best → IfSome best (λ (b : ℕ × ℕ). (0 < b.0) × (b.1 ≡ loss b.0))
  best_named n None l = search rules
  best_named n (Some best) l = (l.0, ⊎_elim (λ none. absurd (omega (arith, l.0, none.0))) (λ some. some.0) l.1.held)

  -- there is such a place and such a loss for every n
  record Lead (n : ℕ) : Type 0 where
    pub place : ℕ
    pub least : ℕ
    pub leads : Leads n place least

  lead : (n : ℕ) → Lead n
  lead zero = record { place = 0; least = 501; leads = leads_start }
  lead (suc n) =
      let l = lead n in
      ⊎_elim
      (λ (h : loss (suc n) < l.least).
      ⊎_elim
      (λ (e : fits (suc n) ≡ true). record { place = suc n; least = loss (suc n); leads = leads_less l.leads (suc n) refl h e })
      (λ (e : fits (suc n) ≡ false). record { place = l.place; least = l.least; leads = leads_same l.leads (suc n) refl (λ k f. apart f e) })
      (cases_Bool (fits (suc n))))
      (λ (h : l.least ≤ loss (suc n)).
      record { place = l.place; least = l.least; leads = leads_same l.leads (suc n) refl (λ k f. omega arith) })
      (cases_lt (loss (suc n)) l.least)

  -- no meter qualifies: no place wins
  pub none_fits : none_qualifies list q mean ≡ true → (u : ℕ) → 0 < u → u ≤ meters_in list → fits u ≡ false
  unfolding none_qualifies
  none_fits e u p k = any_at (meters_in list) fits (not-true _ e) u p k

  pub winner_none : none_qualifies list q mean ≡ true → winner_of list q mean ≡ 0
  unfolding winner_of
  winner_none e =
      lowest_none (meters_in list) (least_at list q mean)
      (λ u p k. false_from_ne_true (least_at list q mean u) (λ f. apart (least_fits u f) (none_fits e u p k)))

  -- one does: the winner is the first of least loss
  pub winner_first : none_qualifies list q mean ≡ false → First (meters_in list) (winner_of list q mean)
  unfolding none_qualifies
  winner_first e =
      let l = lead (meters_in list) in
      let some : Found (meters_in list) fits = any_found (meters_in list) fits (not-false _ e) in
      ⊎_elim
      (λ none. absurd (apart some.holds (leads_none (rw none.1 at l.leads) some.place some.low some.high)))
      (λ first. rw (leads_wins l.leads) at first.1)
      l.leads.held

  pub winner_zero : winner_of list q mean ≡ 0 → none_qualifies list q mean ≡ true
  winner_zero z =
      ⊎_elim (λ e. e) (λ (e : none_qualifies list q mean ≡ false). absurd (omega (arith, (winner_first e).low))) (cases_Bool (none_qualifies list q mean))

  pub winner_some : (winner_of list q mean ≡ 0 → ⊥) → none_qualifies list q mean ≡ false
  winner_some other = false_from_ne_true (none_qualifies list q mean) (λ e. other (winner_none e))

  -- and none that qualifies loses less
  pub winner_bound : none_qualifies list q mean ≡ false → (u : ℕ) → 0 < u → u ≤ meters_in list → fits u ≡ true → loss (winner_of list q mean) ≤ loss u
  winner_bound e u p k f =
      let l = lead (meters_in list) in
      ⊎_elim
      (λ none. absurd (apart f (leads_none (rw none.1 at l.leads) u p k)))
      (λ some. rw (leads_wins l.leads) at (rw some.0 at (l.leads.bound u p k f)))
      l.leads.held
