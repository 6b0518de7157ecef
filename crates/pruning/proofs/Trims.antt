-- One turn of the loop that takes sizes of a section out.
-- Assumes nothing.
use Rattle.std.proofs.Common.{◌≡◌, sym, subst, ◌∙◌, List, ℕ, ◌+◌, ◌*◌, ◌≤◌, ◌<◌, Option, None, Some, MatchOption, ⊎_elim, arith, length, get_or, set, get_or-set_same, get_or-set_other, below_more}
use Rattle.std.proofs.Math.ListN.{length-set}
use Rattle.nets.specs.Net.{Net}
use Rattle.pruning.specs.Keeps.{Keeps}
use Rattle.nets.specs.Tables.{top, net_of, Sound}
use Rattle.nets.specs.NetIn.{net_in}
use Rattle.nets.specs.declared.Tables.{Tables}
use Rattle.pruning.specs.Steps.{Alike, AsGood, Needless, Trimmed}
use Rattle.pruning.proofs.Keeping.{keeps_then, sound_like, keeps_long, keeps_worse}

module _ (sections sizes : ℕ) (parents needs before costs : List ℕ) (a s : ℕ) where
  abbrev with : List ℕ → Net
  with losses = net_of sections sizes parents needs losses costs

  -- a size below t that was kept
  pub record IsKept (losses : List ℕ) (t k : ℕ) : Type 0 where
    pub low : 0 < k
    pub below : k < t
    pub real : get_or losses (s * 13 + k) 0 < top

  -- after the sizes below t, where `last` is the last that was kept
  pub record Trims (losses : List ℕ) (last : Option ℕ) (t : ℕ) : Type 0 where
    pub long : length losses ≡ 832
    pub keeps : Keeps a (with before) (with losses)
    pub fits : (u : ℕ) → u < t → 0 < u → get_or losses (s * 13 + u) 0 < top → get_or losses (s * 13 + u) 0 + get_or needs s 0 ≤ a
    pub kept : MatchOption last (Unit {0}) (IsKept losses t)

module _ {sections sizes : ℕ} {parents needs before costs : List ℕ} {a s : ℕ} where
  module _ {losses : List ℕ} {last : Option ℕ} {t : ℕ} (st : Trims sections sizes parents needs before costs a s losses last t) where
    pub trims_end : sizes < t → Trimmed (net_of sections sizes parents needs losses costs) a s
    trims_end e = record { fits = λ u p l. st.fits u (omega arith) p }

    pub trims_kept : 0 < t → get_or losses (s * 13 + t) 0 + get_or needs s 0 ≤ a → a < top →
        Trims sections sizes parents needs before costs a s losses (Some t) (t + 1)
    trims_kept p b r =
        record {
          long = st.long;
          keeps = st.keeps;
          fits = below_more (λ u. 0 < u → get_or losses (s * 13 + u) 0 < top → get_or losses (s * 13 + u) 0 + get_or needs s 0 ≤ a) t st.fits (λ p m. b);
          kept = record { low = p; below = omega arith; real = omega arith };
        }

    -- size t is taken out
    module _ (sound : Sound (net_of sections sizes parents needs before costs)) (low : 0 < s) (high : s ≤ sections) (first : 0 < t) (more : t ≤ sizes) where
      abbrev without : List ℕ
      without = set losses (s * 13 + t) top

      ok : Sound (net_of sections sizes parents needs losses costs)
      ok = sound_like sound

      out : get_or without (s * 13 + t) 0 ≡ top
      out = get_or-set_same losses (s * 13 + t) top 0 (omega (arith, st.long, sound.few, sound.sizes))

      others : (j u : ℕ) → u ≤ sizes → (j ≡ s → u ≡ t → ⊥) → get_or without (j * 13 + u) 0 ≡ get_or losses (j * 13 + u) 0
      others j u b n =
          get_or-set_other losses (s * 13 + t) (j * 13 + u) top 0 (λ e. n (omega (arith, sound.sizes)) (omega (arith, sound.sizes)))

      -- the last that was kept still is
      still : (last : Option ℕ) → MatchOption last (Unit {0}) (IsKept sections sizes parents needs before costs a s losses t) →
          MatchOption last (Unit {0}) (IsKept sections sizes parents needs before costs a s without (t + 1))
      still None k = tt
      still (Some u) k =
          record { low = k.low; below = omega (arith, k.below); real = omega (arith, k.below, others s u (omega (arith, k.below)) (λ i e. omega (arith, k.below)), k.real) }

      -- where that keeps what counts
      drops : Keeps a (net_of sections sizes parents needs losses costs) (net_of sections sizes parents needs without costs) →
          Trims sections sizes parents needs before costs a s without last (t + 1)
      drops k =
          record {
            long = length-set losses (s * 13 + t) top ∙ st.long;
            keeps = keeps_then a st.keeps k;
            fits = below_more (λ u. 0 < u → get_or without (s * 13 + u) 0 < top → get_or without (s * 13 + u) 0 + get_or needs s 0 ≤ a) t
                (λ u b p m. let e = others s u (omega arith) (λ i e. omega arith) in omega (arith, e, st.fits u b p (omega arith)))
                (λ p m. absurd (omega (arith, out)));
            kept = still last st.kept;
          }

      worse : (last : Option ℕ) → MatchOption last (Unit {0}) (IsKept sections sizes parents needs before costs a s losses t) →
          MatchOption last ⊥ (λ k. AsGood (net_of sections sizes parents needs losses costs) s k t) →
          Keeps a (net_of sections sizes parents needs losses costs) (net_of sections sizes parents needs without costs)
      worse None k g = absurd g
      worse (Some u) k g =
          keeps_worse ok a s t low high out others u k.low (omega (arith, k.below)) (λ i. omega (arith, k.below)) k.real g.loss g.cost

      pub trims_out : Needless (net_of sections sizes parents needs losses costs) a s last t → Trims sections sizes parents needs before costs a s without last (t + 1)
      trims_out n = drops (⊎_elim (λ b. keeps_long ok a s t low high out others b) (λ g. worse last st.kept g) n)

-- the net of tables that are alike
pub net_alike : {before now : Tables} → Alike before now → net_in now ≡ net_of before.sections before.sizes before.parents now.needs now.losses before.costs
net_alike like = let h = like.sections in let i = like.sizes in let j = like.parents in let k = like.costs in cc

-- the loop at size t, from the tables before it
pub record Trimming (before : Tables) (a s : ℕ) (now : Tables) (last : Option ℕ) (t : ℕ) : Type 0 where
  pub alike : Alike before now
  pub needs : now.needs ≡ before.needs
  pub trims : Trims before.sections before.sizes before.parents before.needs before.losses before.costs a s now.losses last t

module _ {before now : Tables} {a s t : ℕ} {last : Option ℕ} (st : Trimming before a s now last t) where
  -- the net that they hold
  pub held : net_in now ≡ net_of before.sections before.sizes before.parents before.needs now.losses before.costs
  held = rw (← st.needs) (net_alike st.alike)

  pub turn_end : before.sizes < t → Keeps a (net_in before) (net_in now) × Trimmed (net_in now) a s
  turn_end l = (subst (λ N. Keeps a (net_in before) N) (sym held) st.trims.keeps, subst (λ N. Trimmed N a s) (sym held) (trims_end st.trims l))

  pub turn_out : {after : Tables} {last' : Option ℕ} → Alike before after → after.needs ≡ before.needs → after.losses ≡ set now.losses (s * 13 + t) top → last' ≡ last →
      Needless (net_in now) a s last t → 0 < s → s ≤ before.sections → 0 < t → t ≤ before.sizes → Trimming before a s after last' (t + 1)
  turn_out like needs taken same n low high first more =
      record {
        alike = like;
        needs = needs;
        trims = rw (taken, same) (trims_out st.trims before.sound low high first more (subst (λ N. Needless N a s last t) held n));
      }

  pub turn_kept : {after : Tables} {last' : Option ℕ} → Alike before after → after.needs ≡ before.needs → after.losses ≡ now.losses → last' ≡ Some t →
      get_or now.losses (s * 13 + t) 0 + get_or now.needs s 0 ≤ a → a < top → 0 < t → Trimming before a s after last' (t + 1)
  turn_kept like needs kept same b r p =
      record { alike = like; needs = needs; trims = rw (kept, same) (trims_kept st.trims p (rw st.needs at b) r) }
