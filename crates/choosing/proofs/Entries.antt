-- An entry of the tables: section i of an accepted job with size s of an accepted catalogue.
-- Assumes nothing.
use mathlib.Core.Path.{◌≡◌, sym, ap}
use mathlib.Core.Bool.{true, false}
use mathlib.Core.List.{List}
use lib.IntN.{pos, ◌+ℤ◌}
use Prim.Native.Nat.{ℕ, ◌+◌, ◌*◌, ◌≤◌, ◌<◌}
use native.Mathlib.Nat.{mul-le-mul}
use Rattle.fields.specs.declared.Job.{Job}
use Rattle.fields.specs.Fields.{count_of, section_of}
use Rattle.demand.specs.Demand.{section_flow}
use Rattle.basis.specs.Slots.{slots}
use Rattle.basis.proofs.Slots.{slots_in}
use native.Mathlib.Omega.{arith}
use lib.ListN.{get_or}
use Rattle.wire.specs.Wire.{byte_at}
use Rattle.rules.proofs.HeaderBounds.{HeaderIn, header_in}
use Rattle.rules.proofs.SectionBounds.{SectionIn}
use Rattle.rules.proofs.Kept.{sections_in}
use Rattle.demand.proofs.Validity.{valid_sections}
use Rattle.catalogue.proofs.AcceptedCat.{cat_price}
use Rattle.sizing.specs.Losses.{reading_of, over_at, loss_at}
use Rattle.nets.specs.Tables.{top}
use Rattle.sizing.proofs.Trying.{read_top, tried_over, tried_not}
use Rattle.choosing.specs.Suitable.{price_at}
use Rattle.choosing.specs.Steps.{shift, entry_of, loss_entry, Pair}

-- what the end of section i needs
abbrev pub NeedAt : Job → ℕ → ℕ → Type 0
NeedAt job i v = pos v ≡ (section_of job i).elevation +ℤ pos ((section_of job i).free + shift)

-- the flow of section i in the table of flows
pub flow_held : (job : Job) (flows : List ℕ) (i : ℕ) → flows ≡ slots 64 1 (count_of job + 1) 0 (section_flow job) → count_of job ≤ 63 → 0 < i → i ≤ count_of job →
    get_or flows i 0 ≡ section_flow job i
flow_held job flows i e few low high = rw e (slots_in 64 1 (count_of job + 1) 0 (section_flow job) i 0 (omega arith) (omega arith) (omega arith))

pub entry_over : (job : Job) (cat : List ℕ) (i s : ℕ) → over_at job cat s i ≡ true → top ≡ loss_entry job cat i s
unfolding loss_entry reading_of
entry_over job cat i s e = sym (ap entry_of (tried_over job cat s i e))

pub entry_under : (job : Job) (cat : List ℕ) (i s : ℕ) → over_at job cat s i ≡ false → loss_entry job cat i s ≡ loss_at job cat s i
unfolding loss_entry reading_of
entry_under job cat i s e = ap entry_of (tried_not job cat s i e)

-- 10,000 a metre over 5,000 decimetres is the most
pub cost_top : {price decimetres : ℕ} → price ≤ 10000 → decimetres ≤ 5000 → price * decimetres ≤ 50000000
cost_top a b = mul-le-mul {n₂ = 10000} {m₂ = 5000} a b

module _ {job : Job} {cat : List ℕ} {i s : ℕ} (p : Pair job cat i s) where
  pub pair_section : SectionIn i (section_of job i)
  pair_section = sections_in job (valid_sections p.accepted.valid) i p.first p.last

  pub pair_head : HeaderIn job.header
  pair_head = header_in job.header p.accepted.valid.header

  pub price_top : price_at job cat s i ≤ 50000000
  unfolding price_at
  price_top = cost_top (cat_price p.listed s p.low p.high).high pair_section.decimetres.high

  pub slope_top : ((k : ℕ) → byte_at cat k < 256) → (reading_of job cat s i).slope ≤ 65535
  unfolding reading_of
  slope_top bytes = (read_top p.listed s p.low p.high bytes _).1
