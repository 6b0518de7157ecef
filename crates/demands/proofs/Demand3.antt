-- Demand 3: the choosing call's promise, read back from the bytes of its result.
-- Assumes nothing.
use mathlib.Core.Path.{◌≡◌, sym, ◌∙◌}
use mathlib.Core.Logic.{◌⊎◌, ⊎_elim}
use mathlib.Core.List.{List, ◌++◌, append_assoc}
use Prim.Native.Nat.{ℕ, ◌≤◌, ◌<◌}
use native.Mathlib.Omega.{arith}
use lib.ListN.{length}
use Rattle.std.proofs.lemmas.Bool.{cases_eq}
use Rattle.basis.specs.Sections.{size_of}
use Rattle.basis.proofs.Part.{part_front, part_right}
use Rattle.basis.proofs.Stored.{stored_front}
use Rattle.basis.proofs.Sum.{sum_le}
use Rattle.wire.specs.Wire.{be_at, bytes_of}
use Rattle.wire.proofs.Fields.{be_bytes}
use Rattle.fields.specs.declared.Job.{Job}
use Rattle.fields.specs.Fields.{count_of}
use Rattle.record.specs.Record.{decode}
use Rattle.demand.specs.Demand.{Accepted}
use Rattle.demand.proofs.Validity.{valid_count}
use Rattle.catalogue.specs.Steps.{AcceptedCat}
use Rattle.acceptance.specs.Acceptance.{input_no}
use Rattle.acceptance.proofs.Accepting.{input_passed, input_both, input_accepted, input_listed}
use Rattle.sizing.specs.Losses.{losses_of}
use Rattle.sizing.proofs.Named.{list_long, list_names}
use Rattle.choosing.specs.Suitable.{Suitable, price_at, cost_of}
use Rattle.choosing.specs.Calls.{Ample, choose_no, choose_bytes, Unsuitable, Cheapest, Chosen}
use Rattle.choosing.proofs.EachEnd.{required_ends, ends_required}
use Rattle.choosing.proofs.Entries.{price_top}
use Rattle.choosing.proofs.Ordering.{choose_inputs, choose_ready}
use Rattle.demands.specs.Demand3.{Suited, returned_list, Returned, SixteenOrList, Demand3}

-- the demand's own words and document 01's
module _ {job : Job} {cat list : List ℕ} where
  pub suited : Suitable job cat list → Suited job cat list
  suited s =
      record { sizes = s.sizes; serves = s.serves; ends = required_ends job (losses_of job cat list) job.header.delivered s.reaches }

  suitable : 0 < count_of job → Suited job cat list → Suitable job cat list
  suitable some s =
      record {
        sizes = s.sizes;
        serves = s.serves;
        reaches = ends_required job (losses_of job cat list) job.header.delivered some s.ends;
      }

-- a cost fits its four bytes: 63 sections at 50,000,000 each
cost_top : {job : Job} {cat list : List ℕ} → Accepted job → AcceptedCat cat → Suitable job cat list → cost_of job cat list ≤ 3150000000
unfolding cost_of
cost_top {job} {cat} {list} a l s =
    let few = (valid_count a.valid).high in
    let sum = sum_le (count_of job) 50000000 (λ i. price_at job cat (size_of list i) i)
    (λ i h k. let w = list_names job cat list s.sizes i h k in
    price_top (record { accepted = a; listed = l; first = h; last = k; low = w.low; high = w.high })) in
    omega (arith, sum, few)

-- accepted inputs
module _ (b cat : List ℕ) (accepted : input_no b cat ≡ 0) where
  some : 0 < count_of (decode b)
  some = (valid_count (input_accepted b cat accepted).valid).low

  -- what the bytes of a list of least cost hold
  returned_of : {out₀ out : List ℕ} {n : ℕ} → Cheapest (decode b) cat out₀ out n → Returned (decode b) cat out
  unfolding choose_bytes bytes_of
  returned_of {out₀} {out} f =
      let c = cost_of (decode b) cat f.list in
      let top : c ≤ 3150000000 = cost_top (input_accepted b cat accepted) (input_listed b cat accepted) f.suits in
      let front : out ≡ bytes_of 4 c ++ (f.list ++ _) = f.written ∙ stored_front out₀ (choose_bytes (decode b) cat f.list) ∙ append_assoc (bytes_of 4 c) f.list _ in
      let cost : be_at 4 out 0 ≡ c = rw front (be_bytes 4 c _ (omega arith)) in
      let list : returned_list (decode b) out ≡ f.list =
      rw front (part_right (bytes_of 4 c) (f.list ++ _) 0 (count_of (decode b)) ∙
      part_front f.list _ (count_of (decode b)) (list_long (decode b) cat f.list f.suits.sizes)) in
      record {
        suits = rw list (suited f.suits);
        cost = rw list cost;
        least = λ y s. rw cost (f.least y (suitable some s));
      }

  module _ {out₀ work₀ out work : List ℕ} {n : ℕ} (space : Ample b out₀ work₀) (c : Chosen b cat out₀ work₀ out work n) where
    either : Unsuitable (decode b) cat out₀ out n ⊎ Cheapest (decode b) cat out₀ out n
    either = c.chosen (choose_ready b cat (length out₀) (length work₀) accepted space.result space.space)

    sixteen_of : SixteenOrList (decode b) cat out n
    sixteen_of =
        record {
          none = λ e y s. ⊎_elim (λ u. u.none y (suitable some s)) (λ f. absurd (omega (arith, f.number))) either;
          only = λ none. ⊎_elim (λ u. u.number) (λ f. absurd (none f.list (suited f.suits))) either;
          otherwise = λ other. ⊎_elim (λ u. absurd (other u.number)) (λ f. (f.number, returned_of f)) either;
        }

-- a list is returned only where nothing was found before the search, and so to accepted inputs
module _ {b cat out₀ work₀ out work : List ℕ} (c : Chosen b cat out₀ work₀ out work 0) where
  ready : choose_no b cat (length out₀) (length work₀) ≡ 0
  ready = ⊎_elim (λ e. e) (λ n. sym (c.refused n).number) (cases_eq (choose_no b cat (length out₀) (length work₀)) 0)

  accepted_of : input_no b cat ≡ 0
  accepted_of = ⊎_elim (λ e. e) (λ n. absurd (n (sym (choose_inputs b cat (length out₀) (length work₀) n) ∙ ready))) (cases_eq (input_no b cat) 0)

  result_of : Returned (decode b) cat out
  result_of = ⊎_elim (λ u. absurd (omega (arith, u.number))) (λ f. returned_of b cat accepted_of f) (c.chosen ready)

pub demand_3 : Demand3
demand_3 =
    record {
      returned = λ b cat out₀ work₀ out work c. ((input_both b cat (accepted_of c)).0, (input_both b cat (accepted_of c)).1, result_of c);
      sixteen = λ b cat out₀ work₀ out work n job listed space c. sixteen_of b cat (sym (input_passed b cat (sym job) (sym listed))) space c;
    }
