-- A record of version 1 and the record of version 2 that is made of it have the same fields.
-- Assumes nothing.
use mathlib.Core.Path.{◌≡◌, refl, sym, ◌∙◌}
use mathlib.Core.List.{List, [], ◌∷◌, ◌++◌}
use Prim.Native.Nat.{ℕ, ◌+◌, ◌-◌, ◌≤◌, ◌<◌}
use native.Mathlib.Omega.{arith}
use lib.ListN.{length, drop, length-append, length-drop, get_or-append}
use lib.Seq.{get_or-append-add, get_or-drop}
use Rattle.basis.specs.Part.{part}
use Rattle.basis.proofs.Part.{part_length, part_at}
use Rattle.wire.specs.Wire.{byte_at, be_at, bytes_of}
use Rattle.wire.proofs.Fields.{be_bytes}
use Rattle.demands.specs.HotAndCold.{Counterparts, in_version_two}

module _ (b : List ℕ) (enough : 40 ≤ length b) where
  -- length and version, and what follows
  first : List ℕ
  first = bytes_of 4 (length b + 1) ++ (2 ∷ [])

  rest : List ℕ
  rest = part b 5 35 ++ (0 ∷ drop 40 b)

  parts : in_version_two b ≡ first ++ rest
  unfolding in_version_two first rest bytes_of
  parts = refl

  five : length first ≡ 5
  unfolding first bytes_of
  five = refl

  head_long : length (part b 5 35) ≡ 35
  head_long = part_length b 5 35 (omega arith)

  behind : (k : ℕ) → byte_at (in_version_two b) (5 + k) ≡ byte_at rest k
  behind k = rw parts (rw five at (get_or-append-add first rest k 0))

  last : (k : ℕ) → byte_at rest (35 + k) ≡ byte_at (0 ∷ drop 40 b) k
  unfolding rest
  last k = rw head_long at (get_or-append-add (part b 5 35) (0 ∷ drop 40 b) k 0)

  head_byte : (j : ℕ) → 5 ≤ j → j < 40 → byte_at (in_version_two b) j ≡ byte_at b j
  unfolding rest
  head_byte j low high =
      let e : 5 + (j - 5) ≡ j = omega arith in
      let short : j - 5 < length (part b 5 35) = rw head_long (omega arith) in
      rw e at (behind (j - 5) ∙ get_or-append (part b 5 35) (0 ∷ drop 40 b) 0 (j - 5) short ∙ part_at b 5 35 (j - 5) (omega arith))

  section_byte : (j : ℕ) → 40 ≤ j → byte_at (in_version_two b) (j + 1) ≡ byte_at b j
  section_byte j h =
      let k = j - 40 in
      let at : 5 + (35 + (1 + k)) ≡ j + 1 = omega arith in
      let back : 40 + k ≡ j = omega arith in
      (rw at at (behind (35 + (1 + k)))) ∙
      last (1 + k) ∙
      get_or-append-add (0 ∷ []) (drop 40 b) k 0 ∙
      (rw back at (get_or-drop 40 b k 0))

  one_more : length (in_version_two b) ≡ length b + 1
  unfolding rest
  one_more =
      rw (parts, length-append first rest, five, length-append (part b 5 35) (0 ∷ drop 40 b), head_long, length-drop 40 b) (omega arith)

  pub counterpart : length b < 4294967295 → be_at 4 b 0 ≡ length b → byte_at b 4 ≡ 1 → Counterparts b (in_version_two b)
  unfolding in_version_two bytes_of
  counterpart fits stated one =
      record {
        long = enough;
        longer = one_more;
        stated_one = stated;
        stated_two = be_bytes 4 (length b + 1) _ (omega arith) ∙ sym one_more;
        version_one = one;
        version_two = refl;
        service = behind 35 ∙ last 0;
        head = head_byte;
        sections = section_byte;
      }
