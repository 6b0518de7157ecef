-- The rating result and its halves written one part after another: the lengths of the parts, and the whole of them.
-- Assumes nothing.
use mathlib.Core.Path.{◌≡◌, refl, sym, ap, ◌∙◌}
use mathlib.Core.List.{List, [], ◌∷◌, ◌++◌}
use Prim.Native.Nat.{ℕ, ◌+◌, ◌-◌, ◌≤◌}
use native.Mathlib.Omega.{arith}
use lib.ListN.{length, drop, set, length-drop}
use Rattle.basis.specs.Part.{part}
use Rattle.basis.specs.Stored.{stored}
use Rattle.basis.proofs.Part.{part_end}
use Rattle.basis.proofs.Stored.{stored_next, stored_set}
use Rattle.wire.specs.Wire.{bytes_of}
use Rattle.fields.specs.declared.Job.{Job}
use Rattle.rated_bytes.specs.RatedBytes.{heads_bytes}

pub heads_length_lem : (job : Job) (loss : ℕ → ℕ) → length (heads_bytes job loss) ≡ 9
unfolding heads_bytes bytes_of
heads_length_lem job loss = refl

-- a section's figures, whole or without the first bytes of them
pub section_length : (flow velocity loss : ℕ) → length (bytes_of 4 flow ++ (bytes_of 2 velocity ++ bytes_of 4 loss)) ≡ 10
unfolding bytes_of
section_length flow velocity loss = refl

pub rest_length : (flow velocity loss skip : ℕ) → length (drop skip (bytes_of 4 flow ++ (bytes_of 2 velocity ++ bytes_of 4 loss))) ≡ 10 - skip
rest_length flow velocity loss skip =
    length-drop skip (bytes_of 4 flow ++ (bytes_of 2 velocity ++ bytes_of 4 loss)) ∙ ap (λ n. n - skip) (section_length flow velocity loss)

pub rest_part : {x : List ℕ} (flow velocity loss skip : ℕ) → x ≡ bytes_of 4 flow ++ (bytes_of 2 velocity ++ bytes_of 4 loss) →
    part x skip (10 - skip) ≡ drop skip (bytes_of 4 flow ++ (bytes_of 2 velocity ++ bytes_of 4 loss))
rest_part flow velocity loss skip e =
    let whole : List ℕ = bytes_of 4 flow ++ (bytes_of 2 velocity ++ bytes_of 4 loss) in
    ap (λ (l : List ℕ). part l skip (10 - skip)) e ∙ ap (λ n. part whole skip (n - skip)) (sym (section_length flow velocity loss)) ∙ part_end whole skip

-- without its four bytes of flow
pub rest_flowless : (flow velocity loss : ℕ) → drop 4 (bytes_of 4 flow ++ (bytes_of 2 velocity ++ bytes_of 4 loss)) ≡ bytes_of 2 velocity ++ bytes_of 4 loss
unfolding bytes_of
rest_flowless flow velocity loss = refl

pub result_stored : (l : List ℕ) (job : Job) (loss : ℕ → ℕ) (sections : List ℕ) → 9 ≤ length l →
    stored (stored l 0 (heads_bytes job loss)) 9 sections ≡ stored l 0 (heads_bytes job loss ++ sections)
result_stored l job loss sections h =
    let e : 9 ≡ 0 + length (heads_bytes job loss) = rw (heads_length_lem job loss) in stored_next l 0 (heads_bytes job loss) 9 sections e h

-- two numbers of four bytes and a byte, one after another
pub heads_stored : (l : List ℕ) (required pump dictating : ℕ) → 9 ≤ length l →
    set (stored (stored l 0 (bytes_of 4 required)) 4 (bytes_of 4 pump)) 8 dictating ≡
    stored l 0 (bytes_of 4 required ++ (bytes_of 4 pump ++ (dictating ∷ [])))
unfolding bytes_of
heads_stored l required pump dictating h =
    let first : stored (stored l 0 (bytes_of 4 required)) 4 (bytes_of 4 pump) ≡ stored l 0 (bytes_of 4 required ++ bytes_of 4 pump) =
    stored_next l 0 (bytes_of 4 required) 4 (bytes_of 4 pump) refl (omega arith) in
    rw first (stored_set l 0 (bytes_of 4 required ++ bytes_of 4 pump) 8 dictating refl (omega arith))
