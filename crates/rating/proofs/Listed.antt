-- A test of each element of a list is that test of its sizes, section by section.
-- Assumes nothing.
use Rattle.std.proofs.Common.{◌≡◌, ℕ, ◌+◌, ◌-◌, Bool, List, length, refl, arith}
use Rattle.std.specs.List.{list_all}
use Rattle.basis.specs.Range.{all_to}
use Rattle.basis.specs.Sections.{size_of}
use Rattle.basis.proofs.Listed.{listed_all}

pub all_listed : (test : ℕ → Bool) (list : List ℕ) → list_all test list ≡ all_to (length list) (λ i. test (size_of list i))
all_listed test list =
    listed_all 0 test (λ i. test (size_of list i)) list
    (λ k h. let e : k + 1 - 1 ≡ k = omega arith in rw e refl)
