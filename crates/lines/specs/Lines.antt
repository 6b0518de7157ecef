-- Document 01, "The sheet program": its lines, from their figures.
-- Assumes nothing.
use Rattle.std.specs.Prelude.{ℕ, List, [], ◌∷◌, ◌++◌, ℤ}
use Rattle.text.specs.Figures.{decimal, signed_decimal}

-- each figure after a space, then the newline
unfoldable pub spaced : List (List ℕ) → List ℕ
spaced [] = 10 ∷ []
spaced (figure ∷ rest) = (32 ∷ figure) ++ spaced rest

-- the words `house`, `section`, `head` and `refused`
abbrev pub house_word : List ℕ
house_word = 104 ∷ 111 ∷ 117 ∷ 115 ∷ 101 ∷ []

abbrev pub section_word : List ℕ
section_word = 115 ∷ 101 ∷ 99 ∷ 116 ∷ 105 ∷ 111 ∷ 110 ∷ []

abbrev pub head_word : List ℕ
head_word = 104 ∷ 101 ∷ 97 ∷ 100 ∷ []

abbrev pub refused_word : List ℕ
refused_word = 114 ∷ 101 ∷ 102 ∷ 117 ∷ 115 ∷ 101 ∷ 100 ∷ []

-- hour, day, mean hour
unfoldable pub house_line : ℕ → ℕ → ℕ → List ℕ
house_line hour day mean = house_word ++ spaced (decimal hour ∷ decimal day ∷ decimal mean ∷ [])

-- section, flow, velocity, loss
unfoldable pub section_line : ℕ → ℕ → ℕ → ℕ → List ℕ
section_line i flow velocity loss = section_word ++ spaced (decimal i ∷ decimal flow ∷ decimal velocity ∷ decimal loss ∷ [])

-- required head, pump head, dictating section
unfoldable pub head_line : ℤ → ℕ → ℕ → List ℕ
head_line required pump dictating = head_word ++ spaced (signed_decimal required ∷ decimal pump ∷ decimal dictating ∷ [])

-- the number of a refusal
unfoldable pub refused_line : ℕ → List ℕ
refused_line number = refused_word ++ spaced (decimal number ∷ [])
