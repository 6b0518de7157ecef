-- Bytes in rows of eight: a field of a row is that of the bytes, one row after another.
-- Assumes nothing.
use Rattle.std.proofs.Common.{◌≡◌, ◌∙◌, refl, ℕ, zero, suc, ◌+◌, ◌-◌, ◌*◌, ◌/◌, ◌≤◌, ◌<◌, List, [], ◌∷◌, length, get_or, drop, arith}
use Rattle.std.specs.List.{concat}
use Rattle.std.specs.Simd.{first_chunks}
use Rattle.std.proofs.lemmas.List.{get_or_append_left, get_or-append_right, length-drop, take-append-drop}
use Rattle.wire.specs.Wire.{be_at}
use Rattle.wire.proofs.Fields.{be_same}
use Rattle.catalogue.specs.Layout.{flow_at, velocity_at, slope_at}

-- each row has eight bytes
abbrev pub Eights : List (List ℕ) → Type 0
Eights rows = (i : ℕ) → i < length rows → length (get_or rows i []) ≡ 8

eights_tail : (row : List ℕ) (rows : List (List ℕ)) → Eights (row ∷ rows) → Eights rows
eights_tail row rows e i h = e (suc i) (omega arith)

-- byte j of row k
byte_row : (rows : List (List ℕ)) → Eights rows → (k j : ℕ) → k < length rows → j < 8 → get_or (concat rows) (8 * k + j) 0 ≡ get_or (get_or rows k []) j 0
byte_row [] e k j h l = absurd (omega arith)
byte_row (row ∷ rows) e zero j h l =
    let long : length row ≡ 8 = e 0 (omega arith) in
    let place : 8 * 0 + j ≡ j = omega arith in
    rw place (get_or_append_left row (concat rows) 0 j (omega arith))
byte_row (row ∷ rows) e (suc k) j h l =
    let long : length row ≡ 8 = e 0 (omega arith) in
    let place : 8 * suc k + j - 8 ≡ 8 * k + j = omega arith in
    get_or-append_right row (concat rows) 8 (8 * suc k + j) 0 long (omega arith) ∙ rw place (byte_row rows (eights_tail row rows e) k j (omega arith) l)

-- the rows of a part are the part
pub chunks_concat : (n : ℕ) (l : List ℕ) → length l ≡ 8 * n → concat (first_chunks 8 n l) ≡ l
chunks_concat zero [] e = refl
chunks_concat zero (x ∷ l) e = absurd (omega arith)
chunks_concat (suc n) l e =
    let rest : length (drop 8 l) ≡ 8 * n = omega (arith, length-drop 8 l) in
    rw (chunks_concat n (drop 8 l) rest) (take-append-drop 8 l)

pub chunks_part : (n : ℕ) (p l : List ℕ) → p ≡ l → length l ≡ 8 * n → concat (first_chunks 8 (length p / 8) p) ≡ l
chunks_part n p l e long =
    let count : length l / 8 ≡ n = omega arith in
    rw (e, count) (chunks_concat n l long)

module _ (rows : List (List ℕ)) (e : Eights rows) (k : ℕ) (h : k < length rows) where
  -- a field at place o of row k
  field_row : (w o p : ℕ) → p ≡ 8 * k + o → o + w ≤ 8 → be_at w (concat rows) p ≡ be_at w (get_or rows k []) o
  field_row w o p at l =
      be_same w (concat rows) (get_or rows k []) p o
      (λ j m. let place : p + j ≡ 8 * k + (o + j) = omega arith in rw place (byte_row rows e k (o + j) h (omega arith)))

  pub flow_row : flow_at (concat rows) k ≡ flow_at (get_or rows k []) 0
  unfolding flow_at
  flow_row = field_row 4 0 (8 * k) (omega arith) (omega arith)

  pub velocity_row : velocity_at (concat rows) k ≡ be_at 2 (get_or rows k []) 4
  unfolding velocity_at
  velocity_row = field_row 2 4 (8 * k + 4) (omega arith) (omega arith)

  pub slope_row : slope_at (concat rows) k ≡ be_at 2 (get_or rows k []) 6
  unfolding slope_at
  slope_row = field_row 2 6 (8 * k + 6) (omega arith) (omega arith)
