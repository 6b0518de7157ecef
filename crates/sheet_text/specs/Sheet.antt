-- Document 01, "The sheet program": the text that it prints for its input.
-- Assumes nothing.
use Rattle.std.specs.Prelude.{ℕ, min, cond, List, [], length, take, drop, ltb}
use Rattle.wire.specs.Wire.{be_at}
use Rattle.rated_text.specs.RatedText.{text_of}

-- only the first 65,536 bytes of input are read
abbrev pub read_of : List ℕ → List ℕ
read_of input = take 65536 input

-- a record ends at its stated length, or where the input ends; input of under four bytes states none
unfoldable pub record_end : List ℕ → ℕ
record_end l = cond (ltb (length l) 4) (length l) (min (be_at 4 l 0) (length l))

-- the record at the front, and what follows it
abbrev pub record_of : List ℕ → List ℕ
record_of l = take (record_end l) l

abbrev pub after_record : List ℕ → List ℕ
after_record l = drop (record_end l) l

-- job, catalogue and sizes, one after another; all that follows the catalogue is the size list
unfoldable pub sheet_text : List ℕ → List ℕ
sheet_text input =
    text_of (record_of (read_of input)) (record_of (after_record (read_of input))) (after_record (after_record (read_of input)))

-- what goes into a buffer of so many bytes: every text fits 4,096, and a shorter buffer gets nothing
unfoldable pub written_text : ℕ → List ℕ → List ℕ
written_text room input = cond (ltb room 4096) [] (sheet_text input)
