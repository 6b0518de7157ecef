-- What goes into the buffer: nothing, or the text of the input's first bytes at its front.
-- Assumes nothing.
use Rattle.std.proofs.Common.{◌≡◌, ℕ, ◌<◌, ◌≤◌, List, [], length, take, drop, length-append, arith}
use Prim.Native.Nat.{min}
use borrow.Author.Tests.{lt-ltb, le-ltb}
use Rattle.std.proofs.Math.Nat.{min_comm}
use Rattle.std.proofs.lemmas.List.{take_min}
use Rattle.basis.specs.Stored.{stored}
use Rattle.basis.proofs.Stored.{stored_none, stored_front}
use Rattle.sheet_text.specs.Sheet.{read_of, sheet_text, written_text}

module _ (room : ℕ) (l : List ℕ) where
  pub written_short : room < 4096 → written_text room l ≡ []
  unfolding written_text
  written_short h = rw (lt-ltb room 4096 h)

  pub written_long : 4096 ≤ room → written_text room l ≡ sheet_text l
  unfolding written_text
  written_long h = rw (le-ltb room 4096 h)

-- the first 65,536 bytes as the code takes them
pub read_is : (l : List ℕ) → take (min (length l) 65536) l ≡ read_of l
read_is l = rw (min_comm (length l) 65536) (take_min 65536 l)

-- a text that stands at the front of a buffer lies within it
pub front_within : (before x : List ℕ) {now : List ℕ} {n : ℕ} → (n ≡ length x) × (now ≡ stored before 0 x) → n ≤ length now
front_within before x e = rw (e.0, e.1, stored_front before x, length-append x (drop (length x) before)) (omega arith)

pub ruleset written = (written_short, written_long, read_is, stored_none, stored_front)
