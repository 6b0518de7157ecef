-- Each section's line stands after those of the sections before it.
-- Assumes nothing.
use Rattle.std.proofs.Common.{◌≡◌, length, ◌∷◌, inl, inr, arith}
use Rattle.rated_text.proofs.Figures.{Lined, lined_none, lined_room, lined_more, lined_end}
use Rattle.rated_text.proofs.put_sections.Goals as goal
use Rattle.rated_text.proofs.put_sections.Goals.{In-Some, In-None}

pub loop-number-init : goal.loop-number-init
loop-number-init c =
    let zip = c.zip-number-items.ensures in
    rw (c.into_iter-number-iterator.ensures.into_iter_gives, zip.first, zip.second.0) (lined_none _ _)

-- the section at hand and those after it
at_hand : (c : In-Some) → Lined c.args.figures.now c.args.text.now c.in-Some.number (c.in-Some.f.now ∷ c.next.new.self.b.rest.now) c.loop-number.text
at_hand c = let s = c.in-Some.ensures.steps in rw (s.1, ← s.0.0) at c.loop-number.invariant

pub put_section-requires : goal.put_section-requires
put_section-requires c = (omega arith, lined_room _ _ (at_hand (goal.at.put_section-requires c).In-Some) c.requires.1)

pub loop-number-preserved : goal.loop-number-preserved
loop-number-preserved c =
    let line = rw c.from.ensures at c.put_section.ensures.bytes in
    rw c.in-Some.ensures.steps.0.1 (lined_more _ _ (at_hand (goal.at.loop-number-preserved c).In-Some) line c.put_section.ensures.room)

-- the numbers go on, so it is the figures that end
none_left : (c : In-None) → length c.loop-number.number-iterator.b.rest.now ≡ 0
none_left c = elim c.in-None.ensures.steps [ inl s ↦ absurd (omega arith) | inr s ↦ s.1.0 ]

pub returns-clause-bytes : goal.returns-clause-bytes
returns-clause-bytes c = (lined_end _ _ c.loop-number.invariant (none_left (goal.at.returns-clause-bytes c).In-None)).0

pub returns-clause-room : goal.returns-clause-room
returns-clause-room c = (lined_end _ _ c.loop-number.invariant (none_left (goal.at.returns-clause-room c).In-None)).1
