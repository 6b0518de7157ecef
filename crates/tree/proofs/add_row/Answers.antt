-- `tree::add_row` meets its contract: each turn writes one count.
-- Assumes nothing.
use Rattle.std.proofs.Common.{◌≡◌, ◌+◌, ◌<◌, ◌∙◌, arith, refl, get_or, [], ⊎_elim}
use Rattle.std.proofs.lemmas.Bool.{cases_eq}
use Rattle.tree.specs.Rows.{cell}
use Rattle.tree.proofs.Cells.{put_sized, put_here, put_beside, other_row}
use Rattle.tree.proofs.add_row.Goals as goal

pub loop-k-preserved : goal.loop-k-preserved
loop-k-preserved c =
    let w = c.loop-k.invariant in
    let to = c.args.to in
    let k = c.loop-k.k in
    let h : to < 64 = omega arith in
    let row : get_or c.loop-k.n c.args.from [] ≡ get_or c.args.n.now c.args.from [] = w.higher c.args.from (omega arith) in
    let v = cell c.loop-k.n to k + cell c.loop-k.n c.args.from k in
    record {
      sized = put_sized w.sized to k v h;
      added = λ x l. ⊎_elim
          (λ e. rw e (put_here w.sized to k v h (omega arith) ∙ rw (w.after k (omega arith), row) refl))
          (λ ne. put_beside w.sized to k v h x ne ∙ w.added x (omega arith))
          (cases_eq x k);
      after = λ x l. put_beside w.sized to k v h x (λ e. omega arith) ∙ w.after x (omega arith);
      lower = λ i l. other_row w.sized to k v h i (λ e. omega arith) ∙ w.lower i l;
      higher = λ i l. other_row w.sized to k v h i (λ e. omega arith) ∙ w.higher i l;
    }
