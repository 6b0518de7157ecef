-- `tree::Tree::fill` meets its contract.
-- Assumes nothing.
use Rattle.std.proofs.Common.{◌≡◌, ◌+◌, ◌-◌, arith, sym, ◌∙◌}
use Rattle.std.proofs.lemmas.Bool.Decides.{nat_tests}
use Rattle.basis.specs.Range.{within}
use Rattle.basis.proofs.Bools.{apart}
use Rattle.basis.proofs.Within.{within_in, in_within}
use Rattle.fields.specs.Fields.{count_of, section_of}
use Rattle.tree.specs.Rows.{Owned}
use Rattle.tree.proofs.Filled.{owned_skip, owned_set}
use Rattle.tree.proofs.Tree.fill.Goals as goal
use Rattle.tree.proofs.Tree.fill.Goals.{Joined-contains, then-contains, else-contains}

-- one section more
more : (c : Joined-contains) → Owned c.args.self.now.job.now (c.loop-j.j + 1 - 1) c.if-contains.n
more c =
    let o = c.loop-j.invariant.1 in
    let r = c.new.ensures in
    let kind = (section_of c.args.self.now.job.now c.loop-j.j).kind in
    let twelve : c.contains.result ≡ within 1 12 kind = c.contains.ensures.value ∙ rw (r.start, r.end, r.exhausted) (grind (arith, nat_tests)) in
    elim c.if-contains.branch [
      | then-contains w ↦
          let k = within_in 1 12 kind (sym twelve ∙ w.if-contains.true) in
          rw (w.n-is, w.from-then-contains.ensures, w.from.ensures) (owned_set o (omega arith) (omega arith) (omega arith) k.low k.high)
      | else-contains w ↦
          rw w.n-is
          (owned_skip o (omega arith) (omega arith) (omega arith)
          (λ k l e. apart (in_within 1 12 kind (record { low = omega arith; high = omega arith })) (sym twelve ∙ w.if-contains.false)))
    ]

pub loop-j-preserved : goal.loop-j-preserved
loop-j-preserved c = (omega arith, more (goal.at.loop-j-preserved c).Joined-contains)

pub returns-after-contains : goal.returns-after-contains
returns-after-contains c =
    let m = more (goal.at.returns-after-contains c).Joined-contains in
    let e : c.loop-j.j + 1 - 1 ≡ count_of c.args.self.now.job.now = omega arith in rw e at m
