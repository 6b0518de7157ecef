-- The array that `map` gives holds each figure's loss.
-- Assumes nothing.
use Rattle.std.proofs.Common.{◌≡◌, ℕ, ◌<◌, length, get_or, refl, ◌∙◌, sym, rules, arith}
use Rattle.std.proofs.Math.ListN.{length-map, get_or-map}
use Rattle.std.proofs.Math.Seq.{ext_get_or}
use Rattle.rated_bytes.specs.declared.Figure.{Figure}
use Rattle.rated_bytes.specs.Figures.{blank_figure}
use Rattle.rating.specs.Steps.{losses_in}
use Rattle.rating.proofs.call.Rating.with_losses.Goals as goal
use Rattle.rating.proofs.call.Rating.with_losses.Goals.{After-map}

mapped : (c : After-map) → c.map.result ≡ losses_in c.args.self.now.figures
mapped c =
    let at : (i : ℕ) → i < 64 → get_or c.map.result i 0 ≡ (get_or c.args.self.now.figures i blank_figure).loss = λ i h. let k = c.map.ensures.items.at i blank_figure 0 h in search rules in
    let long : length c.map.result ≡ 64 = c.map.ensures.items.long in
    let told : length c.args.self.now.figures ≡ 64 = search rules in
    let same : length c.map.result ≡ length (losses_in c.args.self.now.figures) = long ∙ sym (length-map c.args.self.now.figures (λ f. f.loss) ∙ told) in
    ext_get_or 0 _ _ same (λ i h. at i (omega arith) ∙ sym (get_or-map (λ (f : Figure). f.loss) c.args.self.now.figures i blank_figure))

pub invariant_of-result : goal.invariant_of-result
invariant_of-result c = record { given = rw (mapped (goal.at.invariant_of-result c).After-map) c.args.self.now.given }

pub returns : goal.returns
returns c = (refl, mapped (goal.at.returns c).After-map)
