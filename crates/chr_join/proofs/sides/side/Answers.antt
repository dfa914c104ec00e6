use Rattle.std.proofs.Common.{ap, ◌∙◌, ◌∷◌}
use Rattle.chr_join.proofs.sides.side.Goals as goal

pub returns : goal.returns
returns c =
    let p = c.in_ok-steps.ensures.plain in
    let rest = c.in_ok-steps.field-0.steps.items in (
      p.0,
      record {
        start = c.in_ok-start.ensures;
        rest = rest;
        steps = c.in_ok-insert.ensures.items ∙ ap (λ st. st ∷ rest) c.copy-2.ensures;
        runs = (c.in_ok-after.after, c.in_ok-after.ensures, p.1);
      },
    )
