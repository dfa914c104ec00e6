use Rattle.std.proofs.Common.{◌≡◌, ◌+◌, true, false, ◌||◌, drop, rules, sym, ap, ◌∙◌}
use Rattle.std.specs.Str.{bytes_eq}
use Rattle.chr_base.specs.Programs.{declarations}
use Rattle.chr_node_lines.specs.Asked.{has_name}
use Rattle.chr_node_lines.proofs.Asking.{has_step}
use Rattle.chr_node_lines.proofs.request.has_name.Goals as goal

pub returns-then-eq : goal.returns-then-eq
returns-then-eq c =
    let ds = declarations c.args.program.now in
    let same : bytes_eq c.name_of.result.now c.args.name.now ≡ true = search rules in
    ap (λ b. b || has_name (drop (c.loop-place.place + 1) ds) c.args.name.now) (sym same)
    ∙ sym (has_step ds c.loop-place.place c.name_of.result.now c.args.name.now c.name_of.ensures)
    ∙ c.loop-place.invariant

pub loop-place-preserved : goal.loop-place-preserved
loop-place-preserved c =
    let ds = declarations c.args.program.now in
    let other : bytes_eq c.name_of.result.now c.args.name.now ≡ false = search rules in
    ap (λ b. b || has_name (drop (c.loop-place.place + 1) ds) c.args.name.now) (sym other)
    ∙ sym (has_step ds c.loop-place.place c.name_of.result.now c.args.name.now c.name_of.ensures)
    ∙ c.loop-place.invariant
