use Rattle.std.specs.Prelude.{length}
use Rattle.chr_base.specs.Programs.{declarations, rules_of}
use Rattle.chr_base.proofs.Declared.{few_arguments}
use Rattle.chr_node_lines.proofs.request.declared_pattern.Goals as goal

pub places_of-requires : goal.places_of-requires
places_of-requires c =
    few_arguments (declarations c.args.program.now) (rules_of c.args.program.now) c.args.name.now
    (length c.args.values.now) _ c.args.program.now.well_formed c.in-Some.ensures
