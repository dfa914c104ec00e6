use mir.Syntax.{w64}
use mir.Val.{SFits}
use Rattle.std.proofs.lemmas.Int.{to_z-of_z}
use Rattle.std.proofs.Common.{rules, [], ◌∷◌, ◌++◌, map, ap, ◌∙◌}
use Rattle.std.specs.Prelude.{Some, option_map}
use Rattle.std.proofs.lemmas.List.{map-append}
use Rattle.chr_tables.specs.working.Finders.{crossed}
use Rattle.chr_tables.proofs.finder.Finder.push.Goals as goal

pub returns-in-Crossed-clause-rows : goal.returns-in-Crossed-clause-rows
returns-in-Crossed-clause-rows c =
    let fits : SFits w64 c.argument-in-Crossed.result = search rules in
    let fits_too : SFits w64 c.argument-in-Crossed-2.result = search rules in
    rw c.in-Crossed.is
    (ap (map (option_map crossed)) c.push-in-Crossed.ensures.rows
    ∙ map-append (option_map crossed) c.in-Crossed.index.rows _
    ∙ (λ i. map (option_map crossed) c.in-Crossed.index.rows ++ Some (record {
      hash = c.args.hash;
      values = (to_z-of_z w64 c.argument-in-Crossed.result fits ∙ c.argument-in-Crossed.ensures) i
          ∷ (to_z-of_z w64 c.argument-in-Crossed-2.result fits_too ∙ c.argument-in-Crossed-2.ensures) i ∷ [];
    }) ∷ []))
