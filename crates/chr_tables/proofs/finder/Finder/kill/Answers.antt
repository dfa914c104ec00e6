use Rattle.std.proofs.Common.{map, ap, ◌∙◌}
use Rattle.std.specs.Prelude.{None, option_map}
use Rattle.std.proofs.lemmas.List.{map-set}
use Rattle.chr_tables.specs.working.Finders.{hashed, ranged, crossed}
use Rattle.chr_tables.proofs.finder.Finder.kill.Goals as goal

pub returns-in-Chained-clause-rows : goal.returns-in-Chained-clause-rows
returns-in-Chained-clause-rows c =
    rw c.in-Chained.is (ap (map (option_map hashed)) c.kill.ensures.rows
    ∙ map-set (option_map hashed) c.in-Chained.index.rows c.args.row None)

pub returns-in-Ranged-clause-rows : goal.returns-in-Ranged-clause-rows
returns-in-Ranged-clause-rows c =
    rw c.in-Ranged.is (ap (map (option_map ranged)) c.kill-in-Ranged.ensures.rows
    ∙ map-set (option_map ranged) c.in-Ranged.index.rows c.args.row None)

pub returns-in-Crossed-clause-rows : goal.returns-in-Crossed-clause-rows
returns-in-Crossed-clause-rows c =
    rw c.in-Crossed.is (ap (map (option_map crossed)) c.kill-in-Crossed.ensures.rows
    ∙ map-set (option_map crossed) c.in-Crossed.index.rows c.args.row None)
