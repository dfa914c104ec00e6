use Rattle.std.proofs.Common.{arith, false, ◌∙◌}
use Rattle.std.proofs.lemmas.List.{get_or-map}
use Rattle.chr_indexes.specs.declared.hashes.row.Row.{Row}
use Rattle.chr_indexes.specs.working.HashEntries.{flags_of}
use Rattle.chr_indexes.proofs.HashLinks.{live_not}
use Rattle.chr_indexes.proofs.hashes.chain.live_from.Goals as goal

pub returns-clause-none_between : goal.returns-clause-none_between
returns-clause-none_between c = λ r l s live.
    let dead = get_or-map (λ (r : Row). r.alive) c.args.rows.now c.args.row _ false c.requires.row
    ∙ c.if-rows-row.false in
    let other = live_not (flags_of c.args.rows.now) r c.args.row live dead in
    c.next_live.ensures.none_between r (omega (arith, l, other)) s live
