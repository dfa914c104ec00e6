use Rattle.std.proofs.Common.{rules, ◌≡◌, subst}
use Rattle.chr_base.specs.Programs.{declarations, rules_of}
use Rattle.chr_weights.specs.WeighedPrograms.{rules_in}
use Rattle.chr_confluence.specs.Confluence.{Confluent}
use Rattle.chr_join.specs.AcceptedPrograms.{weighed_of, program_in}
use Rattle.chr_node_records.specs.Texts.{operations_in}
use Rattle.chr_node_boards.proofs.laws.shown_stores_agree.Goals as goal

pub returns : goal.returns
returns c = λ files others s t alike left right.
    let p = program_in c.args.accepted.now in
    let same : c.weighed.result.now ≡ weighed_of c.args.accepted.now = search rules in
    let confluent = subst (λ w. Confluent (rules_in w)) same c.weighed.ensures.confluent in
    c.nodes_agree.ensures.agree (rules_of p) (operations_in (declarations p)) files others s t confluent alike left
    right
