use Rattle.std.proofs.Common.{sym, subst}
use Rattle.chr_worlds.specs.Answers.{merged_answer}
use Rattle.chr_worlds.specs.working.Boards.{ExchangesAt}
use Rattle.chr_worlds.proofs.Gaining.{holds_all}
use Rattle.chr_worlds.proofs.Places.{takes_in}
use Rattle.chr_worlds.proofs.board_list.BoardList.exchange.Goals as goal

pub keep_met-requires : goal.keep_met-requires
keep_met-requires c = λ n is.
    let bs = c.args.self.now in
    let cs = c.merge.new.self in
    let exchanged = takes_in bs cs c.args.giver c.args.taker c.in_ok-ops.ops.items c.deref.result.now
    (merged_answer c.in_ok-merged.merged) c.in_ok-ops.ensures c.deref.ensures.value c.in_ok-merged.ensures.ok in
    holds_all c.exchange_laws.ensures.exchange bs cs c.args.giver c.args.taker n
    (subst (λ x. ExchangesAt bs c.args.giver c.args.taker (merged_answer x) cs) is exchanged)

pub returns-clause-ok : goal.returns-clause-ok
returns-clause-ok c =
    let bs = c.args.self.now in
    let cs = c.merge.new.self in
    let exchanged = takes_in bs cs c.args.giver c.args.taker c.in_ok-ops.ops.items c.deref.result.now
    (merged_answer c.in_ok-merged.merged) c.in_ok-ops.ensures c.deref.ensures.value c.in_ok-merged.ensures.ok in
    subst (ExchangesAt bs c.args.giver c.args.taker (merged_answer c.in_ok-merged.merged)) (sym c.keep_met.ensures)
    exchanged
