use Rattle.std.proofs.lemmas.Result.{IfOk-weaker}
use Rattle.chr_worlds.proofs.Gaining.{true_of}
use Rattle.chr_worlds.proofs.Places.{found_there, lacked_at}
use Rattle.chr_worlds.proofs.board_list.BoardList.lacked.Goals as goal

pub lacked_among-requires : goal.lacked_among-requires
lacked_among-requires c =
    let now = c.args.self.now in
    let bs = c.self.inside.boards.items in
    let giver = c.index-from.result.now in
    let taker = c.index-to.result.now in
    c.in-Some.ensures giver.replica.operations taker.replica.operations
    (true_of c.self.inside.news c.args.giver c.args.taker bs giver taker c.self.invariant
    (found_there now bs c.args.giver giver c.self.view_is c.requires.giver c.index-from.ensures)
    (found_there now bs c.args.taker taker c.self.view_is c.requires.taker c.index-to.ensures))

pub returns-in-Some : goal.returns-in-Some
returns-in-Some c =
    let now = c.args.self.now in
    let bs = c.self.inside.boards.items in
    let giver = c.index-from.result.now in
    let taker = c.index-to.result.now in
    IfOk-weaker c.lacked_among.result _ _ (λ ops lacked.
    lacked_at now bs c.args.giver c.args.taker giver taker ops.items c.self.view_is
    (found_there now bs c.args.giver giver c.self.view_is c.requires.giver c.index-from.ensures)
    (found_there now bs c.args.taker taker c.self.view_is c.requires.taker c.index-to.ensures) lacked)
    c.lacked_among.ensures

pub returns-in-None : goal.returns-in-None
returns-in-None c =
    let now = c.args.self.now in
    let bs = c.self.inside.boards.items in
    let giver = c.index-from.result.now in
    let taker = c.index-to.result.now in
    IfOk-weaker c.lacked.result _ _ (λ ops lacked.
    lacked_at now bs c.args.giver c.args.taker giver taker ops.items c.self.view_is
    (found_there now bs c.args.giver giver c.self.view_is c.requires.giver c.index-from.ensures)
    (found_there now bs c.args.taker taker c.self.view_is c.requires.taker c.index-to.ensures) lacked) c.lacked.ensures
