use Rattle.std.proofs.Common.{rules, ◌≡◌, ◌-◌, List, [], ◌++◌, length, take, drop, get_or, sym, ◌∙◌, subst}
use Rattle.std.specs.Prelude.{OnOk}
use Rattle.std.proofs.lemmas.List.{append-nil}
use Rattle.chr_acts.specs.declared.entry.Entry.{Entry}
use Rattle.chr_shared.specs.Settling.{Returns}
use Rattle.chr_shared.proofs.Receiving.{gives_more, none_given, whole}
use Rattle.chr_shared.proofs.shared.Shared.+give_all_back.Goals as goal

pub returns-clause-list : goal.returns-clause-list
returns-clause-list g t c =
    let all = c.args.numbers.now in
    let first = c.args.seat.now.list in
    let end = c.give_all_back.new.seat.list in
    subst (λ l. (es : List Entry) × (end ≡ first ++ es)
    × (Returns l es × OnOk c.give_all_back.result (length es ≡ length l)))
    (whole all c.in-len1-up.len_at_least)
    (gives_more (get_or all 0 0) (take (length all - 1) (drop 1 all)) first c.give_back.new.seat.list end
    c.give_all_back.result c.in_ok-give_back.ensures.ok c.give_all_back.ensures.list)

pub returns-in_err-give_back-clause-list : goal.returns-in_err-give_back-clause-list
returns-in_err-give_back-clause-list g t c =
    let fails : OnOk c.from_residual.result (0 ≡ length c.args.numbers.now) = search rules in
    ([], c.in_err-give_back.ensures.err ∙ sym (append-nil c.args.seat.now.list), (none_given c.args.numbers.now, fails))

pub returns-in_default-results-clause-list : goal.returns-in_default-results-clause-list
returns-in_default-results-clause-list g t c =
    ([], sym (append-nil c.args.seat.now.list), (none_given c.args.numbers.now, tt))
