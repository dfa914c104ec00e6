use Rattle.std.proofs.Common.{ap, sym, subst, ◌∙◌, ◌++◌, [], ◌∷◌, append_assoc}
use Rattle.std.specs.FinMap as map
use Rattle.chr_ops.specs.Operations.{operations_of}
use Rattle.chr_ops.specs.working.Entries.{Rise}
use Rattle.chr_ops.proofs.Appended.{map_put, put_front, put_last, rise_put}
use Rattle.chr_ops.proofs.entries.Entries.insert.Goals as goal

pub invariant_of-self-then-comes_last : goal.invariant_of-self-then-comes_last
invariant_of-self-then-comes_last c =
    let es = c.self.inside.bags.entries in
    let os = c.self.inside.appended.items in
    let id = c.args.id in
    let bag = c.args.bag in
    let last = put_last id bag (es ++ os) (c.comes_last.ensures c.if-comes_last.true) in
    let put = ap (λ xs. es ++ xs) c.in_ok-push_back.ensures.items
    ∙ sym (append_assoc es os ((id, bag) ∷ [])) ∙ sym last in
    subst Rise (sym put) (rise_put id bag (es ++ os) c.self.invariant)

pub returns-then-comes_last-clause-ok : goal.returns-then-comes_last-clause-ok
returns-then-comes_last-clause-ok c =
    let es = c.self.inside.bags.entries in
    let os = c.self.inside.appended.items in
    let id = c.args.id in
    let bag = c.args.bag in
    let last = put_last id bag (es ++ os) (c.comes_last.ensures c.if-comes_last.true) in
    let put = ap (λ xs. es ++ xs) c.in_ok-push_back.ensures.items
    ∙ sym (append_assoc es os ((id, bag) ∷ [])) ∙ sym last in
    ap operations_of put ∙ map_put id bag (es ++ os) ∙ ap (λ m. map.insert m id bag) c.self.view_is

pub invariant_of-self-in-Ok : goal.invariant_of-self-in-Ok
invariant_of-self-in-Ok c =
    let es = c.make_way.new.bags.entries in
    let os = c.make_way.new.appended.items in
    let id = c.args.id in
    let bag = c.args.bag in
    let put = ap (λ xs. xs ++ os) c.in_ok-insert-in-Ok.ensures.entries
    ∙ sym (put_front id bag es os c.in-Ok.ensures.behind) in
    subst Rise (sym put) (rise_put id bag (es ++ os) (subst Rise (sym c.in-Ok.ensures.same) c.self.invariant))

pub returns-in_ok-insert-in-Ok-clause-ok : goal.returns-in_ok-insert-in-Ok-clause-ok
returns-in_ok-insert-in-Ok-clause-ok c =
    let es = c.make_way.new.bags.entries in
    let os = c.make_way.new.appended.items in
    let id = c.args.id in
    let bag = c.args.bag in
    let put = ap (λ xs. xs ++ os) c.in_ok-insert-in-Ok.ensures.entries
    ∙ sym (put_front id bag es os c.in-Ok.ensures.behind) in
    ap operations_of put ∙ map_put id bag (es ++ os)
    ∙ ap (λ m. map.insert m id bag) (ap operations_of c.in-Ok.ensures.same ∙ c.self.view_is)
