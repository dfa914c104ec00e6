use Rattle.std.proofs.Common.{rules, ap, sym, subst, ◌∙◌, ◌≡◌, ◌+◌, ◌++◌, ◌∷◌, [], None, arith, vec_len}
use Rattle.std.specs.FinMap as map
use Rattle.chr_base.specs.Stores.{size}
use Rattle.chr_ops.specs.Operations.{told_store}
use Rattle.chr_ops.specs.working.Kept.{AreOperationBags}
use Rattle.chr_ops.proofs.Keeping.{size_inserted, sized_inserted}
use Rattle.chr_ops.proofs.Unions.{union_held, union_new, len_inserted, without_more, without_inserted, ids_inserted}
use Rattle.chr_ops.proofs.joining.take_in.Goals as goal

pub returns-then-is_same-clause-ok : goal.returns-then-is_same-clause-ok
returns-then-is_same-clause-ok c = sym (union_held c.args.held.now c.args.op.now c.args.op.now.1 (search rules))

-- the operation's id is new
new_id : (c : goal.In_ok-insert) → map.get c.args.held.now c.args.op.now.0 ≡ None
new_id c = search rules

inserted : (c : goal.In_ok-insert) → c.insert.new.self ≡ map.insert c.args.held.now c.args.op.now.0 c.args.op.now.1
inserted c = rw (c.id-id.ensures, c.in_ok-bag.ensures.bag) at c.in_ok-insert.ensures.ok

pub returns-clause-ok : goal.returns-clause-ok
returns-clause-ok c = inserted c ∙ sym (union_new c.args.held.now c.args.op.now (new_id c))

pub returns-clause-atoms : goal.returns-clause-atoms
returns-clause-atoms c =
    let atoms : c.len-atoms.result ≡ size c.args.op.now.1 = search rules in
    ap (λ m. size (told_store m)) (inserted c) ∙ size_inserted c.args.held.now c.args.op.now.0 c.args.op.now.1
    (new_id c)
    ∙ ap (λ n. size (told_store c.args.held.now) + n) (sym atoms)

pub returns-clause-count : goal.returns-clause-count
returns-clause-count c =
    let len = ap map.len (inserted c) ∙ len_inserted c.args.held.now c.args.op.now.0 c.args.op.now.1 (new_id c) in
    let pushed : vec_len c.push.new.self ≡ vec_len c.args.fresh.now + 1 = search rules in
    omega (arith, len, pushed)

pub returns-clause-sized : goal.returns-clause-sized
returns-clause-sized c = λ h.
    rw (inserted c) (sized_inserted c.args.held.now c.args.op.now.0 c.args.op.now.1 c.share.ensures.sized h)

pub returns-clause-back : goal.returns-clause-back
returns-clause-back c = λ m h.
    let pushed : c.push.new.self.items ≡ c.args.fresh.now.items ++ c.args.op.now.0 ∷ [] = search rules in
    rw (inserted c, pushed) (without_inserted m c.args.held.now c.args.fresh.now.items c.args.op.now.0 c.args.op.now.1
    (new_id c) h)

pub returns-in_err-insert-clause-back : goal.returns-in_err-insert-clause-back
returns-in_err-insert-clause-back c = λ m h.
    let new : map.get c.args.held.now c.args.op.now.0 ≡ None = search rules in
    let pushed : c.push.new.self.items ≡ c.args.fresh.now.items ++ c.args.op.now.0 ∷ [] = search rules in
    rw (c.in_err-insert.ensures.err, pushed) (without_more m c.args.held.now c.args.fresh.now.items c.args.op.now.0 new
    h)

pub returns-in_err-insert-clause-sized : goal.returns-in_err-insert-clause-sized
returns-in_err-insert-clause-sized c = λ h. subst AreOperationBags (sym c.in_err-insert.ensures.err) h

pub returns-clause-ids : goal.returns-clause-ids
returns-clause-ids c = λ m h.
    let pushed : c.push.new.self.items ≡ c.args.fresh.now.items ++ c.args.op.now.0 ∷ [] = search rules in
    rw (inserted c, pushed) (ids_inserted m c.args.held.now c.args.fresh.now.items c.args.op.now.0 c.args.op.now.1 h)
