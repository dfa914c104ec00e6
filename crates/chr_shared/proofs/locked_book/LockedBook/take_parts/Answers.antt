use Rattle.chr_shared.proofs.Receiving.{taken_ok, taken_err}
use Rattle.chr_shared.proofs.locked_book.LockedBook.take_parts.Goals as goal

pub returns-clause-ok : goal.returns-clause-ok
returns-clause-ok g c =
    taken_ok (λ v. v.items) c.args.parts _ _ _ _ c.last_leases.result c.in-Ok.ensures.ok c.last_leases.ensures.ok

pub returns-clause-err : goal.returns-clause-err
returns-clause-err g c =
    taken_err c.args.parts _ _ _ _ c.last_leases.result c.in-Ok.ensures.ok c.last_leases.ensures.err
