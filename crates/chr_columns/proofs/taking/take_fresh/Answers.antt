use Rattle.std.proofs.Common.{◌≡◌, ◌<◌, length, get_or, sym, subst, ◌∙◌, arith}
use Rattle.std.proofs.lemmas.Bool.Decides.{nat_tests}
use Rattle.chr_base.proofs.Atoms.{same_is}
use Rattle.chr_columns.proofs.Takings.{left_place}
use Rattle.chr_columns.proofs.taking.take_fresh.Goals as goal

pub returns-clause-taken : goal.returns-clause-taken
returns-clause-taken c =
    let xs = c.args.fresh.now.items in
    let a = c.args.atom.now in
    let test = c.in-Some.ensures.lookup.0 in
    let within : c.args.place < length c.deref.result.now = grind (arith, nat_tests) in
    let same : a ≡ c.in-Some.other.now = same_is a c.in-Some.other.now
    (sym c.is_same.ensures ∙ c.if-not-is_same.false) in
    let here = subst (λ x. x ≡ get_or c.deref.result.now c.args.place x) (sym same) c.in-Some.ensures.lookup.1 in
    left_place xs c.swap_remove.new.self.items c.args.place a c.swap_remove.result (rw c.deref.ensures.value at within)
    (rw c.deref.ensures.value at here) c.swap_remove.ensures.value c.swap_remove.ensures.items
