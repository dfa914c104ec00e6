use Rattle.std.proofs.Common.{rules, ◌≡◌, ◌+◌, ap, sym, subst, ◌∙◌}
use Rattle.std.specs.FinMap as map
use Rattle.chr_replica.specs.Leases.{AreBelow}
use Rattle.chr_replica.proofs.LeasedSums.{below_next, not_out, without_again}
use Rattle.chr_replica.proofs.leases.Leases.+insert_all.Goals as goal

pub insert_all-requires : goal.insert_all-requires
insert_all-requires t c =
    let put : c.insert.new.self ≡ map.insert c.args.self.now c.args.first c.in_ok-copy.field-0 = search rules in (
      search rules,
      (
        subst (λ m. AreBelow m (c.args.first + 1)) (sym put) (below_next _ _ _ c.requires.above),
        search rules,
      ),
    )

pub returns-then-is_err-clause-err : goal.returns-then-is_err-clause-err
returns-then-is_err-clause-err t c =
    let put : c.insert.new.self ≡ map.insert c.args.self.now c.args.first c.in_ok-copy.field-0 = search rules in
    let same : c.insert_all.new.self ≡ c.insert.new.self = search rules in
    c.remove.ensures ∙ ap (λ m. map.remove m c.args.first) (same ∙ put)
    ∙ without_again _ _ _ (not_out _ _ c.requires.above)
