use Rattle.std.proofs.Common.{rules, ap, sym, subst, ◌∙◌, ◌≡◌, None, ◌+◌, ◌≤◌, ◌||◌, [], ◌∷◌}
use Rattle.std.specs.FinMap as map
use Rattle.std.specs.Option.{unwrap_or}
use Rattle.std.proofs.lemmas.Option.{none-some}
use Rattle.chr_base.specs.Stores.{size}
use Rattle.chr_ops.specs.declared.limits.TheConstants.{MAX_TOLD}
use Rattle.chr_ops.specs.Operations.{IsOperationBag, told_atoms}
use Rattle.chr_ops.specs.declared.id.OpId.{OpId}
use Rattle.chr_ops.specs.Summaries.{covers}
use Rattle.chr_ops.specs.News.{is_one_of}
use Rattle.chr_ops.proofs.Keeping.{just_put, kept_insert, put_back}
use Rattle.chr_ops.proofs.op_set.OpSet.add_new.Goals as goal

pub from_shared-requires-in-Some : goal.from_shared-requires-in-Some
from_shared-requires-in-Some c =
    let m = c.self.inside.held in
    let id = c.in_ok-id.id in
    let bag = c.in_ok-id.bag in
    let put : c.insert.new.self ≡ map.insert m id bag = search rules in
    let got = c.remove.ensures.bag ∙ ap (λ n. map.get n id) put ∙ just_put m id bag in
    let same : bag ≡ c.in-Some.bag = ap (λ o. unwrap_or o bag) (sym got ∙ c.in-Some.is) in
    let sized : IsOperationBag bag = search (rules, c.into_shared.ensures.sized) in
    subst IsOperationBag same sized

pub unreachable-requires : goal.unreachable-requires
unreachable-requires c =
    let m = c.self.inside.held in
    let id = c.in_ok-id.id in
    let bag = c.in_ok-id.bag in
    let put : c.insert.new.self ≡ map.insert m id bag = search rules in
    let got = c.remove.ensures.bag ∙ ap (λ n. map.get n id) put ∙ just_put m id bag in
    none-some bag (sym c.in-None.is ∙ got)

pub invariant_of-self-then-is_err : goal.invariant_of-self-then-is_err
invariant_of-self-then-is_err c =
    let m = c.self.inside.held in
    let id = c.in_ok-id.id in
    let bag = c.in_ok-id.bag in
    let put : c.insert.new.self ≡ map.insert m id bag = search rules in
    let new : map.get m id ≡ None = search rules in
    let left = c.remove.ensures.rest ∙ ap (λ n. map.remove n id) put ∙ put_back m id bag new in
    let covered : c.cover_one.new.self ≡ c.self.inside.covered = search rules in
    rw (left, covered) c.self.invariant

pub returns-then-is_err-clause-handed_back : goal.returns-then-is_err-clause-handed_back
returns-then-is_err-clause-handed_back c =
    let m = c.self.inside.held in
    let id = c.in_ok-id.id in
    let bag = c.in_ok-id.bag in
    let put : c.insert.new.self ≡ map.insert m id bag = search rules in
    let got = c.remove.ensures.bag ∙ ap (λ n. map.get n id) put ∙ just_put m id bag in
    let same : bag ≡ c.in-Some.bag = ap (λ o. unwrap_or o bag) (sym got ∙ c.in-Some.is) in
    c.from_shared-in-Some.ensures ∙ ap (λ b. (id, b)) (sym same) ∙ c.in_ok-id.ensures.ok

pub returns-then-is_err-clause-err : goal.returns-then-is_err-clause-err
returns-then-is_err-clause-err c =
    let m = c.self.inside.held in
    let id = c.in_ok-id.id in
    let bag = c.in_ok-id.bag in
    let put : c.insert.new.self ≡ map.insert m id bag = search rules in
    let new : map.get m id ≡ None = search rules in
    let left = c.remove.ensures.rest ∙ ap (λ n. map.remove n id) put ∙ put_back m id bag new in
    left ∙ c.self.view_is

pub invariant_of-self-2 : goal.invariant_of-self-2
invariant_of-self-2 c =
    let m = c.self.inside.held in
    let id = c.in_ok-id.id in
    let bag = c.in_ok-id.bag in
    let put : c.insert.new.self ≡ map.insert m id bag = search rules in
    let new : map.get m id ≡ None = search rules in
    let sized : IsOperationBag bag = search (rules, c.into_shared.ensures.sized) in
    let atoms : c.len-atoms.result ≡ size bag = search rules in
    let counted = c.self.invariant.counted ∙ ap told_atoms c.self.view_is in
    let told = ap (λ o. o.1) c.in_ok-id.ensures.ok in
    let room = subst (λ b. c.self.inside.told + size b ≤ MAX_TOLD) (sym told)
    (subst (λ n. n + size c.args.op.1 ≤ MAX_TOLD) (sym counted) c.requires.room) in
    let covers : (q : OpId) → covers c.cover_one.new.self q
    ≡ (covers c.self.inside.covered q || is_one_of (id ∷ []) q) = search rules in
    rw (atoms, put)
    (kept_insert c.self.inside.told c.self.inside.covered c.cover_one.new.self m id bag c.self.invariant new sized room
    c.cover_one.ensures.apart covers)
