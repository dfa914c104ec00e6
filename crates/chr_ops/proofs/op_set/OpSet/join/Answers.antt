use Rattle.std.proofs.Common.{ap, ◌∙◌, subst}
use Rattle.chr_ops.specs.Operations.{told_store}
use Rattle.chr_ops.specs.Joins.{union, HasNoClash, IsFirstClash, IsOverLimit}
use Rattle.chr_ops.proofs.Unions.{had_back, told_store-union}
use Rattle.chr_ops.proofs.op_set.OpSet.join.Goals as goal

pub returns-in-Ok-clause-no_clash : goal.returns-in-Ok-clause-no_clash
returns-in-Ok-clause-no_clash c = subst (λ m. HasNoClash m c.args.ops.now) c.self.view_is c.in-Ok.ensures.no_clash

pub invariant_of-self-in-Err : goal.invariant_of-self-in-Err
invariant_of-self-in-Err c =
    let left = had_back c.self.inside.held c.take_in_covered.new.held c.withdraw.new.held
    c.take_in_covered.new.fresh.items
    c.take_in_covered.ensures.back (rw c.deref.ensures.value at c.withdraw.ensures) in
    rw (left, c.in-Err.ensures.uncovered) c.self.invariant

pub returns-clause-err : goal.returns-clause-err
returns-clause-err c =
    let left = had_back c.self.inside.held c.take_in_covered.new.held c.withdraw.new.held
    c.take_in_covered.new.fresh.items
    c.take_in_covered.ensures.back (rw c.deref.ensures.value at c.withdraw.ensures) in
    left ∙ c.self.view_is

pub returns-clause-clash : goal.returns-clause-clash
returns-clause-clash c = λ id e. subst (λ m. IsFirstClash m c.args.ops.now id) c.self.view_is
    (c.in-Err.ensures.clash id e)

pub returns-clause-full : goal.returns-clause-full
returns-clause-full c = λ e.
    let full = c.in-Err.ensures.full e in (
      subst (λ m. HasNoClash m c.args.ops.now) c.self.view_is full.0,
      subst (λ m. IsOverLimit m c.args.ops.now) c.self.view_is full.1,
    )

pub returns-in-Ok-clause-told : goal.returns-in-Ok-clause-told
returns-in-Ok-clause-told c =
    ap told_store (c.in-Ok.ensures.ok ∙ ap (λ m. union m c.args.ops.now) c.self.view_is)
    ∙ told_store-union c.args.self.now c.args.ops.now

pub invariant_of-self : goal.invariant_of-self
invariant_of-self c = record {
  counted = c.in-Ok.ensures.told;
  within = c.in-Ok.ensures.within;
  sized = c.take_in_covered.ensures.sized c.self.invariant.sized;
  apart = c.in-Ok.ensures.apart;
  covering = c.in-Ok.ensures.covers;
}
