use Rattle.std.proofs.Common.{ap, ◌∙◌, ◌≡◌, length, drop, ◌++◌}
use Rattle.chr_base.specs.FinBag.{IsWithin}
use Rattle.chr_base.specs.Stores.{store_of}
use Rattle.chr_rewrite.proofs.Counting.{taken_all}
use Rattle.chr_base.proofs.Steps.{removed_within}
use Rattle.chr_rewrite.proofs.Stepping.{fired}
use Rattle.chr_rewrite.proofs.list.ListPoolPool.fire.Goals as goal

pub returns-clause-ok : goal.returns-clause-ok
returns-clause-ok c =
    let gone : c.split_at.result.1.now ≡ drop (length c.args.rule.now.kept.items) c.args.heads.now =
    c.split_at.ensures.back ∙ ap (λ n. drop n c.args.heads.now) c.len-2.ensures.value in
    let before : c.reserve.new.self.items ≡ c.self.inside.items.items = c.reserve.ensures.items in
    let there : IsWithin (store_of c.args.heads.now) (store_of c.reserve.new.self.items) =
    rw (before, c.self.view_is) c.requires.there in
    let counts = taken_all c.take_all.result c.reserve.new.self.items c.take_all.new.items.items c.split_at.result.1.now
    c.take_all.ensures.taken c.take_all.ensures.seldom
    (rw gone (removed_within c.args.rule.now c.args.heads.now (store_of c.reserve.new.self.items) c.requires.instance
    there)) in
    rw (← c.self.view_is, ← before) (fired c.args.rule.now c.args.heads.now c.reserve.new.self.items
    c.take_all.new.items.items c.push_all.new.items.items c.body_of-body.result.items c.split_at.result.1.now
    c.requires.instance there counts gone c.body_of-body.ensures
    (c.push_all.ensures.items ∙ ap (λ xs. c.take_all.new.items.items ++ xs) c.deref.ensures.0))
