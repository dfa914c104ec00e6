use Rattle.std.proofs.Common.{ap, ◌∙◌, drop}
use Rattle.std.proofs.lemmas.Result.{on_ok_weaker}
use Rattle.chr_base.specs.FinBag.{◌⊕◌}
use Rattle.chr_base.specs.Stores.{store_of}
use Rattle.chr_rewrite.proofs.Deriving.{fired_bag}
use Rattle.chr_rewrite.proofs.plain.fire.Goals as goal

pub returns : goal.returns
returns c =
    on_ok_weaker c.add_all.result
    (λ came. fired_bag c.args.rule.now c.args.heads.now c.split_at.result.1.now c.body_of.result.items c.args.bag.now
    c.remove_all.new.self c.add_all.new.bag c.remove_all.result c.requires.instance c.requires.there
    (c.split_at.ensures.back ∙ ap (λ n. drop n c.args.heads.now) c.len.ensures.value) c.remove_all.ensures.there
    c.remove_all.ensures.taken c.body_of.ensures (came
    ∙ ap (λ xs. c.remove_all.new.self ⊕ store_of xs) c.deref.ensures.0))
    c.add_all.ensures
