use Rattle.std.proofs.Common.{sym, ◌∙◌}
use Rattle.std.proofs.lemmas.List.{get_or_default}
use Rattle.chr_base.proofs.Atoms.{same_is}
use Rattle.chr_rewrite.proofs.Counting.{none_more}
use Rattle.chr_rewrite.proofs.edits.index_of.Goals as goal

pub returns-then-is_same-clause-found : goal.returns-then-is_same-clause-found
returns-then-is_same-clause-found c =
    get_or_default c.args.items.now c.loop-i.i c.args.atom.now c.index-items-i.result c.loop-i-test.true
    ∙ sym c.index-items-i.is ∙ sym (same_is c.args.atom.now c.index-items-i.result
    (sym c.is_same.ensures ∙ c.if-is_same.true))

pub loop-i-preserved : goal.loop-i-preserved
loop-i-preserved c = none_more c.args.atom.now c.args.items.now c.loop-i.i c.index-items-i.result c.loop-i-test.true
    c.index-items-i.is (sym c.is_same.ensures ∙ c.if-is_same.false) c.loop-i.invariant
