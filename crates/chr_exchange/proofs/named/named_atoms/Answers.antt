use Rattle.std.proofs.Common.{sym, ◌∙◌}
use Rattle.chr_base.specs.Programs.{declarations}
use Rattle.chr_base.proofs.Traversals.{front_step}
use Rattle.chr_json.specs.Reads.{raw_atom_view}
use Rattle.chr_exchange.specs.Names.{named_atom}
use Rattle.chr_exchange.proofs.named.named_atoms.Goals as goal

pub loop-word-preserved : goal.loop-word-preserved
loop-word-preserved c =
    let pushed = rw c.in-Some.is at c.in_ok-symbol.ensures.some in
    rw pushed.2 (sym (front_step (named_atom (declarations c.args.program.now)) raw_atom_view c.args.words.now
    c.loop-word.word-index c.word-item.result pushed.0
    c.loop-word.atoms.items c.loop-word-test.true c.word-item.is pushed.1) ∙ c.loop-word.invariant)
