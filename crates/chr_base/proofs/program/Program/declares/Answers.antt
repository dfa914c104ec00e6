use Rattle.std.proofs.Common.{ap, ◌∙◌}
use Rattle.std.specs.Prelude.{length, nat_eq}
use Rattle.chr_base.specs.ProgramTests.{takes}
use Rattle.chr_base.proofs.program.Program.declares.Goals as goal

pub returns-in-Some : goal.returns-in-Some
returns-in-Some c = (λ i. nat_eq (c.from.ensures i) (c.len.ensures.value i))
    ∙ ap (λ d. takes d (length c.args.atom.now.args.items)) c.in-Some.ensures

pub returns-in-None : goal.returns-in-None
returns-in-None c = ap (λ d. takes d (length c.args.atom.now.args.items)) c.in-None.ensures
