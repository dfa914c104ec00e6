use Rattle.chr_base.specs.Programs.{declarations}
use Rattle.chr_printing.proofs.turns.push_tables.Goals as goal

pub push_sorted-requires : goal.push_sorted-requires
push_sorted-requires g c = c.in_ok-turns.ensures.fit (declarations c.args.program.now)
