use Rattle.chr_read.proofs.ProgramsThere.{program_there}
use Rattle.chr_read.proofs.grammar.meanings_have_programs.Goals as goal

pub returns : goal.returns
returns c = program_there
