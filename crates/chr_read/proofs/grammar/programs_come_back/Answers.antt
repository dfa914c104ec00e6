use Rattle.chr_read.proofs.RoundTrip.{round_trip}
use Rattle.chr_read.proofs.grammar.programs_come_back.Goals as goal

pub returns : goal.returns
returns c = round_trip
