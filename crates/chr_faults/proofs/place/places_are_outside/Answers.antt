use Rattle.chr_faults.proofs.Outside.{places_are_outside}
use Rattle.chr_faults.proofs.place.places_are_outside.Goals as goal

pub returns : goal.returns
returns c = places_are_outside
