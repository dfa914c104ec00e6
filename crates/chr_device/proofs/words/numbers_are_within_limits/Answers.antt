use Rattle.chr_device.proofs.Numbers.{numbers_within_limits}
use Rattle.chr_device.proofs.words.numbers_are_within_limits.Goals as goal

pub returns : goal.returns
returns c = numbers_within_limits
