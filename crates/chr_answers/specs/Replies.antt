-- Refusals of command lines, as text.
use Rattle.std.specs.Prelude.{ℕ, List, ◌++◌, codes}
use Rattle.std.specs.Fmt.{decimal}
use Rattle.chr_answers.specs.declared.reply.Refusal.{Refusal}
use Rattle.chr_answers.specs.declared.reply.Refusal.TheVariants as refusal

abbrev pub line_refusal_number : Refusal → ℕ
line_refusal_number refusal.BadLine = 30
line_refusal_number refusal.Shape = 31
line_refusal_number refusal.UnknownSymbol = 32
line_refusal_number refusal.Clash = 33
line_refusal_number refusal.Full = 34
line_refusal_number refusal.NoReplica = 35

abbrev pub refusal_text : Refusal → List ℕ
refusal_text r = codes "refused " ++ decimal (line_refusal_number r)
