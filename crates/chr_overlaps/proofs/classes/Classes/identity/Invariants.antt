use Rattle.std.proofs.Common.{◌≡◌, length, map}
use Rattle.std.specs.List.{range_with_len}
use Rattle.chr_base.specs.declared.term.Term.TheVariants.{Variable}
use Rattle.chr_overlaps.proofs.classes.Classes.identity.Given as goal

abbrev pub invariant-loop-variable : goal.invariant-loop-variable
invariant-loop-variable l = record {
  items : l.terms.items ≡ map Variable (range_with_len 0 l.variable);
  len : length l.terms.items ≡ l.variable;
}
