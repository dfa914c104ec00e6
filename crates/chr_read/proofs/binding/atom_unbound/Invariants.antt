use Rattle.std.proofs.Common.{◌≡◌, map, drop}
use Rattle.std.specs.List.{list_any}
use Rattle.chr_syntax.specs.Views.{term_view, rule_view}
use Rattle.chr_read.specs.working.RuleParts.{term_unbound}
use Rattle.chr_read.proofs.binding.atom_unbound.Given as goal

abbrev pub invariant-loop-term : goal.invariant-loop-term
invariant-loop-term l = list_any (term_unbound (rule_view l.rule)) (map term_view (drop l.term-index l.term-items))
    ≡ list_any (term_unbound (rule_view l.rule)) (map term_view l.term-items)
