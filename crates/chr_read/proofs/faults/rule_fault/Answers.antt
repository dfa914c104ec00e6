use Rattle.std.proofs.Common.{◌≡◌, ◌||◌, nat_le, length, true, false, refl, rules}
use Rattle.chr_base.specs.declared.limits.TheConstants.{MAX_RULES}
use Rattle.chr_syntax.specs.Views.{rule_view}
use Rattle.chr_read.specs.working.RuleParts.{rule_undeclared, some_part_over, rule_unbound, rule_outside}
use Rattle.chr_read.specs.working.Views.{progress_of}
use Rattle.chr_read.proofs.FaultLess.{rule_faults}
use Rattle.chr_read.proofs.faults.rule_fault.Goals as goal

pub returns-then-some_part_over : goal.returns-then-some_part_over
returns-then-some_part_over c =
    let q = progress_of c.args.reader.now in
    let r = rule_view c.args.raw.now in
    let a : rule_undeclared q.meaning.declarations r ≡ false = search rules in
    let b : (nat_le MAX_RULES (length q.meaning.rules) || some_part_over r) ≡ true = search rules in
    rule_faults q r false true _ _ a b refl refl

pub returns-then-rule_unbound : goal.returns-then-rule_unbound
returns-then-rule_unbound c =
    let q = progress_of c.args.reader.now in
    let r = rule_view c.args.raw.now in
    let a : rule_undeclared q.meaning.declarations r ≡ false = search rules in
    let b : (nat_le MAX_RULES (length q.meaning.rules) || some_part_over r) ≡ false = search rules in
    let u : rule_unbound r ≡ true = search rules in
    rule_faults q r false false true _ a b u refl

pub returns-then-rule_outside : goal.returns-then-rule_outside
returns-then-rule_outside c =
    let q = progress_of c.args.reader.now in
    let r = rule_view c.args.raw.now in
    let a : rule_undeclared q.meaning.declarations r ≡ false = search rules in
    let b : (nat_le MAX_RULES (length q.meaning.rules) || some_part_over r) ≡ false = search rules in
    let u : rule_unbound r ≡ false = search rules in
    let o : rule_outside r ≡ true = search rules in
    rule_faults q r false false false true a b u o

pub returns-else-rule_outside : goal.returns-else-rule_outside
returns-else-rule_outside c =
    let q = progress_of c.args.reader.now in
    let r = rule_view c.args.raw.now in
    let a : rule_undeclared q.meaning.declarations r ≡ false = search rules in
    let b : (nat_le MAX_RULES (length q.meaning.rules) || some_part_over r) ≡ false = search rules in
    let u : rule_unbound r ≡ false = search rules in
    let o : rule_outside r ≡ false = search rules in
    rule_faults q r false false false false a b u o
