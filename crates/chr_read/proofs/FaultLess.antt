-- The least fault of a clause from its tests, and what it says that a clause has none.
use Rattle.std.proofs.Common.{◌≡◌, ◌+◌, List, [], length, Bool, true, false, cond, ◌||◌, nat_lt, nat_le, Option, Some}
use Rattle.std.proofs.Common.{None, refl, sym, ap, ◌∙◌}
use Rattle.std.proofs.lemmas.Option.{none-some}
use Rattle.std.specs.List.{list_any}
use Rattle.std.proofs.lemmas.Bool.{or_parts}
use Rattle.chr_base.specs.declared.limits.TheConstants.{MAX_RULES, MAX_SYMBOLS}
use Rattle.chr_syntax.specs.Clauses.{Symbol, Rule, declare, rule}
use Rattle.chr_read.specs.declared.fault.Fault.{Fault}
use Rattle.chr_read.specs.declared.fault.Fault.TheVariants as fault
use Rattle.chr_read.specs.working.RuleParts.{is_declared_already, declared_twice, rule_undeclared, some_part_over}
use Rattle.chr_read.specs.working.RuleParts.{rule_unbound, rule_outside}
use Rattle.chr_read.specs.Faults.{symbol_over, comes_twice, rule_over, rule_atoms, right_terms, is_undeclared}
use Rattle.chr_read.specs.Faults.{is_unbound}
use Rattle.chr_read.specs.working.TextsRead.{fault_in}
use Rattle.chr_read.specs.Meanings.{Progress}
use Rattle.chr_read.specs.working.Adding.{can_declare_all}
use Rattle.chr_read.proofs.Declarable.{can_all}
use Rattle.chr_read.proofs.RuleParts.{undeclared_is, over_is, unbound_is, outside_is, twice_is}

passed : (b : Bool) (n : Fault) (rest : Option Fault) → cond b (Some n) rest ≡ None → (b ≡ false) × (rest ≡ None)
passed true n rest h = absurd (none-some n (sym h))
passed false n rest h = (refl, h)

-- in order: undeclared; over a limit; unbound; a number outside
pub rule_faultless : (q : Progress) (r : Rule) → fault_in q (rule r) ≡ None
    → (rule_undeclared q.meaning.declarations r ≡ false) × (nat_le MAX_RULES (length q.meaning.rules) ≡ false)
    × (some_part_over r ≡ false) × (rule_unbound r ≡ false)
rule_faultless q r h =
    let a = passed (list_any (is_undeclared q.meaning.declarations) (rule_atoms r)) _ _ h in
    let b = passed (nat_le MAX_RULES (length q.meaning.rules) || rule_over r) _ _ a.1 in
    let c = passed (list_any (is_unbound r) (right_terms r)) _ _ b.1 in
    let n = or_parts (nat_le MAX_RULES (length q.meaning.rules)) (rule_over r) b.0 in
    (undeclared_is q.meaning.declarations r ∙ a.0, n.0, over_is r ∙ n.1, unbound_is r ∙ c.0)

-- the least fault from the tests list by list
pub rule_faults : (q : Progress) (r : Rule) (a b c d : Bool) → rule_undeclared q.meaning.declarations r ≡ a
    → (nat_le MAX_RULES (length q.meaning.rules) || some_part_over r) ≡ b
    → rule_unbound r ≡ c → rule_outside r ≡ d
    → cond a (Some fault.Undeclared) (cond b (Some fault.Limit)
    (cond c (Some fault.Unbound) (cond d (Some fault.NumberRange) None))) ≡ fault_in q (rule r)
rule_faults q r a b c d h k l m =
    let ha = sym h ∙ undeclared_is q.meaning.declarations r in
    let kb = sym k ∙ ap (λ x. nat_le MAX_RULES (length q.meaning.rules) || x) (over_is r) in
    let lc = sym l ∙ unbound_is r in
    let md = sym m ∙ outside_is r in
    λ i. cond (ha i) (Some fault.Undeclared) (cond (kb i) (Some fault.Limit)
    (cond (lc i) (Some fault.Unbound) (cond (md i) (Some fault.NumberRange) None)))

pub declare_faults : (q : Progress) (ss : List Symbol) (a b : Bool) → declared_twice q.meaning.declarations ss ≡ a
    → (nat_lt MAX_SYMBOLS (length q.meaning.declarations + length ss) || list_any symbol_over ss) ≡ b
    → cond a (Some fault.DeclaredTwice) (cond b (Some fault.Limit) None) ≡ fault_in q (declare ss)
declare_faults q ss a b h k =
    let ha = sym h ∙ ap (λ x. list_any (is_declared_already q.meaning.declarations) ss || x) (twice_is ss) in
    let kb = sym k in
    λ i. cond (ha i) (Some fault.DeclaredTwice) (cond (kb i) (Some fault.Limit) None)

pub declare_faultless : (q : Progress) (ss : List Symbol) → fault_in q (declare ss) ≡ None
    → can_declare_all q.meaning.declarations ss ≡ true
declare_faultless q ss h =
    let ds = q.meaning.declarations in
    let a = passed (list_any (is_declared_already ds) ss || comes_twice ss) _ _ h in
    let b = passed (nat_lt MAX_SYMBOLS (length ds + length ss) || list_any symbol_over ss) _ _ a.1 in
    let n = or_parts (list_any (is_declared_already ds) ss) (comes_twice ss) a.0 in
    let m = or_parts (nat_lt MAX_SYMBOLS (length ds + length ss)) (list_any symbol_over ss) b.0 in
    can_all ds [] ss m.0 m.1 n.0 (twice_is ss ∙ n.1)
