use Rattle.std.proofs.Common.{◌≤◌, ℕ, ℤ, List, length, map, sym, ap, subst, ◌∙◌, arith}
use Rattle.std.specs.List.{filter}
use Rattle.chr_base.specs.Programs.{rules_of}
use Rattle.chr_weights.specs.WeighedPrograms.{program_of}
use Rattle.chr_types.specs.OrderTypes.{MoreTypesThan}
use Rattle.chr_types.specs.Representatives.{AreTypes}
use Rattle.chr_types.specs.Refusals.{WhereTooMany}
use Rattle.chr_types.specs.declared.fault.TypesFault.{TypesFault}
use Rattle.chr_confluence.specs.Representatives.{guards_hold}
use Rattle.chr_overlaps.specs.CaseLists.{case_at}
use Rattle.chr_overlaps.specs.declared.cases.TheConstants.{MAX_TYPES}
use Rattle.chr_confluence.specs.Unifiers.{IsMostGeneralUnifier, HasNoUnifier}
use Rattle.chr_confluence.specs.Overlaps.{equations_of}
use Rattle.chr_overlaps.specs.working.Unifiers.{classes_of}
use Rattle.chr_overlaps.proofs.OneList.{no_cases, never_many, never_clash, listed_cases, too_many, not_too_many}
use Rattle.chr_overlaps.proofs.cases.cases_among.Goals as goal

pub returns-in_default-clause-cases : goal.returns-in_default-clause-cases
returns-in_default-clause-cases c =
    let r1 = c.rule_of-first.result.now in
    let r2 = c.rule_of-second.result.now in
    no_cases (rules_of (program_of c.args.weighed.now)) c.args.overlap.now r1 r2 c.new.result.items
    c.rule_of-first.ensures c.rule_of-second.ensures
    (subst (λ (m : List ℕ). HasNoUnifier (equations_of r1 r2 m)) c.deref.ensures.0 c.in_default.ensures.none)
    c.new.ensures.items

pub returns-in_default-clause-no_more : goal.returns-in_default-clause-no_more
returns-in_default-clause-no_more c =
    let r1 = c.rule_of-first.result.now in
    let r2 = c.rule_of-second.result.now in
    λ n. never_many (rules_of (program_of c.args.weighed.now)) c.args.overlap.now r1 r2 n c.rule_of-first.ensures
    c.rule_of-second.ensures
    (subst (λ (m : List ℕ). HasNoUnifier (equations_of r1 r2 m)) c.deref.ensures.0 c.in_default.ensures.none)

pub returns-in_ok-cases_at-in-Ok-clause-cases : goal.returns-in_ok-cases_at-in-Ok-clause-cases
returns-in_ok-cases_at-in-Ok-clause-cases c =
    let r1 = c.rule_of-first.result.now in
    let r2 = c.rule_of-second.result.now in
    let u = c.in-Some.unified in
    let cs = c.args.constants.now in
    let solves : IsMostGeneralUnifier (classes_of u) (equations_of r1 r2 c.args.overlap.now.matching.items) =
    subst (λ (m : List ℕ). IsMostGeneralUnifier (classes_of u) (equations_of r1 r2 m)) c.deref.ensures.0
    c.in-Some.ensures.solves in
    let types : AreTypes (length u.free.items) cs c.in-Ok.types.items =
    subst (λ (n : ℕ). AreTypes n cs c.in-Ok.types.items) c.len-classes.ensures.value c.in-Ok.ensures.types in
    let kept = c.in_ok-cases_at-in-Ok.ensures ∙ ap (λ (rs : List (List ℤ)). map
    (case_at c.args.overlap.now r1 r2 (classes_of u)) (filter (guards_hold (classes_of u) r1 r2) rs))
    c.deref-in-Ok.ensures.value in
    let within : length c.in-Ok.types.items ≤ MAX_TYPES =
    (let v = ap length c.deref-in-Ok.ensures.value in let l = c.deref-in-Ok.ensures.len in let w =
    c.in-Ok.ensures.within in omega (arith, v, l, w)) in
    listed_cases (rules_of (program_of c.args.weighed.now)) c.args.overlap.now r1 r2 u cs c.in-Ok.types.items
    c.in_ok-cases_at-in-Ok.field-0.items c.rule_of-first.ensures c.rule_of-second.ensures c.requires.constants
    solves
    c.in-Some.ensures.unified types within kept

pub returns-in_ok-cases_at-in-Ok-clause-no_more : goal.returns-in_ok-cases_at-in-Ok-clause-no_more
returns-in_ok-cases_at-in-Ok-clause-no_more c =
    let r1 = c.rule_of-first.result.now in
    let r2 = c.rule_of-second.result.now in
    let u = c.in-Some.unified in
    let cs = c.args.constants.now in
    let solves : IsMostGeneralUnifier (classes_of u) (equations_of r1 r2 c.args.overlap.now.matching.items) =
    subst (λ (m : List ℕ). IsMostGeneralUnifier (classes_of u) (equations_of r1 r2 m)) c.deref.ensures.0
    c.in-Some.ensures.solves in
    let none : MoreTypesThan MAX_TYPES (length u.free.items) cs → ⊥ =
    λ m. c.in-Ok.ensures.no_more (subst (λ (n : ℕ). MoreTypesThan MAX_TYPES n cs)
    (sym c.len-classes.ensures.value) m) in
    λ n. not_too_many (rules_of (program_of c.args.weighed.now)) c.args.overlap.now r1 r2 u cs n c.rule_of-first.ensures
    c.rule_of-second.ensures c.requires.constants solves c.in-Some.ensures.unified none

pub returns-in-Err-TooManyTypes-clause-many : goal.returns-in-Err-TooManyTypes-clause-many
returns-in-Err-TooManyTypes-clause-many c =
    let r1 = c.rule_of-first.result.now in
    let r2 = c.rule_of-second.result.now in
    let u = c.in-Some.unified in
    let cs = c.args.constants.now in
    let solves : IsMostGeneralUnifier (classes_of u) (equations_of r1 r2 c.args.overlap.now.matching.items) =
    subst (λ (m : List ℕ). IsMostGeneralUnifier (classes_of u) (equations_of r1 r2 m)) c.deref.ensures.0
    c.in-Some.ensures.solves in
    let many : MoreTypesThan MAX_TYPES c.len-classes.result cs =
    subst (λ (e : TypesFault). WhereTooMany e (MoreTypesThan MAX_TYPES c.len-classes.result cs))
    c.in-Err-TooManyTypes.field-0-is c.in-Err-TooManyTypes.ensures.many in
    let more : MoreTypesThan MAX_TYPES (length u.free.items) cs =
    subst (λ (n : ℕ). MoreTypesThan MAX_TYPES n cs) c.len-classes.ensures.value many in
    too_many (rules_of (program_of c.args.weighed.now)) c.args.overlap.now r1 r2 u cs c.len-classes.result
    c.rule_of-first.ensures c.rule_of-second.ensures c.requires.constants solves c.in-Some.ensures.unified
    (c.len-classes.ensures.value, more)

pub returns-in_err-cases_at-in-Ok-clause-none : goal.returns-in_err-cases_at-in-Ok-clause-none
returns-in_err-cases_at-in-Ok-clause-none c r1 r2 a b none =
    absurd (never_clash (rules_of (program_of c.args.weighed.now)) c.args.overlap.now _ _
    (classes_of c.in-Some.unified) _ c.rule_of-first.ensures c.rule_of-second.ensures c.deref.ensures.0
    c.in-Some.ensures.solves r1 r2 a b none)

pub returns-in_ok-cases_at-in-Ok-clause-none : goal.returns-in_ok-cases_at-in-Ok-clause-none
returns-in_ok-cases_at-in-Ok-clause-none c r1 r2 a b none =
    absurd (never_clash (rules_of (program_of c.args.weighed.now)) c.args.overlap.now _ _
    (classes_of c.in-Some.unified) _ c.rule_of-first.ensures c.rule_of-second.ensures c.deref.ensures.0
    c.in-Some.ensures.solves r1 r2 a b none)

pub returns-in-Err-TooManyTypes-clause-none : goal.returns-in-Err-TooManyTypes-clause-none
returns-in-Err-TooManyTypes-clause-none c r1 r2 a b none =
    absurd (never_clash (rules_of (program_of c.args.weighed.now)) c.args.overlap.now _ _
    (classes_of c.in-Some.unified) _ c.rule_of-first.ensures c.rule_of-second.ensures c.deref.ensures.0
    c.in-Some.ensures.solves r1 r2 a b none)

pub returns-in-Err-Memory-clause-none : goal.returns-in-Err-Memory-clause-none
returns-in-Err-Memory-clause-none c r1 r2 a b none = absurd
    (never_clash (rules_of (program_of c.args.weighed.now)) c.args.overlap.now _ _
    (classes_of c.in-Some.unified) _ c.rule_of-first.ensures c.rule_of-second.ensures c.deref.ensures.0
    c.in-Some.ensures.solves r1 r2 a b none)
