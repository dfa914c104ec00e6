use Rattle.std.proofs.Common.{◌≡◌, ◌≤◌, ◌+◌, [], ◌∷◌, ◌++◌, length, refl, subst, sym, ap, ◌∙◌, arith, rules}
use Rattle.chr_read.specs.ProgramTexts.{IsShort}
use Rattle.chr_faults.specs.declared.limits.TheConstants.{MAX_TOLD_FAULTS}
use Rattle.chr_faults.specs.BadClauses.{AreBadClauses, without_clause}
use Rattle.chr_faults.proofs.Shorter.{length_without_clause}
use Rattle.chr_faults.proofs.Firsts.{IsCompleted, one_more, no_more, full, none_left, some_left}
use Rattle.chr_faults.proofs.faults.bad_clauses.Goals as goal

pub loop-gone-init : goal.loop-gone-init
loop-gone-init c =
    let same : c.in_ok-left.left.items ≡ c.args.text.now = search rules in
    let none : c.new-bad.result.items ≡ [] = search rules in
    record {
      short = subst IsShort (sym same) c.requires;
      completed = λ more h. subst (λ xs. AreBadClauses MAX_TOLD_FAULTS 0 c.args.text.now (xs ++ more)) (sym none)
          (subst (λ t. AreBadClauses MAX_TOLD_FAULTS 0 t more) same h);
    }

pub returns-in_default : goal.returns-in_default
returns-in_default c =
    let same : c.deref.result.now ≡ c.loop-gone.left.items = search rules in
    no_more c.loop-gone.gone c.args.text.now c.loop-gone.left.items c.loop-gone.bad.items (omega arith)
    (none_left c.in_ok-first.field-0 c.deref.result.now c.loop-gone.left.items same c.in_default.is
    c.in_ok-first.ensures.none)
    c.loop-gone.invariant.completed

pub loop-gone-preserved : goal.loop-gone-preserved
loop-gone-preserved c =
    let same : c.deref.result.now ≡ c.loop-gone.left.items = search rules in
    let again : c.deref-in-loop-gone.result.now ≡ c.loop-gone.left.items = search rules in
    let refused = some_left c.in_ok-first.field-0 c.in-Some.first c.deref.result.now c.loop-gone.left.items same
    c.in-Some.is c.in_ok-first.ensures.some in
    let left : c.in_ok-left-2.left.items ≡ without_clause c.in-Some.first.number c.loop-gone.left.items =
    c.in_ok-left-2.ensures.value ∙ ap (without_clause c.in-Some.first.number) again in
    let shorter : length (without_clause c.in-Some.first.number c.loop-gone.left.items) ≤ length
    c.loop-gone.left.items = length_without_clause c.in-Some.first.number c.loop-gone.left.items in
    let next = one_more c.loop-gone.gone c.args.text.now c.loop-gone.left.items c.loop-gone.bad.items
    (record { number = c.loop-gone.gone + c.in-Some.first.number; fault = c.in-Some.first.fault })
    c.in-Some.first.number
    (omega arith) refused refl c.loop-gone.invariant.completed in
    record {
      short = subst IsShort (sym left) (omega (arith, shorter, c.loop-gone.invariant.short));
      completed = subst (λ xs. IsCompleted (c.loop-gone.gone + 1) c.args.text.now c.in_ok-left-2.left.items xs)
          (sym c.in_ok-push.ensures.items)
          (subst (λ t. IsCompleted (c.loop-gone.gone + 1) c.args.text.now t
          (c.loop-gone.bad.items ++ record {
            number = c.loop-gone.gone + c.in-Some.first.number;
            fault =
                c.in-Some.first.fault;
          } ∷ [])) (sym left) next);
    }

pub returns : goal.returns
returns c = full c.loop-gone.gone c.args.text.now c.loop-gone.left.items c.loop-gone.bad.items
    (omega arith) c.loop-gone.invariant.completed
