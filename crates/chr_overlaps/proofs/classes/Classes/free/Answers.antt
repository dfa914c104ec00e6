use Rattle.std.proofs.Common.{◌≡◌, ◌-◌, length, sym, ap, ◌∙◌, arith, ℕ}
use Rattle.std.specs.List.{filter, range_with_len}
use Rattle.chr_base.specs.RuleTests.{is_variable}
use Rattle.chr_overlaps.specs.working.Tables.{class_in}
use Rattle.chr_overlaps.proofs.Tabled.{own_taken, bound_passed}
use Rattle.chr_overlaps.proofs.classes.Classes.free.Goals as goal
use Rattle.chr_overlaps.proofs.classes.Classes.free.Goals.{then-is_own, else-is_own}

pub loop-variable-preserved : goal.loop-variable-preserved
loop-variable-preserved c =
    let v = c.loop-variable.variable in
    let p = λ (x : ℕ). is_variable x (class_in c.args.self.now.terms.items x) in
    elim c.if-is_own.branch [
      | then-is_own w ↦ record {
        items = own_taken p v c.loop-variable.free.items _ c.loop-variable.auto.variable
            (sym c.is_own.ensures ∙ w.if-is_own.true) c.loop-variable.invariant.items
            (ap (λ f. f.items) w.free-is ∙ w.push.ensures.items);
        len = (let e = ap (λ f. length f.items) w.free-is in let l = w.push.ensures.len in let i =
            c.loop-variable.invariant.len in let a = c.loop-variable.auto.variable in omega (arith, e, l, i, a));
        within = (let n = c.len-variable-end.ensures.value in let t = c.loop-variable-test.true in omega (arith, n, t));
      }
      | else-is_own w ↦ record {
        items = ap (λ f. f.items) w.free-is ∙ bound_passed p v c.loop-variable.free.items c.loop-variable.auto.variable
            (sym c.is_own.ensures ∙ w.if-is_own.false) c.loop-variable.invariant.items;
        len = (let e = ap (λ f. length f.items) w.free-is in let i = c.loop-variable.invariant.len in
            omega (arith, e, i));
        within = (let n = c.len-variable-end.ensures.value in let t = c.loop-variable-test.true in omega (arith, n, t));
      }
    ]

pub returns : goal.returns
returns c =
    let n = c.len-variable-end.ensures.value in
    let t = c.loop-variable-test.false in
    let w = c.loop-variable.invariant.within in
    let e : c.loop-variable.variable - 1 ≡ length c.args.self.now.terms.items - 1 = omega (arith, n, t, w) in
    c.loop-variable.invariant.items ∙ ap (λ k. filter (λ x. is_variable x (class_in c.args.self.now.terms.items x))
    (range_with_len 1 k)) e
