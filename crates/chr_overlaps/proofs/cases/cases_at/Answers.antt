use Rattle.std.proofs.Common.{ℤ, List, Some, None, map, cond, sym, ap, ◌∙◌}
use Rattle.std.specs.List.{filter}
use Rattle.std.proofs.lemmas.List.{take_all}
use Rattle.chr_confluence.specs.Representatives.{guards_hold}
use Rattle.chr_overlaps.specs.CaseLists.{case_at}
use Rattle.chr_overlaps.specs.working.Unifiers.{classes_of}
use Rattle.chr_overlaps.proofs.Kept.{kept, passed}
use Rattle.chr_overlaps.proofs.cases.cases_at.Goals as goal
use Rattle.chr_overlaps.proofs.cases.cases_at.Goals.{in-Some+in_ok-push, in_default}

pub loop-one-preserved : goal.loop-one-preserved
loop-one-preserved c =
    let f = λ (zs : List ℤ). case_at c.args.overlap.now c.args.first.now c.args.second.now
    (classes_of c.args.unified.now) zs in
    let g = λ (zs : List ℤ). guards_hold (classes_of c.args.unified.now) c.args.first.now c.args.second.now zs in
    let rs = c.args.representatives.now in
    let i = c.loop-one.one-index in
    let d = c.one-item.result in
    let at = ap (λ (zs : List ℤ). cond (g zs) (Some (f zs)) None) (c.representative-values.ensures ∙ c.one-item.is) in
    elim c.match-branch-2.branch [
      | in-Some+in_ok-push w ↦
          ap (λ v. v.items) w.cases-is
          ∙ kept f g rs i d w.in-Some.case c.loop-one.cases.items w.push.new.self.items c.loop-one-test.true
          (sym w.in-Some.is ∙ c.in_ok-case.ensures ∙ at) c.loop-one.invariant w.in_ok-push.ensures.items
      | in_default w ↦
          ap (λ v. v.items) w.cases-is
          ∙ passed f g rs i d c.loop-one.cases.items c.loop-one-test.true
          (sym w.in_default.is ∙ c.in_ok-case.ensures ∙ at) c.loop-one.invariant
    ]

pub returns : goal.returns
returns c =
    let f = λ (zs : List ℤ). case_at c.args.overlap.now c.args.first.now c.args.second.now
    (classes_of c.args.unified.now) zs in
    let g = λ (zs : List ℤ). guards_hold (classes_of c.args.unified.now) c.args.first.now c.args.second.now zs in
    c.loop-one.invariant ∙ ap (λ (rs : List (List ℤ)). map f (filter g rs))
    (take_all c.loop-one.one-index c.args.representatives.now c.loop-one-test.false)
