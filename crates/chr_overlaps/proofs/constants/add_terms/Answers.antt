use Rattle.std.proofs.Common.{◌+◌, ◌∷◌, [], ℤ, List, take, get_or, rules, subst, sym, ap}
use Rattle.std.proofs.lemmas.List.{take_all}
use mir.Val.{SFits}
use mir.Syntax.{w64}
use Rattle.std.proofs.lemmas.Int.{to_z-of_z}
use Rattle.chr_base.specs.declared.term.Term.{Term}
use Rattle.chr_base.specs.declared.term.Term.TheVariants.{Variable, Constant}
use Rattle.chr_overlaps.specs.working.Gathering.{Gathers}
use Rattle.chr_overlaps.proofs.Gathered.{term_gathered, constant_gathered, term_passed}
use Rattle.chr_overlaps.proofs.constants.add_terms.Goals as goal
use Rattle.chr_overlaps.proofs.constants.add_terms.Goals.{in-Constant+in_ok-add_constant, in_default}

pub loop-term-preserved : goal.loop-term-preserved
loop-term-preserved c =
    let ts = c.args.terms.now in
    let i = c.loop-term.term-index in
    let cs = c.args.found.now.items in
    let ds = c.loop-term.found.items in
    elim c.match-term.branch [
      | in-Constant+in_ok-add_constant w ↦
          let fits : SFits w64 w.in-Constant.constant = search (rules, w) in
          let one : Gathers (Constant w.in-Constant.constant ∷ []) ds w.add_constant.new.found.items =
          simp to_z-of_z at w.in_ok-add_constant.ensures in
          subst (λ (es : List ℤ). Gathers (take (i + 1) ts) cs es) (sym (ap (λ f. f.items) w.found-is))
          (term_gathered ts i (Variable 0) cs ds w.add_constant.new.found.items c.loop-term-test.true
          c.loop-term.invariant (constant_gathered (get_or ts i (Variable 0)) w.in-Constant.constant ds
          w.add_constant.new.found.items w.in-Constant.is one))
      | in_default w ↦
          subst (λ (es : List ℤ). Gathers (take (i + 1) ts) cs es) (sym (ap (λ f. f.items) w.found-is))
          (term_gathered ts i (Variable 0) cs ds ds c.loop-term-test.true c.loop-term.invariant
          (term_passed (get_or ts i (Variable 0)) ds w.in_default.not-Constant))
    ]

pub returns : goal.returns
returns c = subst (λ (ts : List Term). Gathers ts c.args.found.now.items c.loop-term.found.items)
    (take_all c.loop-term.term-index c.args.terms.now c.loop-term-test.false) c.loop-term.invariant
