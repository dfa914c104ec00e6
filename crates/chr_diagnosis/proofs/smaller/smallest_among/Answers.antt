use Rattle.std.proofs.Common.{◌≤◌, sym, subst, arith}
use Rattle.std.proofs.Common as common
use Rattle.std.specs.Prelude.{IfSome}
use Rattle.chr_base.specs.Stores.{size}
use Rattle.chr_weights.specs.WeighedPrograms.{rules_in}
use Rattle.chr_diagnosis.specs.Diagnoses.{IsSmallerFailureAt, IsSmallerFailureOf}
use Rattle.chr_diagnosis.proofs.FoundCases.{found_among}
use Rattle.chr_diagnosis.proofs.SmallerCases.{atoms_of}
use Rattle.chr_diagnosis.proofs.smaller.smallest_among.Goals.{in-Some, in_default}
use Rattle.chr_diagnosis.proofs.smaller.smallest_among.Goals as goal

pub loop-case-preserved : goal.loop-case-preserved
loop-case-preserved c =
    let program = rules_in c.args.weighed.now in
    let o = c.args.overlap.now in
    let n = size c.args.store.now in
    elim c.match-branch-2.branch [
      | in-Some w ↦
          let least = size c.least_of-least.result.now in
          let f = w.in-Some.failure in
          let at : IsSmallerFailureAt program o c.case-item.result least f = search common.rules in
          let bound : least ≤ n = c.least_of-least.ensures n (omega arith)
          (atoms_of program o n c.loop-case.smallest c.loop-case.invariant) in
          let of = found_among program o c.args.cases.now c.loop-case.case-index c.case-item.result f c.requires
          c.loop-case-test.true c.case-item.is at.0 in
          let below : size f.left.start ≤ least = at.1 in
          let few : size f.left.start ≤ n = omega (arith, bound, below) in
          subst (λ s. IfSome s (IsSmallerFailureOf program o n)) (sym w.smallest-is) (of, few)
      | in_default w ↦ subst (λ s. IfSome s (IsSmallerFailureOf program o n)) (sym w.smallest-is) c.loop-case.invariant
    ]
