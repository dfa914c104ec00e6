use Rattle.std.proofs.Common.{◌≤◌, sym, subst, arith}
use Rattle.std.proofs.Common as common
use Rattle.std.specs.Prelude.{IfSome, Some}
use Rattle.chr_base.specs.Stores.{size}
use Rattle.chr_weights.specs.WeighedPrograms.{rules_in}
use Rattle.chr_join.proofs.Lists.{in_at}
use Rattle.chr_diagnosis.specs.Diagnoses.{IsSmallerFailure}
use Rattle.chr_diagnosis.proofs.SmallerCases.{atoms_found, fewer}
use Rattle.chr_diagnosis.proofs.smallest.smallest_with.Goals.{in-Some, in_default}
use Rattle.chr_diagnosis.proofs.smallest.smallest_with.Goals as goal

pub smallest_at-requires : goal.smallest_at-requires
smallest_at-requires c = c.requires c.overlap-item.result
    (in_at c.args.overlaps.now c.loop-overlap.overlap-index c.overlap-item.result c.loop-overlap-test.true
    c.overlap-item.is)

pub loop-overlap-preserved : goal.loop-overlap-preserved
loop-overlap-preserved c =
    let program = rules_in c.args.weighed.now in
    let n = size c.args.store.now in
    elim c.match-branch-2.branch [
      | in-Some w ↦
          let least = size c.least_of-least.result.now in
          let f = w.in-Some.failure in
          let at : IsSmallerFailure program least f = search common.rules in
          let bound : least ≤ n = c.least_of-least.ensures n (omega arith)
          (atoms_found program n c.loop-overlap.smallest c.loop-overlap.invariant) in
          subst (λ s. IfSome s (IsSmallerFailure program n)) (sym w.smallest-is)
          (fewer program least n (Some f) bound at)
      | in_default w ↦ subst (λ s. IfSome s (IsSmallerFailure program n)) (sym w.smallest-is) c.loop-overlap.invariant
    ]
