use Rattle.std.proofs.Common.{rules, arith, ap, sym, refl, ◌∙◌, ◌≡◌, false, Err}
use Rattle.std.proofs.lemmas.Bool.{false≢true, not-true}
use Rattle.std.proofs.lemmas.Option.{slice_get_within}
use Rattle.chr_ops.specs.declared.fault.AddFault.TheVariants.{Clash}
use Rattle.std.specs.FinMap as map
use Rattle.chr_ops.specs.Summaries.{covers}
use Rattle.chr_ops.specs.working.Entries.{Rise}
use Rattle.chr_ops.proofs.IdsInOrder.{held_before, not_held}
use Rattle.chr_ops.proofs.Unions.{union_none}
use Rattle.chr_ops.proofs.JoinSteps.{taken_more, first_clash, no_clash_more}
use Rattle.chr_ops.proofs.joining.take_all_in.Goals as goal
use Rattle.chr_ops.proofs.joining.take_all_in.Goals.{then-apart, else-apart}

pub take_in-requires : goal.take_in-requires
take_in-requires c is_new = elim c.if-apart.branch [
  | then-apart w ↦
      let before = c.args.held.now in
      let ops = c.args.ops.now in
      let i = c.loop-op.op-index in
      let o = c.op-item.result in
      let rise : Rise ops = c.ids_rise-apart.ensures.0 w.if-apart.true in
      let asked : w.has.result ≡ covers c.args.covered.now o.0 = rw w.id.ensures at w.has.ensures in
      let uncovered : covers c.args.covered.now o.0 ≡ false =
      sym asked ∙ not-true w.has.result (sym w.new-is ∙ is_new) in
      let same : map.get c.loop-op.held o.0 ≡ map.get before o.0 = ap (λ m. map.get m o.0) c.loop-op.invariant.taken
      ∙ held_before before ops i o rise c.loop-op-test.true c.op-item.is in
      same ∙ not_held (map.get before o.0) (sym (c.requires.covers o.0) ∙ uncovered)
  | else-apart w ↦ absurd (false≢true (sym w.if-apart.false ∙ sym w.new-is ∙ is_new))
]

pub loop-op-init : goal.loop-op-init
loop-op-init c = record {
  taken = sym (union_none c.args.held.now);
  told = omega (arith, c.requires.told, c.ranges.told.fits);
  count = refl;
  no_clash = λ j id l. absurd (omega (arith, l));
  sized = λ h. h;
  ids = λ m h. h;
  back = λ m h. h;
}

pub loop-op-preserved : goal.loop-op-preserved
loop-op-preserved c =
    let before = c.args.held.now in
    let now = c.loop-op.held in
    record {
      taken = taken_more before now c.args.ops.now c.loop-op.op-index c.op-item.result c.loop-op-test.true c.op-item.is
          c.loop-op.invariant.taken c.take_in.new.held c.in_ok-atoms.ensures.ok;
      told = omega (arith, c.saturating_add-told.ensures, c.in_ok-atoms.ensures.atoms, c.loop-op.invariant.told);
      count = omega (arith, c.in_ok-atoms.ensures.count, c.loop-op.invariant.count);
      no_clash = no_clash_more before now c.args.ops.now c.loop-op.op-index c.op-item.result c.loop-op-test.true
          c.op-item.is c.loop-op.invariant.taken c.loop-op.invariant.no_clash
          (λ held. (let failed = (c.take_in.ensures.clash c.op-item.result.0).1 (refl, held) in
          search (rules, failed)));
      sized = λ h. c.take_in.ensures.sized (c.loop-op.invariant.sized h);
      ids = λ m h. c.in_ok-atoms.ensures.ids m (c.loop-op.invariant.ids m h);
      back = λ m h. c.take_in.ensures.back m (c.loop-op.invariant.back m h);
    }

pub returns-in_err-atoms-clause-clash : goal.returns-in_err-atoms-clause-clash
returns-in_err-atoms-clause-clash c = λ id e.
    let failed : c.take_in.result ≡ Err (Clash id) = search rules in
    let clash = (c.take_in.ensures.clash id).0 failed in
    first_clash c.args.held.now c.loop-op.held c.args.ops.now c.loop-op.op-index c.op-item.result c.loop-op-test.true
    c.op-item.is c.loop-op.invariant.taken id c.loop-op.invariant.no_clash clash.0 clash.1

pub returns-in_err-atoms-clause-sized : goal.returns-in_err-atoms-clause-sized
returns-in_err-atoms-clause-sized c = λ h. c.take_in.ensures.sized (c.loop-op.invariant.sized h)

pub returns-clause-no_clash : goal.returns-clause-no_clash
returns-clause-no_clash c = λ i id clash. c.loop-op.invariant.no_clash i id
    (let within = slice_get_within c.args.ops.now i clash.0 clash.1 in search (rules, within)) clash
