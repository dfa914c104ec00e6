use Rattle.chr_report.proofs.gathering.gather.Goals as goal

pub loop-gathering-init : goal.loop-gathering-init
loop-gathering-init c = c.in_ok-gathering.ensures.gathered c.args.text.now
