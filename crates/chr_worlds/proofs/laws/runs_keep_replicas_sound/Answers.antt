use Rattle.chr_worlds.proofs.Keeping.{runs_keep}
use Rattle.chr_worlds.proofs.laws.runs_keep_replicas_sound.Goals as goal

pub returns : goal.returns
returns c =
    let k = c.events_keep_replicas_sound.ensures in λ p w es xs v run all. runs_keep (record {
      tell = k.tell;
      merge = k.merge;
      step = k.step;
      take = k.take;
      take_parts = k.take_parts;
      put = k.put;
      recall = k.recall;
      settle = k.settle;
    }) p w es xs v run all
