use Rattle.std.proofs.Common.{subst}
use Rattle.std.specs.Prelude.{IsTrue, ◌↔◌}
use Rattle.chr_base.specs.Rules.{Step}
use Rattle.chr_base.specs.Rewriting.{IsAtRest}
use Rattle.chr_weights.specs.WeighedPrograms.{rules_in}
use Rattle.chr_diagnosis.proofs.Pairs.{apart_of}
use Rattle.chr_diagnosis.proofs.beside.pair_of.Goals as goal

pub returns : goal.returns
returns c = record {
  first = c.fact_of-first.ensures;
  second = c.fact_of-second.ensures;
  apart = apart_of c.as_slice.result.now c.as_slice-2.result.now _ _ _ _ c.in_ok-push_apart.ensures
      c.new-apart.ensures.items c.as_slice.ensures.value c.as_slice-2.ensures.value;
  stays = subst (λ s. IsTrue c.in_ok-rests.rests ↔ IsAtRest (Step (rules_in c.args.weighed.now)) s)
      c.in_ok-store.ensures c.in_ok-rests.ensures;
}
