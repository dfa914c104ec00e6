use Rattle.std.proofs.Common.{◌≡◌, ℕ, ◌<◌, length, vec_len, arith, rules, ◌∙◌}
use Rattle.std.proofs.Math.ListN.{length-set}
use Rattle.std.proofs.lemmas.Grind.{common_steps}
use Rattle.std.proofs.lemmas.List.Sorted.{IsPermutation-swap}
use Rattle.chr_base.proofs.Sorting.{same_multiset}
use Rattle.chr_exchange.proofs.keys.settle.Goals as goal

-- an exchange leaves the multiset
pub loop-turn-preserved : goal.loop-turn-preserved
loop-turn-preserved c =
    let items = c.loop-turn.atoms.items in
    let at = c.loop-turn.at in
    let from = c.place_of-from.result in
    let len : length items ≡ vec_len c.loop-turn.atoms = search rules in
    let here : at < length items = omega arith in
    let there : from < length items = omega (arith, length-set {A = ℕ}) in
    record {
      at = grind (arith, common_steps);
      same = same_multiset items c.swap.new.self.items
          (IsPermutation-swap items c.swap.new.self.items at from here there c.swap.ensures.items)
          ∙ c.loop-turn.invariant.same;
      len = omega arith;
    }
