use Rattle.std.proofs.Common.{◌≡◌, ◌≤◌, ◌++◌, [], ◌∷◌, rules, sym, ◌∙◌}
use Rattle.std.proofs.lemmas.List.Elements.{All-push}
use Rattle.serde_json.specs.View.{view as data_of}
use Rattle.chr_base.proofs.Traversals.{front_step}
use Rattle.chr_json.specs.Summaries.{range_of}
use Rattle.chr_json.proofs.summary.add_ranges.Goals as goal

pub loop-value-preserved : goal.loop-value-preserved
loop-value-preserved c =
    let pushed : c.push.new.self.items ≡ c.loop-value.found.items ++ c.in-Some-range.range ∷ [] = search rules in
    let found = c.loop-value.found.items in
    let range = c.in-Some-range.range in
    rw pushed (
      sym (front_step (range_of c.args.origin) data_of c.in-Some.values.now c.loop-value.value-index c.value-item.result
          range found c.loop-value-test.true c.value-item.is (sym c.in-Some-range.ensures.read))
          ∙ c.loop-value.invariant.0,
      λ h. All-push (λ r. r.lo ≤ r.hi) found range (c.loop-value.invariant.1 h) c.in-Some-range.ensures.some,
    )
