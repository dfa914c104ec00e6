use Rattle.std.proofs.Common.{List, ◌≡◌, ◌≤◌, ℕ, [], ◌∷◌, Some, length, slice_get, length-append, ap, subst, ◌∙◌, arith}
use Rattle.chr_base.specs.Programs.{rules_of}
use Rattle.chr_base.specs.declared.rule.Rule.{Rule}
use Rattle.chr_join.specs.working.Portions.{AreCopies}
use Rattle.chr_join.proofs.CopiedRules.{one_more}
use Rattle.chr_join.proofs.copies.originals.Goals as goal

pub loop-place-preserved : goal.loop-place-preserved
loop-place-preserved c = record {
  number = (let more = ap length c.in_ok-push.ensures.items in let both =
      length-append c.loop-place.places.items (c.original_of.result ∷ []) in let is = c.loop-place.invariant.number in
      omega (arith, more, both, is));
  same = one_more c.rules-rules.result.now c.loop-place.places.items c.push.new.self.items c.loop-place.place
      c.original_of.result c.loop-place.invariant.number c.in_ok-push.ensures.items c.loop-place.invariant.same
      c.original_of.ensures.at c.original_of.ensures.same;
}

pub returns : goal.returns
returns c =
    let rules = c.rules-rules.ensures ∙ ap rules_of c.program.ensures in
    let most = c.loop-place.auto.place-end in
    let ended = c.loop-place-test.false in
    let number = c.loop-place.invariant.number in
    let same : length c.loop-place.places.items ≡ length c.rules-rules.result.now =
    omega (arith, most, ended, number) in
    record {
      number = same ∙ ap length rules;
      same = subst (λ (rs : List Rule). (i k : ℕ) → slice_get c.loop-place.places.items i ≡ Some k → (k ≤ i)
          × AreCopies rs k i) rules c.loop-place.invariant.same;
    }
