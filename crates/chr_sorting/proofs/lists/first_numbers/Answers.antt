use Rattle.std.proofs.Common.{rules, arith, sym, ap, subst, ◌∙◌, ◌≡◌, ◌+◌, length, ◌<◌, get_or, ℤ, pos, ◌+ℤ◌, ◌≤ℤ◌}
use Rattle.std.proofs.Common.{◌<ℤ◌, ◌∷◌, [], to_z}
use mir.Val.{SFits}
use mir.Syntax.{w64}
use Rattle.std.proofs.lemmas.Int.{to_z-of_z}
use Rattle.std.proofs.lemmas.List.{length-append}
use Rattle.chr_sorting.specs.working.Numbers.{AreNumbersBelow}
use Rattle.chr_sorting.proofs.Numbers.{lesser_passed, constant_passed, number_found, first_found, more_fits, same_bits}
use Rattle.chr_sorting.proofs.Numbers.{below_bits, above_bits, other_bits, below}
use Rattle.chr_sorting.proofs.lists.first_numbers.Goals as goal
use Rattle.chr_sorting.proofs.lists.first_numbers.Goals.{then-constants-passed-2, else-constants-passed-2}
use Rattle.chr_sorting.proofs.lists.first_numbers.Goals.{else-passed-constants-via-then-passed-constants+else-constants-passed}
use Rattle.chr_sorting.proofs.lists.first_numbers.Goals.{else-passed-constants-via-else-passed-constants}

pub loop-number-preserved-then-constants-passed : goal.loop-number-preserved-then-constants-passed
loop-number-preserved-then-constants-passed c =
    let cs = c.args.constants.now in
    let us = c.loop-number.numbers.items in
    let k = c.loop-number.passed in
    let b = to_z w64 c.loop-number.number-bits in
    let l = c.if-passed-constants.true in
    let inv = c.loop-number.invariant.found in
    let at : ℤ = get_or cs k (pos 0) in
    let fits : SFits w64 at = search rules in
    let on : SFits w64 (b +ℤ pos 1) = more_fits cs us k b c.args.count c.requires.few c.loop-number.invariant.within
    inv in
    elim c.if-constants-passed-2.branch [
      | then-constants-passed-2 w ↦ (
          let e : at ≡ b = same_bits at c.loop-number.number-bits fits w.if-constants-passed-2.true in
          let n : to_z w64 c.if-constants-passed-2.number-bits ≡ b +ℤ pos 1 =
          w.number-is ∙ to_z-of_z w64 (b +ℤ pos 1) on in
          record {
            found = subst (λ z. AreNumbersBelow cs (k + 1) us z) (sym n) (constant_passed cs us k b (pos 0) l e inv);
            within = c.loop-number.invariant.within;
          }
          )
      | else-constants-passed-2 w ↦ (
          let le : at ≤ℤ b = below_bits at b fits c.if-constants-passed.true in
          let ne : (at ≡ b → ⊥) = λ e. w.if-constants-passed-2.false
          (other_bits at c.loop-number.number-bits fits (let f = c.loop-number.auto.number-fits in omega (arith, f))
          e) in
          record {
            found = subst (λ z. AreNumbersBelow cs (k + 1) us z) (sym w.number-is)
                (lesser_passed cs us k b (pos 0) l (below at b le ne) inv);
            within = c.loop-number.invariant.within;
          }
          )
    ]

pub loop-number-preserved : goal.loop-number-preserved
loop-number-preserved c =
    let cs = c.args.constants.now in
    let us = c.loop-number.numbers.items in
    let k = c.loop-number.passed in
    let b = to_z w64 c.loop-number.number-bits in
    let inv = c.loop-number.invariant.found in
    let it = c.in_ok-push.ensures.items in
    let at : ℤ = get_or cs k (pos 0) in
    let on : SFits w64 (b +ℤ pos 1) = more_fits cs us k b c.args.count c.requires.few c.loop-number.invariant.within
    inv in
    let above : (k < length cs → b <ℤ at) = elim c.else-passed-constants.branch as (λ _. k < length cs → b <ℤ at) [
      | else-passed-constants-via-then-passed-constants+else-constants-passed w ↦
          (let fits : SFits w64 at = search rules in λ _. above_bits at b fits w.if-constants-passed.false)
      | else-passed-constants-via-else-passed-constants w ↦
          (let n = w.if-passed-constants.false in λ l. absurd (omega (arith, l, n)))
    ] in
    record {
      found = subst (λ z. AreNumbersBelow cs k c.push.new.self.items z) (sym (to_z-of_z w64 (b +ℤ pos 1) on))
          (subst (λ xs. AreNumbersBelow cs k xs (b +ℤ pos 1)) (sym it)
          (number_found cs us k b (pos 0) c.requires.rise above inv));
      within = (let l = c.loop-number-test.true in let e = c.len.ensures in let t = length-append us (b ∷ []) in
          omega (arith, ap length it, l, e, t));
    }

pub returns-clause-first : goal.returns-clause-first
returns-clause-first c =
    let few = c.requires.few in
    let w = c.loop-number.invariant.within in
    first_found c.args.constants.now c.loop-number.numbers.items c.loop-number.passed
    (to_z w64 c.loop-number.number-bits) (omega (arith, few, w)) c.loop-number.invariant.found
