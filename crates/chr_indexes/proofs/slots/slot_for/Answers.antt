use Rattle.std.proofs.Common.{◌≡◌, ℕ, ◌-◌, ◌*◌, ◌%◌, ◌^◌, ◌<◌, arith, bit_and, lit<, sym, ap, subst, ◌∙◌}
use Rattle.std.proofs.lemmas.Nat.{and_mask}
use Rattle.std.proofs.Math.Nat.{mod-lt, mod-eq_of_lt}
use Rattle.std.proofs.Math.Pow.{pow-lt}
use Rattle.chr_indexes.proofs.slots.slot_for.Goals as goal

-- a power of two that fits 64 bits is shifted to
shifted : (k n : ℕ) → n ≡ 1 * 2 ^ (k % 64) % 2 ^ 64 → n ≡ 2 ^ (k % 64)
shifted k n is =
    let few : k % 64 < 64 = mod-lt k (lit< tt) in
    let one : 1 * 2 ^ (k % 64) ≡ 2 ^ (k % 64) = omega arith in
    is ∙ ap (λ m. m % 2 ^ 64) one ∙ mod-eq_of_lt (pow-lt few)

pub returns-then-slots-bits : goal.returns-then-slots-bits
returns-then-slots-bits c =
    subst (λ s. bit_and c.args.hash (s - 1) ≡ c.args.hash % s) (sym (shifted _ c.args.slots c.if-slots-bits.true))
    (and_mask c.args.hash _)
