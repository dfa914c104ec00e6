use Rattle.std.proofs.Common.{◌≡◌, ℕ, suc, ◌+◌, ◌*◌, ◌-◌, sym, ap, ◌∙◌, arith}
use Rattle.chr_types.specs.working.Counting.{most_types}
use Rattle.chr_types.proofs.counting.+most_types.Goals as goal

one_class_more : (n k d m x y : ℕ) → n ≡ suc k → m ≡ d + 1 → x ≡ most_types (n - 1) d → y ≡ most_types (n - 1) m
    → d * x + m * y ≡ most_types n d
one_class_more n k d m x y some e f g =
    let next : m ≡ suc d = omega (arith, e) in
    let less : n - 1 ≡ k = omega (arith, some) in
    let equal : x ≡ most_types k d = f ∙ ap (λ j. most_types j d) less in
    let between : y ≡ most_types k m = g ∙ ap (λ j. most_types j m) less in
    ap (λ z. d * z + m * y) equal ∙ ap (λ z. d * most_types k d + m * z) between
    ∙ ap (λ i. d * most_types k d + i * most_types k i) next ∙ sym (ap (λ j. most_types j d) some)

pub returns : goal.returns
returns t c =
    let positive = c.if-classes-eq0.false in
    let some : c.args.classes ≡ suc (c.args.classes - 1) = omega (arith, positive) in
    let equal = (c.in_ok-equal.ensures).1 in
    let between = (c.in_ok-between.ensures).1 in
    let sum = (c.in_ok-most.ensures).1 in
    sum ∙ ap (λ z. z + c.in_ok-between.between) equal
    ∙ ap (λ z. c.args.values * c.in_ok-most_types.field-0 + z) between
    ∙ one_class_more c.args.classes (c.args.classes - 1) c.args.values _ _ _ some
    (c.in_ok-more.ensures).1 c.in_ok-most_types.ensures c.in_ok-most_types-2.ensures
