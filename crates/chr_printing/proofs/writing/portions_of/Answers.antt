use Rattle.std.proofs.Common.{◌≡◌, ◌+◌, ◌-◌, ℕ, Option, Vec, Global, ◌∙◌, ap, arith, length, rules, subst, sym, IfSome}
use Rattle.std.specs.List.{AllZip, range_with_len}
use Rattle.rayon.specs.Numbers.{nat_range}
use Rattle.rayon.proofs.ListFacts.{IfOk-then}
use Rattle.chr_base.specs.Programs.{declarations}
use Rattle.chr_printing.specs.declared.flat.Flat.{Flat}
use Rattle.chr_printing.specs.working.Portions.{atoms_at, IsPortion}
use Rattle.chr_printing.proofs.writing.portions_of.Goals as goal

pub returns : goal.returns
returns g c =
    let R : ℕ → Option (Vec Flat Global) → Type 0 = λ place found. IfSome found (λ flats.
    IsPortion (declarations c.args.program.now) c.args.cuts.now (atoms_at c.args.tables.now) place flats.items) in
    let n = length c.args.cuts.now in
    let ends = c.into_par_iter.ensures in
    let count : c.in-Some.count ≡ n + 1 = search rules in
    let all : c.in-Some.count - 0 ≡ n + 1 = omega (arith, count) in
    IfOk-then c.collect.result _ _ c.collect.ensures (λ v h.
    let chain = rw (c.map.ensures.base, c.map.ensures.f, c.with_min_len.ensures.base) at h.1 in
    let places = chain.1 ∙ (λ i. nat_range (ends.0 i) (ends.1 i)) ∙ ap (range_with_len 0) all in
    subst (AllZip R (range_with_len 0 (n + 1))) (sym h.2) (subst (λ xs. AllZip R xs h.0) places chain.2))
