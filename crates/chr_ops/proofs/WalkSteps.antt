-- Walks along ranges: what is skipped, and what is left.
use Rattle.std.specs.Prelude.{◌≡◌, ◌≤◌, true, false, ◌||◌, List, [], ◌∷◌, cond}
use Rattle.std.proofs.Common.{refl, ap, ◌∙◌, arith, ⊎_elim}
use Rattle.std.specs.List.{AllByRecursion}
use Rattle.std.proofs.lemmas.Bool.{cases_eq}
use Rattle.std.proofs.lemmas.Bool.Decides.{nat_tests}
use Rattle.chr_ops.specs.declared.id.OpId.{OpId}
use Rattle.chr_ops.specs.declared.range.IdRange.{IdRange}
use Rattle.chr_ops.specs.Summaries.{in_range, covers, IsBefore, IsApart}
use Rattle.chr_ops.specs.working.Walks.{ends_before, rest_from}

-- a range for where a list has none
abbrev pub blank : IdRange
blank = record { origin = 0; lo = 0; hi = 0 }

-- the one id is the other or comes before it
abbrev IsFrom : OpId → OpId → Type 0
IsFrom id q = (id.origin ≤ q.origin) × (id.origin ≡ q.origin → id.number ≤ q.number)

ended_misses : (r : IdRange) (id q : OpId) → ends_before r id ≡ true → IsFrom id q → in_range r q ≡ false
ended_misses r id q h from =
    ⊎_elim (λ e. (let later = from.1 e in grind (arith, nat_tests, h, e, later)))
    (λ ne. (let later = from.0 in grind (arith, nat_tests, h, ne, later))) (cases_eq id.origin q.origin)

-- what is skipped has none of the ids to come
pub rest_covers : (rs : List IdRange) (id q : OpId) → IsFrom id q → covers rs q ≡ covers (rest_from rs id) q
rest_covers [] id q from = refl
rest_covers (r ∷ rs) id q from =
    elim (ends_before r id) as (λ b. ends_before r id ≡ b → (in_range r q || covers rs q)
    ≡ covers (cond b (rest_from rs id) (r ∷ rs)) q) [
      | true ↦ λ e. ap (λ b. b || covers rs q) (ended_misses r id q e from) ∙ rest_covers rs id q from
      | false ↦ λ e. refl
    ] refl

pub rest_apart : (rs : List IdRange) (id : OpId) → IsApart rs → IsApart (rest_from rs id)
rest_apart [] id apart = tt
rest_apart (r ∷ rs) id apart = elim (ends_before r id) as (λ b. IsApart (cond b (rest_from rs id) (r ∷ rs)))
    [ true ↦ rest_apart rs id apart.2 | false ↦ apart ]

later_not_ended : (r s : IdRange) (id : OpId) → ends_before r id ≡ false → r.lo ≤ r.hi → IsBefore r s → s.lo ≤ s.hi
    → ends_before s id ≡ false
later_not_ended r s id h range before holds =
    ⊎_elim (λ e. (let far = before.1 e in grind (arith, nat_tests, h, range, e, far, holds)))
    (λ ne. (let far = before.0 in grind (arith, nat_tests, h, range, ne, far, holds))) (cases_eq r.origin s.origin)

-- behind a range that has not ended, none has ended
pub none_ended : (r : IdRange) (rs : List IdRange) (id : OpId) → ends_before r id ≡ false → r.lo ≤ r.hi
    → AllByRecursion (IsBefore r) rs → IsApart rs → AllByRecursion (λ s. ends_before s id ≡ false) rs
none_ended r [] id h range before apart = tt
none_ended r (s ∷ rs) id h range before apart = (
  later_not_ended r s id h range before.0 apart.0,
  none_ended r rs id h range before.1 apart.2,
)

-- of those that are left none has ended
pub rest_not_ended : (rs : List IdRange) (id : OpId) → IsApart rs → AllByRecursion (λ s. ends_before s id ≡ false)
    (rest_from rs id)
rest_not_ended [] id apart = tt
rest_not_ended (r ∷ rs) id apart =
    elim (ends_before r id) as (λ b. ends_before r id ≡ b → AllByRecursion (λ s. ends_before s id ≡ false)
    (cond b (rest_from rs id) (r ∷ rs))) [
      | true ↦ λ e. rest_not_ended rs id apart.2
      | false ↦ λ e. (e, none_ended r rs id e apart.0 apart.1 apart.2)
    ] refl
