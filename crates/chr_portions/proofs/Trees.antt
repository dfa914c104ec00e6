-- What skips keep.
use Rattle.std.proofs.Common.{ℕ, ◌+◌, ◌-◌, ◌*◌, ◌<◌, inl, inr, List, arith}
use Rattle.std.proofs.lemmas.Bool.{cases_lt}
use Rattle.chr_portions.specs.declared.record.Record.{Record}
use Rattle.chr_portions.specs.declared.record.Hull.{Hull}
use Rattle.chr_portions.specs.declared.skips.Skip.{Skip}
use Rattle.chr_portions.specs.working.Skips.{record_at, IsInHull, Covers, IsSkip}

module _ (records : List Record) where
  -- hulls of two portions, one above the other, in one that is wider
  pub joined : (from mid to : ℕ) (low high all : Hull) → Covers records from mid low → Covers records mid to high
      → ((r : Record) → IsInHull low r → IsInHull all r) → ((r : Record) → IsInHull high r → IsInHull all r)
      → Covers records from to all
  joined from mid to low high all a b f g p least most alive =
      elim (cases_lt p mid) as (λ _. IsInHull all (record_at records p)) [
        | inl less ↦ f (record_at records p) (a p least less alive)
        | inr more ↦ g (record_at records p) (b p more most alive)
      ]

  -- the node: the blocks below are those of two trees
  pub node : (b : ℕ) (own all : Hull) (left right : Skip) → 0 < b → 0 < left.jump
      → IsSkip records (b - 1) left → IsSkip records (left.jump - 1) right → Covers records (8 * b) (8 * b + 8) own
      → ((r : Record) → IsInHull own r → IsInHull all r) → ((r : Record) → IsInHull left.all r → IsInHull all r)
      → ((r : Record) → IsInHull right.all r → IsInHull all r)
      → Covers records (8 * right.jump) (8 * b + 8) all
  node b own all left right some more a c o f g h p least most alive =
      elim (cases_lt p (8 * b)) as (λ _. IsInHull all (record_at records p)) [
        | inl less ↦ elim (cases_lt p (8 * left.jump)) as (λ _. IsInHull all (record_at records p)) [
          | inl low ↦ h (record_at records p) (c.all p least (omega (arith, low, more)) alive)
          | inr high ↦ g (record_at records p) (a.all p high (omega (arith, less, some)) alive)
        ]
        | inr top ↦ f (record_at records p) (o p top most alive)
      ]
