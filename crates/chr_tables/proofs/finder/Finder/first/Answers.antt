use Rattle.std.proofs.Common.{ℕ, ◌≤◌}
use Rattle.chr_indexes.specs.HashedRows.{HasHash}
use Rattle.chr_indexes.specs.RangedRows.{IsWanted, IsCrossed}
use Rattle.chr_tables.specs.working.Finders.{IsFinderRow}
use Rattle.chr_tables.specs.declared.finder.Finder.TheVariants.{Chained, Ranged, Crossed}
use Rattle.chr_tables.proofs.Choices.{if_some, if_none}
use Rattle.chr_tables.proofs.Finders.{chained_found, found_chained, ranged_found, found_ranged, crossed_found}
use Rattle.chr_tables.proofs.Finders.{found_crossed}
use Rattle.chr_tables.proofs.finder.Finder.first.Goals as goal

pub returns-in-Chained-clause-met : goal.returns-in-Chained-clause-met
returns-in-Chained-clause-met c =
    rw c.in-Chained.is (if_some (λ row. HasHash c.in-Chained.index.rows c.args.hash row)
    (λ row. IsFinderRow (Chained c.in-Chained.index) c.args.hash c.args.span.now row) c.first.result
    (λ row w. chained_found c.in-Chained.index c.args.hash c.args.span.now row w) c.first.ensures.live)

pub returns-in-Chained-clause-newest : goal.returns-in-Chained-clause-newest
returns-in-Chained-clause-newest c =
    rw c.in-Chained.is (if_some (λ row. (other : ℕ) → (HasHash c.in-Chained.index.rows c.args.hash other) → other ≤ row)
    (λ row. (other : ℕ) → (IsFinderRow (Chained c.in-Chained.index) c.args.hash c.args.span.now other)
    → other ≤ row) c.first.result
    (λ row newest other s. newest other (found_chained c.in-Chained.index c.args.hash c.args.span.now other s))
    c.first.ensures.newest)

pub returns-in-Chained-clause-none : goal.returns-in-Chained-clause-none
returns-in-Chained-clause-none c =
    rw c.in-Chained.is (if_none ((other : ℕ) → ¬ (HasHash c.in-Chained.index.rows c.args.hash other))
    ((other : ℕ) → ¬ (IsFinderRow (Chained c.in-Chained.index) c.args.hash c.args.span.now other)) c.first.result
    (λ none other s. none other (found_chained c.in-Chained.index c.args.hash c.args.span.now other s))
    c.first.ensures.none)

pub returns-in-Ranged-clause-met : goal.returns-in-Ranged-clause-met
returns-in-Ranged-clause-met c =
    rw c.in-Ranged.is (if_some (λ row. IsWanted c.in-Ranged.index.rows c.args.hash c.range_for.result row)
    (λ row. IsFinderRow (Ranged c.in-Ranged.column c.in-Ranged.index) c.args.hash c.args.span.now row)
    c.first-in-Ranged.result
    (λ row w. ranged_found c.in-Ranged.column c.in-Ranged.index c.args.hash c.args.span.now c.range_for.result row
    c.range_for.ensures.narrow w) c.first-in-Ranged.ensures.wanted)

pub returns-in-Ranged-clause-newest : goal.returns-in-Ranged-clause-newest
returns-in-Ranged-clause-newest c =
    rw c.in-Ranged.is (if_some (λ row. (other : ℕ) → (IsWanted c.in-Ranged.index.rows c.args.hash c.range_for.result
    other) → other ≤ row) (λ row. (other : ℕ) → (IsFinderRow (Ranged c.in-Ranged.column c.in-Ranged.index)
    c.args.hash c.args.span.now other) → other ≤ row) c.first-in-Ranged.result
    (λ row newest other s. newest other (found_ranged c.in-Ranged.column c.in-Ranged.index c.args.hash c.args.span.now
    c.range_for.result other c.range_for.ensures.wide s)) c.first-in-Ranged.ensures.newest)

pub returns-in-Ranged-clause-none : goal.returns-in-Ranged-clause-none
returns-in-Ranged-clause-none c =
    rw c.in-Ranged.is (if_none ((other : ℕ) → ¬ (IsWanted c.in-Ranged.index.rows c.args.hash c.range_for.result other))
    ((other : ℕ) → ¬ (IsFinderRow (Ranged c.in-Ranged.column c.in-Ranged.index) c.args.hash c.args.span.now other))
    c.first-in-Ranged.result
    (λ none other s. none other (found_ranged c.in-Ranged.column c.in-Ranged.index c.args.hash c.args.span.now
    c.range_for.result other c.range_for.ensures.wide s)) c.first-in-Ranged.ensures.none)

pub returns-in-Crossed-clause-met : goal.returns-in-Crossed-clause-met
returns-in-Crossed-clause-met c =
    rw c.in-Crossed.is (if_some (λ row. IsCrossed c.in-Crossed.index.rows c.args.hash c.range_for-first.result
    c.range_for-in-Crossed.result row) (λ row. IsFinderRow
    (Crossed c.in-Crossed.first c.in-Crossed.second c.in-Crossed.index) c.args.hash c.args.span.now row)
    c.first-in-Crossed.result
    (λ row w. crossed_found c.in-Crossed.first c.in-Crossed.second c.in-Crossed.index c.args.hash c.args.span.now
    c.range_for-first.result c.range_for-in-Crossed.result row c.range_for-first.ensures.narrow
    c.range_for-in-Crossed.ensures.narrow w) c.first-in-Crossed.ensures.crossed)

pub returns-in-Crossed-clause-newest : goal.returns-in-Crossed-clause-newest
returns-in-Crossed-clause-newest c =
    rw c.in-Crossed.is (if_some (λ row. (other : ℕ) → (IsCrossed c.in-Crossed.index.rows c.args.hash
    c.range_for-first.result c.range_for-in-Crossed.result other) → other ≤ row)
    (λ row. (other : ℕ) → (IsFinderRow (Crossed c.in-Crossed.first c.in-Crossed.second c.in-Crossed.index)
    c.args.hash c.args.span.now other) → other ≤ row) c.first-in-Crossed.result
    (λ row newest other s. newest other (found_crossed c.in-Crossed.first c.in-Crossed.second c.in-Crossed.index
    c.args.hash c.args.span.now c.range_for-first.result c.range_for-in-Crossed.result other
    c.range_for-first.ensures.wide c.range_for-in-Crossed.ensures.wide s)) c.first-in-Crossed.ensures.newest)

pub returns-in-Crossed-clause-none : goal.returns-in-Crossed-clause-none
returns-in-Crossed-clause-none c =
    rw c.in-Crossed.is (if_none ((other : ℕ) → ¬ (IsCrossed c.in-Crossed.index.rows c.args.hash c.range_for-first.result
    c.range_for-in-Crossed.result other)) ((other : ℕ)
    → ¬ (IsFinderRow (Crossed c.in-Crossed.first c.in-Crossed.second c.in-Crossed.index) c.args.hash c.args.span.now
    other)) c.first-in-Crossed.result
    (λ none other s. none other (found_crossed c.in-Crossed.first c.in-Crossed.second c.in-Crossed.index c.args.hash
    c.args.span.now c.range_for-first.result c.range_for-in-Crossed.result other c.range_for-first.ensures.wide
    c.range_for-in-Crossed.ensures.wide s)) c.first-in-Crossed.ensures.none)
