-- What every index keeps.
use Rattle.std.specs.Prelude.{ℕ, ℤ, ◌*◌, ◌<◌, ◌≤◌, ◌^◌, List, length, map, cond, Option, Some, None}
use Rattle.std.specs.Coded.{Coded, code_by, coded×, coded_ℕ, coded_ℤ, coded_list, coded_option}
use Rattle.std.proofs.Common.{refl}
use Rattle.chr_indexes.specs.RangedRows.{Pair}
use Rattle.chr_portions.specs.declared.record.Record.{Record}
use Rattle.chr_portions.specs.declared.skips.Skip.{Skip}
use Rattle.chr_portions.specs.RankedPairs.{RankedPairs}
use Rattle.chr_portions.specs.working.Skips.{record_at, AreSkips}
use Rattle.chr_portions.specs.working.Chains.{AreNext, AreHeads}
use Rattle.chr_portions.specs.working.Placed.{IsPlaced}

-- what a row is found by, where it lives
abbrev pub entry_of : Record → Option Pair
entry_of r = cond r.alive (Some (record { hash = r.hash; first = r.first; second = r.second })) None

-- what each row is found by, whose record lies at its place
abbrev pub rows_of : List Record → List ℕ → List (Option Pair)
rows_of records places = map (λ p. entry_of (record_at records p)) places

abbrev pub coded_pair : Coded Pair
coded_pair =
    code_by (ℕ × (ℤ × ℤ)) (coded× coded_ℕ (coded× coded_ℤ coded_ℤ)) (λ p. (p.hash, (p.first, p.second)))
    (λ t. record { hash = t.0; first = t.1.0; second = t.1.1 }) (λ _. refl)

abbrev pub ranked_code : Coded RankedPairs
ranked_code =
    code_by (List (Option Pair) × (List ℕ × ℕ))
    (coded× (coded_list (coded_option coded_pair)) (coded× (coded_list coded_ℕ) coded_ℕ))
    (λ e. (e.rows, (e.ranks, e.room))) (λ p. record { rows = p.0; ranks = p.1.0; room = p.1.1 }) (λ _. refl)

-- each row has its record at its place, each record stands in the chain of its slot, and blocks have their skips
pub record IsIndex (records : List Record) (places heads : List ℕ) (skips : List Skip) : Type 0 where
  pub placed : IsPlaced records places
  pub few : length records < 2 ^ 32
  pub some : 0 < length heads
  pub most : length heads < 2 ^ 32
  pub next : AreNext (length heads) records (length records)
  pub newest : AreHeads records heads (length records)
  pub covered : 8 * length skips ≤ length records
  pub linked : AreSkips records skips (length skips)
