-- The lists of the seats, and the journal since the opening.
use Rattle.std.specs.Prelude.{◌≡◌, ℕ, ◌+◌, ◌<◌, ◌≤◌, ◌==◌, true, false, List, [], ◌∷◌, ◌++◌, filter, All}
use mathlib.Core.Option.{some}
use lib.ListN.{get_elem?}
use Rattle.atomic_table.specs.Table.{State, Me}
use Rattle.chr_acts.specs.declared.entry.Entry.{Entry}
use Rattle.chr_acts.specs.declared.act.Act.TheVariants.{Settle}
use Rattle.chr_acts.specs.declared.reply.Reply.TheVariants.{Stepped}
use Rattle.chr_shared.specs.declared.tie.Known.{Known}

abbrev pub no_entry : Entry
no_entry = record { seat = 0; number = 0; act = Settle; reply = Stepped }

-- the entries of one seat, in their order
abbrev pub of_seat : ℕ → List Entry → List Entry
of_seat seat entries = filter (λ (e : Entry). e.seat == seat) entries

abbrev pub keeper : List Entry → ℕ → Known
keeper all dealt = record { keeps = true; all = all; dealt = dealt; sits = false; number = 0; mine = [] }

abbrev pub sitting : ℕ → List Entry → Known
sitting number mine = record { keeps = false; all = []; dealt = 0; sits = true; number = number; mine = mine }

-- the view of the keeper with a visitor
abbrev pub hosting : List Entry → ℕ → ℕ → List Entry → Known
hosting all dealt number mine = record {
  keeps = true;
  all = all;
  dealt = dealt;
  sits = true;
  number = number;
  mine =
      mine;
}

abbrev pub nobody : Known
nobody = record { keeps = false; all = []; dealt = 0; sits = false; number = 0; mine = [] }

abbrev pub dealing : Known → Known
dealing v = keeper v.all (v.dealt + 1)

abbrev pub newcomer : Known → Known
newcomer v = sitting (v.dealt + 1) []

abbrev pub visited : Known → Known → Known
visited v w = hosting v.all v.dealt w.number w.mine

abbrev pub alone : Known → Known
alone v = keeper v.all v.dealt

abbrev pub visitor : Known → Known
visitor v = sitting v.number v.mine

abbrev pub appended : Known → Entry → Known
appended v e = hosting (v.all ++ e ∷ []) v.dealt v.number (v.mine ++ e ∷ [])

abbrev pub Appends : Entry → Me ℕ Known → Me ℕ Known → Type 0
Appends e before after =
    (after ≡ (appended before.0 e, before.1)) × (before.0.mine ≡ of_seat before.0.number before.0.all)

-- the entry was made by one of the seats that were dealt
abbrev pub IsBySeat : ℕ → Entry → Type 0
IsBySeat dealt e = (0 < e.seat) × (e.seat ≤ dealt)

abbrev pub Checks : Me ℕ Known → Me ℕ Known → Type 0
Checks before after =
    (after ≡ before) × (before.0.mine ≡ of_seat before.0.number before.0.all)
    × All (IsBySeat before.0.dealt) before.0.all

-- What the tie says of the view v at the place k, where the keeper's view is at `keeper_at`, `count` seats were dealt,
-- and the seat n has its view at `places n`.
pub record Fits (keeper_at count : ℕ) (log : List Entry) (places : ℕ → ℕ) (k : ℕ) (v : Known) : Type 0 where
  pub head : v.keeps ≡ true → k ≡ keeper_at
  pub all : v.keeps ≡ true → v.all ≡ log
  pub dealt : v.keeps ≡ true → v.dealt ≡ count
  pub place : v.sits ≡ true → k ≡ places v.number
  pub mine : v.sits ≡ true → v.mine ≡ of_seat v.number log
  pub number : v.sits ≡ true → (0 < v.number) × (v.number ≤ count)

-- there is one log, all of which the keeper knows, and of which each seat knows its own entries
pub record IsTied (state : State ℕ Known) : Type 0 where
  pub keeper_at : ℕ
  pub count : ℕ
  pub log : List Entry
  pub places : ℕ → ℕ
  pub each : (k : ℕ) (v : Known) → get_elem? state.views k ≡ some v → Fits keeper_at count log places k v
  pub seats : All (IsBySeat count) log
