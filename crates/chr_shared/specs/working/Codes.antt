-- The codes of openings and of seats as callers see them.
use Rattle.std.specs.Prelude.{ℕ, List, Option}
use Rattle.std.proofs.Common.{refl}
use Rattle.std.specs.Coded.{Coded, code_by, coded×, coded_ℕ, coded_option}
use Rattle.atomic_table.specs.Seated.{TableId, table_id_coded}
use Rattle.chr_join.specs.declared.accepted.Accepted.{Accepted}
use Rattle.chr_join.specs.contracts.accepted.Accepted.{the_row}
use Rattle.chr_acts.specs.declared.entry.Entry.{Entry}
use Rattle.chr_acts.specs.working.Journals.{coded_journal}
use Rattle.chr_shared.specs.Openings.{OpeningView, SeatView}

abbrev pub coded_opening_view : Coded OpeningView
coded_opening_view =
    code_by (TableId × (Option Accepted × (List Entry × ℕ)))
    (coded× table_id_coded (coded× (coded_option the_row.coded) (coded× coded_journal coded_ℕ)))
    (λ o. (o.table, (o.accepted, (o.journal, o.seats))))
    (λ p. record { table = p.0; accepted = p.1.0; journal = p.1.1.0; seats = p.1.1.1 }) (λ _. refl)

abbrev pub coded_seat_view : Coded SeatView
coded_seat_view =
    code_by (ℕ × List Entry) (coded× coded_ℕ coded_journal) (λ s. (s.number, s.list))
    (λ p. record { number = p.0; list = p.1 }) (λ _. refl)
