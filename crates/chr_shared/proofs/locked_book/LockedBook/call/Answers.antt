use Rattle.std.proofs.Common.{rules, ◌≡◌, ◌+◌, length, sym, ap, ◌∙◌, subst}
use Rattle.chr_shared.specs.Tie.{of_seat, sitting}
use Rattle.chr_acts.specs.Journals.{count_of}
use Rattle.chr_shared.specs.Openings.{SeatView}
use Rattle.chr_shared.specs.Seats.{mine_of}
use Rattle.chr_shared.proofs.Moves.{visits, parts, one_view, numbered}
use Rattle.chr_shared.proofs.locked_book.LockedBook.call.Goals as goal

pub join_seat-requires : goal.join_seat-requires
join_seat-requires g c =
    let i = c.self.invariant in
    let s = c.seat.invariant in
    let b = c.into_seat.ensures in
    let r = c.replace-badge.ensures in
    let t = c.requires.table in (
      i.0 ∙ sym t.0,
      b.0 ∙ (ap (λ x. x.table_id) r.value ∙ (s.0 ∙ sym t.0)),
      b.3,
      search rules,
      visits _ _ _ _ (ap (λ m. m.0.keeps) i.1) (ap (λ v. v.sits)
          (one_view _ _ _ b.2 (ap (λ x. x.views) r.value ∙ s.1))),
    )

pub split_seat-requires : goal.split_seat-requires
split_seat-requires g c =
    let i = c.self.invariant in
    let j = c.join_seat.ensures in
    let a = c.append.ensures in
    let t = c.requires.table in (
      a.appended.0 ∙ (j.0 ∙ (i.0 ∙ sym t.0)),
      search rules,
      parts _ _ (ap (λ m. m.0.keeps) a.appended.1)
          (ap (λ m. m.0.sits) a.appended.1),
    )

pub returns-clause-received : goal.returns-clause-received
returns-clause-received g c =
    let i = c.self.invariant in
    let s = c.seat.invariant in
    let b = c.into_seat.ensures in
    let r = c.replace-badge.ensures in
    let j = c.join_seat.ensures in
    let e = c.in_ok-entry.ensures in
    let n = c.seat.inside.number in
    let all = c.self.inside.pass.me.0.all in
    let mine = mine_of c.seat.inside.badge.views in
    let into : c.into_seat.result.me.0 ≡ sitting n mine = one_view _ _ _ b.2 (ap (λ x. x.views) r.value ∙ s.1) in
    let own : mine ≡ of_seat n all =
    sym (ap (λ v. v.mine) into) ∙ sym (ap (λ m. m.0.mine) j.2) ∙ c.append.ensures.own
    ∙ ap (λ m. of_seat m.0.number m.0.all) j.2 ∙ ap (λ v. of_seat v.number all) into in
    let number = numbered n c.in_ok-entry.entry.number g.J.Naming.opening.journal all c.self.inside.book.entries mine
    i.2 own e.asked.1 in
    record {
      list = search rules;
      seat = search rules;
      number = subst (λ (t : SeatView). c.in_ok-entry.entry.number
          ≡ count_of t.number g.J.Naming.opening.journal + length t.list + 1) c.seat.view_is number;
      act = e.asked.2;
    }
