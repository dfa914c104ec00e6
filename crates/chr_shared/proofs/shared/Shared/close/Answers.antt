use Rattle.std.proofs.Common.{arith, ◌<◌, ◌++◌, All, refl, sym, ap, ◌∙◌, subst, vec_len}
use Rattle.std.proofs.lemmas.List.Elements.{All-nil}
use Rattle.chr_shared.specs.Tie.{IsBySeat}
use Rattle.chr_shared.specs.Seats.{HasOwn}
use Rattle.chr_shared.proofs.Receipts.{placed}
use Rattle.chr_shared.proofs.Moves.{all_back, dropped, none_left}
use Rattle.chr_shared.proofs.shared.Shared.close.Goals as goal

pub loop-seat-preserved : goal.loop-seat-preserved
loop-seat-preserved g c =
    let i = c.loop-seat.invariant in
    let e = c.check.ensures in
    let p = c.in-Some.ensures in (
      e.same ∙ i.0,
      (λ rest. i.1 (all_back (HasOwn c.into_inner-locked.result.entries) c.loop-seat.seats.items c.pop.new.self.items
          c.in-Some.seat p.items rest (subst (λ d. HasOwn d.entries c.in-Some.seat) i.0 e.own))),
      (λ _. subst (λ d. All (IsBySeat g.J.Naming.opening.seats) d.entries) i.0 e.others),
    )

pub returns-clause-seats : goal.returns-clause-seats
returns-clause-seats g c =
    let i = c.loop-seat.invariant in
    let p = c.in_default.ensures in
    let empty = p.cases.0 in
    let none = none_left c.loop-seat.seats.items (omega (arith, c.loop-seat.seats.ok.0)) in
    let all = i.1 (subst (λ l. All (HasOwn c.into_inner-locked.result.entries) l) (sym none)
    (All-nil (HasOwn c.into_inner-locked.result.entries))) in
    let log = dropped g.J.Naming.opening.journal c.into_book.result.entries _ c.into_book.ensures.entries
    ∙ ap (λ d. d.entries) i.0 in
    subst (λ l. All (HasOwn l) c.args.seats.items) (sym log) all

pub returns-clause-others : goal.returns-clause-others
returns-clause-others g c =
    let i = c.loop-seat.invariant in
    let p = c.in_default.ensures in
    let empty = p.cases.0 in
    let filled = c.args.self.seats_are.1 in
    let some : vec_len c.loop-seat.seats < vec_len c.args.seats = omega (arith, c.requires.all) in
    let log = dropped g.J.Naming.opening.journal c.into_book.result.entries _ c.into_book.ensures.entries
    ∙ ap (λ d. d.entries) i.0 in
    subst (λ l. All (IsBySeat g.J.Naming.opening.seats) l) (sym log) (i.2 some)

pub returns-clause-receipts : goal.returns-clause-receipts
returns-clause-receipts g c =
    let i = c.loop-seat.invariant in
    let p = c.in_default.ensures in
    let empty = p.cases.0 in
    let none = none_left c.loop-seat.seats.items (omega (arith, c.loop-seat.seats.ok.0)) in
    let all = i.1 (subst (λ l. All (HasOwn c.into_inner-locked.result.entries) l) (sym none)
    (All-nil (HasOwn c.into_inner-locked.result.entries))) in
    λ k d lt. placed g.J.Naming.opening.journal c.into_book.result.entries c.into_inner-locked.result.entries
    (c.into_book.ensures.entries ∙ ap (λ d. g.J.Naming.opening.journal ++ d.entries) i.0) c.args.seats.items all _
    (c.requires.receipts k d lt)

pub loop-seat-init : goal.loop-seat-init
loop-seat-init g c = (refl, (λ all. all), λ less. absurd (omega (arith, less)))
