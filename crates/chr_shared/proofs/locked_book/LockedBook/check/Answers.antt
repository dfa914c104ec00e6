use Rattle.std.proofs.Common.{rules, sym, ap, ◌∙◌}
use Rattle.chr_shared.proofs.Moves.{visits, parts, checks, one_view}
use Rattle.chr_shared.proofs.locked_book.LockedBook.check.Goals as goal

pub join_seat-requires : goal.join_seat-requires
join_seat-requires g c =
    let i = c.self.invariant in
    let s = c.seat.invariant in
    let b = c.into_seat.ensures in
    let t = c.requires.table in (
      i.0 ∙ sym t.0,
      b.0 ∙ (s.0 ∙ sym t.0),
      b.3,
      search rules,
      visits _ _ _ _ (ap (λ m. m.0.keeps) i.1)
          (ap (λ v. v.sits) (one_view _ _ _ b.2 s.1)),
    )

pub load-requires : goal.load-requires
load-requires g c =
    let i = c.self.invariant in
    let j = c.join_seat.ensures in
    let t = c.requires.table in
    (j.0 ∙ (i.0 ∙ sym t.0), search rules, checks _ _ _ (ap (λ m. m.0.keeps) j.2) (ap (λ m. m.0.sits) j.2))

pub split_seat-requires : goal.split_seat-requires
split_seat-requires g c =
    let i = c.self.invariant in
    let j = c.join_seat.ensures in
    let l = c.load.ensures in
    let t = c.requires.table in
    let me = l.2.0 ∙ j.2 in
    (l.0 ∙ (j.0 ∙ (i.0 ∙ sym t.0)), search rules, parts _ _ (ap (λ m. m.0.keeps) me) (ap (λ m. m.0.sits) me))
