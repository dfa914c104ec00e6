use Rattle.std.proofs.Common.{rules, ◌≡◌, ℕ, ◌+◌, [], ap, sym, subst}
use Rattle.chr_shared.specs.Openings.{SeatView}
use Rattle.chr_shared.specs.Seats.{AreNew}
use Rattle.chr_shared.proofs.Moves.{deals, each_pushed}
use Rattle.chr_shared.proofs.shared.Shared.open.Goals as goal

pub split_seat-requires : goal.split_seat-requires
split_seat-requires g c =
    let i = c.loop-k.invariant in
    (i.0, search rules, deals _ _ (ap (λ m. m.0.keeps) i.1) (ap (λ m. m.0.all) i.1))

pub loop-k-preserved : goal.loop-k-preserved
loop-k-preserved g c =
    let i = c.loop-k.invariant in
    let p = c.push_reserved.ensures in (
      search rules,
      search rules,
      search rules,
      search rules,
      subst AreNew (sym p.items) (each_pushed (λ (k : ℕ) (s : SeatView). (s.number ≡ k + 1) × (s.list ≡ []))
          c.loop-k.seats.items _ i.4 (search rules, search rules)),
    )
