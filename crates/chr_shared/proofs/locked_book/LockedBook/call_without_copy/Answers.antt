use Rattle.std.proofs.Common.{rules, ◌≡◌, [], ◌∷◌, ◌++◌, sym, ap, ◌∙◌, append_assoc}
use Rattle.chr_acts.specs.declared.entry.Entry.{Entry}
use Rattle.chr_shared.specs.Tie.{no_entry, sitting}
use Rattle.chr_shared.specs.Seats.{mine_of}
use Rattle.chr_shared.specs.Settling.{last_of}
use Rattle.chr_shared.proofs.Moves.{visits, parts, one_view}
use Rattle.chr_shared.proofs.Receiving.{last_snoc}
use Rattle.chr_shared.proofs.locked_book.LockedBook.call_without_copy.Goals as goal

pub join_seat-requires : goal.join_seat-requires
join_seat-requires g c =
    let i = c.self.invariant in
    let s = c.seat.invariant in
    let b = c.into_seat.ensures in
    let r = c.replace-badge.ensures in
    let t = c.requires.table in (
      i.0 ∙ sym t.0,
      b.0 ∙ (ap (λ x. x.table_id) r.value ∙ (s.0 ∙ sym t.0)),
      b.3,
      search rules,
      visits _ _ _ _ (ap (λ m. m.0.keeps) i.1) (ap (λ v. v.sits)
          (one_view _ _ _ b.2 (ap (λ x. x.views) r.value ∙ s.1))),
    )

pub append_last-requires-clause-hosts : goal.append_last-requires-clause-hosts
append_last-requires-clause-hosts g c =
    let s = c.seat.invariant in
    let b = c.into_seat.ensures in
    let r = c.replace-badge.ensures in
    let j = c.join_seat.ensures in
    let h = c.in_ok-call.ensures.ok in
    let last : last_of no_entry c.call.new.self.entries ≡ h.entry = ap (last_of no_entry) h.after
    ∙ last_snoc no_entry c.self.inside.book.entries h.entry in
    let into : c.into_seat.result.me.0 ≡ sitting c.seat.inside.number (mine_of c.seat.inside.badge.views) =
    one_view _ _ _ b.2 (ap (λ x. x.views) r.value ∙ s.1) in (
      search rules,
      search rules,
      ap (λ m. m.0.number) j.2 ∙ ap (λ v. v.number) into
          ∙ sym (ap (λ (e : Entry). e.seat) last ∙ h.seat),
      search rules,
    )

pub split_seat-requires : goal.split_seat-requires
split_seat-requires g c =
    let i = c.self.invariant in
    let j = c.join_seat.ensures in
    let a = c.append_last.ensures.appended in
    let t = c.requires.table in
    (a.0 ∙ (j.0 ∙ (i.0 ∙ sym t.0)), search rules, parts _ _ (ap (λ m. m.0.keeps) a.1) (ap (λ m. m.0.sits) a.1))

pub invariant_of-self-2 : goal.invariant_of-self-2
invariant_of-self-2 g c =
    let i = c.self.invariant in
    let j = c.join_seat.ensures in
    let h = c.in_ok-call.ensures.ok in
    let all = c.self.inside.pass.me.0.all in
    let last : last_of no_entry c.call.new.self.entries ≡ h.entry = ap (last_of no_entry) h.after
    ∙ last_snoc no_entry c.self.inside.book.entries h.entry in
    let base : c.split_seat.new.seat.me.0.all ≡ c.join_seat.new.seat.me.0.all
    ++ last_of no_entry c.call.new.self.entries ∷ [] = search rules in
    let more : c.split_seat.new.seat.me.0.all ≡ all ++ h.entry ∷ [] =
    base ∙ ap (λ l. l ++ last_of no_entry c.call.new.self.entries ∷ []) (ap (λ m. m.0.all) j.2)
    ∙ ap (λ e. all ++ e ∷ []) last in (
      search rules,
      search rules,
      h.after ∙ ap (λ l. l ++ h.entry ∷ []) i.2 ∙ append_assoc g.J.Naming.opening.journal all (h.entry ∷ [])
          ∙ ap (λ l. g.J.Naming.opening.journal ++ l) (sym more),
      search rules,
    )

pub returns-clause-ok : goal.returns-clause-ok
returns-clause-ok g c =
    let s = c.seat.invariant in
    let b = c.into_seat.ensures in
    let r = c.replace-badge.ensures in
    let j = c.join_seat.ensures in
    let h = c.in_ok-call.ensures.ok in
    let all = c.self.inside.pass.me.0.all in
    let mine = mine_of c.seat.inside.badge.views in
    let last : last_of no_entry c.call.new.self.entries ≡ h.entry = ap (last_of no_entry) h.after
    ∙ last_snoc no_entry c.self.inside.book.entries h.entry in
    let into : c.into_seat.result.me.0 ≡ sitting c.seat.inside.number mine =
    one_view _ _ _ b.2 (ap (λ x. x.views) r.value ∙ s.1) in
    let base : c.split_seat.new.seat.me.0.all ≡ c.join_seat.new.seat.me.0.all
    ++ last_of no_entry c.call.new.self.entries ∷ [] = search rules in
    let more : c.split_seat.new.seat.me.0.all ≡ all ++ h.entry ∷ [] =
    base ∙ ap (λ l. l ++ last_of no_entry c.call.new.self.entries ∷ []) (ap (λ m. m.0.all) j.2)
    ∙ ap (λ e. all ++ e ∷ []) last in
    let base' : mine_of c.into_badge.result.views ≡ c.join_seat.new.seat.me.0.mine
    ++ last_of no_entry c.call.new.self.entries ∷ [] = search rules in
    let more' : mine_of c.into_badge.result.views ≡ mine ++ h.entry ∷ [] =
    base' ∙ ap (λ l. l ++ last_of no_entry c.call.new.self.entries ∷ [])
    (ap (λ m. m.0.mine) j.2 ∙ ap (λ v. v.mine) into) ∙ ap (λ e. mine ++ e ∷ []) last in (
      h.entry,
      more ∙ ap (λ l. l ++ h.entry ∷ []) (ap (λ k. k.entries) c.self.view_is),
      more' ∙ ap (λ l. l ++ h.entry ∷ []) (ap (λ k. k.list) c.seat.view_is),
      h.act,
    )
