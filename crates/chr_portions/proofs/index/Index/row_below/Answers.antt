use Rattle.std.proofs.Common.{◌≡◌, ◌-◌, ◌<◌, ◌≤◌, length, arith, sym, ap, ◌∙◌}
use Rattle.std.proofs.lemmas.List.{with_items_is}
use Rattle.chr_portions.specs.declared.record.Record.{Record}
use Rattle.chr_portions.specs.declared.record.Sought.{Sought}
use Rattle.chr_portions.specs.working.Placed.{IsPlaced}
use Rattle.chr_portions.specs.working.Entries.{rows_of}
use Rattle.chr_portions.proofs.Entries.{read_record, found_rank, found_crossed, found_above}
use Rattle.chr_portions.proofs.index.Index.row_below.Goals as goal

pub returns-then-place-eq0-clause-none : goal.returns-then-place-eq0-clause-none
returns-then-place-eq0-clause-none c =
    let after = c.place_below-place.new.records in
    let places = c.self.inside.places.items in
    let size = c.place_below-place.ensures.size in
    let placed : IsPlaced after places = rw c.deref.ensures.value at c.place_below-place.ensures.index.placed in
    let same : rows_of after places ≡ c.args.self.now.rows =
    (rw (c.deref_mut.ensures.value, c.deref.ensures.value) at c.place_below-place.ensures.rows)
    ∙ ap (λ x. x.rows) c.self.view_is in
    let ranks = ap (λ x. x.ranks) c.self.view_is in
    let s : Sought = record { hash = c.args.hash; first = c.args.first.now; second = c.args.second.now } in
    let len = c.deref_mut.ensures.len in
    let most = c.min-bound.ensures in
    λ other less w. (let a = found_above after places s c.args.bound c.place_below-place.result c.args.self.now.rows
    c.args.self.now.ranks placed same ranks
    (λ p l m w. c.place_below-place.ensures.none_between p
    (omega (arith, l, m, size, len, most, c.len.ensures, c.self.inside.records.ok.0)) w) other less w in
    let e = c.if-place-eq0.true in
    absurd (omega (arith, a, e)))

pub returns-clause-below : goal.returns-clause-below
returns-clause-below c =
    let after = c.place_below-place.new.records in
    let places = c.self.inside.places.items in
    let size = c.place_below-place.ensures.size in
    let placed : IsPlaced after places = rw c.deref.ensures.value at c.place_below-place.ensures.index.placed in
    let same : rows_of after places ≡ c.args.self.now.rows =
    (rw (c.deref_mut.ensures.value, c.deref.ensures.value) at c.place_below-place.ensures.rows)
    ∙ ap (λ x. x.rows) c.self.view_is in
    let ranks = ap (λ x. x.ranks) c.self.view_is in
    let s : Sought = record { hash = c.args.hash; first = c.args.first.now; second = c.args.second.now } in
    let len = c.deref_mut.ensures.len in
    let most = c.min-bound.ensures in
    let back = with_items_is c.self.inside.records after (omega (arith, size, len, c.self.inside.records.ok.0)) in
    let some : 0 < c.place_below-place.result = omega (arith, c.if-place-eq0.false) in
    let within = c.place_below-place.ensures.within in
    let few : c.place_below-place.result ≤ length after =
    omega (arith, size, len, within, most, c.len.ensures, c.self.inside.records.ok.0) in
    let row = ap (λ (x : Record). x.row) (sym (read_record after (c.place_below-place.result - 1) c.index.result.now
    (omega (arith, some, few)) (rw back at c.index.ensures))) in
    let e = found_rank after places s c.args.bound c.place_below-place.result c.args.self.now.rows
    c.args.self.now.ranks placed same ranks
    c.index.result.now.row some few row in
    omega (arith, e, some, within, most)

pub returns-clause-crossed : goal.returns-clause-crossed
returns-clause-crossed c =
    let after = c.place_below-place.new.records in
    let places = c.self.inside.places.items in
    let size = c.place_below-place.ensures.size in
    let placed : IsPlaced after places = rw c.deref.ensures.value at c.place_below-place.ensures.index.placed in
    let same : rows_of after places ≡ c.args.self.now.rows =
    (rw (c.deref_mut.ensures.value, c.deref.ensures.value) at c.place_below-place.ensures.rows)
    ∙ ap (λ x. x.rows) c.self.view_is in
    let ranks = ap (λ x. x.ranks) c.self.view_is in
    let s : Sought = record { hash = c.args.hash; first = c.args.first.now; second = c.args.second.now } in
    let len = c.deref_mut.ensures.len in
    let most = c.min-bound.ensures in
    let back = with_items_is c.self.inside.records after (omega (arith, size, len, c.self.inside.records.ok.0)) in
    let some : 0 < c.place_below-place.result = omega (arith, c.if-place-eq0.false) in
    let within = c.place_below-place.ensures.within in
    let few : c.place_below-place.result ≤ length after =
    omega (arith, size, len, within, most, c.len.ensures, c.self.inside.records.ok.0) in
    let row = ap (λ (x : Record). x.row) (sym (read_record after (c.place_below-place.result - 1) c.index.result.now
    (omega (arith, some, few)) (rw back at c.index.ensures))) in
    found_crossed after places s c.args.bound c.place_below-place.result c.args.self.now.rows
    c.args.self.now.ranks placed same ranks c.index.result.now.row some few row
    (c.place_below-place.ensures.sought some)

pub returns-clause-greatest : goal.returns-clause-greatest
returns-clause-greatest c =
    let after = c.place_below-place.new.records in
    let places = c.self.inside.places.items in
    let size = c.place_below-place.ensures.size in
    let placed : IsPlaced after places = rw c.deref.ensures.value at c.place_below-place.ensures.index.placed in
    let same : rows_of after places ≡ c.args.self.now.rows =
    (rw (c.deref_mut.ensures.value, c.deref.ensures.value) at c.place_below-place.ensures.rows)
    ∙ ap (λ x. x.rows) c.self.view_is in
    let ranks = ap (λ x. x.ranks) c.self.view_is in
    let s : Sought = record { hash = c.args.hash; first = c.args.first.now; second = c.args.second.now } in
    let len = c.deref_mut.ensures.len in
    let most = c.min-bound.ensures in
    let back = with_items_is c.self.inside.records after (omega (arith, size, len, c.self.inside.records.ok.0)) in
    let some : 0 < c.place_below-place.result = omega (arith, c.if-place-eq0.false) in
    let within = c.place_below-place.ensures.within in
    let few : c.place_below-place.result ≤ length after =
    omega (arith, size, len, within, most, c.len.ensures, c.self.inside.records.ok.0) in
    let row = ap (λ (x : Record). x.row) (sym (read_record after (c.place_below-place.result - 1) c.index.result.now
    (omega (arith, some, few)) (rw back at c.index.ensures))) in
    let e = found_rank after places s c.args.bound c.place_below-place.result c.args.self.now.rows
    c.args.self.now.ranks placed same ranks
    c.index.result.now.row some few row in
    λ other less w. (let a = found_above after places s c.args.bound c.place_below-place.result c.args.self.now.rows
    c.args.self.now.ranks placed same ranks
    (λ p l m w. c.place_below-place.ensures.none_between p
    (omega (arith, l, m, size, len, most, c.len.ensures, c.self.inside.records.ok.0)) w) other less w in
    omega (arith, a, e, some))
