use Rattle.std.proofs.Common.{◌≡◌, ◌<◌, length, set, arith, refl, sym, ap, ◌∙◌}
use Rattle.std.specs.Prelude.{None}
use Rattle.chr_portions.specs.declared.record.Record.{Record}
use Rattle.chr_portions.specs.working.Skips.{record_at}
use Rattle.chr_portions.specs.working.Placed.{place_at}
use Rattle.chr_portions.proofs.Entries.{rows_len, read_record, read_place, index_kill, rows_kill}
use Rattle.chr_portions.proofs.index.Index.kill.Goals as goal

pub invariant_of-self : goal.invariant_of-self
invariant_of-self c =
    let v = ap (λ x. length x.rows) c.self.view_is in
    let records = c.self.inside.records.items in
    let places = c.self.inside.places.items in
    let size = rows_len records places in
    let r = c.requires in
    let l : c.args.row < length places = omega (arith, v, size, r) in
    let q = c.index-place.result.now in
    let is : place_at places c.args.row ≡ q = read_place places c.args.row q l c.index-place.ensures in
    let there = c.self.invariant.placed.there c.args.row l in
    let here : q < length records = omega (arith, there, is) in
    let x = c.index_mut.result.now in
    let e : record_at records q ≡ x = read_record records q x here c.index_mut.ensures.value in
    index_kill records places c.self.inside.heads.items c.self.inside.skips.items q _ here
    (ap (λ (y : Record). y.hash) (sym e)) refl (ap (λ (y : Record). y.row) (sym e))
    (ap (λ (y : Record). y.first) (sym e)) (ap (λ (y : Record). y.second) (sym e))
    (ap (λ (y : Record). y.next) (sym e)) c.self.invariant

pub returns-clause-rows : goal.returns-clause-rows
returns-clause-rows c =
    let v = ap (λ x. length x.rows) c.self.view_is in
    let records = c.self.inside.records.items in
    let places = c.self.inside.places.items in
    let size = rows_len records places in
    let r = c.requires in
    let l : c.args.row < length places = omega (arith, v, size, r) in
    rows_kill records places c.args.row c.index-place.result.now _ c.self.invariant.placed l
    (sym (read_place places c.args.row c.index-place.result.now l c.index-place.ensures)) refl
    ∙ ap (λ x. set x.rows c.args.row None) c.self.view_is
