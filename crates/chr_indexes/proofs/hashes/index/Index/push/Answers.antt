use Rattle.std.proofs.Common.{◌≡◌, ◌%◌, ap, ◌∙◌, arith, length, refl, ◌++◌, ◌∷◌, [], vec_len}
use Rattle.std.specs.Prelude.{Some, vec_capacity}
use Rattle.std.proofs.lemmas.Grind.{common_steps}
use Rattle.chr_indexes.proofs.HashRows.{length_rows, rows_push, index_push}
use Rattle.chr_indexes.proofs.hashes.index.Index.push.Goals as goal

pub push_reserved-requires : goal.push_reserved-requires
push_reserved-requires c =
    let l = length_rows c.self.inside.rows.items in
    let v = ap (λ x. length x.rows) c.self.view_is in
    let m : vec_capacity c.self.inside.rows ≡ c.args.self.now.room = ap (λ x. x.room) c.self.view_is in
    let r = c.requires.room in
    omega (arith, l, v, m, r, c.self.inside.rows.ok.0)

pub overflow_cast-len : goal.overflow_cast-len
overflow_cast-len c =
    let l = length_rows c.self.inside.rows.items in
    let v = ap (λ x. length x.rows) c.self.view_is in
    let r = c.requires.few in
    let e = c.push_reserved.ensures.len in
    let f = c.len-2.ensures in
    omega (arith, l, v, r, e, f, c.self.inside.rows.ok.0)

pub invariant_of-self : goal.invariant_of-self
invariant_of-self c =
    let l = length_rows c.self.inside.rows.items in
    let v = ap (λ x. length x.rows) c.self.view_is in
    let r = c.requires.few in
    let e = c.push_reserved.ensures.len in
    let f = c.len-2.ensures in
    let p : vec_len c.self.inside.rows ≡ length c.self.inside.rows.items = omega (arith, c.self.inside.rows.ok.0) in
    let size : vec_len c.self.inside.heads ≡ length c.self.inside.heads.items =
    omega (arith, c.self.inside.heads.ok.0) in
    rw c.push_reserved.ensures.items
    (index_push c.self.inside.rows.items c.self.inside.heads.items _ c.slot_for-slot.result _ c.self.invariant
    (c.slot_for-slot.ensures ∙ ap (λ k. c.args.hash % k) (c.len.ensures ∙ size)) (grind (arith, common_steps))
    (omega (arith, e, f, p)) (omega (arith, l, v, r)))

pub returns-clause-rows : goal.returns-clause-rows
returns-clause-rows c =
    rw c.push_reserved.ensures.items
    (rows_push c.self.inside.rows.items _ refl ∙ ap (λ x. x.rows ++ Some c.args.hash ∷ []) c.self.view_is)
