use Rattle.std.proofs.Common.{◌∷◌, [], ◌++◌, get_or, length, refl, sym, ap, ◌∙◌, arith}
use Rattle.chr_base.specs.Rules.{atom_at, atoms_at, heads_of, valued}
use Rattle.chr_base.specs.Stores.{store_of}
use Rattle.std.proofs.lemmas.List.{get_or_default, length-map}
use Rattle.chr_base.specs.Atoms.{no_atom}
use Rattle.chr_base.proofs.Firing.{body_same}
use Rattle.chr_columns.proofs.Firings.{come_kept, come_removed}
use Rattle.chr_columns.proofs.firing.put_fresh.Goals as goal

pub returns-then-place-len-clause-store : goal.returns-then-place-len-clause-store
returns-then-place-len-clause-store c v e =
    let l = c.if-place-len.true in
    let n = c.len.ensures.value in
    let vs = c.args.found.now.values.items in
    let items = c.push_body.ensures.items ∙ (λ i. c.args.fresh.now.items
    ++ (ap (λ ws. atoms_at (valued ws) c.args.rule.now.body.items) c.deref.ensures.0
    ∙ body_same c.args.rule.now c.args.found.now.heads.items vs c.requires.bound v e) i) in
    ap store_of (c.push_copy.ensures.items ∙ (λ i. items i ++ c.index-deref-place.result ∷ []))
    ∙ come_kept c.args.rule.now c.args.place v c.args.found.now.heads.items c.args.fresh.now.items
    (atoms_at v c.args.rule.now.body.items) c.requires.place e refl c.index-deref-place.result
    (omega (arith, l, n)) (c.index-deref-place.is
    ∙ ap (λ hs. get_or hs c.args.place c.index-deref-place.result) c.deref-then-place-len.ensures.0)

pub returns-else-place-len-clause-store : goal.returns-else-place-len-clause-store
returns-else-place-len-clause-store c v e =
    let l = c.if-place-len.false in
    let n = c.len.ensures.value in
    let vs = c.args.found.now.values.items in
    let items = c.push_body.ensures.items ∙ (λ i. c.args.fresh.now.items
    ++ (ap (λ ws. atoms_at (valued ws) c.args.rule.now.body.items) c.deref.ensures.0
    ∙ body_same c.args.rule.now c.args.found.now.heads.items vs c.requires.bound v e) i) in
    ap store_of items
    ∙ come_removed c.args.rule.now c.args.place v c.args.found.now.heads.items c.args.fresh.now.items
    (atoms_at v c.args.rule.now.body.items) c.requires.place e refl (omega (arith, l, n))

pub returns-then-place-len-clause-last : goal.returns-then-place-len-clause-last
returns-then-place-len-clause-last c _ =
    let n = ap length (sym c.requires.bound)
    ∙ length-map (heads_of c.args.rule.now) (atom_at (valued c.args.found.now.values.items)) in
    let place = c.requires.place in
    let heads = c.args.found.now.heads.items in
    let is = get_or_default heads c.args.place no_atom c.index-deref-place.result (omega (arith, n, place))
    ∙ sym (c.index-deref-place.is
    ∙ ap (λ hs. get_or hs c.args.place c.index-deref-place.result) c.deref-then-place-len.ensures.0) in
    (c.push_body.new.items.items, c.push_copy.ensures.items ∙ ap (λ x. c.push_body.new.items.items ++ x ∷ []) (sym is))

pub returns-else-place-len-clause-last : goal.returns-else-place-len-clause-last
returns-else-place-len-clause-last c kept =
    let l = c.if-place-len.false in
    let n = c.len.ensures.value in
    absurd (omega (arith, l, n, kept))
