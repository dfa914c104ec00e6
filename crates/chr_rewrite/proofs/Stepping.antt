-- From what a pool finds and does to the steps of a program.
use Rattle.std.specs.Prelude.{◌≡◌, ◌+◌, List, ◌++◌, length, drop}
use Rattle.std.proofs.Common.{ap, ◌∙◌}
use Rattle.chr_base.specs.declared.atom.Atom.{Atom}
use Rattle.chr_base.specs.declared.rule.Rule.{Rule}
use Rattle.chr_base.specs.Atoms.{atom_cmp}
use Rattle.chr_base.specs.FinBag.{count_in, IsWithin, ◌⊕◌, ◌⊖◌}
use Rattle.chr_base.specs.Stores.{store_of}
use Rattle.chr_base.proofs.Stores.{store_of-append}
use Rattle.chr_base.specs.Rules.{HasInstance, Valuation, heads_at, atoms_at, StepOn}
use Rattle.chr_base.proofs.Steps.{removed_heads}
use Rattle.chr_rewrite.proofs.Counting.{store_less}

-- the list with the removed heads taken out and the body put in
pub fired : (r : Rule) (heads xs ys zs body gone : List Atom) → HasInstance r heads
    → IsWithin (store_of heads) (store_of xs)
    → ((q : Atom) → count_in atom_cmp q xs ≡ count_in atom_cmp q ys + count_in atom_cmp q gone)
    → gone ≡ drop (length r.kept.items) heads
    → ((v : Valuation) → heads_at v r ≡ heads → body ≡ atoms_at v r.body.items) → zs ≡ ys ++ body
    → StepOn r heads (store_of xs) (store_of zs)
fired r heads xs ys zs body gone h w counts e made f =
    let v = h.0 in
    let left : store_of ys ≡ store_of xs ⊖ store_of (atoms_at v r.removed.items) = store_less xs ys gone counts
    ∙ ap (λ as'. store_of xs ⊖ store_of as') (e ∙ removed_heads r heads v h.1) in
    let came : store_of zs ≡ store_of ys ⊕ store_of (atoms_at v r.body.items) = ap store_of f ∙ store_of-append ys body
    ∙ ap (λ as'. store_of ys ⊕ store_of as') (made v h.1) in (
      v,
      h.1,
      record {
        guard = h.2;
        there = rw h.1 w;
        after =
            came ∙ ap (λ s. s ⊕ store_of (atoms_at v r.body.items)) left;
      },
    )
