use Rattle.std.proofs.Common.{◌≡◌, ◌<◌, ◌∙◌, ap, sym, subst, List, ℕ, length, get_or, map, []}
use Rattle.std.specs.List.{All, flat_map}
use Rattle.chr_base.specs.Programs.{rules_of}
use Rattle.chr_overlaps.specs.working.Gathering.{AreConstantsIn}
use Rattle.chr_sorting.specs.declared.kind.Kind.TheVariants.{Free}
use Rattle.chr_sorting.specs.declared.notes.Note.{Note}
use Rattle.chr_sorting.specs.FinestSorts.{sort_in, kind_of}
use Rattle.chr_sorting.specs.working.Notes.{IsBelow, Joins, IsLeastKind, terms_at, rule_notes}
use Rattle.chr_sorting.proofs.Finest.{are_finest}
use Rattle.chr_sorting.proofs.sorting.finest_sorts.Goals as goal

pub returns : goal.returns
returns c =
    let notes = c.in_ok-notes.notes.items in
    let sorts = c.in_ok-sorts.sorts.items in
    let all : notes ≡ flat_map rule_notes (rules_of c.args.program.now) = c.in_ok-notes.ensures
    ∙ ap (flat_map rule_notes) c.rules.ensures in
    let size : length sorts ≡ c.bound.result = c.in_ok-sorts.ensures.len in
    let below : All (IsBelow (length sorts)) notes =
    subst (λ (n : ℕ). All (IsBelow n) notes) (sym size)
    (subst (λ (ns : List Note). All (IsBelow c.bound.result) ns) c.deref-2.ensures.value c.bound.ensures) in
    let joins : Joins notes sorts = subst (λ (ns : List Note). Joins ns sorts) c.deref.ensures.value
    c.in_ok-sorts.ensures.joins in
    let kinds : (n : ℕ) → n < length sorts → IsLeastKind notes (sort_in sorts) n
    (kind_of (get_or c.in_ok-kinds.kinds.items n Free)) =
    subst (λ (p : List Note × List ℕ). (n : ℕ) → n < length p.1
    → IsLeastKind p.0 (sort_in p.1) n (kind_of (get_or c.in_ok-kinds.kinds.items n Free)))
    (λ i. (c.deref-3.ensures.value i, c.deref-4.ensures.value i)) c.in_ok-kinds.ensures.each in
    let constants : (n : ℕ) → n < length sorts → AreConstantsIn (terms_at (sort_in sorts) n notes)
    (get_or (map (λ cs. cs.items) c.in_ok-constants.constants.items) n []) =
    subst (λ (p : List Note × List ℕ). (n : ℕ) → n < length p.1 → AreConstantsIn (terms_at (sort_in p.1) n p.0)
    (get_or (map (λ cs. cs.items) c.in_ok-constants.constants.items) n []))
    (λ i. (c.deref-5.ensures.value i, c.deref-6.ensures.value i)) c.in_ok-constants.ensures.each in
    are_finest c.args.program.now (record {
      sorts = c.in_ok-sorts.sorts;
      kinds = c.in_ok-kinds.kinds;
      constants =
          c.in_ok-constants.constants;
    }) notes all joins below
    (c.in_ok-kinds.ensures.len ∙ ap length c.deref-4.ensures.value) kinds
    (c.in_ok-constants.ensures.len ∙ ap length c.deref-6.ensures.value) constants
