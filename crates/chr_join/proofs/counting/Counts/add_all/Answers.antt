use Rattle.std.proofs.Common.{◌≡◌, ◌<◌, ◌++◌, ◌∷◌, [], List, Some, length, refl, sym, ap, subst, ◌∙◌, append_assoc}
use Rattle.std.proofs.Common.{append-nil, slice_get}
use Rattle.std.specs.List.{AllZip}
use Rattle.std.proofs.lemmas.Bool.{ltb-true}
use Rattle.std.proofs.lemmas.List.Elements.{All-append, All-cons, All-nil}
use Rattle.std.proofs.lemmas.Option.{slice_get_read}
use Rattle.chr_overlaps.specs.declared.unify.Unified.{Unified}
use Rattle.chr_join.specs.declared.counting.Count.{Count}
use Rattle.chr_join.specs.working.Counting.{AreCounts, IsCounted, IsCountIfThere}
use Rattle.chr_join.proofs.Lists.{beside_next}
use Rattle.chr_join.proofs.counting.Counts.add_all.Goals as goal
use Rattle.chr_join.proofs.counting.Counts.add_all.Goals.{then-len-ge-MOST_COUNTS, else-len-ge-MOST_COUNTS}

pub loop-unified-init : goal.loop-unified-init
loop-unified-init g c = record {
  known = elim c.if-len-ge-MOST_COUNTS.branch [
    | then-len-ge-MOST_COUNTS w ↦ rw w.self-is (subst (AreCounts c.args.constants.now) (sym w.clear.ensures.items)
        (All-nil (IsCounted c.args.constants.now)))
    | else-len-ge-MOST_COUNTS w ↦ rw w.self-is c.requires.known
  ];
  rest = ([], sym (append-nil c.args.guards.items));
}

-- the guards that are left, and behind them those that were looked at
popped : (all old new after : List Unified) (u : Unified) → old ≡ new ++ u ∷ [] → all ≡ old ++ after → all ≡ new ++ u
    ∷ after
popped all old new after u last is = is ∙ ap (λ us. us ++ after) last ∙ append_assoc new (u ∷ []) after

pub loop-unified-preserved-in-Some-get-2 : goal.loop-unified-preserved-in-Some-get-2
loop-unified-preserved-in-Some-get-2 g c =
    let is = IsCounted c.args.constants.now in
    let rest = c.loop-unified.invariant.rest in
    let left = c.pop.new.self.items in
    let all = popped c.args.guards.items c.loop-unified.guards.items left rest.0 c.in-Some.unified
    c.in-Some.ensures.items rest.1 in
    let within : c.len-in-Some.result < length c.deref-in-Some.result.now =
    ltb-true _ _ (sym c.in-Some-Some.ensures.lookup.0) in
    let here : slice_get c.deref-in-Some.result.now c.len-in-Some.result ≡ Some c.in-Some-Some.field-0.now =
    slice_get_read _ _ c.len-in-Some.result c.in-Some-Some.field-0.now refl within
    c.in-Some-Some.ensures.lookup.1 in
    let there : slice_get c.in_ok-numbers.numbers.items (length left) ≡ Some (Some c.in-Some-Some.number) =
    ap (λ i. slice_get c.in_ok-numbers.numbers.items i) (sym (c.len-in-Some.ensures ∙ c.pop.new.self.ok.0))
    ∙ ap (λ xs. slice_get xs c.len-in-Some.result) (sym c.deref-in-Some.ensures.value) ∙ here
    ∙ ap Some c.in-Some-Some.field-0-is
    in
    let zipped = subst (λ us. AllZip (IsCountIfThere c.args.constants.now) us c.in_ok-numbers.numbers.items)
    (c.deref-2.ensures.value ∙ all) c.in_ok-numbers.ensures in
    let counted = beside_next (IsCountIfThere c.args.constants.now) left c.in-Some.unified rest.0
    c.in_ok-numbers.numbers.items (Some c.in-Some-Some.number) zipped there in
    let entry : Count = record { unified = c.in-Some.unified; number = c.in-Some-Some.number } in
    record {
      known = subst (AreCounts c.args.constants.now) (sym c.in_ok-push.ensures.items)
          (All-append is c.loop-unified.self.entries.items (entry ∷ []) c.loop-unified.invariant.known
          (All-cons is entry [] counted (All-nil is)));
      rest = (c.in-Some.unified ∷ rest.0, all);
    }
