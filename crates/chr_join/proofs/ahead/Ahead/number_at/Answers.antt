use Rattle.std.proofs.Common.{◌≡◌, ◌+◌, ◌-◌, ◌<◌, Some, drop, get_or, length, slice_get, refl, sym, ap, ◌∙◌, arith}
use Rattle.std.proofs.lemmas.Bool.{ltb-true}
use Rattle.std.proofs.lemmas.List.{get_or-drop}
use Rattle.std.proofs.lemmas.Option.{slice_get_read}
use Rattle.chr_join.specs.working.Checking.{IsNumberOf}
use Rattle.chr_join.proofs.Lists.{beside}
use Rattle.chr_join.proofs.ahead.Ahead.number_at.Goals as goal

pub returns-in-Some-Some : goal.returns-in-Some-Some
returns-in-Some-Some c coverage rules os o are at =
    let a = c.args.self.now in
    let i = c.args.place - a.start in
    let from = c.if-place-self.false in
    let place : a.start + i ≡ c.args.place = omega (arith, from) in
    let within : i < length c.deref.result.now = ltb-true _ _ (sym c.in-Some-Some.ensures.lookup.0) in
    let here : slice_get c.deref.result.now i ≡ Some c.in-Some-Some.field-0.now =
    slice_get_read _ _ i c.in-Some-Some.field-0.now refl within c.in-Some-Some.ensures.lookup.1 in
    let there : slice_get a.numbers.items i ≡ Some (Some c.in-Some-Some.number) =
    ap (λ xs. slice_get xs i) (sym c.deref.ensures.value) ∙ here ∙ ap Some c.in-Some-Some.field-0-is in
    beside (IsNumberOf coverage rules) are.0 (drop a.start os) a.numbers.items i o (Some c.in-Some-Some.number) are.1
    (at ∙ ap (λ k. get_or os k o) (sym place) ∙ sym (get_or-drop a.start os i o)) there
