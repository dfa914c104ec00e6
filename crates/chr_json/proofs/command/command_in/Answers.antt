use Rattle.std.proofs.Common.{◌≡◌, length, map, Some, option_map, arith, ◌∙◌, sym, ap}
use Rattle.std.proofs.lemmas.List.{length-map}
use Rattle.serde_json.specs.View.{view as data_of}
use Rattle.chr_json.specs.Values.{elements}
use Rattle.chr_json.proofs.CommandParts.{of_others}
use Rattle.chr_json.proofs.command.command_in.Goals.{then-values-lt2, else-values-lt2+else-values-lt3}
use Rattle.chr_json.proofs.command.command_in.Goals.{then-values-lt3-2, else-values-lt3-2+else-values-lt4}
use Rattle.chr_json.proofs.command.command_in.Goals.{in_default-values-3-via-then-values-lt4-2}
use Rattle.chr_json.proofs.command.command_in.Goals.{in_default-values-3-via-else-values-lt4-2+else-values-lt5}
use Rattle.chr_json.proofs.command.command_in.Goals as goal

pub returns-in_default-values-3-clause-read : goal.returns-in_default-values-3-clause-read
returns-in_default-values-3-clause-read c =
    let there : elements (data_of c.args.value.now) ≡ Some (map data_of c.in-Some.values.now) = sym c.elements.ensures
    ∙ ap (λ o. option_map (λ s. map data_of s.now) o) c.in-Some.is in
    let count : length (map data_of c.in-Some.values.now) ≡ length c.in-Some.values.now =
    length-map c.in-Some.values.now data_of in
    of_others (data_of c.args.value.now) (map data_of c.in-Some.values.now) there
    (λ two. elim c.if-values-lt2.branch [
      | then-values-lt2 w ↦ grind
          (arith, count, two, w)
      | else-values-lt2+else-values-lt3 w ↦ grind (arith, count, two, w)
    ])
    (λ three. elim c.if-values-lt3-2.branch [
      | then-values-lt3-2 w ↦ grind
          (arith, count, three, w)
      | else-values-lt3-2+else-values-lt4 w ↦ grind (arith, count, three, w)
    ])
    (λ four. elim c.in_default-values-3.branch [
      | in_default-values-3-via-then-values-lt4-2 w ↦ grind
          (arith, count, four, w)
      | in_default-values-3-via-else-values-lt4-2+else-values-lt5 w ↦ grind
          (arith, count, four, w)
    ])
