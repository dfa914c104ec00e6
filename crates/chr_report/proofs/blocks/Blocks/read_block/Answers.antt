use Rattle.std.proofs.Common.{rules, refl, sym, ap, subst, ◌∙◌, ◌≡◌, All, [], ◌∷◌, ◌++◌, drop}
use Rattle.std.proofs.lemmas.List.{take-append-drop}
use Rattle.std.proofs.lemmas.List.Elements.{All-push}
use Rattle.chr_device.specs.Devices.{ReadsOn, inner_of}
use Rattle.chr_report.specs.declared.block.Block.{Block}
use Rattle.chr_answers.specs.Lines.{AreWholeLines}
use Rattle.chr_report.specs.working.BlockLines.{lines_of}
use Rattle.chr_report.specs.working.Blocks.{blocks_of, left_of, lines_of_all}
use Rattle.chr_report.proofs.InBlocks.{left_after}
use Rattle.chr_report.proofs.blocks.Blocks.read_block.Goals as goal

pub returns-clause-read : goal.returns-clause-read
returns-clause-read g c =
    let s = c.args.self.now in
    let from = g.D.Read.remaining (inner_of c.args.reader.now) in
    let to = g.D.Read.remaining (inner_of c.read_after.new.reader) in
    let block = c.of-block.result in
    let whole = λ (b : Block). AreWholeLines (lines_of b) in
    let next = c.extend_from_slice.new.self.items in
    let begun : next ≡ drop block.whole block.bytes.items = search rules in
    let cut = ap (λ b. lines_of block ++ b) begun ∙ take-append-drop block.whole block.bytes.items
    ∙ ap (λ v. v.items) c.of-block.ensures.bytes in
    let all = c.in_ok-push_last.ensures ∙ ap (λ b. blocks_of s ++ b ∷ []) c.in_ok-block.ensures in
    let read = subst (λ l. ReadsOn from to l c.read_after.new.room.items) c.deref.ensures.value
    c.in_ok-self.ensures.read in
    record {
      at = refl;
      read = subst (λ bs. ReadsOn from to (left_of s) (lines_of_all bs ++ next)) (sym all)
          (left_after from to (blocks_of s) block s.begun.items c.read_after.new.room.items next read cut);
      whole = λ w. subst (All whole) (sym all) (All-push whole (blocks_of s) block w c.of-block.ensures.lines);
      end = λ _. c.in_ok-self.ensures.end;
    }
