use Rattle.std.proofs.Common.{◌≡◌, length, map, ap, ◌∙◌, arith}
use Rattle.std.proofs.lemmas.List.{take_all, length-map}
use Rattle.chr_confluence.specs.working.Solving.{put_term}
use Rattle.chr_overlaps.proofs.Tabled.{puts_below}
use Rattle.chr_overlaps.proofs.classes.Classes.put.Goals as goal

pub invariant_of-self : goal.invariant_of-self
invariant_of-self c =
    let ts = c.args.self.now.terms.items in
    let f = put_term c.args.variable c.args.term in
    let all : c.loop-class.terms.items ≡ map f ts = c.loop-class.invariant
    ∙ ap (map f) (take_all _ _ (omega arith) ∙ c.as_slice-class-items.ensures.value) in
    let n : length c.loop-class.terms.items ≡ length ts = ap length all ∙ length-map ts f in
    record {
      few = (let g = c.args.self.now.few in omega (arith, n, g));
      below = rw (n, all) (puts_below (length ts) c.args.variable c.args.term ts c.requires.term c.args.self.now.below);
    }
