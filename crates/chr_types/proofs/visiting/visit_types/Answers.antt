use Rattle.std.proofs.Common.{sym, subst, List, []}
use Rattle.chr_types.specs.Representatives.{AreTypes}
use Rattle.chr_types.specs.working.Search.{lists_over, AreCandidates}
use Rattle.chr_types.specs.Visits.{Visited}
use Rattle.chr_types.specs.declared.search.Candidate.{Candidate}
use Rattle.chr_types.proofs.Passing.{walked_passes}
use Rattle.chr_types.proofs.Theorem.{lists_are}
use Rattle.chr_types.proofs.Walking.{ok_then}
use Rattle.chr_types.proofs.visiting.visit_types.Goals as goal

pub returns : goal.returns
returns g c =
    let cs = c.args.constants.now in
    let ks = c.deref.result.now in
    let n = c.args.classes in
    let t = g.T.Beginnings.admits c.args.wanted.now in
    let are : AreTypes n cs (lists_over ks n [] []) = lists_are n cs ks c.requires.few c.requires.rising
    c.in_ok-candidates.ensures.values (subst (λ (ps : List Candidate). AreCandidates n cs ps)
    (sym c.deref.ensures.value) c.in_ok-candidates.ensures.candidates) in
    let begun = rw c.new-prefix.ensures.items at c.walk.ensures.visited in
    record {
      ready = c.walk.ensures.ready;
      visited = ok_then c.walk.result _ _
          (λ b v. (
            lists_over ks n [] [],
            are,
            subst (λ rs. Visited g.V.Visit.step c.args.visitor.now rs b
                c.walk.new.visitor) (walked_passes t ks n [] []) v,
          )) begun;
    }
