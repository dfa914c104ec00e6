-- What a node holds, call by call.
use Rattle.std.specs.Prelude.{◌≡◌, ◌≢◌, ℕ, ◌+◌, List, [], ◌∷◌, ◌++◌, All, Result, Ok, Err, IfErr}
use Rattle.std.proofs.Common.{refl, sym, ap, subst, ◌∙◌, inl, inr, arith, append_assoc}
use Rattle.std.specs.List.{Contains}
use Rattle.std.proofs.lemmas.List.{append-nil}
use Rattle.std.proofs.lemmas.List.Elements.{All-contains, Contains-append_cases}
use Rattle.sqlite_disk.specs.Disk.{Only}
use Rattle.std.specs.FinMap as map
use Rattle.chr_base.specs.declared.program.Program.{Program}
use Rattle.chr_base.specs.ProgramTests.{Declaration}
use Rattle.chr_base.specs.Programs.{declarations}
use Rattle.chr_ops.specs.Operations.{Operation, Operations, IsHeld}
use Rattle.chr_ops.specs.Joins.{union, HasNoClash}
use Rattle.chr_records.specs.Records.{records_of}
use Rattle.chr_feeds.specs.declared.feed.Feed.{Feed}
use Rattle.chr_node_laws.specs.Folders.{told_by, told_in, HoldsJust}
use Rattle.chr_node_laws.proofs.Members.{none_in_nil, first, later}
use Rattle.chr_node_laws.proofs.Growing.{holds_alike, alike_of, none_held, held_inserted, told_one, merged, third_first}
use Rattle.chr_node_laws.proofs.Growing.{one_waits, committed, held_before, held_in_union, inserted_held}
use Rattle.chr_node_records.specs.Texts.{operations_in}
use Rattle.chr_node.specs.Nodes.{AreHeldIn, AreNumberedUpTo, AreToldBy, HoldsFiles, Keeps, KeepsOwn, Owns}
use Rattle.chr_node.specs.Nodes.{IsNode, IsOwner}
use Rattle.chr_node.specs.declared.node.Node.{Node}
use Rattle.chr_node.specs.declared.fault.Refusal.{Refusal}
use Rattle.chr_node.specs.declared.fault.Refusal.TheVariants as refusal
use Rattle.chr_node.specs.Refusals.{HolderRefuses, NodeRefuses}
use Rattle.chr_node.specs.working.Staged.{AddsRecord, StageRefuses, TakesIn}

-- the same set for the same declarations holds the same files
pub same_held : (m n : Operations) (ds es : List Declaration) (feed waiting next : List ℕ) (others : List (List ℕ))
    (origin last : ℕ) → n ≡ m → es ≡ ds → next ≡ waiting → HoldsFiles m ds feed waiting others origin last
    → HoldsFiles n es feed next others origin last
same_held m n ds es feed waiting next others origin last same declared waits node =
    subst (λ (k : Operations). HoldsFiles k es feed next others origin last) (sym same)
    (subst (λ (fs : List Declaration). HoldsFiles m fs feed next others origin last) (sym declared)
    (subst (λ (w : List ℕ). HoldsFiles m ds feed w others origin last) (sym waits) node))

-- a new operation of the next id, and its record
pub told : (m n : Operations) (ds es : List Declaration) (feed waiting next : List ℕ) (others : List (List ℕ))
    (origin last latest : ℕ) (o : Operation) → es ≡ ds → TakesIn m o n → AddsRecord ds o waiting next
    → o.0.origin ≡ origin → o.0.number ≡ last + 1 → latest ≡ o.0.number
    → HoldsFiles m ds feed waiting others origin last → HoldsFiles n es feed next others origin latest
told m n ds es feed waiting next others origin last latest o declared takes adds own number is_latest node =
    let f = operations_in ds in
    let a = told_by f (records_of feed) in
    let d = told_in f others in
    let alike = one_waits f a d (records_of waiting) (records_of next) adds.text o adds.added adds.read in
    let numbered : AreNumberedUpTo (map.insert m o.0 o.1) origin latest =
    λ x held own_x. elim (held_inserted m o x held) [
      | inl before ↦ let below = node.numbered x before own_x in omega (arith, below)
      | inr is ↦
          let same : o.0.number ≡ x.0.number = ap (λ (y : Operation). y.0.number) is in omega (arith, same)
    ] in
    let holds : HoldsFiles (map.insert m o.0 o.1) ds feed next others origin latest = record {
      held =
          told_one m o (told_in f (feed ∷ waiting ∷ others)) (told_in f (feed ∷ next ∷ others)) takes.0 node.held
          alike;
      waiting_whole = adds.whole;
      numbered = numbered;
    } in
    same_held (map.insert m o.0 o.1) n ds es feed next next others origin latest takes.1 declared refl holds

-- the records that waited are in the feed
pub written : (m : Operations) (ds : List Declaration) (feed waiting new none : List ℕ) (others : List (List ℕ))
    (origin last : ℕ) → none ≡ [] → records_of new ≡ records_of feed ++ records_of waiting
    → HoldsFiles m ds feed waiting others origin last → HoldsFiles m ds new none others origin last
written m ds feed waiting new none others origin last is more node =
    let f = operations_in ds in
    let same = committed f (records_of feed) (records_of waiting) (records_of new) (told_in f others) more in
    let holds : HoldsFiles m ds new [] others origin last = record {
      held =
          holds_alike m (told_in f (feed ∷ waiting ∷ others)) (told_in f (new ∷ [] ∷ others))
          (alike_of (told_in f (feed ∷ waiting ∷ others)) (told_in f (new ∷ [] ∷ others)) same) node.held;
      waiting_whole = refl;
      numbered = node.numbered;
    } in
    same_held m m ds ds new [] none others origin last refl refl is holds

-- a file is taken in
pub taken : (m n : Operations) (ds es : List Declaration) (feed waiting file : List ℕ) (others : List (List ℕ))
    (origin last : ℕ) (os : List Operation) → es ≡ ds → HasNoClash m os → n ≡ union m os
    → os ≡ told_by (operations_in ds) (records_of file) → All (λ o. o.0.origin ≢ origin) os
    → HoldsFiles m ds feed waiting others origin last → HoldsFiles n es feed waiting (file ∷ others) origin last
taken m n ds es feed waiting file others origin last os declared clear after are foreign node =
    let f = operations_in ds in
    let a = told_by f (records_of feed) in
    let b = told_by f (records_of waiting) in
    let d = told_in f others in
    let before = told_in f (feed ∷ waiting ∷ others) in
    let all : HoldsJust (union m os) (os ++ before) = merged m os before clear node.held in
    let moved : HoldsJust (union m os) (a ++ (b ++ (os ++ d))) =
    holds_alike (union m os) (os ++ before) (a ++ (b ++ (os ++ d))) (third_first a b os d) all in
    let numbered : AreNumberedUpTo (union m os) origin last =
    λ x held own. elim (Contains-append_cases os before x ((all x).0 held)) [
      | inl new_one ↦ absurd (All-contains (λ o. o.0.origin ≢ origin) os x foreign new_one own)
      | inr old_one ↦ node.numbered x ((node.held x).1 old_one) own
    ] in
    let holds : HoldsFiles (union m os) ds feed waiting (file ∷ others) origin last = record {
      held = subst (λ (c : List Operation). HoldsJust (union m os) (a ++ (b ++ (c ++ d)))) are moved;
      waiting_whole = node.waiting_whole;
      numbered = numbered;
    } in
    same_held (union m os) n ds es feed waiting waiting (file ∷ others) origin last after declared refl holds

-- a node that was told nothing
pub opened : (m : Operations) (ds : List Declaration) (feed waiting : List ℕ) (origin last : ℕ) → m ≡ map.empty
    → records_of feed ≡ [] → waiting ≡ [] → HoldsFiles m ds feed waiting [] origin last
opened m ds feed waiting origin last is none empty =
    let f = operations_in ds in
    let nothing : told_in f (feed ∷ [] ∷ []) ≡ [] = ap (λ (ts : List (List ℕ)). told_by f ts ++ []) none in
    let holds : HoldsJust map.empty [] =
    λ o. ((λ held. absurd (none_held o held)), (λ there. absurd (none_in_nil o there))) in
    let all : HoldsFiles map.empty ds feed [] [] origin last = record {
      held = subst (λ (os : List Operation). HoldsJust map.empty os) (sym nothing) holds;
      waiting_whole = refl;
      numbered = λ o held own. absurd (none_held o held);
    } in
    same_held map.empty m ds ds feed [] waiting [] origin last is refl empty all

-- ---- what a node owns

-- the same set for the same declarations owns the same
pub same_owned : (m n : Operations) (ds es : List Declaration) (feed waiting next : List ℕ) (origin : ℕ) → n ≡ m
    → es ≡ ds → next ≡ waiting → Owns m ds feed waiting origin → Owns n es feed next origin
same_owned m n ds es feed waiting next origin same declared waits owns =
    subst (λ (k : Operations). Owns k es feed next origin) (sym same)
    (subst (λ (fs : List Declaration). Owns m fs feed next origin) (sym declared)
    (subst (λ (w : List ℕ). Owns m ds feed w origin) (sym waits) owns))

-- a new operation, and its record
pub owned_told : (m n : Operations) (ds es : List Declaration) (feed waiting next : List ℕ) (origin : ℕ)
    (o : Operation) → es ≡ ds → TakesIn m o n → AddsRecord ds o waiting next → Owns m ds feed waiting origin
    → Owns n es feed next origin
owned_told m n ds es feed waiting next origin o declared takes adds owns =
    let f = operations_in ds in
    let before = told_in f (feed ∷ waiting ∷ []) in
    let after = told_in f (feed ∷ next ∷ []) in
    let alike =
    one_waits f (told_by f (records_of feed)) [] (records_of waiting) (records_of next) adds.text o adds.added adds.read
    in
    let told_all : AreToldBy (map.insert m o.0 o.1) ds (feed ∷ next ∷ []) origin =
    λ x held own. elim (held_inserted m o x held) [
      | inl earlier ↦ (alike x).0 (later o before x (owns.told x earlier own))
      | inr is ↦ subst (λ (y : Operation). Contains after y) is ((alike o).0 (first o before))
    ] in
    let all : Owns (map.insert m o.0 o.1) ds feed next origin = record { whole = adds.whole; told = told_all } in
    same_owned (map.insert m o.0 o.1) n ds es feed next next origin takes.1 declared refl all

-- the records that waited are in the feed
pub owned_written : (m : Operations) (ds : List Declaration) (feed waiting new none : List ℕ) (origin : ℕ)
    → none ≡ [] → records_of new ≡ records_of feed ++ records_of waiting → Owns m ds feed waiting origin
    → Owns m ds new none origin
owned_written m ds feed waiting new none origin is more owns =
    let same = committed (operations_in ds) (records_of feed) (records_of waiting) (records_of new) [] more in
    let all : Owns m ds new [] origin = record {
      whole = refl;
      told = λ o held own. subst (λ (os : List Operation). Contains os o) same (owns.told o held own);
    } in
    same_owned m m ds ds new [] none origin refl refl is all

-- operations of other origins are taken in
pub owned_taken : (m n : Operations) (ds es : List Declaration) (feed waiting : List ℕ) (origin : ℕ)
    (os : List Operation) → es ≡ ds → n ≡ union m os → All (λ o. o.0.origin ≢ origin) os
    → Owns m ds feed waiting origin → Owns n es feed waiting origin
owned_taken m n ds es feed waiting origin os declared after foreign owns =
    let told_all : AreToldBy (union m os) ds (feed ∷ waiting ∷ []) origin =
    λ o held own. elim (held_in_union m os o held) [
      | inl before ↦ owns.told o before own
      | inr new ↦ absurd (All-contains (λ o. o.0.origin ≢ origin) os o foreign new own)
    ] in
    let all : Owns (union m os) ds feed waiting origin = record { whole = owns.whole; told = told_all } in
    same_owned (union m os) n ds es feed waiting waiting origin after declared refl all

-- what was held is held in the union
pub union_grows : (m n : Operations) (os : List Operation) → n ≡ union m os → AreHeldIn m n
union_grows m n os is = λ o held. subst (λ (k : Operations). IsHeld k o) (sym is) (held_before m os o held)

-- a node that was told nothing
pub owned_opened : (m : Operations) (ds : List Declaration) (feed waiting : List ℕ) (origin : ℕ) → m ≡ map.empty
    → waiting ≡ [] → Owns m ds feed waiting origin
owned_opened m ds feed waiting origin is empty =
    let all : Owns map.empty ds feed [] origin = record {
      whole = refl;
      told = λ o held own. absurd (none_held o held);
    } in
    same_owned map.empty m ds ds feed [] waiting origin is refl empty all

-- Where nothing waits and each crash leaves the feed, whatever a crash leaves has each operation of the origin.
pub own_kept : (m : Operations) (ds : List Declaration) (feed waiting : List ℕ) (origin : ℕ)
    (outcomes : List ℕ → Type 0) → waiting ≡ [] → Only feed outcomes → Owns m ds feed waiting origin
    → KeepsOwn outcomes ds m origin
own_kept m ds feed waiting origin outcomes none only owns = λ o held own file left.
    let f = operations_in ds in
    let none_waits : told_in f (feed ∷ waiting ∷ []) ≡ told_by f (records_of feed) =
    ap (λ (w : List ℕ). told_in f (feed ∷ w ∷ [])) none ∙ append-nil (told_by f (records_of feed)) in
    let there : Contains (told_by f (records_of feed)) o =
    subst (λ (os : List Operation). Contains os o) none_waits (owns.told o held own) in
    subst (λ (c : List ℕ). Contains (told_by f (records_of c)) o) (sym (only file left)) there

-- ---- what calls keep

-- a set that holds what another one holds, by an equation
pub same_grows : (m n : Operations) → n ≡ m → AreHeldIn m n
same_grows m n is = λ o held. subst (λ (k : Operations). IsHeld k o) (sym is) held

-- a new operation is told
pub told_grows : (m n : Operations) (o : Operation) → TakesIn m o n → AreHeldIn m n
told_grows m n o takes = λ x held.
    subst (λ (k : Operations). IsHeld k x) (sym takes.1) (inserted_held m o x takes.0 (inl held))

module _ {D H : Type 0} (seen : D → List ℕ) (operations : H → Operations) (program : H → Program) where
  -- a node of equal parts is a node of the same files
  pub alike_node : (old new : Node D H) (others : List (List ℕ)) → operations new.holder ≡ operations old.holder
      → program new.holder ≡ program old.holder → new.feed ≡ old.feed → new.waiting.items ≡ old.waiting.items
      → new.origin ≡ old.origin → new.last ≡ old.last → IsNode seen operations program others old
      → IsNode seen operations program others new
  alike_node old new others same declared feeds waits origins lasts node =
      subst (λ (n : ℕ). HoldsFiles (operations new.holder) (declarations (program new.holder)) (seen new.feed.disk)
      new.waiting.items others new.origin n) (sym lasts)
      (subst (λ (n : ℕ). HoldsFiles (operations new.holder) (declarations (program new.holder)) (seen new.feed.disk)
      new.waiting.items others n old.last) (sym origins)
      (subst (λ (f : Feed D). HoldsFiles (operations new.holder) (declarations (program new.holder)) (seen f.disk)
      new.waiting.items others old.origin old.last) (sym feeds)
      (same_held (operations old.holder) (operations new.holder) (declarations (program old.holder))
      (declarations (program new.holder)) (seen old.feed.disk) old.waiting.items new.waiting.items others old.origin
      old.last same (ap declarations declared) waits node)))

  pub alike_owner : (old new : Node D H) → operations new.holder ≡ operations old.holder
      → program new.holder ≡ program old.holder → new.feed ≡ old.feed → new.waiting.items ≡ old.waiting.items
      → new.origin ≡ old.origin → IsOwner seen operations program old → IsOwner seen operations program new
  alike_owner old new same declared feeds waits origins owns =
      subst (λ (n : ℕ). Owns (operations new.holder) (declarations (program new.holder)) (seen new.feed.disk)
      new.waiting.items n) (sym origins)
      (subst (λ (f : Feed D). Owns (operations new.holder) (declarations (program new.holder)) (seen f.disk)
      new.waiting.items old.origin) (sym feeds)
      (same_owned (operations old.holder) (operations new.holder) (declarations (program old.holder))
      (declarations (program new.holder)) (seen old.feed.disk) old.waiting.items new.waiting.items old.origin
      same (ap declarations declared) waits owns))

  -- a node of equal parts is kept
  pub keeps_alike : (clean : Type 0) (old new : Node D H) → operations new.holder ≡ operations old.holder
      → program new.holder ≡ program old.holder → new.feed ≡ old.feed → new.waiting.items ≡ old.waiting.items
      → new.origin ≡ old.origin → new.last ≡ old.last → Keeps seen operations program clean old new
  keeps_alike clean old new same declared feeds waits origins lasts = record {
    grows = same_grows (operations old.holder) (operations new.holder) same;
    files = λ _ others node. ([], alike_node old new others same declared feeds waits origins lasts node);
    owner = λ owns. alike_owner old new same declared feeds waits origins owns;
    same_program = declared;
    same_origin = origins;
  }

  -- one call after another
  pub keeps_then : (clean later : Type 0) (a b c : Node D H) → (later → clean)
      → Keeps seen operations program clean a b → Keeps seen operations program later b c
      → Keeps seen operations program later a c
  keeps_then clean later a b c before first second = record {
    grows = λ o held. second.grows o (first.grows o held);
    files = λ is others node.
        let one = first.files (before is) others node in
        let two = second.files is (one.0 ++ others) one.1 in (
          two.0 ++ one.0,
          subst (λ (l : List (List ℕ)). IsNode seen operations program l c) (sym (append_assoc two.0 one.0 others))
              two.1,
        );
    owner = λ owns. second.owner (first.owner owns);
    same_program = second.same_program ∙ first.same_program;
    same_origin = second.same_origin ∙ first.same_origin;
  }

-- ---- refusals

pub if_err : {A E : Type 0} (P Q : E → Type 0) (r : Result A E) → ((e : E) → P e → Q e) → IfErr r P → IfErr r Q
if_err P Q (Ok x) f h = tt
if_err P Q (Err e) f h = f e h

-- what a holder refuses is not staged
pub refused_staged : (p : Program) (m : Operations) (o : Operation) (e : Refusal) → HolderRefuses p m o e
    → StageRefuses p m o e
refused_staged p m o refusal.NoText h = tt
refused_staged p m o refusal.UnknownSymbol h = h
refused_staged p m o (refusal.Clash id) h = h
refused_staged p m o refusal.Full h = h
refused_staged p m o refusal.NotNext h = h
refused_staged p m o refusal.Memory h = h

-- and what is not staged a node refuses
pub staged_refused : (p : Program) (m : Operations) (origin last : ℕ) (o : Operation) (e : Refusal)
    → StageRefuses p m o e → NodeRefuses p m origin last o e
staged_refused p m origin last o refusal.NoText h = tt
staged_refused p m origin last o refusal.UnknownSymbol h = h
staged_refused p m origin last o (refusal.Clash id) h = h
staged_refused p m origin last o refusal.Full h = h
staged_refused p m origin last o refusal.NotNext h = absurd h
staged_refused p m origin last o refusal.Memory h = h
