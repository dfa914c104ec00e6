use Rattle.std.proofs.Common.{◌≡◌, [], ◌∷◌, ◌++◌, List, ℕ, Vec, Global, sym, ◌∙◌, ap, append_assoc}
use Rattle.std.proofs.lemmas.List.{map-append}
use Rattle.chr_records.proofs.Scans.{bytes_of-push}
use Rattle.chr_records.specs.Records.{bytes_of, records_of}
use Rattle.chr_records.specs.Records.{texts_in}
use Rattle.chr_records.proofs.reading.read_records.Goals as goal

one_more : (old : List (Vec ℕ Global)) (new : List (Vec ℕ Global)) (v : Vec ℕ Global) (text : List ℕ)
    → new ≡ old ++ v ∷ [] → v.items ≡ text → texts_in new ≡ texts_in old ++ text ∷ []
one_more old new v text is holds =
    ap texts_in is ∙ map-append (λ (w : Vec ℕ Global). w.items) old (v ∷ [])
    ∙ ap (λ (t : List ℕ). texts_in old ++ t ∷ []) holds

pub loop-text-preserved : goal.loop-text-preserved
loop-text-preserved c =
    let old = texts_in c.loop-text.texts.items in
    let text = c.in-Some.text.now in
    let behind = c.in-Some.behind.now in
    let first = c.in-Some.ensures in
    let copied = c.in_ok-to_vec.ensures.items_if_clones_equal (λ x y is. is) in
    let before = c.loop-text.texts.items in
    let new =
    one_more before c.push.new.self.items c.in_ok-to_vec.field-0 text c.in_ok-push.ensures.items copied in
    record {
      read =
          c.loop-text.invariant.read
          ∙ ap (λ (l : List (List ℕ)). old ++ l) first.2
          ∙ sym (append_assoc old (text ∷ []) (records_of behind))
          ∙ ap (λ (l : List (List ℕ)). l ++ records_of behind) (sym new);
      split =
          c.loop-text.invariant.split
          ∙ ap (λ (l : List ℕ). bytes_of old ++ l) first.0
          ∙ sym (bytes_of-push old text behind)
          ∙ ap (λ (l : List (List ℕ)). bytes_of l ++ behind) (sym new);
    }
