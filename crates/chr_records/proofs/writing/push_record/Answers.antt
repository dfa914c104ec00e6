use Rattle.std.proofs.Common.{◌≡◌, ◌∙◌, ◌++◌, ◌∷◌, [], List, ℕ, ap, append_assoc, rules}
use Rattle.chr_records.specs.Records.{record_bytes}
use Rattle.chr_records.proofs.Scans.{whole_more}
use Rattle.chr_records.proofs.writing.push_record.Goals as goal

joined : (old a b new text : List ℕ) → a ≡ old ++ 61 ∷ [] → b ≡ a ++ text → new ≡ b ++ 10 ∷ []
    → new ≡ old ++ record_bytes text
joined old a b new text x y z =
    z ∙ ap (λ (l : List ℕ). l ++ 10 ∷ []) (y ∙ ap (λ (l : List ℕ). l ++ text) x ∙ append_assoc old (61 ∷ []) text)
    ∙ append_assoc old (61 ∷ text) (10 ∷ [])

pub returns-clause-whole : goal.returns-clause-whole
returns-clause-whole c =
    let old = c.args.bytes.now.items in
    let text = c.args.text.now in
    let new = c.push-2.new.self.items in
    whole_more old text new
    (joined old c.push.new.self.items c.extend_from_slice.new.self.items new text (search rules) (search rules)
    (search rules))
