use Rattle.std.proofs.Common.{◌≡◌, ◌++◌, ◌∷◌, ap, refl, sym, take, ◌∙◌}
use Rattle.json.specs.Print.{escape}
use Rattle.chr_json.proofs.Pieces.{bare_name, plain_text}
use Rattle.chr_json.proofs.piece.name_before.Goals as goal

pub returns-in-Ok-clause-text : goal.returns-in-Ok-clause-text
returns-in-Ok-clause-text c =
    let inner = c.args.text.now in
    let bytes = c.split_at.result.0.now in
    let back = c.split_at.result.1.now in
    let named = c.in-Ok.name.now in
    let plain : escape named ≡ named = bare_name inner bytes named
    (c.split_at.ensures.front ∙ ap (λ n. take n inner) c.bare_len.ensures.value) c.in-Ok.ensures.cases.0 in
    plain_text (34 ∷ inner) inner named back c.in_ok-rest.rest.now refl
    (c.split_at.ensures.by_index.0 ∙ ap (λ l. l ++ back) (sym c.in-Ok.ensures.cases.0)) c.in_ok-rest.ensures plain

pub returns-in-Ok-clause-plain : goal.returns-in-Ok-clause-plain
returns-in-Ok-clause-plain c =
    let inner = c.args.text.now in
    bare_name inner c.split_at.result.0.now c.in-Ok.name.now
    (c.split_at.ensures.front ∙ ap (λ n. take n inner) c.bare_len.ensures.value) c.in-Ok.ensures.cases.0
