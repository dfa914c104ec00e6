-- A text that is held and sent piece by piece.
use Rattle.std.proofs.Common.{◌≡◌, ℕ, List, [], ◌++◌, sym, ap, ◌∙◌, append_assoc, append-nil, subst}
use Rattle.std.specs.Prelude.{Option, Result, Ok, Err, OnErr}
use Rattle.std.proofs.KnownBytes.{Appends-nil, Appends-trans}
use Rattle.chr_device.specs.Devices.{AppendsPart}
use Rattle.chr_run.specs.Answered.{Moves}

pub on_err : {A E P : Type 0} (r : Result A E) → P → OnErr r P
on_err (Ok x) h = tt
on_err (Err e) h = h

pub moves_none : (a : Option (List ℕ)) (held : List ℕ) → Moves a a held held []
moves_none a held = record { sent = []; is_sent = Appends-nil a; are = append-nil held }

pub moves_on : (a b c : Option (List ℕ)) (held left last x y : List ℕ) → Moves a b held left x → Moves b c left last y
    → Moves a c held last (x ++ y)
moves_on a b c held left last x y p q = record {
  sent = p.sent ++ q.sent;
  is_sent = Appends-trans a b c _ _ p.is_sent q.is_sent;
  are = sym (append_assoc held x y) ∙ ap (λ l. l ++ y) p.are ∙ append_assoc p.sent left y
      ∙ ap (λ l. p.sent ++ l) q.are ∙ sym (append_assoc p.sent q.sent last);
}

-- so much is added to what is held, and nothing sent
pub moves_held : (a b : Option (List ℕ)) (held left new x y : List ℕ) → Moves a b held left x → new ≡ left ++ y
    → Moves a b held new (x ++ y)
moves_held a b held left new x y p e = record {
  sent = p.sent;
  is_sent = p.is_sent;
  are = sym (append_assoc held x y) ∙ ap (λ l. l ++ y) p.are ∙ append_assoc p.sent left y
      ∙ ap (λ l. p.sent ++ l) (sym e);
}

pub moves_settled : (a b c : Option (List ℕ)) (held left last x : List ℕ) → Moves a b held left x
    → Moves b c left last [] → Moves a c held last x
moves_settled a b c held left last x p q = subst (Moves a c held last) (append-nil x)
    (moves_on a b c held left last x [] p q)

-- a beginning of it is sent
pub part_still : (a b : Option (List ℕ)) (held left x : List ℕ) → Moves a b held left x → AppendsPart a b (held ++ x)
part_still a b held left x p = (p.sent, left, p.are, p.is_sent)

pub part_moved : (a b c : Option (List ℕ)) (held left x : List ℕ) → Moves a b held left x → AppendsPart b c left
    → AppendsPart a c (held ++ x)
part_moved a b c held left x p q = (
  p.sent ++ q.0,
  q.1,
  p.are ∙ ap (λ l. p.sent ++ l) q.2 ∙ sym (append_assoc p.sent q.0 q.1),
  Appends-trans a b c _ _ p.is_sent q.3,
)

pub part_more : (a b : Option (List ℕ)) (held x y : List ℕ) → AppendsPart a b (held ++ x)
    → AppendsPart a b (held ++ (x ++ y))
part_more a b held x y p = (
  p.0,
  p.1 ++ y,
  sym (append_assoc held x y) ∙ ap (λ l. l ++ y) p.2
      ∙ append_assoc p.0 p.1 y,
  p.3,
)
