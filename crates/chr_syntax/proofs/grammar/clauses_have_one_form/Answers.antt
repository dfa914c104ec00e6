use Rattle.chr_syntax.proofs.Laws.{tokens_one, spellings_one, forms_one}
use Rattle.chr_syntax.proofs.grammar.clauses_have_one_form.Goals as goal

pub returns : goal.returns
returns c = record { tokens = tokens_one; spelled = spellings_one; forms = forms_one }
