use Rattle.chr_diagnosis.proofs.Verdicts.{text_at_once, told_of_text}
use Rattle.chr_diagnosis.proofs.diagnosis.diagnose.Goals as goal

pub returns-in-Ok : goal.returns-in-Ok
returns-in-Ok g c =
    told_of_text c.args.wide c.args.text.now c.in-Ok.program c.program_judged.result c.in-Ok.ensures
    c.program_judged.ensures

pub returns-in_ok-diagnosis-in-Err-TooLong : goal.returns-in_ok-diagnosis-in-Err-TooLong
returns-in_ok-diagnosis-in-Err-TooLong g c =
    text_at_once c.args.wide c.args.text.now c.in_ok-diagnosis-in-Err-TooLong.diagnosis c.at_once.result
    c.at_once.ensures.diagnosis c.at_once.ensures.chosen c.at_once.ensures.crowd
    c.in_ok-diagnosis-in-Err-TooLong.ensures

pub returns-in_ok-diagnosis-in-Err-Bad : goal.returns-in_ok-diagnosis-in-Err-Bad
returns-in_ok-diagnosis-in-Err-Bad g c =
    text_at_once c.args.wide c.args.text.now c.in_ok-diagnosis-in-Err-Bad.diagnosis c.at_once-in-Err-Bad.result
    c.at_once-in-Err-Bad.ensures.diagnosis c.at_once-in-Err-Bad.ensures.chosen c.at_once-in-Err-Bad.ensures.crowd
    c.in_ok-diagnosis-in-Err-Bad.ensures
