use Rattle.std.proofs.Common.{sym}
use Rattle.digit_text.proofs.SignLemmas.{lacks_sign, lacks_sign-rest}
use Rattle.digit_text.proofs.sign.split_sign.Goals as goal

pub returns-in-None-clause-sign : goal.returns-in-None-clause-sign
unfolding lib.Utf8.encode
returns-in-None-clause-sign c = sym (lacks_sign c.args.text.now c.in-None.ensures.cases)

pub returns-in-None-clause-rest : goal.returns-in-None-clause-rest
unfolding lib.Utf8.encode
returns-in-None-clause-rest c = lacks_sign-rest c.args.text.now c.in-None.ensures.cases
