use Rattle.script.proofs.Wording.{last_word, worded, words_first}
use Rattle.script.proofs.words.first_word.Goals as goal

pub returns-in-Some : goal.returns-in-Some
returns-in-Some c = record { first = words_first _ _ _ c.in-Some.ensures; all = worded _ }

pub returns-in-None : goal.returns-in-None
returns-in-None c = record { first = last_word _ c.in-None.ensures; all = worded _ }
