use Rattle.answertext.proofs.Telling.{tells_the_answer}
use Rattle.answertext.proofs.texts_tell_answers.Goals as goal

pub returns : goal.returns
returns c = tells_the_answer
