use Rattle.std.proofs.Common.{sym, ◌∙◌}
use Rattle.vdb_morph.proofs.LeafWords.{after_y_in_word, after_z_in_word, before_y_in_word, before_z_in_word}
use Rattle.vdb_morph.proofs.words.word_beside.Goals as goal

pub returns-in-MinusY : goal.returns-in-MinusY
returns-in-MinusY c = λ j h.
    rw c.in-MinusY.is
    (before_y_in_word c.args.own.now c.args.other.now c.args.k c.word-in-MinusY.result c.word-in-MinusY-2.result c.word-in-MinusY.ensures c.word-in-MinusY-2.ensures j h ∙ sym (c.before_y.ensures j h))

pub returns-in-PlusY : goal.returns-in-PlusY
returns-in-PlusY c = λ j h.
    rw c.in-PlusY.is
    (after_y_in_word c.args.own.now c.args.other.now c.args.k c.word-in-PlusY.result c.word-in-PlusY-2.result c.word-in-PlusY.ensures c.word-in-PlusY-2.ensures j h ∙ sym (c.after_y.ensures j h))

pub returns-in-MinusZ : goal.returns-in-MinusZ
returns-in-MinusZ c = λ j h.
    rw c.in-MinusZ.is
    (before_z_in_word c.args.own.now c.args.other.now c.args.k c.word-in-MinusZ.result c.word-in-MinusZ-2.result c.word-in-MinusZ.ensures c.word-in-MinusZ-2.ensures j h ∙ sym (c.before_z.ensures j h))

pub returns-in-PlusZ : goal.returns-in-PlusZ
returns-in-PlusZ c = λ j h.
    rw c.in-PlusZ.is
    (after_z_in_word c.args.own.now c.args.other.now c.args.k c.word-in-PlusZ.result c.word-in-PlusZ-2.result c.word-in-PlusZ.ensures c.word-in-PlusZ-2.ensures j h ∙ sym (c.after_z.ensures j h))
