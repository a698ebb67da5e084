-- The rows of `specs/Rows.antt` hold, by computation. Assumes nothing.
use mathlib.Core.Path.{refl}
use Rattle.reading_words.specs.Words.{is_blank, ends_word, is_digit, formed, sized}
use Rattle.reading_words.specs.Steps.{spot_of, word_fault, grown, counted, faulty, closed, line_behind, comment_behind, passed, next, ends_number}
use Rattle.reading_lists.specs.Reading.{read1, said_by}
use Rattle.reading_lists.specs.Rows.{outcome_of, TextsRead}

pub texts-read : TextsRead
unfolding is_blank ends_word is_digit formed sized spot_of word_fault grown counted faulty closed line_behind comment_behind passed next ends_number read1 said_by outcome_of
texts-read = refl
