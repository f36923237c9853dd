-- Lines by which an operator asks what the running service has.
use Rattle.std.specs.Prelude.{List, [], ◌∷◌, Option, Some, None, option_map, option_and_then, codes, find}
use Rattle.std.specs.Str.{bytes_eq}
use Rattle.pg_lines.specs.declared.question.Question.{Question}
use Rattle.pg_lines.specs.declared.question.Question.TheVariants as question
use Rattle.pg_lines.specs.declared.question.Topic.{Topic}
use Rattle.pg_lines.specs.declared.question.Topic.TheVariants as topic
use Rattle.pg_lines.specs.Words.{Text, subscriber_in}
use Rattle.pg_lines.specs.Lines.{words_of, one}

-- the first words, as they are written
abbrev pub topics : List (Text × Topic)
topics = (codes "version", topic.Version) ∷ (codes "show", topic.Show) ∷ (codes "advise", topic.Advise) ∷ []

abbrev pub topic_of : Text → Option Topic
topic_of w = option_map (λ row. row.1) (find (λ row. bytes_eq row.0 w) topics)

-- a question that takes no more words
abbrev pub nothing_in : Question → List Text → Option Question
nothing_in q [] = Some q
nothing_in q _ = None

-- what a first word asks with the words after it
abbrev pub asked_by : Topic → List Text → Option Question
asked_by topic.Version ws = nothing_in question.Version ws
asked_by topic.Show ws = option_map question.Show (one subscriber_in ws)
asked_by topic.Advise ws = nothing_in question.Advise ws

abbrev pub question_of_words : List Text → Option Question
question_of_words [] = None
question_of_words (word ∷ ws) = option_and_then (λ t. asked_by t ws) (topic_of word)

-- what a line asks, or none
abbrev pub question_of : Text → Option Question
question_of line = question_of_words (words_of line)
